-- What is made of a value that can be written.
use Rattle.std.proofs.Common.{◌≡◌, ◌+◌, ◌<◌, ◌≤◌, ◌++◌, ℕ, zero, suc, true, false, List, [], length, take, Option, Some, None, Result, Ok, Err, refl, sym, ap, ◌∙◌, subst, arith}
use Rattle.std.proofs.lemmas.List.{take_all}
use Rattle.std.specs.Prelude.{IsErrAnd}
use Rattle.cqlp_note.specs.declared.field.Notation.TheVariants as notation
use Rattle.cqlp_note.specs.Field as note
use Rattle.cqlp_note.specs.Spelling.{field_bytes}
use Rattle.cqlp_kind.specs.declared.kind.Kind.TheVariants as kind
use Rattle.cqlp_kind.specs.Types.{NoMore}
use Rattle.cqlp_kind.specs.Scalars.{Raw}
use Rattle.cqlp_type.specs.declared.tree.TypeTree.{TypeTree}
use Rattle.cqlp_type.specs.Trees.{kind_in, types_in}
use Rattle.cqlp_type.specs.TypeTrees.{head_of, inner_of}
use Rattle.cqlp_value.specs.declared.value.Value.{Value, Null, Empty, Leaf, List', Map', Set', Tuple', Udt'}
use Rattle.cqlp_value.specs.Owned.{cell_type, fits_type, value_of}
use Rattle.cqlp_value.specs.Values.{AreInRange, Scalar_and, NoValue, ValuesSpell, value_fits, values_bytes, values_size}
use Rattle.cqlp_message.specs.declared.request.OwnedBound.{OwnedBound}
use Rattle.cqlp_message.specs.Owned.{bound_of}
use Rattle.cqlp_encode.specs.declared.binding.BindError.{BindError}
use Rattle.cqlp_encode.specs.declared.binding.BindError.TheVariants as error
use Rattle.cqlp_encode.specs.Binding.{IsBound, IsContent, IsRaw, Makes, bound_written, content_written, raw_written}
use Rattle.cqlp_encode.specs.ValueWriting.{CanBeWritten}
use Rattle.cqlp_encode.proofs.Bindings.{bound_bytes, content_size, raw_bytes, raw_fits}
use Rattle.cqlp_encode.proofs.WrittenValues.{spelled}

-- ---- a content

some_or_not : (n : ℕ) → (n ≡ 0 → false ≡ true) → 0 < n
some_or_not zero h = let both = h refl in absurd cc
some_or_not (suc n) h = omega arith

-- memory was refused, and some was asked for
pub no_memory : {X : Type 0} (Is : X → Type 0) (v : Value) (t : Option TypeTree) (r : Result X BindError) (len : ℕ) → IsErrAnd r (λ e. e ≡ error.NoMemory) → CanBeWritten v t → 4 + len ≡ values_size (value_of v) → (len ≡ 0 → false ≡ true) → Makes Is v t r
no_memory Is v t (Ok x) len is can size asked = absurd is
no_memory Is v t (Err e) len is can size asked = rw is (can, omega (arith, content_size v, some_or_not len asked))

-- all was taken into memory that was empty
pub filled : (old new content : List ℕ) (n : ℕ) → old ≡ [] → length content ≤ n → new ≡ old ++ take n content → new ≡ content
filled old new content n empty all given = given ∙ ap (λ (x : List ℕ). x ++ take n content) empty ∙ take_all n content all

-- ---- what is made of it

known : (v : Value) → (v ≡ Null → ⊥) → bound_written (value_of v) ≡ note.Known (content_written (value_of v))
known Null some = absurd (some refl)
known Empty some = refl
known (Leaf a) some = refl
known (List' shape items) some = refl
known (Map' shape pairs) some = refl
known (Set' shape items) some = refl
known (Tuple' shape items) some = refl
known (Udt' shape items) some = refl

raw_known : (v : Value) → (v ≡ Null → ⊥) → (v ≡ Empty → ⊥) → raw_written (value_of v) ≡ Scalar_and (Raw (content_written (value_of v))) NoValue
raw_known Null null empty = absurd (null refl)
raw_known Empty null empty = absurd (empty refl)
raw_known (Leaf a) null empty = refl
raw_known (List' shape items) null empty = refl
raw_known (Map' shape pairs) null empty = refl
raw_known (Set' shape items) null empty = refl
raw_known (Tuple' shape items) null empty = refl
raw_known (Udt' shape items) null empty = refl

pub is_known : (v : Value) (c : List ℕ) → IsContent v c → (v ≡ Null → ⊥) → note.Known c ≡ bound_written (value_of v)
is_known v c content some = ap (λ (x : List ℕ). note.Known x) content.is ∙ sym (known v some)

pub is_raw_known : (v : Value) (c : List ℕ) → IsContent v c → (v ≡ Null → ⊥) → (v ≡ Empty → ⊥) → Scalar_and (Raw c) NoValue ≡ raw_written (value_of v)
is_raw_known v c content null empty = ap (λ (x : List ℕ). Scalar_and (Raw x) NoValue) content.is ∙ sym (raw_known v null empty)

pub is_bound : (v : Value) (t : Option TypeTree) (b : OwnedBound) → CanBeWritten v t → AreInRange (value_of v) → bound_of b ≡ bound_written (value_of v) → IsBound v t b
is_bound v t b can range is = record {
  is = is;
  spells =
      let same : field_bytes notation.Bound (note.Bound (bound_of b)) ≡ values_bytes (value_of v) = ap (λ (x : note.BoundValue). field_bytes notation.Bound (note.Bound x)) is ∙ bound_bytes v in
      subst (λ (x : List ℕ). ValuesSpell (cell_type t) (value_of v) x) (sym same) (spelled v t range can);
}

one_fits : (v : Value) (t : Option TypeTree) → fits_type v t ≡ true → value_fits kind.Raw NoMore (raw_written (value_of v)) ≡ true
one_fits v None fits = raw_fits kind.Raw NoMore (value_of v) fits
one_fits v (Some t) fits = raw_fits (kind_in (head_of t)) (types_in (inner_of t)) (value_of v) fits

pub is_raw : (v : Value) (t : Option TypeTree) (raw : Value) → CanBeWritten v t → AreInRange (value_of v) → value_of raw ≡ raw_written (value_of v) → IsRaw v t raw
is_raw v t raw can range is = record {
  is = is;
  fits = rw is (one_fits v t can.fits);
  spells =
      let same : values_bytes (value_of raw) ≡ values_bytes (value_of v) = ap values_bytes is ∙ raw_bytes v in
      subst (λ (x : List ℕ). ValuesSpell (cell_type t) (value_of v) x) (sym same) (spelled v t range can);
}
