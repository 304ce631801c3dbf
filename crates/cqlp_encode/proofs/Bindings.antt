-- What is made of a value: the content that is written of it.
use Rattle.std.proofs.Common.{◌≡◌, ◌++◌, ◌+◌, ◌<◌, ℕ, true, List, length, refl, sym, ◌∙◌, append-nil, arith}
use Rattle.std.proofs.lemmas.List.{length-append}
use Rattle.std.proofs.lemmas.Bool.{lt-ltb, ltb-true}
use Rattle.std.specs.Int.{w32, to_be_bytes}
use Rattle.cqlp_note.specs.declared.field.Notation.TheVariants as notation
use Rattle.cqlp_note.specs.Field as note
use Rattle.cqlp_note.specs.Spelling.{field_bytes}
use Rattle.cqlp_kind.specs.declared.kind.Kind.{Kind}
use Rattle.cqlp_kind.specs.declared.kind.Kind.TheVariants as kind
use Rattle.cqlp_kind.specs.Types.{Types, NoMore}
use Rattle.cqlp_kind.specs.Scalars.{Raw, content_of, scalar_fits, scalar_of}
use Rattle.cqlp_value.specs.declared.value.Value.{Value, Null, Empty, Leaf, List', Map', Set', Tuple', Udt'}
use Rattle.cqlp_value.specs.Owned.{value_of}
use Rattle.cqlp_value.specs.Values.{Values, NoValue, Null_and, Empty_and, Scalar_and, Counted_and, Fields_and, values_in, values_size, values_bytes, value_fits}
use Rattle.cqlp_value.proofs.ScalarsWritten.{both_true}
use Rattle.cqlp_value.proofs.ValuesWritten.{written_size}
use Rattle.cqlp_encode.specs.Binding.{bound_written, content_written, raw_written}

-- ---- how long it is

no_others : (vs : Values) → values_in vs ≡ 0 → vs ≡ NoValue
no_others NoValue none = refl
no_others (Null_and vs) none = absurd (omega arith)
no_others (Empty_and vs) none = absurd (omega arith)
no_others (Scalar_and v vs) none = absurd (omega arith)
no_others (Counted_and k n items vs) none = absurd (omega arith)
no_others (Fields_and k items vs) none = absurd (omega arith)

one_value : (v : Value) → values_in (value_of v) ≡ 1
one_value Null = refl
one_value Empty = refl
one_value (Leaf a) = refl
one_value (List' shape items) = refl
one_value (Map' shape pairs) = refl
one_value (Set' shape items) = refl
one_value (Tuple' shape items) = refl
one_value (Udt' shape items) = refl

-- of one value
one_size : (vs : Values) → values_in vs ≡ 1 → 4 + length (content_written vs) ≡ values_size vs
one_size NoValue one = absurd (omega arith)
one_size (Null_and vs) one = let e : vs ≡ NoValue = no_others vs (omega arith) in rw e refl
one_size (Empty_and vs) one = let e : vs ≡ NoValue = no_others vs (omega arith) in rw e refl
one_size (Scalar_and v vs) one = let e : vs ≡ NoValue = no_others vs (omega arith) in rw e (omega arith)
one_size (Counted_and k n items vs) one =
    let e : vs ≡ NoValue = no_others vs (omega arith) in rw e (omega (arith, length-append (to_be_bytes w32 n) (values_bytes items), written_size items))
one_size (Fields_and k items vs) one = let e : vs ≡ NoValue = no_others vs (omega arith) in rw e (omega (arith, written_size items))

-- the length comes before it
pub content_size : (v : Value) → 4 + length (content_written (value_of v)) ≡ values_size (value_of v)
content_size v = one_size (value_of v) (one_value v)

-- ---- its bytes

pub known_bytes : (v : Value) → (v ≡ Null → ⊥) → values_bytes (value_of v) ≡ to_be_bytes w32 (length (content_written (value_of v))) ++ content_written (value_of v)
known_bytes Null some = absurd (some refl)
known_bytes Empty some = append-nil _
known_bytes (Leaf a) some = append-nil _
known_bytes (List' shape items) some = append-nil _
known_bytes (Map' shape pairs) some = append-nil _
known_bytes (Set' shape items) some = append-nil _
known_bytes (Tuple' shape items) some = append-nil _
known_bytes (Udt' shape items) some = append-nil _

pub bound_bytes : (v : Value) → field_bytes notation.Bound (note.Bound (bound_written (value_of v))) ≡ values_bytes (value_of v)
bound_bytes Null = sym (append-nil _)
bound_bytes Empty = sym (append-nil _)
bound_bytes (Leaf a) = sym (append-nil _)
bound_bytes (List' shape items) = sym (append-nil _)
bound_bytes (Map' shape pairs) = sym (append-nil _)
bound_bytes (Set' shape items) = sym (append-nil _)
bound_bytes (Tuple' shape items) = sym (append-nil _)
bound_bytes (Udt' shape items) = sym (append-nil _)

pub raw_bytes : (v : Value) → values_bytes (raw_written (value_of v)) ≡ values_bytes (value_of v)
raw_bytes Null = refl
raw_bytes Empty = refl
raw_bytes (Leaf a) = refl
raw_bytes (List' shape items) = refl
raw_bytes (Map' shape pairs) = refl
raw_bytes (Set' shape items) = refl
raw_bytes (Tuple' shape items) = refl
raw_bytes (Udt' shape items) = refl

raw_long : (vs : Values) → values_in vs ≡ 1 → values_size (raw_written vs) ≡ 4 + length (content_written vs)
raw_long NoValue one = absurd (omega arith)
raw_long (Null_and vs) one = refl
raw_long (Empty_and vs) one = refl
raw_long (Scalar_and v vs) one = omega arith
raw_long (Counted_and k n items vs) one = omega arith
raw_long (Fields_and k items vs) one = omega arith

pub raw_size : (v : Value) → values_size (raw_written (value_of v)) ≡ values_size (value_of v)
raw_size v = raw_long (value_of v) (one_value v) ∙ content_size v

-- ---- it is a raw cell

raw_fits_none : (c : List ℕ) → 0 < length c → value_fits kind.Raw NoMore (Scalar_and (Raw c) NoValue) ≡ true
unfolding scalar_of
raw_fits_none c some = rw (lt-ltb 0 (length c) some) refl

some_size : (vs : Values) → 0 < values_in vs → 0 < values_size vs
some_size NoValue some = absurd (omega arith)
some_size (Null_and vs) some = omega arith
some_size (Empty_and vs) some = omega arith
some_size (Scalar_and v vs) some = omega arith
some_size (Counted_and k n items vs) some = omega arith
some_size (Fields_and k items vs) some = omega arith

-- a value that fits is, as a raw cell, one of a cell whose type is not known
pub raw_fits : (k : Kind) (inner : Types) (vs : Values) → value_fits k inner vs ≡ true → value_fits kind.Raw NoMore (raw_written vs) ≡ true
raw_fits k inner NoValue fits = absurd cc
raw_fits k inner (Null_and vs) fits = refl
raw_fits k inner (Empty_and vs) fits = refl
raw_fits k inner (Scalar_and v vs) fits =
    let one : scalar_fits v ≡ true = (both_true _ _ (both_true _ _ fits).0).1 in
    raw_fits_none (content_of v) (ltb-true 0 (length (content_of v)) (both_true _ _ (both_true _ _ one).0).0)
raw_fits k inner (Counted_and j n items vs) fits =
    raw_fits_none (to_be_bytes w32 n ++ values_bytes items) (omega (arith, length-append (to_be_bytes w32 n) (values_bytes items)))
raw_fits k inner (Fields_and j items vs) fits =
    let some : 0 < values_in items = ltb-true 0 (values_in items) (both_true _ _ (both_true _ _ (both_true _ _ fits).0).0).1 in
    raw_fits_none (values_bytes items) (omega (arith, written_size items, some_size items some))
