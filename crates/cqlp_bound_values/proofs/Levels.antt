-- Type options and contents, one level after the other, and items, one after the other.
use Rattle.std.proofs.Common.{◌≡◌, ◌∙◌, refl, sym, length, ℕ, zero, suc, Bool, true, false, List, [], ◌++◌, ◌&&◌, drop, ap, if◌then◌else◌}
use Rattle.std.proofs.lemmas.Bool.{eqb-true}
use Rattle.std.proofs.lemmas.List.{nil_from_length}
use Rattle.cqlp_kind.specs.Types.{has_no_items}
use Rattle.cqlp_text.specs.PageText.{turn_after}
use Rattle.cqlp_text.specs.declared.page_text.Turn.{Turn}
use Rattle.cqlp_bound_values.specs.Columns.{behind_fields, behind_kind, behind_option, field_option, kind_at}
use Rattle.cqlp_bound_values.specs.Fields.{is_end}
use Rattle.cqlp_bound_values.specs.Nested.{Items, conforms, have_ended, inner_at, item_conforms, items_conform, items_of, kind_conforms, other_items}
use Rattle.cqlp_bound_values.specs.Texts.{first_text, inner_items, nested_text, scalar_as, typed_text, whole_scalar}
use Rattle.cqlp_bound_values.specs.declared.form.Form.{Form}

pub behind_none : (n : ℕ) (o : List ℕ) → n ≡ 0 → behind_option n o ≡ []
unfolding behind_option
behind_none n o none = ap (λ k. behind_option k o) none

pub behind_at : (n m : ℕ) (o : List ℕ) → n ≡ suc m → behind_option n o ≡ behind_kind (behind_option m) (kind_at o) (drop 2 o)
unfolding behind_option
behind_at n m o one = ap (λ k. behind_option k o) one

-- ---- nothing is behind nothing

nothing_behind : (d : ℕ) → behind_option d [] ≡ []
unfolding behind_option
nothing_behind zero = refl
nothing_behind (suc d) = refl

no_field : (are_named : Bool) → field_option are_named [] ≡ []
no_field true = refl
no_field false = refl

no_fields : (d : ℕ) (are_named : Bool) (n : ℕ) → behind_fields (behind_option d) are_named n [] ≡ []
no_fields d are_named zero = refl
no_fields d are_named (suc n) =
    ap (behind_fields (behind_option d) are_named n) (ap (behind_option d) (no_field are_named) ∙ nothing_behind d) ∙ no_fields d are_named n

pub fields_end : (d : ℕ) (are_named : Bool) (n : ℕ) (b : List ℕ) → is_end b ≡ true → b ≡ behind_fields (behind_option d) are_named n b
fields_end d are_named n b ends =
    let none = nil_from_length b (eqb-true (length b) 0 ends) in
    none ∙ sym (no_fields d are_named n) ∙ ap (behind_fields (behind_option d) are_named n) (sym none)

-- ---- contents

pub conforms_none : (n : ℕ) (o b : List ℕ) → n ≡ 0 → conforms n o b ≡ false
unfolding conforms
conforms_none n o b none = ap (λ k. conforms k o b) none

pub conforms_at : (n m : ℕ) (o b : List ℕ) → n ≡ suc m → conforms n o b ≡ kind_conforms (conforms m) (behind_option m) (kind_at o) (drop 2 o) b
unfolding conforms
conforms_at n m o b one = ap (λ k. conforms k o b) one

pub typed_none : (n : ℕ) (f : Form) (o b : List ℕ) → n ≡ 0 → typed_text n f o b ≡ []
unfolding typed_text
typed_none n f o b none = ap (λ k. typed_text k f o b) none

pub typed_scalar : (n m : ℕ) (f : Form) (o b : List ℕ) → n ≡ suc m → has_no_items (kind_at o) ≡ true → typed_text n f o b ≡ scalar_as f (whole_scalar (kind_at o) b)
unfolding typed_text
typed_scalar n m f o b one scalar =
    ap (λ k. typed_text k f o b) one
    ∙ ap (λ (s : Bool). if s then scalar_as f (whole_scalar (kind_at o) b) else nested_text (typed_text m f) (behind_option m) f (kind_at o) (items_of (behind_option m) (kind_at o) (drop 2 o) b)) scalar

pub typed_nested : (n m : ℕ) (f : Form) (o b : List ℕ) → n ≡ suc m → has_no_items (kind_at o) ≡ false → typed_text n f o b ≡ nested_text (typed_text m f) (behind_option m) f (kind_at o) (items_of (behind_option m) (kind_at o) (drop 2 o) b)
unfolding typed_text
typed_nested n m f o b one nested =
    ap (λ k. typed_text k f o b) one
    ∙ ap (λ (s : Bool). if s then scalar_as f (whole_scalar (kind_at o) b) else nested_text (typed_text m f) (behind_option m) f (kind_at o) (items_of (behind_option m) (kind_at o) (drop 2 o) b)) nested

module _ (behind : List ℕ → List ℕ) (n m : ℕ) (i : Items) (one : n ≡ suc m) where
  -- those after one that conforms
  pub next_conform : (fits : List ℕ → List ℕ → Bool) → have_ended i ≡ false → item_conforms fits i.option (inner_at i.bytes) ≡ true → items_conform fits behind n i ≡ items_conform fits behind m (other_items behind i)
  next_conform fits goes_on is =
      ap (λ k. items_conform fits behind k i) one
      ∙ ap (λ (b : Bool). if b then true else item_conforms fits i.option (inner_at i.bytes) && items_conform fits behind m (other_items behind i)) goes_on
      ∙ ap (λ (b : Bool). b && items_conform fits behind m (other_items behind i)) is

  pub first_of_items : (typed : List ℕ → List ℕ → List ℕ) (f : Form) (t : Turn) → is_end i.bytes ≡ false → inner_items typed behind f n t i ≡ first_text typed f t i ++ inner_items typed behind f m (turn_after i.kind t) (other_items behind i)
  first_of_items typed f t goes_on =
      ap (λ k. inner_items typed behind f k t i) one
      ∙ ap (λ (b : Bool). if b then [] else first_text typed f t i ++ inner_items typed behind f m (turn_after i.kind t) (other_items behind i)) goes_on
