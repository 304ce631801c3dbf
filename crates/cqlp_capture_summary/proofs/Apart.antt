-- No name is in a table twice.
use Rattle.std.proofs.Common.{◌≡◌, ◌∙◌, ◌+◌, ◌<◌, ℕ, true, List, [], ◌∷◌, ◌++◌, length, Some, None, inl, inr, sym, ap, arith, length-append, slice_index_or, slice_set}
use Rattle.std.proofs.Math.ListN.{get_or-append}
use Rattle.std.proofs.Math.Seq.{get_or-append_seam}
use Rattle.std.proofs.lemmas.Bool.{cases_eq}
use Rattle.std.proofs.lemmas.List.{get_or-set_same, get_or-set_other, length-set}
use Rattle.std.specs.List.{position}
use Rattle.cqlp_capture_summary.specs.Names.{AreApart, Name, is_same, name}
use Rattle.cqlp_capture_summary.proofs.Entries.{same_equal, search_name}

pub seen_at : (x : Name) (ns : List Name) (i : ℕ) → AreApart ns → i < length ns → is_same x (slice_index_or ns i (name [] true)) ≡ true → position (is_same x) ns ≡ Some i
seen_at x ns i apart inside same = elim (search_name x ns) [
  | inl (at, found) ↦ found.is ∙ ap (λ k. Some k) (apart at i found.inside inside (found.here ∙ same_equal x (slice_index_or ns i (name [] true)) same))
  | inr absent ↦ absurd (absent.none i inside (same_equal x (slice_index_or ns i (name [] true)) same))
]

not_some : (at : ℕ) → Some at ≡ None → ⊥
not_some at e = cc

none_is : (x : Name) (ns : List Name) → position (is_same x) ns ≡ None → (i : ℕ) → i < length ns → x ≡ slice_index_or ns i (name [] true) → ⊥
none_is x ns none i inside same = elim (search_name x ns) [
  | inl (at, found) ↦ not_some at (sym found.is ∙ none)
  | inr absent ↦ absent.none i inside same
]

pub apart_push : (x : Name) (ns : List Name) → position (is_same x) ns ≡ None → AreApart ns → AreApart (ns ++ x ∷ [])
apart_push x ns none apart =
    let p = length ns in
    let longer : length (ns ++ x ∷ []) ≡ p + 1 = length-append ns (x ∷ []) in
    let own : slice_index_or (ns ++ x ∷ []) p (name [] true) ≡ x = get_or-append_seam ns x [] (name [] true) in
    let old : (i : ℕ) → i < p → slice_index_or (ns ++ x ∷ []) i (name [] true) ≡ slice_index_or ns i (name [] true) = λ i less. get_or-append ns (x ∷ []) (name [] true) i less in
    let at : ℕ → Name = λ k. slice_index_or (ns ++ x ∷ []) k (name [] true) in
    λ i j within other same. elim (cases_eq i p) [
      | inl first ↦ elim (cases_eq j p) [
        | inl second ↦ first ∙ sym second
        | inr ne ↦ let less : j < p = omega (arith, longer) in absurd (none_is x ns none j less (sym own ∙ ap at (sym first) ∙ same ∙ old j less))
      ]
      | inr ne ↦ let less : i < p = omega (arith, longer) in elim (cases_eq j p) [
        | inl second ↦ absurd (none_is x ns none i less (sym own ∙ ap at (sym second) ∙ sym same ∙ old i less))
        | inr differs ↦ let below : j < p = omega (arith, longer) in apart i j less below (sym (old i less) ∙ same ∙ old j below)
      ]
    ]

pub apart_set : (x : Name) (ns : List Name) (p : ℕ) → p < length ns → position (is_same x) ns ≡ None → AreApart ns → AreApart (slice_set ns p x)
apart_set x ns p inside none apart =
    let as_long : length (slice_set ns p x) ≡ length ns = length-set ns p x in
    let own : slice_index_or (slice_set ns p x) p (name [] true) ≡ x = get_or-set_same ns p x (name [] true) inside in
    let old : (i : ℕ) → (i ≡ p → ⊥) → slice_index_or (slice_set ns p x) i (name [] true) ≡ slice_index_or ns i (name [] true) = λ i ne. get_or-set_other ns p i x (name [] true) ne in
    let at : ℕ → Name = λ k. slice_index_or (slice_set ns p x) k (name [] true) in
    λ i j within other same. elim (cases_eq i p) [
      | inl first ↦ elim (cases_eq j p) [
        | inl second ↦ first ∙ sym second
        | inr ne ↦ absurd (none_is x ns none j (omega (arith, as_long, other)) (sym own ∙ ap at (sym first) ∙ same ∙ old j ne))
      ]
      | inr ne ↦ elim (cases_eq j p) [
        | inl second ↦ absurd (none_is x ns none i (omega (arith, as_long, within)) (sym own ∙ ap at (sym second) ∙ sym same ∙ old i ne))
        | inr differs ↦ apart i j (omega (arith, as_long, within)) (omega (arith, as_long, other)) (sym (old i ne) ∙ same ∙ old j differs)
      ]
    ]
