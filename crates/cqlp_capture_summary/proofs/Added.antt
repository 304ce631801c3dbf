-- Counts are added and set to 0, bucket by bucket, where there are any.
use Rattle.std.proofs.Common.{◌≡◌, ◌∙◌, ◌+◌, ◌^◌, ◌<◌, ◌≤◌, ℕ, zero, suc, List, [], ◌∷◌, length, replicate, inl, inr, refl, sym, ap, arith, slice_index_or, slice_set}
use Rattle.std.proofs.lemmas.Bool.{cases_eq, cases_lt}
use Rattle.std.proofs.lemmas.Grind.{same_number_lists}
use Rattle.std.proofs.lemmas.List.{get_or-replicate, get_or-set_other, get_or-set_same, get_or_past, length-replicate, length-set}
use Rattle.cqlp_capture_summary.specs.Merging.{IsNoneBut, added}
use Rattle.cqlp_capture_summary.specs.Tallies.{counted}

pub added_long : (ms ns : List ℕ) → length (added ms ns) ≡ length ns
added_long ms [] = refl
added_long [] (n ∷ ns) = refl
added_long (m ∷ ms) (n ∷ ns) = ap suc (added_long ms ns)

added_at : (ms ns : List ℕ) (k : ℕ) → length ns ≡ length ms → k < length ns → slice_index_or (added ms ns) k 0 ≡ counted (slice_index_or ns k 0) (slice_index_or ms k 0)
added_at ms [] k long within = absurd (omega arith)
added_at [] (n ∷ ns) k long within = absurd (omega arith)
added_at (m ∷ ms) (n ∷ ns) zero long within = refl
added_at (m ∷ ms) (n ∷ ns) (suc k) long within = added_at ms ns k (omega arith) (omega arith)

-- ---- what is added so far, of the buckets from one on

pub record AddedFrom (from next : ℕ) (ms ns now : List ℕ) : Type 0 where
  pub fits : (k : ℕ) → k < length ns → slice_index_or ns k 0 < 2 ^ 64
  pub long : length now ≡ length ns
  pub done : (k : ℕ) → from ≤ k → k < next → slice_index_or now k 0 ≡ counted (slice_index_or ns k 0) (slice_index_or ms k 0)
  pub before : (k : ℕ) → k < from → slice_index_or now k 0 ≡ slice_index_or ns k 0
  pub behind : (k : ℕ) → next ≤ k → slice_index_or now k 0 ≡ slice_index_or ns k 0

pub added_none : (from : ℕ) (ms ns : List ℕ) → ((k : ℕ) → k < length ns → slice_index_or ns k 0 < 2 ^ 64) → AddedFrom from from ms ns ns
added_none from ms ns fits = record { fits = fits; long = refl; done = λ k low high. absurd (omega arith); before = λ k less. refl; behind = λ k more. refl }

pub added_next : (from i v : ℕ) (ms ns now : List ℕ) → from ≤ i → i < length ns → v ≡ counted (slice_index_or now i 0) (slice_index_or ms i 0) → AddedFrom from i ms ns now → AddedFrom from (i + 1) ms ns (slice_set now i v)
added_next from i v ms ns now low within is a =
    let al = a.long in
    let inside : i < length now = omega (arith, al) in
    let own : slice_index_or (slice_set now i v) i 0 ≡ v = get_or-set_same now i v 0 inside in
    let other : (k : ℕ) → (k ≡ i → ⊥) → slice_index_or (slice_set now i v) k 0 ≡ slice_index_or now k 0 = λ k ne. get_or-set_other now i k v 0 ne in
    let fresh = a.behind i (omega arith) in
    record {
      fits = a.fits;
      long = length-set now i v ∙ a.long;
      done = λ k from_low next_high. elim (cases_eq k i) [
        | inl same ↦
            ap (λ j. slice_index_or (slice_set now i v) j 0) same ∙ own ∙ is ∙ ap (λ m. counted m (slice_index_or ms i 0)) fresh
            ∙ sym (ap (λ j. counted (slice_index_or ns j 0) (slice_index_or ms j 0)) same)
        | inr ne ↦ other k ne ∙ a.done k from_low (omega arith)
      ];
      before = λ k less. other k (λ same. absurd (omega arith)) ∙ a.before k less;
      behind = λ k more. other k (λ same. absurd (omega arith)) ∙ a.behind k (omega arith);
    }

nothing_more : (n m : ℕ) → n < 2 ^ 64 → m ≡ 0 → n ≡ counted n m
nothing_more n m fits none = omega arith

pub added_all : (from end next : ℕ) (ms ns now : List ℕ) → length ns ≡ length ms → IsNoneBut from end ms → end ≤ next → AddedFrom from next ms ns now → now ≡ added ms ns
added_all from end next ms ns now long none all a =
    let al = a.long in
    same_number_lists now (added ms ns) (a.long ∙ sym (added_long ms ns)) (λ k within.
    let inside : k < length ns = omega (arith, al) in
    let value = added_at ms ns k long inside in
    elim (cases_lt k from) [
      | inl low ↦ a.before k low ∙ nothing_more (slice_index_or ns k 0) (slice_index_or ms k 0) (a.fits k inside) (none.0 k low) ∙ sym value
      | inr from_on ↦ elim (cases_lt k next) [
        | inl high ↦ a.done k from_on high ∙ sym value
        | inr past ↦ a.behind k past ∙ nothing_more (slice_index_or ns k 0) (slice_index_or ms k 0) (a.fits k inside) (none.1 k (omega arith)) ∙ sym value
      ]
    ])

-- ---- what is set to 0 so far

pub record ClearedFrom (from next : ℕ) (ns now : List ℕ) : Type 0 where
  pub long : length now ≡ length ns
  pub done : (k : ℕ) → from ≤ k → k < next → slice_index_or now k 0 ≡ 0
  pub before : (k : ℕ) → k < from → slice_index_or now k 0 ≡ slice_index_or ns k 0
  pub behind : (k : ℕ) → next ≤ k → slice_index_or now k 0 ≡ slice_index_or ns k 0

pub cleared_none : (from : ℕ) (ns : List ℕ) → ClearedFrom from from ns ns
cleared_none from ns = record { long = refl; done = λ k low high. absurd (omega arith); before = λ k less. refl; behind = λ k more. refl }

pub cleared_next : (from i : ℕ) (ns now : List ℕ) → from ≤ i → i < length ns → ClearedFrom from i ns now → ClearedFrom from (i + 1) ns (slice_set now i 0)
cleared_next from i ns now low within a =
    let al = a.long in
    let inside : i < length now = omega (arith, al) in
    let own : slice_index_or (slice_set now i 0) i 0 ≡ 0 = get_or-set_same now i 0 0 inside in
    let other : (k : ℕ) → (k ≡ i → ⊥) → slice_index_or (slice_set now i 0) k 0 ≡ slice_index_or now k 0 = λ k ne. get_or-set_other now i k 0 0 ne in
    record {
      long = length-set now i 0 ∙ a.long;
      done = λ k from_low next_high. elim (cases_eq k i) [
        | inl same ↦ ap (λ j. slice_index_or (slice_set now i 0) j 0) same ∙ own
        | inr ne ↦ other k ne ∙ a.done k from_low (omega arith)
      ];
      before = λ k less. other k (λ same. absurd (omega arith)) ∙ a.before k less;
      behind = λ k more. other k (λ same. absurd (omega arith)) ∙ a.behind k (omega arith);
    }

pub cleared_all : (from end next : ℕ) (ns now : List ℕ) → IsNoneBut from end ns → end ≤ next → ClearedFrom from next ns now → now ≡ replicate (length ns) 0
cleared_all from end next ns now none all a =
    let al = a.long in
    same_number_lists now (replicate (length ns) 0) (a.long ∙ sym (length-replicate (length ns) 0)) (λ k within.
    let inside : k < length ns = omega (arith, al) in
    let value = get_or-replicate (length ns) k 0 0 inside in
    elim (cases_lt k from) [
      | inl low ↦ a.before k low ∙ none.0 k low ∙ sym value
      | inr from_on ↦ elim (cases_lt k next) [
        | inl high ↦ a.done k from_on high ∙ sym value
        | inr past ↦ a.behind k past ∙ none.1 k (omega arith) ∙ sym value
      ]
    ])

-- ---- where counts are

pub none_from_added : (from end from' end' : ℕ) (ms ns : List ℕ) → length ns ≡ length ms → IsNoneBut from end ns → IsNoneBut from' end' ms → (low high : ℕ) → low ≤ from → low ≤ from' → end ≤ high → end' ≤ high → IsNoneBut low high (added ms ns)
none_from_added from end from' end' ms ns long none none' low high a b c d =
    let zero_at : (k : ℕ) → slice_index_or ns k 0 ≡ 0 → slice_index_or ms k 0 ≡ 0 → slice_index_or (added ms ns) k 0 ≡ 0 = λ k e f. elim (cases_lt k (length ns)) [
      | inl inside ↦ added_at ms ns k long inside ∙ (let t : counted (slice_index_or ns k 0) (slice_index_or ms k 0) ≡ 0 = omega (arith, e, f) in t)
      | inr past ↦ let al = added_long ms ns in get_or_past (added ms ns) k 0 (omega (arith, al))
    ] in
    (λ k less. zero_at k (none.0 k (omega arith)) (none'.0 k (omega arith)), λ k more. zero_at k (none.1 k (omega arith)) (none'.1 k (omega arith)))

pub none_from_set : (from end b v : ℕ) (ns : List ℕ) → IsNoneBut from end ns → (low high : ℕ) → low ≤ from → low ≤ b → end ≤ high → b < high → IsNoneBut low high (slice_set ns b v)
none_from_set from end b v ns none low high a c d e = (
  λ k less. get_or-set_other ns b k v 0 (λ same. absurd (omega arith)) ∙ none.0 k (omega arith),
  λ k more. get_or-set_other ns b k v 0 (λ same. absurd (omega arith)) ∙ none.1 k (omega arith),
)

no_count : (n k : ℕ) → ◌≡◌ {A = ℕ} (slice_index_or (replicate n 0) k 0) 0
no_count n k = elim (cases_lt k n) [
  | inl inside ↦ get_or-replicate n k 0 0 inside
  | inr past ↦ let l = length-replicate {A = ℕ} n 0 in get_or_past (replicate n 0) k 0 (omega (arith, l))
]

pub none_in_none : (n low high : ℕ) → IsNoneBut low high (replicate n 0)
none_in_none n low high = (λ k less. no_count n k, λ k more. no_count n k)
