-- The table of a summary, over all that was noted_request.
use Rattle.std.proofs.Common.{◌≡◌, ◌∙◌, ◌+◌, ◌*◌, ◌^◌, ◌<◌, ◌≤◌, ℕ, zero, suc, true, false, List, [], ◌∷◌, ◌++◌, length, Some, inl, inr, refl, sym, ap, subst, arith, append_assoc, append-nil, length-append, slice_index_or, slice_set, nat_lt}
use Rattle.std.proofs.Math.ListN.{get_or-append}
use Rattle.std.proofs.Math.Seq.{get_or-append_seam}
use Rattle.std.proofs.lemmas.Bool.{cases_eq, cases_lt, lt-ltb, le-ltb}
use Rattle.std.proofs.lemmas.List.{get_or-set_same, get_or-set_other, length-set, length-replicate, get_or-replicate}
use Rattle.std.proofs.lemmas.List.Elements.{filter-append}
use Rattle.cqlp_capture_summary.specs.Counts.{Request, Tally}
use Rattle.cqlp_capture_summary.specs.Heaviest.{IsExactSince, IsKept, KeepsEachOnce, KeepsTheHeaviest, ShowsExactlySince, all_noted, requests_of, is_of, name_at, tallied_all, tally_of, time_under, whole_time}
use Rattle.cqlp_capture_summary.specs.Names.{Name, name}
use Rattle.cqlp_capture_summary.specs.Summaries.{Summary, request_name, missing_at, summary, new_place, new_summary, noted_request, place_of, place_or, with_request, with_request_at, with_in_place_of, with_name, with_name_if, with_new}
use Rattle.cqlp_capture_summary.specs.Tallies.{counted, none_counted, tallied_request, time_of}
use Rattle.cqlp_capture_summary.proofs.Entries.{Absent, Found, no_entry, own_entry, search_name, tallied_append, tallied_time, under_append, under_other, under_own, under_part, whole_append}
use Rattle.cqlp_capture_summary.proofs.Lightest.{IsLeast, lightest_is, one_of_sum, sum, sum_append, sum_of_least, sum_set}

abbrev weight_of : Summary → (place : ℕ) → ℕ
weight_of s place = slice_index_or s.weights place 0

-- what a place says of its statement
record Since (n : ℕ) (es : List Request) (x : Name) (t : Tally) (weight : ℕ) : Type 0 where
  before : List Request
  after : List Request
  parts : es ≡ before ++ after
  exact : t ≡ tallied_all (requests_of x after) none_counted
  missing : ℕ
  adds : weight ≡ missing + time_under x after
  most : time_under x before ≤ missing
  error : n * missing ≤ whole_time es

abbrev IsAway : Name → Summary → Type 0
IsAway x s = (i : ℕ) → i < length s.names → x ≡ name_at s i → ⊥

-- what holds of a table after what was noted_request
record Table (n : ℕ) (es : List Request) (s : Summary) : Type 0 where
  room : s.statements ≡ n
  few : length s.names ≤ n
  weights : length s.weights ≡ length s.names
  tallies : length s.tallies ≡ n
  fresh : (i : ℕ) → length s.names ≤ i → i < n → tally_of s i ≡ none_counted
  apart : (i j : ℕ) → i < length s.names → j < length s.names → name_at s i ≡ name_at s j → i ≡ j
  since : (i : ℕ) → i < length s.names → Since n es (name_at s i) (tally_of s i) (weight_of s i)
  away : (x : Name) → IsAway x s → (i : ℕ) → i < length s.names → time_under x es ≤ weight_of s i
  free : (x : Name) → IsAway x s → length s.names < n → time_under x es ≡ 0
  sums : sum s.weights ≡ whole_time es

-- ---- nothing is noted_request

table_new : (n : ℕ) → Table n [] (new_summary n)
table_new n = record {
  room = refl;
  few = omega arith;
  weights = refl;
  tallies = length-replicate n none_counted;
  fresh = λ i from less. get_or-replicate n i none_counted none_counted less;
  apart = λ i j inside other same. absurd (omega arith);
  since = λ i inside. absurd (omega arith);
  away = λ x none i inside. absurd (omega arith);
  free = λ x none room. refl;
  sums = refl;
}

-- ---- an entry is counted at the place of its name

later_parts : (es before after : List Request) (e : Request) → es ≡ before ++ after → es ++ e ∷ [] ≡ before ++ (after ++ e ∷ [])
later_parts es before after e is = ap (λ z. z ++ e ∷ []) is ∙ append_assoc before after (e ∷ [])

one_more : (x : Name) (after : List Request) (e : Request) (t : Tally) → x ≡ request_name e → t ≡ tallied_all (requests_of x after) none_counted → tallied_request e t ≡ tallied_all (requests_of x (after ++ e ∷ [])) none_counted
one_more x after e t is exact =
    let parts : requests_of x (after ++ e ∷ []) ≡ requests_of x after ++ e ∷ [] = filter-append (is_of x) after (e ∷ []) ∙ ap (λ z. requests_of x after ++ z) (own_entry x e is) in
    ap (tallied_request e) exact ∙ sym (tallied_append (requests_of x after) (e ∷ []) none_counted) ∙ sym (ap (λ z. tallied_all z none_counted) parts)

none_more : (x : Name) (after : List Request) (e : Request) (t : Tally) → (x ≡ request_name e → ⊥) → t ≡ tallied_all (requests_of x after) none_counted → t ≡ tallied_all (requests_of x (after ++ e ∷ [])) none_counted
none_more x after e t ne exact =
    let parts : requests_of x (after ++ e ∷ []) ≡ requests_of x after = filter-append (is_of x) after (e ∷ []) ∙ ap (λ z. requests_of x after ++ z) (no_entry x e ne) ∙ append-nil (requests_of x after) in
    exact ∙ sym (ap (λ z. tallied_all z none_counted) parts)

error_later : (n missing : ℕ) (es : List Request) (e : Request) → n * missing ≤ whole_time es → n * missing ≤ whole_time (es ++ e ∷ [])
error_later n missing es e error = let w = whole_append es (e ∷ []) in omega (arith, w, error)

since_own : (n : ℕ) (es : List Request) (e : Request) (x : Name) (t : Tally) (weight : ℕ) → x ≡ request_name e → Since n es x t weight → Since n (es ++ e ∷ []) x (tallied_request e t) (weight + time_of e.entry.took)
since_own n es e x t weight is s = record {
  before = s.before;
  after = s.after ++ e ∷ [];
  parts = later_parts es s.before s.after e s.parts;
  exact = one_more x s.after e t is s.exact;
  missing = s.missing;
  adds = let u = under_own x s.after e is in let a = s.adds in omega (arith, u, a);
  most = s.most;
  error = error_later n s.missing es e s.error;
}

since_other : (n : ℕ) (es : List Request) (e : Request) (x : Name) (t : Tally) (weight : ℕ) → (x ≡ request_name e → ⊥) → Since n es x t weight → Since n (es ++ e ∷ []) x t weight
since_other n es e x t weight ne s = record {
  before = s.before;
  after = s.after ++ e ∷ [];
  parts = later_parts es s.before s.after e s.parts;
  exact = none_more x s.after e t ne s.exact;
  missing = s.missing;
  adds = let u = under_other x s.after e ne in let a = s.adds in omega (arith, u, a);
  most = s.most;
  error = error_later n s.missing es e s.error;
}

since_at : (n : ℕ) (es : List Request) (x : Name) (t u : Tally) (v w : ℕ) → t ≡ u → v ≡ w → Since n es x u w → Since n es x t v
since_at n es x t u v w same equal s = record {
  before = s.before;
  after = s.after;
  parts = s.parts;
  exact = same ∙ s.exact;
  missing = s.missing;
  adds = equal ∙ s.adds;
  most = s.most;
  error = s.error;
}

since_named : (n : ℕ) (es : List Request) (x y : Name) (t : Tally) (w : ℕ) → x ≡ y → Since n es y t w → Since n es x t w
since_named n es x y t w same s = subst (λ z. Since n es z t w) (sym same) s

table_counted : (n : ℕ) (es : List Request) (e : Request) (p : ℕ) (s : Summary) → whole_time (es ++ e ∷ []) < 2 ^ 64 → p < length s.names → name_at s p ≡ request_name e → Table n es s → Table n (es ++ e ∷ []) (with_request_at p e s)
table_counted n es e p s fits inside here b =
    let took = time_of e.entry.took in
    let wa : whole_time (es ++ e ∷ []) ≡ whole_time es + (took + 0) = whole_append es (e ∷ []) in
    let bw = b.weights in
    let bt = b.tallies in
    let bs = b.sums in
    let bf = b.few in
    let at_weights : p < length s.weights = omega arith in
    let at_tallies : p < length s.tallies = omega arith in
    let one = one_of_sum s.weights p in
    let exactly : counted (weight_of s p) took ≡ weight_of s p + took = omega (arith, one, bs, wa, fits) in
    let own_weight : weight_of (with_request_at p e s) p ≡ weight_of s p + took = get_or-set_same s.weights p (counted (weight_of s p) took) 0 at_weights ∙ exactly in
    let own_tally : tally_of (with_request_at p e s) p ≡ tallied_request e (tally_of s p) = get_or-set_same s.tallies p (tallied_request e (tally_of s p)) none_counted at_tallies in
    let heavier : (i : ℕ) → weight_of s i ≤ weight_of (with_request_at p e s) i = λ i. elim (cases_eq i p) [
      | inl same ↦ let f = ap (weight_of s) same in let g = ap (weight_of (with_request_at p e s)) same in omega (arith, f, g, own_weight)
      | inr ne ↦ let f = get_or-set_other s.weights p i (counted (weight_of s p) took) 0 ne in omega (arith, f)
    ] in
    let not_own : (x : Name) → IsAway x s → x ≡ request_name e → ⊥ = λ x none same. none p inside (same ∙ sym here) in
    record {
      room = b.room;
      few = b.few;
      weights = length-set s.weights p (counted (weight_of s p) took) ∙ b.weights;
      tallies = length-set s.tallies p (tallied_request e (tally_of s p)) ∙ b.tallies;
      fresh = λ i from less. get_or-set_other s.tallies p i (tallied_request e (tally_of s p)) none_counted (λ same. absurd (omega arith)) ∙ b.fresh i from less;
      apart = b.apart;
      since = λ i within. elim (cases_eq i p) [
        | inl same ↦
            since_at n (es ++ e ∷ []) (name_at s i) _ (tallied_request e (tally_of s i)) _ (weight_of s i + took)
            (ap (tally_of (with_request_at p e s)) same ∙ own_tally ∙ sym (ap (λ k. tallied_request e (tally_of s k)) same))
            (ap (weight_of (with_request_at p e s)) same ∙ own_weight ∙ sym (ap (λ k. weight_of s k + took) same))
            (since_own n es e (name_at s i) (tally_of s i) (weight_of s i) (ap (name_at s) same ∙ here) (b.since i within))
        | inr ne ↦
            since_at n (es ++ e ∷ []) (name_at s i) _ (tally_of s i) _ (weight_of s i)
            (get_or-set_other s.tallies p i (tallied_request e (tally_of s p)) none_counted ne)
            (get_or-set_other s.weights p i (counted (weight_of s p) took) 0 ne)
            (since_other n es e (name_at s i) (tally_of s i) (weight_of s i) (λ same. ne (b.apart i p within inside (same ∙ sym here))) (b.since i within))
      ];
      away = λ x none i within. let u = under_other x es e (not_own x none) in let a = b.away x none i within in let h = heavier i in omega (arith, u, a, h);
      free = λ x none room. under_other x es e (not_own x none) ∙ b.free x none room;
      sums = ap (λ v. sum (slice_set s.weights p v)) exactly ∙ sum_set s.weights p took at_weights ∙ (let t : sum s.weights + took ≡ whole_time (es ++ e ∷ []) = omega (arith, bs, wa) in t);
    }

-- ---- a statement is taken in at a free place

table_with_new : (n : ℕ) (es : List Request) (x : Name) (s : Summary) → length s.names < n → IsAway x s → Table n es s → Table n es (with_new x s)
table_with_new n es x s room none b =
    let p = length s.names in
    let bw = b.weights in
    let longer : length (s.names ++ x ∷ []) ≡ p + 1 = length-append s.names (x ∷ []) in
    let heavier : length (s.weights ++ 0 ∷ []) ≡ p + 1 = length-append s.weights (0 ∷ []) ∙ ap (λ k. k + 1) bw in
    let own_name : name_at (with_new x s) p ≡ x = get_or-append_seam s.names x [] (name [] true) in
    let own_weight : weight_of (with_new x s) p ≡ 0 = ap (λ k. slice_index_or (s.weights ++ 0 ∷ []) k 0) (sym bw) ∙ get_or-append_seam s.weights 0 [] 0 in
    let old_name : (i : ℕ) → i < p → name_at (with_new x s) i ≡ name_at s i = λ i less. get_or-append s.names (x ∷ []) (name [] true) i less in
    let old_weight : (i : ℕ) → i < p → weight_of (with_new x s) i ≡ weight_of s i = λ i less. get_or-append s.weights (0 ∷ []) 0 i (omega arith) in
    let still_away : (y : Name) → IsAway y (with_new x s) → IsAway y s = λ y away i less same. away i (omega (arith, longer)) (same ∙ sym (old_name i less)) in
    let no_time : time_under x es ≡ 0 = b.free x none room in
    let new_since : Since n es x (tally_of s p) 0 = record {
      before = es;
      after = [];
      parts = sym (append-nil es);
      exact = b.fresh p (omega arith) room;
      missing = 0;
      adds = refl;
      most = omega (arith, no_time);
      error = omega arith;
    } in
    record {
      room = b.room;
      few = omega (arith, longer);
      weights = heavier ∙ sym longer;
      tallies = b.tallies;
      fresh = λ i from less. b.fresh i (omega (arith, longer)) less;
      apart = λ i j within other same. elim (cases_eq i p) [
        | inl first ↦ elim (cases_eq j p) [
          | inl second ↦ first ∙ sym second
          | inr ne ↦ let less : j < p = omega (arith, longer) in absurd (none j less (sym own_name ∙ ap (name_at (with_new x s)) (sym first) ∙ same ∙ old_name j less))
        ]
        | inr ne ↦ let less : i < p = omega (arith, longer) in elim (cases_eq j p) [
          | inl second ↦ absurd (none i less (sym own_name ∙ ap (name_at (with_new x s)) (sym second) ∙ sym same ∙ old_name i less))
          | inr differs ↦ let below : j < p = omega (arith, longer) in b.apart i j less below (sym (old_name i less) ∙ same ∙ old_name j below)
        ]
      ];
      since = λ i within. elim (cases_eq i p) [
        | inl same ↦
            since_named n es _ x _ _ (ap (name_at (with_new x s)) same ∙ own_name)
            (since_at n es x _ (tally_of s p) _ 0 (ap (tally_of s) same) (ap (weight_of (with_new x s)) same ∙ own_weight) new_since)
        | inr ne ↦
            let less : i < p = omega (arith, longer) in
            since_named n es _ (name_at s i) _ _ (old_name i less) (since_at n es (name_at s i) _ (tally_of s i) _ (weight_of s i) refl (old_weight i less) (b.since i less))
      ];
      away = λ y away i within. let z = b.free y (still_away y away) room in omega (arith, z);
      free = λ y away more. b.free y (still_away y away) room;
      sums = sum_append s.weights (0 ∷ []) ∙ (let bs = b.sums in let t : sum s.weights + (0 + 0) ≡ whole_time es = omega (arith, bs) in t);
    }

-- ---- a statement is taken in at the place of the lightest

-- what left the table took no more than its weight
was_lighter : (n : ℕ) (es : List Request) (x : Name) (t : Tally) (weight : ℕ) → Since n es x t weight → time_under x es ≤ weight
was_lighter n es x t weight s =
    let p = ap (time_under x) s.parts in
    let u = under_append x s.before s.after in
    let a = s.adds in
    let m = s.most in
    omega (arith, p, u, a, m)

table_in_place : (n : ℕ) (es : List Request) (x : Name) (p : ℕ) (s : Summary) → n ≤ length s.names → IsLeast s.weights p → IsAway x s → Table n es s → Table n es (with_in_place_of p x s)
table_in_place n es x p s full least none b =
    let bw = b.weights in
    let bt = b.tallies in
    let bf = b.few in
    let bs = b.sums in
    let li = least.inside in
    let inside : p < length s.names = omega (arith, li, bw) in
    let at_tallies : p < length s.tallies = omega (arith, inside, bt, bf) in
    let as_long : length (slice_set s.names p x) ≡ length s.names = length-set s.names p x in
    let own_name : name_at (with_in_place_of p x s) p ≡ x = get_or-set_same s.names p x (name [] true) inside in
    let own_tally : tally_of (with_in_place_of p x s) p ≡ none_counted = get_or-set_same s.tallies p none_counted none_counted at_tallies in
    let old_name : (i : ℕ) → (i ≡ p → ⊥) → name_at (with_in_place_of p x s) i ≡ name_at s i = λ i ne. get_or-set_other s.names p i x (name [] true) ne in
    let old_tally : (i : ℕ) → (i ≡ p → ⊥) → tally_of (with_in_place_of p x s) i ≡ tally_of s i = λ i ne. get_or-set_other s.tallies p i none_counted none_counted ne in
    let enough : length s.weights * weight_of s p ≤ sum s.weights = sum_of_least s.weights (weight_of s p) least.least in
    let counts : length s.weights ≡ n = omega (arith, bw, bf, full) in
    let error : n * weight_of s p ≤ whole_time es = let e : length s.weights * weight_of s p ≡ n * weight_of s p = ap (λ k. k * weight_of s p) counts in omega (arith, e, enough, bs) in
    let new_since : Since n es x none_counted (weight_of s p) = record {
      before = es;
      after = [];
      parts = sym (append-nil es);
      exact = refl;
      missing = weight_of s p;
      adds = omega arith;
      most = b.away x none p inside;
      error = error;
    } in
    let lighter : (y : Name) → IsAway y (with_in_place_of p x s) → (i : ℕ) → i < length s.names → time_under y es ≤ weight_of s i = λ y away i within. elim (search_name y s.names) [
      | inl (at, found) ↦ elim (cases_eq at p) [
        | inl same ↦
            let old : name_at s p ≡ y = ap (name_at s) (sym same) ∙ found.here in
            let w = was_lighter n es (name_at s p) (tally_of s p) (weight_of s p) (b.since p inside) in
            let e = ap (λ z. time_under z es) old in
            let l = least.least i (omega (arith, within, bw)) in
            omega (arith, w, e, l)
        | inr ne ↦ let fi = found.inside in absurd (away at (omega (arith, as_long, fi)) (sym found.here ∙ sym (old_name at ne)))
      ]
      | inr absent ↦ b.away y absent.none i within
    ] in
    record {
      room = b.room;
      few = omega (arith, as_long, bf);
      weights = bw ∙ sym as_long;
      tallies = length-set s.tallies p none_counted ∙ bt;
      fresh = λ i from less. absurd (omega (arith, as_long, full));
      apart = λ i j within other same. elim (cases_eq i p) [
        | inl first ↦ elim (cases_eq j p) [
          | inl second ↦ first ∙ sym second
          | inr ne ↦ absurd (none j (omega (arith, as_long, other)) (sym own_name ∙ ap (name_at (with_in_place_of p x s)) (sym first) ∙ same ∙ old_name j ne))
        ]
        | inr ne ↦ elim (cases_eq j p) [
          | inl second ↦ absurd (none i (omega (arith, as_long, within)) (sym own_name ∙ ap (name_at (with_in_place_of p x s)) (sym second) ∙ sym same ∙ old_name i ne))
          | inr differs ↦ b.apart i j (omega (arith, as_long, within)) (omega (arith, as_long, other)) (sym (old_name i ne) ∙ same ∙ old_name j differs)
        ]
      ];
      since = λ i within. elim (cases_eq i p) [
        | inl same ↦
            since_named n es _ x _ _ (ap (name_at (with_in_place_of p x s)) same ∙ own_name)
            (since_at n es x _ none_counted _ (weight_of s p) (ap (tally_of (with_in_place_of p x s)) same ∙ own_tally) (ap (weight_of s) same) new_since)
        | inr ne ↦
            since_named n es _ (name_at s i) _ _ (old_name i ne)
            (since_at n es (name_at s i) _ (tally_of s i) _ (weight_of s i) (old_tally i ne) refl (b.since i (omega (arith, as_long, within))))
      ];
      away = λ y away i within. lighter y away i (omega (arith, as_long, within));
      free = λ y away more. absurd (omega (arith, as_long, full));
      sums = bs;
    }

-- ---- an entry is noted_request

record Taken (n : ℕ) (es : List Request) (x : Name) (s : Summary) : Type 0 where
  place : ℕ
  is : place_of x s ≡ Some place
  inside : place < length (with_name x s).names
  here : name_at (with_name x s) place ≡ x
  table : Table n es (with_name x s)

taken_found : (n : ℕ) (es : List Request) (x : Name) (s : Summary) (at : ℕ) → Found x s.names at → Table n es s → Taken n es x s
taken_found n es x s at f b =
    let same : with_name x s ≡ s = ap (λ o. with_name_if o x s) f.is in
    record {
      place = at;
      is = ap (λ o. place_or o (new_place s)) f.is;
      inside = let fi = f.inside in subst (λ z. at < length z.names) (sym same) fi;
      here = subst (λ z. name_at z at ≡ x) (sym same) f.here;
      table = subst (Table n es) (sym same) b;
    }

taken_by : (n : ℕ) (es : List Request) (x : Name) (s t : Summary) (at : ℕ) → with_name x s ≡ t → place_of x s ≡ Some at → at < length t.names → name_at t at ≡ x → Table n es t → Taken n es x s
taken_by n es x s t at same is inside here b = record {
  place = at;
  is = is;
  inside = subst (λ z. at < length z.names) (sym same) inside;
  here = subst (λ z. name_at z at ≡ x) (sym same) here;
  table = subst (Table n es) (sym same) b;
}

taken_new : (n : ℕ) (es : List Request) (x : Name) (s : Summary) → length s.names < n → Absent x s.names → Table n es s → Taken n es x s
taken_new n es x s room a b =
    let test : nat_lt (length s.names) s.statements ≡ true = let r = b.room in lt-ltb (length s.names) s.statements (omega (arith, r)) in
    taken_by n es x s (with_new x s) (length s.names) (ap (λ o. with_name_if o x s) a.is ∙ rw test refl) (ap (λ o. place_or o (new_place s)) a.is ∙ rw test refl)
    (let l : length (s.names ++ x ∷ []) ≡ length s.names + 1 = length-append s.names (x ∷ []) in omega (arith, l))
    (get_or-append_seam s.names x [] (name [] true)) (table_with_new n es x s room a.none b)

taken_place : (n : ℕ) (es : List Request) (x : Name) (s : Summary) → 0 < n → n ≤ length s.names → Absent x s.names → Table n es s → Taken n es x s
taken_place n es x s some full a b =
    let test : nat_lt (length s.names) s.statements ≡ false = let r = b.room in le-ltb (length s.names) s.statements (omega (arith, r)) in
    let bw = b.weights in
    let l = lightest_is s.weights (omega arith) in
    let inside : l.0 < length s.names = let li = l.1.1.inside in omega (arith, li, bw) in
    taken_by n es x s (with_in_place_of l.0 x s) l.0
    (ap (λ o. with_name_if o x s) a.is ∙ rw (test, l.1.0) refl)
    (ap (λ o. place_or o (new_place s)) a.is ∙ rw (test, l.1.0) refl)
    (let e : length (slice_set s.names l.0 x) ≡ length s.names = length-set s.names l.0 x in omega (arith, e, inside))
    (get_or-set_same s.names l.0 x (name [] true) inside) (table_in_place n es x l.0 s full l.1.1 a.none b)

taken : (n : ℕ) (es : List Request) (x : Name) (s : Summary) → 0 < n → Table n es s → Taken n es x s
taken n es x s some b = elim (search_name x s.names) [
  | inl (at, found) ↦ taken_found n es x s at found b
  | inr absent ↦ elim (cases_lt (length s.names) n) [
    | inl room ↦ taken_new n es x s room absent b
    | inr full ↦ taken_place n es x s some full absent b
  ]
]

table_noted : (n : ℕ) (es : List Request) (e : Request) (s : Summary) → 0 < n → whole_time (es ++ e ∷ []) < 2 ^ 64 → Table n es s → Table n (es ++ e ∷ []) (noted_request e s)
table_noted n es e s some fits b =
    let t = taken n es (request_name e) s some b in
    subst (λ o. Table n (es ++ e ∷ []) (with_request o e (with_name (request_name e) s))) (sym t.is)
    (table_counted n es e t.place (with_name (request_name e) s) fits t.inside t.here t.table)

table_after : (n : ℕ) (es before : List Request) (s : Summary) → 0 < n → whole_time (before ++ es) < 2 ^ 64 → Table n before s → Table n (before ++ es) (all_noted es s)
table_after n [] before s some fits b = subst (λ z. Table n z s) (sym (append-nil before)) b
table_after n (e ∷ es) before s some fits b =
    let parts : (before ++ e ∷ []) ++ es ≡ before ++ e ∷ es = append_assoc before (e ∷ []) es in
    let w = ap whole_time parts in
    let a = whole_append (before ++ e ∷ []) es in
    let here = table_noted n before e s some (omega (arith, w, a, fits)) b in
    subst (λ z. Table n z (all_noted es (noted_request e s))) parts (table_after n es (before ++ e ∷ []) (noted_request e s) some (omega (arith, w, fits)) here)

table_of : (n : ℕ) (es : List Request) → 0 < n → whole_time es < 2 ^ 64 → Table n es (all_noted es (new_summary n))
table_of n es some fits = table_after n es [] (new_summary n) some fits (table_new n)

-- ---- the laws

kept_of : (n : ℕ) (es : List Request) (x : Name) (s : Summary) → whole_time es < n * time_under x es → Table n es s → IsKept x s
kept_of n es x s heavy b = elim (search_name x s.names) [
  | inl (at, found) ↦ (at, (found.inside, found.here))
  | inr absent ↦ elim (cases_lt (length s.names) n) [
    | inl room ↦ let z = b.free x absent.none room in let e : n * time_under x es ≡ n * 0 = ap (λ k. n * k) z in absurd (omega (arith, e, heavy))
    | inr full ↦
        let bw = b.weights in
        let bf = b.few in
        let bs = b.sums in
        let enough : length s.weights * time_under x es ≤ sum s.weights = sum_of_least s.weights (time_under x es) (λ i inside. b.away x absent.none i (omega arith)) in
        let e : length s.weights * time_under x es ≡ n * time_under x es = ap (λ k. k * time_under x es) (omega arith) in
        absurd (omega (arith, e, enough, bs, heavy))
  ]
]

pub keeps_the_heaviest : KeepsTheHeaviest
keeps_the_heaviest zero es x fits heavy = absurd (omega arith)
keeps_the_heaviest (suc n) es x fits heavy = kept_of (suc n) es x (all_noted es (new_summary (suc n))) heavy (table_of (suc n) es (omega arith) fits)

exact_of : (n : ℕ) (es : List Request) (s : Summary) (place : ℕ) → whole_time es < 2 ^ 64 → Since n es (name_at s place) (tally_of s place) (weight_of s place) → IsExactSince n es s place
exact_of n es s place fits i =
    let x = name_at s place in
    let p = ap whole_time i.parts in
    let w = whole_append i.before i.after in
    let part = under_part x i.after in
    let timed = tallied_time (requests_of x i.after) none_counted (omega (arith, p, w, part, fits)) in
    let same = ap (λ t. t.time) i.exact in
    let adds = i.adds in
    let missing : missing_at place s ≡ i.missing = omega (arith, timed, same, adds) in
    let most = i.most in
    let error = i.error in
    record {
      before = i.before;
      after = i.after;
      parts = i.parts;
      exact = i.exact;
      most = omega (arith, missing, most);
      error = let e : n * missing_at place s ≡ n * i.missing = ap (λ k. n * k) missing in omega (arith, e, error);
    }

-- where there are no places there are no names
none_kept : (es : List Request) (ts : List Tally) (o : Tally) → (all_noted es (summary 0 [] [] ts o)).names ≡ []
none_kept [] ts o = refl
none_kept (e ∷ es) ts o = none_kept es ts (tallied_request e o)

pub shows_exactly_since : ShowsExactlySince
shows_exactly_since zero es place fits inside = let e = ap length (none_kept es [] none_counted) in absurd (omega (arith, e))
shows_exactly_since (suc n) es place fits inside =
    exact_of (suc n) es (all_noted es (new_summary (suc n))) place fits ((table_of (suc n) es (omega arith) fits).since place inside)

pub keeps_each_once : KeepsEachOnce
keeps_each_once zero es a b fits inside other same = let e = ap length (none_kept es [] none_counted) in absurd (omega (arith, e))
keeps_each_once (suc n) es a b fits inside other same = (table_of (suc n) es (omega arith) fits).apart a b inside other same
