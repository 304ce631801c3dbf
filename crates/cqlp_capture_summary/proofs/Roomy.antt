-- A table with room for all statements.
use Rattle.std.proofs.Common.{◌≡◌, ◌∙◌, ◌+◌, ◌<◌, ◌≤◌, ℕ, true, List, [], ◌∷◌, ◌++◌, length, Option, Some, None, inl, inr, refl, sym, ap, subst, arith, append_assoc, append-nil, length-append, nat_lt}
use Rattle.std.proofs.Math.ListN.{get_or-append}
use Rattle.std.proofs.Math.Seq.{get_or-append_seam}
use Rattle.std.proofs.lemmas.Bool.{cases_eq, lt-ltb}
use Rattle.std.proofs.lemmas.List.{get_or-set_same, get_or-set_other, length-set, length-replicate, get_or-replicate}
use Rattle.std.proofs.lemmas.List.Elements.{filter-append}
use Rattle.std.specs.List.{position}
use Rattle.cqlp_capture_summary.specs.Counts.{Request, Tally}
use Rattle.cqlp_capture_summary.specs.Heaviest.{CountsAllWhereThereIsRoom, all_noted, requests_of, is_of, name_at, names_of, names_with, tallied_all, tally_of}
use Rattle.cqlp_capture_summary.specs.Names.{Name, is_same, name}
use Rattle.cqlp_capture_summary.specs.Summaries.{Summary, request_name, new_place, new_summary, noted_request, place_of, place_or, with_request, with_request_at, with_name, with_name_if, with_new}
use Rattle.cqlp_capture_summary.specs.Tallies.{none_counted, tallied_request}
use Rattle.cqlp_capture_summary.proofs.Entries.{Absent, Found, no_entry, own_entry, search_name, tallied_append}

abbrev IsAway : Name → Summary → Type 0
IsAway x s = (i : ℕ) → i < length s.names → x ≡ name_at s i → ⊥

record Whole (n : ℕ) (es : List Request) (s : Summary) : Type 0 where
  room : s.statements ≡ n
  few : length s.names ≤ n
  tallies : length s.tallies ≡ n
  fresh : (i : ℕ) → length s.names ≤ i → i < n → tally_of s i ≡ none_counted
  apart : (i j : ℕ) → i < length s.names → j < length s.names → name_at s i ≡ name_at s j → i ≡ j
  exact : (i : ℕ) → i < length s.names → tally_of s i ≡ tallied_all (requests_of (name_at s i) es) none_counted
  away : (x : Name) → IsAway x s → requests_of x es ≡ []
  others : s.others ≡ none_counted

whole_new : (n : ℕ) → Whole n [] (new_summary n)
whole_new n = record {
  room = refl;
  few = omega arith;
  tallies = length-replicate n none_counted;
  fresh = λ i from less. get_or-replicate n i none_counted none_counted less;
  apart = λ i j inside other same. absurd (omega arith);
  exact = λ i inside. absurd (omega arith);
  away = λ x none. refl;
  others = refl;
}

one_more : (x : Name) (es : List Request) (e : Request) (t : Tally) → x ≡ request_name e → t ≡ tallied_all (requests_of x es) none_counted → tallied_request e t ≡ tallied_all (requests_of x (es ++ e ∷ [])) none_counted
one_more x es e t is exact =
    let parts : requests_of x (es ++ e ∷ []) ≡ requests_of x es ++ e ∷ [] = filter-append (is_of x) es (e ∷ []) ∙ ap (λ z. requests_of x es ++ z) (own_entry x e is) in
    ap (tallied_request e) exact ∙ sym (tallied_append (requests_of x es) (e ∷ []) none_counted) ∙ sym (ap (λ z. tallied_all z none_counted) parts)

none_more : (x : Name) (es : List Request) (e : Request) → (x ≡ request_name e → ⊥) → requests_of x (es ++ e ∷ []) ≡ requests_of x es
none_more x es e ne = filter-append (is_of x) es (e ∷ []) ∙ ap (λ z. requests_of x es ++ z) (no_entry x e ne) ∙ append-nil (requests_of x es)

whole_counted : (n : ℕ) (es : List Request) (e : Request) (p : ℕ) (s : Summary) → p < length s.names → name_at s p ≡ request_name e → Whole n es s → Whole n (es ++ e ∷ []) (with_request_at p e s)
whole_counted n es e p s inside here b =
    let bt = b.tallies in
    let bf = b.few in
    let at_tallies : p < length s.tallies = omega arith in
    let own_tally : tally_of (with_request_at p e s) p ≡ tallied_request e (tally_of s p) = get_or-set_same s.tallies p (tallied_request e (tally_of s p)) none_counted at_tallies in
    let not_own : (x : Name) → IsAway x s → x ≡ request_name e → ⊥ = λ x none same. none p inside (same ∙ sym here) in
    record {
      room = b.room;
      few = b.few;
      tallies = length-set s.tallies p (tallied_request e (tally_of s p)) ∙ b.tallies;
      fresh = λ i from less. get_or-set_other s.tallies p i (tallied_request e (tally_of s p)) none_counted (λ same. absurd (omega arith)) ∙ b.fresh i from less;
      apart = b.apart;
      exact = λ i within. elim (cases_eq i p) [
        | inl same ↦
            ap (tally_of (with_request_at p e s)) same ∙ own_tally ∙ sym (ap (λ k. tallied_request e (tally_of s k)) same)
            ∙ one_more (name_at s i) es e (tally_of s i) (ap (name_at s) same ∙ here) (b.exact i within)
        | inr ne ↦
            get_or-set_other s.tallies p i (tallied_request e (tally_of s p)) none_counted ne ∙ b.exact i within
            ∙ sym (ap (λ z. tallied_all z none_counted) (none_more (name_at s i) es e (λ same. ne (b.apart i p within inside (same ∙ sym here)))))
      ];
      away = λ x none. none_more x es e (not_own x none) ∙ b.away x none;
      others = b.others;
    }

whole_with_new : (n : ℕ) (es : List Request) (x : Name) (s : Summary) → length s.names < n → IsAway x s → Whole n es s → Whole n es (with_new x s)
whole_with_new n es x s room none b =
    let p = length s.names in
    let longer : length (s.names ++ x ∷ []) ≡ p + 1 = length-append s.names (x ∷ []) in
    let own_name : name_at (with_new x s) p ≡ x = get_or-append_seam s.names x [] (name [] true) in
    let old_name : (i : ℕ) → i < p → name_at (with_new x s) i ≡ name_at s i = λ i less. get_or-append s.names (x ∷ []) (name [] true) i less in
    record {
      room = b.room;
      few = omega (arith, longer);
      tallies = b.tallies;
      fresh = λ i from less. b.fresh i (omega (arith, longer)) less;
      apart = λ i j within other same. elim (cases_eq i p) [
        | inl first ↦ elim (cases_eq j p) [
          | inl second ↦ first ∙ sym second
          | inr ne ↦ let less : j < p = omega (arith, longer) in absurd (none j less (sym own_name ∙ ap (name_at (with_new x s)) (sym first) ∙ same ∙ old_name j less))
        ]
        | inr ne ↦ let less : i < p = omega (arith, longer) in elim (cases_eq j p) [
          | inl second ↦ absurd (none i less (sym own_name ∙ ap (name_at (with_new x s)) (sym second) ∙ sym same ∙ old_name i less))
          | inr differs ↦ let below : j < p = omega (arith, longer) in b.apart i j less below (sym (old_name i less) ∙ same ∙ old_name j below)
        ]
      ];
      exact = λ i within. elim (cases_eq i p) [
        | inl same ↦
            ap (tally_of s) same ∙ b.fresh p (omega arith) room ∙ sym (ap (λ z. tallied_all z none_counted) (b.away x none))
            ∙ sym (ap (λ z. tallied_all (requests_of z es) none_counted) (ap (name_at (with_new x s)) same ∙ own_name))
        | inr ne ↦
            let less : i < p = omega (arith, longer) in
            b.exact i less ∙ sym (ap (λ z. tallied_all (requests_of z es) none_counted) (old_name i less))
      ];
      away = λ y none'. b.away y (λ i less same. none' i (omega (arith, longer)) (same ∙ sym (old_name i less)));
      others = b.others;
    }

-- ---- the names

names_append : (xs ys : List Request) (ns : List Name) → names_of (xs ++ ys) ns ≡ names_of ys (names_of xs ns)
names_append [] ys ns = refl
names_append (x ∷ xs) ys ns = names_append xs ys (names_with (position (is_same (request_name x)) ns) (request_name x) ns)

with_longer : (o : Option ℕ) (x : Name) (ns : List Name) → length ns ≤ length (names_with o x ns)
with_longer (Some at) x ns = omega arith
with_longer None x ns = let e = length-append ns (x ∷ []) in omega (arith, e)

names_longer : (es : List Request) (ns : List Name) → length ns ≤ length (names_of es ns)
names_longer [] ns = omega arith
names_longer (e ∷ es) ns =
    let here = with_longer (position (is_same (request_name e)) ns) (request_name e) ns in
    let later = names_longer es (names_with (position (is_same (request_name e)) ns) (request_name e) ns) in
    omega (arith, here, later)

-- ---- an entry is noted_request

record Step (n : ℕ) (es : List Request) (e : Request) (s : Summary) : Type 0 where
  names : (noted_request e s).names ≡ names_with (position (is_same (request_name e)) s.names) (request_name e) s.names
  whole : Whole n (es ++ e ∷ []) (noted_request e s)

step_to : (n : ℕ) (es : List Request) (e : Request) (s t : Summary) (p : ℕ) → with_name (request_name e) s ≡ t → place_of (request_name e) s ≡ Some p → p < length t.names → name_at t p ≡ request_name e → t.names ≡ names_with (position (is_same (request_name e)) s.names) (request_name e) s.names → Whole n es t → Step n es e s
step_to n es e s t p same is inside here names b =
    let is_next : noted_request e s ≡ with_request_at p e t = ap (λ o. with_request o e (with_name (request_name e) s)) is ∙ ap (with_request_at p e) same in
    record {
      names = ap (λ z. z.names) is_next ∙ names;
      whole = subst (Whole n (es ++ e ∷ [])) (sym is_next) (whole_counted n es e p t inside here b);
    }

step_found : (n : ℕ) (es : List Request) (e : Request) (s : Summary) (at : ℕ) → Found (request_name e) s.names at → Whole n es s → Step n es e s
step_found n es e s at f b =
    step_to n es e s s at (ap (λ o. with_name_if o (request_name e) s) f.is) (ap (λ o. place_or o (new_place s)) f.is) f.inside f.here
    (sym (ap (λ o. names_with o (request_name e) s.names) f.is)) b

step_absent : (n : ℕ) (es : List Request) (e : Request) (s : Summary) → length (names_with (position (is_same (request_name e)) s.names) (request_name e) s.names) ≤ n → Absent (request_name e) s.names → Whole n es s → Step n es e s
step_absent n es e s most a b =
    let x = request_name e in
    let l : length (s.names ++ x ∷ []) ≡ length s.names + 1 = length-append s.names (x ∷ []) in
    let grown : names_with (position (is_same x) s.names) x s.names ≡ s.names ++ x ∷ [] = ap (λ o. names_with o x s.names) a.is in
    let long = ap length grown in
    let room : length s.names < n = omega (arith, l, long, most) in
    let test : nat_lt (length s.names) s.statements ≡ true = let r = b.room in lt-ltb (length s.names) s.statements (omega (arith, r, room)) in
    step_to n es e s (with_new x s) (length s.names) (ap (λ o. with_name_if o x s) a.is ∙ rw test refl) (ap (λ o. place_or o (new_place s)) a.is ∙ rw test refl)
    (omega (arith, l)) (get_or-append_seam s.names x [] (name [] true)) (sym grown) (whole_with_new n es x s room a.none b)

step : (n : ℕ) (es : List Request) (e : Request) (s : Summary) → length (names_with (position (is_same (request_name e)) s.names) (request_name e) s.names) ≤ n → Whole n es s → Step n es e s
step n es e s most b = elim (search_name (request_name e) s.names) [
  | inl (at, found) ↦ step_found n es e s at found b
  | inr absent ↦ step_absent n es e s most absent b
]

record After (n : ℕ) (es : List Request) (s : Summary) : Type 0 where
  names : s.names ≡ names_of es []
  whole : Whole n es s

after : (n : ℕ) (es before : List Request) (s : Summary) → length (names_of (before ++ es) []) ≤ n → After n before s → After n (before ++ es) (all_noted es s)
after n [] before s most a = subst (λ z. After n z s) (sym (append-nil before)) a
after n (e ∷ es) before s most a =
    let parts : (before ++ e ∷ []) ++ es ≡ before ++ e ∷ es = append_assoc before (e ∷ []) es in
    let x = request_name e in
    let next : names_of (before ++ e ∷ []) [] ≡ names_with (position (is_same x) s.names) x s.names =
    names_append before (e ∷ []) [] ∙ sym (ap (λ z. names_with (position (is_same x) z) x z) a.names) in
    let long = ap length next in
    let whole_names : names_of (before ++ e ∷ es) [] ≡ names_of es (names_of (before ++ e ∷ []) []) = ap (λ z. names_of z []) (sym parts) ∙ names_append (before ++ e ∷ []) es [] in
    let w = ap length whole_names in
    let more = names_longer es (names_of (before ++ e ∷ []) []) in
    let s1 = step n before e s (omega (arith, long, w, more, most)) a.whole in
    let here : After n (before ++ e ∷ []) (noted_request e s) = record { names = s1.names ∙ sym next; whole = s1.whole } in
    let all = ap (λ z. length (names_of z [])) parts in
    subst (λ z. After n z (all_noted es (noted_request e s))) parts (after n es (before ++ e ∷ []) (noted_request e s) (omega (arith, all, most)) here)

pub counts_all : CountsAllWhereThereIsRoom
counts_all n es most =
    let a = after n es [] (new_summary n) most (record { names = refl; whole = whole_new n }) in
    record { names = a.names; exact = a.whole.exact; others = a.whole.others }
