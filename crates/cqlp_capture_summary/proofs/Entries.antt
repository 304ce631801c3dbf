-- Times of entries, and names.
use Rattle.std.proofs.Common.{◌≡◌, ◌∙◌, ◌+◌, ◌^◌, ◌<◌, ◌≤◌, ℕ, zero, suc, Bool, true, false, List, [], ◌∷◌, ◌++◌, length, Option, Some, None, ◌⊎◌, inl, inr, refl, sym, ap, arith, slice_index_or, if◌then◌else◌}
use Rattle.std.proofs.lemmas.Bool.{and_parts, true≢false, cases_lt, lt-ltb, le-ltb}
use Rattle.std.proofs.lemmas.List.Elements.{filter-append}
use Rattle.std.proofs.lemmas.List.Quantifiers.{position-Some}
use Rattle.std.proofs.lemmas.List.Recursion.{is_position_or_len}
use Rattle.std.proofs.lemmas.Slice.Eq.{bytes_eq-Decides}
use Rattle.std.specs.List.{position, position_or_len}
use Rattle.std.specs.Str.{bytes_eq}
use Rattle.cqlp_capture_summary.specs.Counts.{Entry, Request, Tally, tally}
use Rattle.cqlp_capture_summary.specs.Heaviest.{requests_of, is_of, tallied_all, time_under, whole_time}
use Rattle.cqlp_capture_summary.specs.Names.{Name, is_equal, is_same, name}
use Rattle.cqlp_capture_summary.specs.Summaries.{request_name}
use Rattle.cqlp_capture_summary.specs.Tallies.{counted, error_count, tallied, tallied_request, time_of, with_answer, with_seen_if, with_time_if}

-- ---- names that are the same are equal

equal_self : (b : Bool) → is_equal b b ≡ true
equal_self true = refl
equal_self false = refl

equal_true : (a b : Bool) → is_equal a b ≡ true → a ≡ b
equal_true true b is = sym is
equal_true false true is = is
equal_true false false is = refl

pub same_self : (n : Name) → is_same n n ≡ true
same_self n = let e = equal_self n.is_whole in let f : bytes_eq n.bytes n.bytes ≡ true = (bytes_eq-Decides n.bytes n.bytes).1 refl in rw (e, f) refl

joined_name : (a b : List ℕ) (v w : Bool) → a ≡ b → v ≡ w → name a v ≡ name b w
joined_name a b v w e f = ap (λ z. name z v) e ∙ ap (λ z. name b z) f

pub same_equal : (x y : Name) → is_same x y ≡ true → x ≡ y
same_equal x y is =
    let p = and_parts (is_equal y.is_whole x.is_whole) (bytes_eq y.bytes x.bytes) is in
    let b : y.bytes ≡ x.bytes = (bytes_eq-Decides y.bytes x.bytes).0 p.1 in
    joined_name x.bytes y.bytes x.is_whole y.is_whole (sym b) (sym (equal_true y.is_whole x.is_whole p.0))

pub not_same : (x y : Name) → is_same x y ≡ false → x ≡ y → ⊥
not_same x y is e = true≢false (sym (same_self x) ∙ ap (is_same x) e ∙ is)

differ_at : (b : Bool) (x y : Name) → is_same x y ≡ b → (x ≡ y → ⊥) → is_same x y ≡ false
differ_at true x y e ne = absurd (ne (same_equal x y e))
differ_at false x y e ne = e

pub differ : (x y : Name) → (x ≡ y → ⊥) → is_same x y ≡ false
differ x y ne = differ_at (is_same x y) x y refl ne

-- ---- the entries of a statement

pub whole_append : (xs ys : List Request) → whole_time (xs ++ ys) ≡ whole_time xs + whole_time ys
whole_append [] ys = omega arith
whole_append (x ∷ xs) ys = let later = whole_append xs ys in omega (arith, later)

pub under_append : (x : Name) (xs ys : List Request) → time_under x (xs ++ ys) ≡ time_under x xs + time_under x ys
under_append x xs ys = ap whole_time (filter-append (is_of x) xs ys) ∙ whole_append (requests_of x xs) (requests_of x ys)

pub own_entry : (x : Name) (e : Request) → x ≡ request_name e → requests_of x (e ∷ []) ≡ e ∷ []
own_entry x e is = let t : is_of x e ≡ true = ap (is_same x) (sym is) ∙ same_self x in rw t refl

pub no_entry : (x : Name) (e : Request) → (x ≡ request_name e → ⊥) → requests_of x (e ∷ []) ≡ []
no_entry x e ne = let t : is_of x e ≡ false = differ x (request_name e) ne in rw t refl

pub under_own : (x : Name) (es : List Request) (e : Request) → x ≡ request_name e → time_under x (es ++ e ∷ []) ≡ time_under x es + time_of e.entry.took
under_own x es e is = let f = under_append x es (e ∷ []) in let g : time_under x (e ∷ []) ≡ time_of e.entry.took + 0 = ap whole_time (own_entry x e is) in omega (arith, f, g)

pub under_other : (x : Name) (es : List Request) (e : Request) → (x ≡ request_name e → ⊥) → time_under x (es ++ e ∷ []) ≡ time_under x es
under_other x es e ne = let f = under_append x es (e ∷ []) in let g : time_under x (e ∷ []) ≡ 0 = ap whole_time (no_entry x e ne) in omega (arith, f, g)

part_at : (b : Bool) (x : Name) (e : Request) (es : List Request) → is_of x e ≡ b → time_under x es ≤ whole_time es → time_under x (e ∷ es) ≤ whole_time (e ∷ es)
part_at true x e es is later = rw is (omega (arith, later))
part_at false x e es is later = rw is (omega (arith, later))

pub under_part : (x : Name) (es : List Request) → time_under x es ≤ whole_time es
under_part x [] = omega arith
under_part x (e ∷ es) = part_at (is_of x e) x e es refl (under_part x es)

-- ---- what is counted of entries

pub tallied_append : (xs ys : List Request) (t : Tally) → tallied_all (xs ++ ys) t ≡ tallied_all ys (tallied_all xs t)
tallied_append [] ys t = refl
tallied_append (x ∷ xs) ys t = tallied_append xs ys (tallied_request x t)

time_if : (took : Option ℕ) (t : Tally) → t.time + time_of took < 2 ^ 64 → (with_time_if took t).time ≡ t.time + time_of took
time_if None t fits = omega arith
time_if (Some n) t fits = omega arith

-- what is counted of an entry beside its time
abbrev pub counts_more : Entry → Tally → Tally
counts_more e t =
    tally (counted t.count 1) (counted t.errors (error_count e.is_error)) t.unanswered (counted t.rows e.rows) (counted t.bytes e.bytes) t.first t.last
    t.timed t.time t.greatest t.buckets

-- what neither an answer nor a moment changes
pub record IsAsTimed (t u : Tally) : Type 0 where
  pub time : t.time ≡ u.time
  pub greatest : t.greatest ≡ u.greatest
  pub buckets : t.buckets ≡ u.buckets

answer_timed : (is_answered : Bool) (t : Tally) → IsAsTimed (with_answer is_answered t) t
answer_timed true t = record { time = refl; greatest = refl; buckets = refl }
answer_timed false t = record { time = refl; greatest = refl; buckets = refl }

seen_timed : (at : Option ℕ) (t : Tally) → IsAsTimed (with_seen_if at t) t
seen_timed None t = record { time = refl; greatest = refl; buckets = refl }
seen_timed (Some n) t = record { time = refl; greatest = refl; buckets = refl }

pub as_timed : (r : Request) (t : Tally) → IsAsTimed (tallied_request r t) (with_time_if r.entry.took (counts_more r.entry t))
as_timed r t =
    let s = seen_timed r.at (with_answer r.is_answered (tallied r.entry t)) in
    let a = answer_timed r.is_answered (tallied r.entry t) in
    record { time = s.time ∙ a.time; greatest = s.greatest ∙ a.greatest; buckets = s.buckets ∙ a.buckets }

time_once : (e : Request) (t : Tally) → t.time + time_of e.entry.took < 2 ^ 64 → (tallied_request e t).time ≡ t.time + time_of e.entry.took
time_once e t fits = (as_timed e t).time ∙ time_if e.entry.took (counts_more e.entry t) fits

pub tallied_time : (es : List Request) (t : Tally) → t.time + whole_time es < 2 ^ 64 → (tallied_all es t).time ≡ t.time + whole_time es
tallied_time [] t fits = omega arith
tallied_time (e ∷ es) t fits =
    let here = time_once e t (omega arith) in
    let later = tallied_time es (tallied_request e t) (omega (arith, here)) in
    omega (arith, here, later)

-- ---- the place of a name

abbrev first : (Name → Bool) → List Name → ℕ
first p [] = 0
first p (n ∷ ns) = if p n then 0 else 1 + first p ns

none_at : (b : Bool) (p : Name → Bool) (n : Name) (ns : List Name) → p n ≡ b → (length ns ≤ first p ns → (i : ℕ) → i < length ns → p (slice_index_or ns i (name [] true)) ≡ false) → suc (length ns) ≤ first p (n ∷ ns) → (i : ℕ) → i < suc (length ns) → p (slice_index_or (n ∷ ns) i (name [] true)) ≡ false
none_at true p n ns e later none i inside = let l = rw e at none in absurd (omega (arith, l))
none_at false p n ns e later none zero inside = e
none_at false p n ns e later none (suc i) inside = let l = rw e at none in later (omega (arith, l)) i (omega arith)

none_first : (p : Name → Bool) (ns : List Name) → length ns ≤ first p ns → (i : ℕ) → i < length ns → p (slice_index_or ns i (name [] true)) ≡ false
none_first p [] none i inside = absurd (omega arith)
none_first p (n ∷ ns) none i inside = none_at (p n) p n ns refl (none_first p ns) none i inside

abbrev NotAmong : Name → List Name → Type 0
NotAmong x ns = (i : ℕ) → i < length ns → x ≡ slice_index_or ns i (name [] true) → ⊥

-- a statement has a place, and its name is there, or none has its name
pub record Found (x : Name) (ns : List Name) (at : ℕ) : Type 0 where
  pub inside : at < length ns
  pub here : slice_index_or ns at (name [] true) ≡ x
  pub is : position (is_same x) ns ≡ Some at

pub record Absent (x : Name) (ns : List Name) : Type 0 where
  pub none : (i : ℕ) → i < length ns → x ≡ slice_index_or ns i (name [] true) → ⊥
  pub is : position (is_same x) ns ≡ None

found_at : (x : Name) (ns : List Name) → position_or_len (is_same x) ns < length ns → Found x ns (position_or_len (is_same x) ns)
found_at x ns lt =
    let is : position (is_same x) ns ≡ Some (position_or_len (is_same x) ns) = rw (lt-ltb (position_or_len (is_same x) ns) (length ns) lt) refl in
    let p = position-Some (is_same x) ns (position_or_len (is_same x) ns) (name [] true) is in
    record { inside = lt; here = sym (same_equal x _ p.1); is = is }

absent : (x : Name) (ns : List Name) → length ns ≤ position_or_len (is_same x) ns → Absent x ns
absent x ns ge =
    let e : first (is_same x) ns ≡ position_or_len (is_same x) ns = is_position_or_len (first (is_same x)) (is_same x) refl (λ y ys. refl) ns in
    record {
      none = λ i inside same. not_same x _ (none_first (is_same x) ns (omega (arith, e)) i inside) same;
      is = rw (le-ltb (position_or_len (is_same x) ns) (length ns) ge) refl;
    }

pub search_name : (x : Name) (ns : List Name) → ((at : ℕ) × Found x ns at) ⊎ Absent x ns
search_name x ns = elim (cases_lt (position_or_len (is_same x) ns) (length ns)) [
  | inl lt ↦ inl (position_or_len (is_same x) ns, found_at x ns lt)
  | inr ge ↦ inr (absent x ns ge)
]
