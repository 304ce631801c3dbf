-- The order of statements.
use Rattle.std.proofs.Common.{◌≡◌, ◌+◌, ◌<◌, ◌≤◌, ℕ, zero, suc, Bool, true, false, List, [], ◌∷◌, length, ◌⊎◌, inl, inr, refl, sym, ap, subst, arith, nat_le, nat_lt, take}
use Rattle.std.proofs.lemmas.Bool.{cases_lt, lt-ltb, le-ltb, le-leb, lt-leb}
use Rattle.std.specs.List.{filter}
use Rattle.cqlp_capture_summary.specs.Counts.{Tally}
use Rattle.cqlp_capture_summary.specs.Laws.{DearerComesFirst, EachHasItsRank, FirstComesFirst}
use Rattle.cqlp_capture_summary.specs.Order.{is_as_dear, is_dearer, rank_among, rank_of, tally_at}

abbrev one_if : Bool → ℕ
one_if true = 1
one_if false = 0

by_test : {X : Type 0} (b : Bool) (p : X → Bool) (x : X) (xs : List X) → p x ≡ b → length (filter p (x ∷ xs)) ≡ one_if (p x) + length (filter p xs)
by_test true p x xs e = rw e (omega arith)
by_test false p x xs e = rw e (omega arith)

-- one statement more in front: what it counts for, at place 0 and at a later one
at_front : (time : ℕ) (t : Tally) (ts : List Tally) → rank_among time 0 (t ∷ ts) ≡ one_if (nat_lt time t.time) + rank_among time 0 ts
at_front time t ts = let e = by_test (is_dearer time t) (is_dearer time) t ts refl in omega (arith, e)

behind : (time place : ℕ) (t : Tally) (ts : List Tally) → rank_among time (suc place) (t ∷ ts) ≡ one_if (nat_le time t.time) + rank_among time place ts
behind time place t ts = let e = by_test (is_as_dear time t) (is_as_dear time) t (take place ts) refl in omega (arith, e)

counts : (a b : ℕ) → a ≤ b → one_if (nat_le a b) ≡ 1
counts a b le = ap one_if (le-leb a b le)

counts_more : (a b : ℕ) → a < b → one_if (nat_lt a b) ≡ 1
counts_more a b lt = ap one_if (lt-ltb a b lt)

counts_not : (a b : ℕ) → b ≤ a → one_if (nat_lt a b) ≡ 0
counts_not a b le = ap one_if (le-ltb a b le)

one_most : (b : Bool) → one_if b ≤ 1
one_most true = omega arith
one_most false = omega arith

none_of : (time place : ℕ) → rank_among time place [] ≡ 0
none_of time zero = refl
none_of time (suc place) = refl

most : (ts : List Tally) (time : ℕ) → rank_among time 0 ts ≤ length ts
most [] time = let n = none_of time 0 in omega (arith, n)
most (t ∷ ts) time = let e = at_front time t ts in let m = most ts time in omega (arith, e, m, one_most (nat_lt time t.time))

-- it is not counted itself
within : (ts : List Tally) (place time : ℕ) → place < length ts → (tally_at ts place).time ≡ time → rank_among time place ts < length ts
within [] place time less is = absurd (omega arith)
within (t ∷ ts) zero time less is = let e = at_front time t ts in let n = counts_not time t.time (omega (arith, is)) in let m = most ts time in omega (arith, e, n, m)
within (t ∷ ts) (suc place) time less is =
    let e = behind time place t ts in
    let later = within ts place time (omega arith) is in
    omega (arith, e, later, one_most (nat_le time t.time))

-- What took less has what took more before it, wherever they are.

abbrev Split : (dear cheap time : ℕ) → Type 0
Split dear cheap time =
    ((one_if (nat_lt cheap time) ≡ 1) × (one_if (nat_le cheap time) ≡ 1)) ⊎ ((one_if (nat_lt dear time) ≡ 0) × (one_if (nat_le dear time) ≡ 0))

split : (dear cheap time : ℕ) → cheap < dear → Split dear cheap time
split dear cheap time less = elim (cases_lt cheap time) [
  | inl lt ↦ inl (counts_more cheap time lt, counts cheap time (omega arith))
  | inr ge ↦ inr (counts_not dear time (omega arith), ap one_if (lt-leb dear time (omega arith)))
]

abbrev Weighs : (dear cheap time : ℕ) → Type 0
Weighs dear cheap time =
    (one_if (nat_lt dear time) ≤ one_if (nat_lt cheap time)) × (one_if (nat_lt dear time) ≤ one_if (nat_le cheap time))
    × (one_if (nat_le dear time) ≤ one_if (nat_lt cheap time)) × (one_if (nat_le dear time) ≤ one_if (nat_le cheap time))

weighs_by : (dear cheap time : ℕ) → Split dear cheap time → Weighs dear cheap time
weighs_by dear cheap time (inl p) =
    let a = p.0 in let b = p.1 in let m = one_most (nat_lt dear time) in let n = one_most (nat_le dear time) in
    (omega (arith, a, m), omega (arith, b, m), omega (arith, a, n), omega (arith, b, n))
weighs_by dear cheap time (inr p) = let a = p.0 in let b = p.1 in (omega (arith, a), omega (arith, a), omega (arith, b), omega (arith, b))

weighs : (dear cheap time : ℕ) → cheap < dear → Weighs dear cheap time
weighs dear cheap time less = weighs_by dear cheap time (split dear cheap time less)

cheaper : (ts : List Tally) (a b dear cheap : ℕ) → cheap < dear → rank_among dear a ts ≤ rank_among cheap b ts
cheaper [] a b dear cheap less = let n = none_of dear a in omega (arith, n)
cheaper (t ∷ ts) zero zero dear cheap less =
    let w = (weighs dear cheap t.time less).0 in let d = at_front dear t ts in let e = at_front cheap t ts in let later = cheaper ts 0 0 dear cheap less in
    omega (arith, w, d, e, later)
cheaper (t ∷ ts) zero (suc b) dear cheap less =
    let w = (weighs dear cheap t.time less).1 in let d = at_front dear t ts in let e = behind cheap b t ts in let later = cheaper ts 0 b dear cheap less in
    omega (arith, w, d, e, later)
cheaper (t ∷ ts) (suc a) zero dear cheap less =
    let w = (weighs dear cheap t.time less).2 in let d = behind dear a t ts in let e = at_front cheap t ts in let later = cheaper ts a 0 dear cheap less in
    omega (arith, w, d, e, later)
cheaper (t ∷ ts) (suc a) (suc b) dear cheap less =
    let w = (weighs dear cheap t.time less).3 in let d = behind dear a t ts in let e = behind cheap b t ts in let later = cheaper ts a b dear cheap less in
    omega (arith, w, d, e, later)

-- and itself too
dearer : (ts : List Tally) (a b dear cheap : ℕ) → a < length ts → (tally_at ts a).time ≡ dear → cheap < dear → rank_among dear a ts < rank_among cheap b ts
dearer [] a b dear cheap inside is less = absurd (omega arith)
dearer (t ∷ ts) zero zero dear cheap inside is less =
    let own = counts_not dear t.time (omega (arith, is)) in let other = counts_more cheap t.time (omega (arith, is)) in
    let d = at_front dear t ts in let e = at_front cheap t ts in let later = cheaper ts 0 0 dear cheap less in
    omega (arith, own, other, d, e, later)
dearer (t ∷ ts) zero (suc b) dear cheap inside is less =
    let own = counts_not dear t.time (omega (arith, is)) in let other = counts cheap t.time (omega (arith, is)) in
    let d = at_front dear t ts in let e = behind cheap b t ts in let later = cheaper ts 0 b dear cheap less in
    omega (arith, own, other, d, e, later)
dearer (t ∷ ts) (suc a) zero dear cheap inside is less =
    let w = (weighs dear cheap t.time less).2 in let d = behind dear a t ts in let e = at_front cheap t ts in
    let later = dearer ts a 0 dear cheap (omega arith) is less in
    omega (arith, w, d, e, later)
dearer (t ∷ ts) (suc a) (suc b) dear cheap inside is less =
    let w = (weighs dear cheap t.time less).3 in let d = behind dear a t ts in let e = behind cheap b t ts in
    let later = dearer ts a b dear cheap (omega arith) is less in
    omega (arith, w, d, e, later)

-- ---- of two that took as much

less_or_equal : (a b : ℕ) → one_if (nat_lt a b) ≤ one_if (nat_le a b)
less_or_equal a b = elim (cases_lt a b) [
  | inl lt ↦ let e = counts a b (omega arith) in let m = one_most (nat_lt a b) in omega (arith, e, m)
  | inr ge ↦ let e = counts_not a b ge in omega (arith, e)
]

further : (ts : List Tally) (a b time : ℕ) → a ≤ b → rank_among time a ts ≤ rank_among time b ts
further [] a b time le = let n = none_of time a in omega (arith, n)
further (t ∷ ts) zero zero time le = omega arith
further (t ∷ ts) zero (suc b) time le =
    let w = less_or_equal time t.time in let d = at_front time t ts in let e = behind time b t ts in let later = further ts 0 b time (omega arith) in
    omega (arith, w, d, e, later)
further (t ∷ ts) (suc a) zero time le = absurd (omega arith)
further (t ∷ ts) (suc a) (suc b) time le =
    let d = behind time a t ts in let e = behind time b t ts in let later = further ts a b time (omega arith) in omega (arith, d, e, later)

sooner : (ts : List Tally) (a b time : ℕ) → a < b → b < length ts → (tally_at ts a).time ≡ time → rank_among time a ts < rank_among time b ts
sooner [] a b time less inside is = absurd (omega arith)
sooner (t ∷ ts) a zero time less inside is = absurd (omega arith)
sooner (t ∷ ts) zero (suc b) time less inside is =
    let own = counts_not time t.time (omega (arith, is)) in let other = counts time t.time (omega (arith, is)) in
    let d = at_front time t ts in let e = behind time b t ts in let later = further ts 0 b time (omega arith) in
    omega (arith, own, other, d, e, later)
sooner (t ∷ ts) (suc a) (suc b) time less inside is =
    let d = behind time a t ts in let e = behind time b t ts in let later = sooner ts a b time (omega arith) (omega arith) is in omega (arith, d, e, later)

-- ---- the laws

pub each_has_its_rank : EachHasItsRank
each_has_its_rank ts place less = within ts place _ less refl

pub dearer_comes_first : DearerComesFirst
dearer_comes_first ts a b inside other less = dearer ts a b _ _ inside refl less

pub first_comes_first : FirstComesFirst
first_comes_first ts a b ahead inside same =
    subst (λ n. rank_of a ts < rank_among n b ts) (sym same) (sooner ts a b (tally_at ts a).time ahead inside refl)
