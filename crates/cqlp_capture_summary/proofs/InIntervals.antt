-- Each request is counted in one interval.
use Rattle.std.proofs.Common.{◌≡◌, ◌∙◌, ◌/◌, ◌<◌, ◌≤◌, ◌==◌, ℕ, Bool, true, false, List, [], ◌∷◌, ◌++◌, if◌then◌else◌, Option, Some, None, IfSome, IsSomeAnd, max, refl, sym, ap, subst, arith, append_assoc, le_trans, lt_of_lt_of_le}
use Rattle.std.proofs.Math.Nat.{div-mul-le_self}
use Rattle.std.proofs.lemmas.Bool.{ltb-true}
use Rattle.std.proofs.lemmas.Grind.{common_steps}
use Rattle.std.proofs.lemmas.List.Elements.{All-cons}
use Rattle.std.proofs.lemmas.Nat.{le-div}
use Rattle.std.specs.List.{All}
use Rattle.cqlp_capture_summary.specs.Counts.{Request, Tally}
use Rattle.cqlp_capture_summary.specs.Heaviest.{tallied_all}
use Rattle.cqlp_capture_summary.specs.Intervals.{interval_of, is_later, is_over, tallies_from}
use Rattle.cqlp_capture_summary.specs.Laws.{CountsEachInOneInterval, IntervalsRise, Rise, merged_all}
use Rattle.cqlp_capture_summary.specs.Merging.{merged}
use Rattle.cqlp_capture_summary.specs.Tallies.{counted, later, none_counted, tallied, tallied_request, with_answer, with_seen_if, with_time_if}
use Rattle.cqlp_capture_summary.proofs.Entries.{tallied_append}
use Rattle.cqlp_capture_summary.proofs.Merges.{merge_counts_both}

counts_one : (seconds : ℕ) (xs : List Request) (r : Request) (rs : List Request) (d : Bool)
    → ((ys : List Request) → merged_all (tallies_from seconds (tallied_all ys none_counted) rs) ≡ tallied_all (ys ++ rs) none_counted)
    → merged_all ((if d then tallied_all xs none_counted ∷ [] else []) ++ tallies_from seconds (tallied_request r (if d then none_counted else tallied_all xs none_counted)) rs)
    ≡ tallied_all (xs ++ r ∷ rs) none_counted
counts_one seconds xs r rs true more =
    ap (λ (m : Tally). merged m (tallied_all xs none_counted)) (more (r ∷ [])) ∙ merge_counts_both xs (r ∷ rs)
counts_one seconds xs r rs false more =
    ap (λ (t : Tally). merged_all (tallies_from seconds t rs)) (sym (tallied_append xs (r ∷ []) none_counted))
    ∙ more (xs ++ r ∷ [])
    ∙ ap (λ (l : List Request). tallied_all l none_counted) (append_assoc xs (r ∷ []) rs)

-- behind requests that are counted in the interval that is open
counts_from : (seconds : ℕ) (rs xs : List Request) → merged_all (tallies_from seconds (tallied_all xs none_counted) rs) ≡ tallied_all (xs ++ rs) none_counted
counts_from seconds [] xs = merge_counts_both xs []
counts_from seconds (r ∷ rs) xs = counts_one seconds xs r rs (is_over seconds r.at (tallied_all xs none_counted)) (counts_from seconds rs)

pub counts_each : CountsEachInOneInterval
counts_each seconds rs = counts_from seconds rs []

-- ---- a request is counted, and what was the last time before

last_timed : (took : Option ℕ) (t : Tally) → (with_time_if took t).last ≡ t.last
last_timed None t = refl
last_timed (Some n) t = refl

last_answered : (a : Bool) (t : Tally) → (with_answer a t).last ≡ t.last
last_answered true t = refl
last_answered false t = refl

later_none : (last : Option ℕ) → last ≡ later last None
later_none None = refl
later_none (Some n) = refl

last_seen : (at : Option ℕ) (t : Tally) → (with_seen_if at t).last ≡ later t.last at
last_seen None t = later_none t.last
last_seen (Some n) t = refl

last_after : (r : Request) (t : Tally) → (tallied_request r t).last ≡ later t.last r.at
last_after r t =
    last_seen r.at (with_answer r.is_answered (tallied r.entry t))
    ∙ ap (λ (l : Option ℕ). later l r.at) (last_answered r.is_answered (tallied r.entry t) ∙ last_timed r.entry.took _)

count_timed : (took : Option ℕ) (t : Tally) → (with_time_if took t).count ≡ t.count
count_timed None t = refl
count_timed (Some n) t = refl

count_answered : (a : Bool) (t : Tally) → (with_answer a t).count ≡ t.count
count_answered true t = refl
count_answered false t = refl

count_seen : (at : Option ℕ) (t : Tally) → (with_seen_if at t).count ≡ t.count
count_seen None t = refl
count_seen (Some n) t = refl

count_after : (r : Request) (t : Tally) → (tallied_request r t).count ≡ counted t.count 1
count_after r t =
    count_seen r.at (with_answer r.is_answered (tallied r.entry t))
    ∙ count_answered r.is_answered (tallied r.entry t) ∙ count_timed r.entry.took _

some_counted : (n : ℕ) → (counted n 1 == 0) ≡ false
some_counted n = grind (arith, common_steps)

has_some : (r : Request) (t : Tally) → ((tallied_request r t).count == 0) ≡ false
has_some r t = ap (λ (n : ℕ). n == 0) (count_after r t) ∙ some_counted t.count

-- ---- intervals and times

grows : (seconds a b : ℕ) → a ≤ b → interval_of seconds a ≤ interval_of seconds b
grows seconds a b le =
    let below : a / 1_000_000_000 ≤ b / 1_000_000_000 = omega (arith, le) in
    le-div (interval_of seconds a) (b / 1_000_000_000) (max seconds 1) (omega arith)
    (le_trans (div-mul-le_self (a / 1_000_000_000) (max seconds 1)) below)

-- the last time is behind an interval
abbrev IsBehind : (seconds number : ℕ) → (last : Option ℕ) → Type 0
IsBehind seconds number last = IsSomeAnd last (λ time. number < interval_of seconds time)

stays_behind : (seconds number : ℕ) (last at : Option ℕ) → IsBehind seconds number last → IsBehind seconds number (later last at)
stays_behind seconds number None at behind = absurd behind
stays_behind seconds number (Some a) None behind = behind
stays_behind seconds number (Some a) (Some b) behind = lt_of_lt_of_le behind (grows seconds a (max a b) (omega arith))

-- what opens an interval is behind the one before
opens_behind : (seconds last : ℕ) (at : Option ℕ) → is_later seconds (Some last) at ≡ true → IsBehind seconds (interval_of seconds last) at
opens_behind seconds last None e = absurd cc
opens_behind seconds last (Some time) e = ltb-true (interval_of seconds last) (interval_of seconds time) e

goes_behind : (seconds number : ℕ) (last at : Option ℕ) → IsBehind seconds number last → is_later seconds last at ≡ true → IsBehind seconds number at
goes_behind seconds number None at behind e = absurd behind
goes_behind seconds number (Some l) None behind e = absurd cc
goes_behind seconds number (Some l) (Some time) behind e =
    let above = ltb-true (interval_of seconds l) (interval_of seconds time) e in omega (arith, behind, above)

later_first : (at : Option ℕ) → later None at ≡ at
later_first at = refl

over_is_later : (seconds : ℕ) (at : Option ℕ) (t : Tally) → (t.count == 0) ≡ false → is_over seconds at t ≡ is_later seconds t.last at
over_is_later seconds at t some = rw some refl

-- ---- all intervals behind one

all_none : {X : Type 0} (P : X → Type 0) → All P []
all_none P = λ k d within. absurd (omega (arith, within))

behind_one : (seconds number : ℕ) (r : Request) (rs : List Request) (t : Tally) (d : Bool) → is_later seconds t.last r.at ≡ d → IsBehind seconds number t.last
    → ((u : Tally) → (u.count == 0) ≡ false → IsBehind seconds number u.last → All (λ (w : Tally). IsBehind seconds number w.last) (tallies_from seconds u rs))
    → All (λ (w : Tally). IsBehind seconds number w.last) ((if d then t ∷ [] else []) ++ tallies_from seconds (tallied_request r (if d then none_counted else t)) rs)
behind_one seconds number r rs t true e behind more =
    All-cons (λ (w : Tally). IsBehind seconds number w.last) t _ behind
    (more (tallied_request r none_counted) (has_some r none_counted)
    (subst (IsBehind seconds number) (sym (last_after r none_counted)) (goes_behind seconds number t.last r.at behind e)))
behind_one seconds number r rs t false e behind more =
    more (tallied_request r t) (has_some r t) (subst (IsBehind seconds number) (sym (last_after r t)) (stays_behind seconds number t.last r.at behind))

all_behind : (seconds number : ℕ) (rs : List Request) (t : Tally) → (t.count == 0) ≡ false → IsBehind seconds number t.last → All (λ (w : Tally). IsBehind seconds number w.last) (tallies_from seconds t rs)
all_behind seconds number [] t some behind = All-cons (λ (w : Tally). IsBehind seconds number w.last) t [] behind (all_none _)
all_behind seconds number (r ∷ rs) t some behind =
    behind_one seconds number r rs t (is_over seconds r.at t) (sym (over_is_later seconds r.at t some)) behind (all_behind seconds number rs)

-- ---- each behind the ones before

abbrev IsLaterThan : (seconds : ℕ) → (last : Option ℕ) → Tally → Type 0
IsLaterThan seconds last u = IfSome last (λ l. IsSomeAnd u.last (λ next. interval_of seconds l < interval_of seconds next))

all_known : (seconds : ℕ) (last : Option ℕ) (r : Request) (rs : List Request) → is_later seconds last r.at ≡ true → All (IsLaterThan seconds last) (tallies_from seconds (tallied_request r none_counted) rs)
all_known seconds None r rs e = λ k d within. tt
all_known seconds (Some l) r rs e =
    all_behind seconds (interval_of seconds l) rs (tallied_request r none_counted) (has_some r none_counted)
    (subst (IsBehind seconds (interval_of seconds l)) (sym (last_after r none_counted)) (opens_behind seconds l r.at e))

rise_one : (seconds : ℕ) (r : Request) (rs : List Request) (t : Tally) (d : Bool) → is_later seconds t.last r.at ≡ d
    → ((u : Tally) → (u.count == 0) ≡ false → Rise seconds (tallies_from seconds u rs))
    → Rise seconds ((if d then t ∷ [] else []) ++ tallies_from seconds (tallied_request r (if d then none_counted else t)) rs)
rise_one seconds r rs t true e more = (all_known seconds t.last r rs e, more (tallied_request r none_counted) (has_some r none_counted))
rise_one seconds r rs t false e more = more (tallied_request r t) (has_some r t)

rise_from : (seconds : ℕ) (rs : List Request) (t : Tally) → (t.count == 0) ≡ false → Rise seconds (tallies_from seconds t rs)
rise_from seconds [] t some = (all_none _, tt)
rise_from seconds (r ∷ rs) t some = rise_one seconds r rs t (is_over seconds r.at t) (sym (over_is_later seconds r.at t some)) (rise_from seconds rs)

pub intervals_rise : IntervalsRise
intervals_rise seconds [] = (all_none _, tt)
intervals_rise seconds (r ∷ rs) = (λ k d within. tt, rise_from seconds rs (tallied_request r none_counted) (has_some r none_counted))
