-- The first part that no run covers.
use Rattle.std.proofs.Common.{◌≡◌, ℕ, suc, ◌+◌, ◌-◌, ◌<◌, ◌≤◌, List, [], ◌∷◌, length, refl, sym, subst, ap, ◌∙◌, inl, inr, arith}
use Rattle.std.specs.Prelude.{Option, Some, None, insert, max}
use Rattle.std.proofs.lemmas.Bool.{cases_lt, lt-ltb, le-ltb}
use Rattle.cqlp_tcp_reassembly.specs.declared.run.Part.{Part}
use Rattle.cqlp_tcp_reassembly.specs.Runs.{EarlyRun, behind_last, first_free, free_after, free_part, last_of, part, run_end}
use Rattle.cqlp_tcp_reassembly.specs.Laws.{AreInOrder, Entry, early_entry, first}
use Rattle.cqlp_tcp_reassembly.proofs.Entries.{early_before, entry_past, entry_some}

-- what is known of it: before it the runs cover all from the first position on; within it none; and a run may be put there
pub record IsFree (index base from to : ℕ) (runs : List EarlyRun) (p : Part) : Type 0 where
  pub order : from ≤ p.from
  pub within : p.to ≤ to
  pub empty : p.to ≤ p.from → to ≤ p.from
  pub above : index ≤ p.index
  pub covered : (x : ℕ) → from ≤ x → x < p.from → (e : Entry) × (early_entry runs x ≡ Some e)
  pub free : (x : ℕ) → p.from ≤ x → x < p.to → early_entry runs x ≡ None
  pub fits : (r : EarlyRun) → r.at ≡ p.from → run_end r ≡ p.to → r.at < run_end r → AreInOrder base (insert runs (p.index - index) r)
  -- and where it begins at the first position, the runs lie behind it
  pub next : p.from ≡ base → p.from < p.to → AreInOrder p.to runs

some_first : (r : EarlyRun) (runs : List EarlyRun) (x : ℕ) → r.at ≤ x → x < run_end r → (e : Entry) × (early_entry (r ∷ runs) x ≡ Some e)
some_first r runs x le lt =
    let here = entry_some r.at r.bytes r.missing r.begins r.time x le lt in
    (here.0, ap (λ (o : Option Entry). first o (early_entry runs x)) here.1)

pub past_first : (r : EarlyRun) (runs : List EarlyRun) (x : ℕ) → run_end r ≤ x → early_entry (r ∷ runs) x ≡ early_entry runs x
past_first r runs x le = ap (λ (o : Option Entry). first o (early_entry runs x)) (entry_past r.at r.bytes r.missing r.begins r.time x le)

pub order_from : (base from : ℕ) (runs : List EarlyRun) → AreInOrder base runs → from ≤ base → AreInOrder from runs
order_from base from [] order le = tt
order_from base from (r ∷ runs) order le = (omega (arith, order.0), order.1, order.2)

is_free : (index base from to : ℕ) (runs : List EarlyRun) → AreInOrder base runs → base ≤ from → IsFree index base from to runs (free_part index from to runs)
is_free index base from to [] order le = record {
  order = omega arith;
  within = omega arith;
  empty = λ e. e;
  above = omega arith;
  covered = λ x a b. absurd (omega arith);
  free = λ x a b. refl;
  fits = λ r at end some. rw (let z : index - index ≡ 0 = omega arith in z) (omega arith, some, tt);
  next = λ same some. tt;
}
is_free index base from to (r ∷ runs) order le = elim (cases_lt from r.at) [
  | inl lt ↦
      let few = order.1 in
      rw (lt-ltb from r.at lt) (record {
        order = omega arith;
        within = omega arith;
        empty = λ e. omega arith;
        above = omega arith;
        covered = λ x a b. absurd (omega arith);
        free = λ x a b. early_before r.at (r ∷ runs) x (omega arith, order.1, order.2) (omega arith);
        fits = λ s at end some. rw (let z : index - index ≡ 0 = omega arith in z) (omega arith, some, (omega arith, order.1, order.2));
        next = λ same some. (omega arith, order.1, order.2);
      })
  | inr reached ↦
      let some = order.1 in
      let low = order.0 in
      let later = max from (run_end r) in
      let rest = is_free (index + 1) (run_end r) later to runs order.2 (omega arith) in
      let p = free_part (index + 1) later to runs in
      rw (le-ltb from r.at reached) (record {
        order = omega (arith, rest.order);
        within = rest.within;
        empty = rest.empty;
        above = omega (arith, rest.above);
        covered = λ x a b. elim (cases_lt x (run_end r)) [
          | inl here ↦ some_first r runs x (omega arith) here
          | inr past ↦ let h = rest.covered x (omega arith) b in (h.0, past_first r runs x past ∙ h.1)
        ];
        free = λ x a b. past_first r runs x (omega (arith, rest.order)) ∙ rest.free x a b;
        fits = λ s at end more.
            let above = rest.above in
            rw (let z : p.index - index ≡ suc (p.index - (index + 1)) = omega arith in z) (low, some, rest.fits s at end more);
        next = λ same more. absurd (omega (arith, rest.order));
      })
]

-- ---- behind the last

last_above : (base : ℕ) (runs : List EarlyRun) (last : EarlyRun) → AreInOrder base runs → last_of runs ≡ Some last → base ≤ last.at
last_above base [] last order is = absurd cc
last_above base (r ∷ []) last order is = let low = order.0 in let same : r ≡ last = cc in subst (λ (x : EarlyRun). base ≤ x.at) same low
last_above base (r ∷ s ∷ runs) last order is =
    let low = order.0 in
    let some = order.1 in
    let later = last_above (run_end r) (s ∷ runs) last order.2 is in
    omega arith

free_last : (index base from to : ℕ) (runs : List EarlyRun) (last : EarlyRun) → AreInOrder base runs → last_of runs ≡ Some last → last.at ≤ from
    → free_part index from to runs ≡ part (index + length runs) (max from (run_end last)) to
free_last index base from to [] last order is le = absurd cc
free_last index base from to (r ∷ []) last order is le =
    let same : r ≡ last = cc in
    let here : r.at ≤ from = subst (λ (x : EarlyRun). x.at ≤ from) (sym same) le in
    rw (le-ltb from r.at here) (
    ap (λ (x : EarlyRun). part (index + 1) (max from (run_end x)) to) same
    ∙ ap (λ (i : ℕ). part i (max from (run_end last)) to) (let e : index + 1 ≡ index + length (r ∷ []) = omega arith in e))
free_last index base from to (r ∷ s ∷ runs) last order is le =
    let later = last_above (run_end r) (s ∷ runs) last order.2 is in
    let some = order.1 in
    rw (le-ltb from r.at (omega arith)) (
    ap (λ (x : ℕ). free_part (index + 1) x to (s ∷ runs)) (let e : max from (run_end r) ≡ from = omega arith in e)
    ∙ free_last (index + 1) (run_end r) from to (s ∷ runs) last order.2 is le
    ∙ ap (λ (i : ℕ). part i (max from (run_end last)) to) (let e : index + 1 + length (s ∷ runs) ≡ index + length (r ∷ s ∷ runs) = omega arith in e))

free_same : (o : Option EarlyRun) (base from to : ℕ) (runs : List EarlyRun) → AreInOrder base runs → last_of runs ≡ o
    → free_after (behind_last o from) from to runs ≡ free_part 0 from to runs
free_same None base from to runs order is = refl
free_same (Some last) base from to runs order is = elim (cases_lt from last.at) [
  | inl before ↦ rw (lt-ltb from last.at before) refl
  | inr reached ↦
      rw (le-ltb from last.at reached) (sym (free_last 0 base from to runs last order is reached
      ∙ ap (λ (i : ℕ). part i (max from (run_end last)) to) (let e : 0 + length runs ≡ length runs = omega arith in e)))
]

pub is_first_free : (base from to : ℕ) (runs : List EarlyRun) → AreInOrder base runs → base ≤ from → IsFree 0 base from to runs (first_free from to runs)
is_first_free base from to runs order le =
    subst (λ (p : Part). IsFree 0 base from to runs p) (sym (free_same (last_of runs) base from to runs order refl)) (is_free 0 base from to runs order le)
