-- What lies at a position.
use Rattle.std.proofs.Common.{◌≡◌, ℕ, zero, suc, ◌+◌, ◌-◌, ◌<◌, ◌≤◌, Bool, true, List, [], ◌∷◌, ◌++◌, length, take, drop, get_or, refl, sym, ap, ◌∙◌}
use Rattle.std.proofs.Common.{inl, inr, arith}
use Rattle.std.specs.Prelude.{Option, Some, None, insert, ◌&&◌, nat_eq}
use Rattle.std.proofs.lemmas.Bool.{cases_lt, lt-ltb, le-ltb}
use Rattle.cqlp_tcp_reassembly.specs.Segments.{Segment}
use Rattle.cqlp_tcp_reassembly.specs.Runs.{EarlyRun, run_end}
use Rattle.cqlp_tcp_reassembly.specs.Laws.{AreInOrder, Carried, Entry, captured_byte, carried, carried_entry, cut_off, early_entry, entry_at, first}
use Rattle.cqlp_tcp_reassembly.specs.Laws.{first_entry, run_entry, segment_entry, with_more}

-- ---- one stretch of bytes

pub entry_before : (start : ℕ) (bytes : List ℕ) (missing : ℕ) (begins : Bool) (time : Option ℕ) (p : ℕ) → p < start
    → entry_at start bytes missing begins time p ≡ None
entry_before start bytes missing begins time p lt = rw (lt-ltb p start lt) refl

pub entry_byte : (start : ℕ) (bytes : List ℕ) (missing : ℕ) (begins : Bool) (time : Option ℕ) (p : ℕ) → start ≤ p → p < start + length bytes
    → entry_at start bytes missing begins time p ≡ Some (captured_byte (get_or bytes (p - start) 0) (begins && nat_eq p start) time)
entry_byte start bytes missing begins time p le lt = rw (le-ltb p start le, lt-ltb p (start + length bytes) lt) refl

pub entry_cut : (start : ℕ) (bytes : List ℕ) (missing : ℕ) (begins : Bool) (time : Option ℕ) (p : ℕ) → start + length bytes ≤ p
    → p < start + length bytes + missing
    → entry_at start bytes missing begins time p ≡ Some (cut_off time)
entry_cut start bytes missing begins time p le lt =
    rw (le-ltb p start (omega arith), le-ltb p (start + length bytes) le, lt-ltb p (start + length bytes + missing) lt) refl

pub entry_past : (start : ℕ) (bytes : List ℕ) (missing : ℕ) (begins : Bool) (time : Option ℕ) (p : ℕ) → start + length bytes + missing ≤ p
    → entry_at start bytes missing begins time p ≡ None
entry_past start bytes missing begins time p le =
    rw (le-ltb p start (omega arith), le-ltb p (start + length bytes) (omega arith), le-ltb p (start + length bytes + missing) le) refl

-- within it there is something
pub entry_some : (start : ℕ) (bytes : List ℕ) (missing : ℕ) (begins : Bool) (time : Option ℕ) (p : ℕ) → start ≤ p → p < start + length bytes + missing
    → (e : Entry) × (entry_at start bytes missing begins time p ≡ Some e)
entry_some start bytes missing begins time p le lt = elim (cases_lt p (start + length bytes)) [
  | inl here ↦ (captured_byte (get_or bytes (p - start) 0) (begins && nat_eq p start) time, entry_byte start bytes missing begins time p le here)
  | inr past ↦ (cut_off time, entry_cut start bytes missing begins time p past lt)
]

-- ---- the first of several

pub first_none : (o : Option Entry) → first o None ≡ o
first_none None = refl
first_none (Some e) = refl

pub first_assoc : (a b c : Option Entry) → first (first a b) c ≡ first a (first b c)
first_assoc None b c = refl
first_assoc (Some e) b c = refl

pub first_joined : (a b : List Carried) (p : ℕ) → first_entry (a ++ b) p ≡ first (first_entry a p) (first_entry b p)
first_joined [] b p = refl
first_joined (c ∷ a) b p = ap (first (carried_entry c p)) (first_joined a b p) ∙ sym (first_assoc (carried_entry c p) (first_entry a p) (first_entry b p))

pub first_more : (segments : List Carried) (start : ℕ) (g : Segment) (end p : ℕ)
    → first_entry (with_more segments start g end) p ≡ first (first_entry segments p) (carried_entry (carried start g end) p)
first_more segments start g end p =
    first_joined segments (carried start g end ∷ []) p ∙ ap (first (first_entry segments p)) (first_none (carried_entry (carried start g end) p))

-- past its end a segment brings nothing, and before it what it has
pub carried_past : (start : ℕ) (g : Segment) (end p : ℕ) → end ≤ p → carried_entry (carried start g end) p ≡ None
carried_past start g end p le = rw (le-ltb p end le) refl

pub carried_within : (start : ℕ) (g : Segment) (end p : ℕ) → p < end → carried_entry (carried start g end) p ≡ segment_entry start g p
carried_within start g end p lt = rw (lt-ltb p end lt) refl

-- it brings nothing before its start
pub carried_before : (start : ℕ) (g : Segment) (end p : ℕ) → p < start → carried_entry (carried start g end) p ≡ None
carried_before start g end p lt = elim (cases_lt p end) [
  | inl here ↦ carried_within start g end p here ∙ entry_before start g.bytes g.control.missing true g.time p lt
  | inr past ↦ carried_past start g end p past
]

-- so nothing changes past its end, nor where one carried something before
pub more_past : (segments : List Carried) (start : ℕ) (g : Segment) (end p : ℕ) → end ≤ p
    → first_entry (with_more segments start g end) p ≡ first_entry segments p
more_past segments start g end p le =
    first_more segments start g end p ∙ ap (first (first_entry segments p)) (carried_past start g end p le) ∙ first_none (first_entry segments p)

pub more_some : (segments : List Carried) (start : ℕ) (g : Segment) (end p : ℕ) (e : Entry) → first_entry segments p ≡ Some e
    → first_entry (with_more segments start g end) p ≡ Some e
more_some segments start g end p e is =
    first_more segments start g end p ∙ ap (λ (o : Option Entry). first o (carried_entry (carried start g end) p)) is

pub more_none : (segments : List Carried) (start : ℕ) (g : Segment) (end p : ℕ) → first_entry segments p ≡ None
    → first_entry (with_more segments start g end) p ≡ carried_entry (carried start g end) p
more_none segments start g end p is =
    first_more segments start g end p ∙ ap (λ (o : Option Entry). first o (carried_entry (carried start g end) p)) is

-- ---- what came early

-- before the first there is nothing
pub early_before : (from : ℕ) (runs : List EarlyRun) (p : ℕ) → AreInOrder from runs → p < from → early_entry runs p ≡ None
early_before from [] p order lt = refl
early_before from (r ∷ runs) p order lt =
    let less : p < r.at = omega (arith, order.0) in
    let far : p < run_end r = omega (arith, order.1) in
    ap (λ (o : Option Entry). first o (early_entry runs p)) (entry_before r.at r.bytes r.missing r.begins r.time p less) ∙ early_before
    (run_end r) runs p order.2 far

pub early_joined : (a b : List EarlyRun) (p : ℕ) → early_entry (a ++ b) p ≡ first (early_entry a p) (early_entry b p)
early_joined [] b p = refl
early_joined (r ∷ a) b p = ap (first (run_entry r p)) (early_joined a b p) ∙ sym (first_assoc (run_entry r p) (early_entry a p) (early_entry b p))

pub early_parts : (runs : List EarlyRun) (i p : ℕ) → first (early_entry (take i runs) p) (early_entry (drop i runs) p) ≡ early_entry runs p
early_parts [] zero p = refl
early_parts [] (suc i) p = refl
early_parts (r ∷ runs) zero p = refl
early_parts (r ∷ runs) (suc i) p =
    first_assoc (run_entry r p) (early_entry (take i runs) p) (early_entry (drop i runs) p) ∙ ap (first (run_entry r p)) (early_parts runs i p)

-- one more that has nothing at a position, or where the others have nothing
pub early_insert_other : (runs : List EarlyRun) (i : ℕ) (r : EarlyRun) (p : ℕ) → run_entry r p ≡ None → early_entry (insert runs i r) p ≡ early_entry runs p
early_insert_other runs i r p none =
    early_joined (take i runs) (r ∷ drop i runs) p
    ∙ ap (λ (o : Option Entry). first (early_entry (take i runs) p) (first o (early_entry (drop i runs) p))) none
    ∙ early_parts runs i p

first_nothing : (a b c : Option Entry) → first a b ≡ None → first a (first c b) ≡ c
first_nothing (Some e) b c none = absurd cc
first_nothing None (Some e) c none = absurd cc
first_nothing None None c none = first_none c

pub early_insert_here : (runs : List EarlyRun) (i : ℕ) (r : EarlyRun) (p : ℕ) → early_entry runs p ≡ None → early_entry (insert runs i r) p ≡ run_entry r p
early_insert_here runs i r p none =
    early_joined (take i runs) (r ∷ drop i runs) p
    ∙ first_nothing (early_entry (take i runs) p) (early_entry (drop i runs) p) (run_entry r p) (early_parts runs i p ∙ none)
