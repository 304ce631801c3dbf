-- What other connections say, step by step.
use Rattle.std.proofs.Common.{◌≡◌, ◌-◌, ◌<◌, ◌&&◌, ◌==◌, ℕ, zero, suc, Bool, true, false, List, take, drop, if◌then◌else◌, None, refl, sym, ap, arith}
use Rattle.cqlp_observer.specs.declared.heads.Heads.{Heads}
use Rattle.cqlp_observer.specs.declared.heads.Heard.{Heard}
use Rattle.cqlp_observer.specs.declared.heads.HeardStep.{HeardStep}
use Rattle.cqlp_observer.specs.Directions as direction
use Rattle.cqlp_observer.specs.Directions.{Steps, stepping}
use Rattle.cqlp_capture_rows.specs.OtherConnections.{Learning, Place, all_heard, heard_as, is_done, place}

-- what a step says, and those after it
abbrev pub next : Heard → Place → Place → Place
next h t k = if is_done h then t else k

abbrev after_step : (left n : ℕ) → (begins : Bool) → List ℕ → Learning → Steps → Place
after_step left n begins b l z =
    next z.step.heard (place z.after (heard_as n (take z.step.used b) z.step.heard l))
    (all_heard left n (begins && z.step.used == 0) (drop z.step.used b) z.after (heard_as n (take z.step.used b) z.step.heard l))

pub heard_next : (left n : ℕ) (begins : Bool) (b : List ℕ) (heads : Heads) (l : Learning) (x : HeardStep) (v : Heads) → 0 < left → stepping x v ≡ direction.heard None begins b heads
    → all_heard left n begins b heads l ≡ next x.heard (place v (heard_as n (take x.used b) x.heard l)) (all_heard (left - 1) n (begins && x.used == 0) (drop x.used b) v (heard_as n (take x.used b) x.heard l))
heard_next zero n begins b heads l x v some e = absurd (omega arith)
heard_next (suc k) n begins b heads l x v some e =
    let less : suc k - 1 ≡ k = omega arith in
    rw less (ap (after_step k n begins b l) (sym e))

pub heard_none : (left n : ℕ) (begins : Bool) (b : List ℕ) (heads : Heads) (l : Learning) → (0 < left → ⊥) → all_heard left n begins b heads l ≡ place heads l
heard_none zero n begins b heads l none = refl
heard_none (suc k) n begins b heads l none = absurd (none (omega arith))

if_true : (d : Bool) (t k : Place) → d ≡ true → (if d then t else k) ≡ t
if_true true t k e = refl
if_true false t k e = absurd cc

if_false : (d : Bool) (t k : Place) → d ≡ false → (if d then t else k) ≡ k
if_false true t k e = absurd cc
if_false false t k e = refl

pub next_is_done : (h : Heard) (t k : Place) → is_done h ≡ true → next h t k ≡ t
next_is_done h t k e = if_true (is_done h) t k e

pub next_goes_on : (h : Heard) (t k : Place) → is_done h ≡ false → next h t k ≡ k
next_goes_on h t k e = if_false (is_done h) t k e
