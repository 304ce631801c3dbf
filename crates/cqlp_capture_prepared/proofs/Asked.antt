-- What requests say, step by step.
use Rattle.std.proofs.Common.{◌≡◌, ◌-◌, ◌<◌, ◌&&◌, ◌==◌, ℕ, zero, suc, Bool, true, false, List, take, drop, if◌then◌else◌, None, refl, sym, ap, arith}
use Rattle.cqlp_observer.specs.declared.heads.Heads.{Heads}
use Rattle.cqlp_observer.specs.declared.heads.Heard.{Heard}
use Rattle.cqlp_observer.specs.declared.heads.HeardStep.{HeardStep}
use Rattle.cqlp_observer.specs.Directions as direction
use Rattle.cqlp_observer.specs.Directions.{Steps, stepping}
use Rattle.cqlp_capture_prepared.specs.Requests.{Asked, all_asked, heard_as, is_done, with_heads}

-- what a step says, and those after it
abbrev pub next : Heard → Asked → Asked → Asked
next h t k = if is_done h then t else k

pub asked_next : (left : ℕ) (begins : Bool) (b : List ℕ) (a : Asked) (x : HeardStep) (v : Heads) → 0 < left → stepping x v ≡ direction.heard None begins b a.requests.heads
    → all_asked left begins b a ≡ next x.heard (heard_as (take x.used b) x.heard (with_heads v a)) (all_asked (left - 1) (begins && x.used == 0) (drop x.used b) (heard_as (take x.used b) x.heard (with_heads v a)))
asked_next zero begins b a x v some e = absurd (omega arith)
asked_next (suc k) begins b a x v some e =
    let less : suc k - 1 ≡ k = omega arith in
    rw less (ap (λ (z : Steps). next z.step.heard (heard_as (take z.step.used b) z.step.heard (with_heads z.after a)) (all_asked k (begins && z.step.used == 0) (drop z.step.used b) (heard_as (take z.step.used b) z.step.heard (with_heads z.after a)))) (sym e))

pub asked_none : (left : ℕ) (begins : Bool) (b : List ℕ) (a : Asked) → (0 < left → ⊥) → all_asked left begins b a ≡ a
asked_none zero begins b a none = refl
asked_none (suc k) begins b a none = absurd (none (omega arith))

if_true : (d : Bool) (t k : Asked) → d ≡ true → (if d then t else k) ≡ t
if_true true t k e = refl
if_true false t k e = absurd cc

if_false : (d : Bool) (t k : Asked) → d ≡ false → (if d then t else k) ≡ k
if_false true t k e = absurd cc
if_false false t k e = refl

pub next_is_done : (h : Heard) (t k : Asked) → is_done h ≡ true → next h t k ≡ t
next_is_done h t k e = if_true (is_done h) t k e

pub next_goes_on : (h : Heard) (t k : Asked) → is_done h ≡ false → next h t k ≡ k
next_goes_on h t k e = if_false (is_done h) t k e
