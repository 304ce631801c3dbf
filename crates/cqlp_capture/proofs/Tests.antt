-- What tests and refusals say.
use Rattle.std.proofs.Common.{◌≡◌, ℕ, ◌≤◌, ◌<◌, Bool, true, false, cond, Result, Ok, Err, refl}
use Rattle.std.proofs.lemmas.Bool.{leb-true, ltb-true, and_parts}
use Rattle.cqlp_capture.specs.declared.event.Emission.{Emission}
use Rattle.cqlp_capture.specs.declared.limits.CaptureLimits.{CaptureLimits}
use Rattle.cqlp_capture.specs.declared.refusal.CaptureRefusal.{CaptureRefusal}
use Rattle.cqlp_capture.specs.Limits.{is_in_range}
use Rattle.cqlp_capture.specs.Numbers.{is_block_length}

-- what follows of limits that are in their ranges
pub record Fits (l : CaptureLimits) : Type 0 where
  pub least : 64 ≤ l.packet
  pub greatest : l.packet ≤ 16777216
  pub some : 1 ≤ l.interfaces
  pub few : l.interfaces ≤ 65536

pub in_range : (l : CaptureLimits) → is_in_range l ≡ true → Fits l
in_range l is =
    let a = and_parts _ _ is in
    let b = and_parts _ _ a.0 in
    let c = and_parts _ _ b.0 in
    record { least = leb-true _ _ c.0; greatest = leb-true _ _ c.1; some = leb-true _ _ b.1; few = leb-true _ _ a.1 }

pub length_is : (least n : ℕ) → is_block_length least n ≡ true → (least ≤ n) × (n < 4294967296)
length_is least n is =
    let a = and_parts _ _ is in
    let b = and_parts _ _ a.0 in
    (leb-true _ _ b.1, ltb-true _ _ a.1)

pub ok_same : (t u : Emission) → ◌≡◌ {A = Result Emission CaptureRefusal} (Ok u) (Ok t) → u ≡ t
ok_same t u h = cc

pub not_refused : (c : Bool) (r : CaptureRefusal) (d : Result Emission CaptureRefusal) (t : Emission) → cond c (Err r) d ≡ Ok t → (c ≡ false) × (d ≡ Ok t)
not_refused true r d t h = absurd (let e : ◌≡◌ {A = Result Emission CaptureRefusal} (Err r) (Ok t) = h in cc)
not_refused false r d t h = (refl, h)

pub allowed : (c : Bool) (r : CaptureRefusal) (d : Result Emission CaptureRefusal) (t : Emission) → cond c d (Err r) ≡ Ok t → (c ≡ true) × (d ≡ Ok t)
allowed true r d t h = (refl, h)
allowed false r d t h = absurd (let e : ◌≡◌ {A = Result Emission CaptureRefusal} (Err r) (Ok t) = h in cc)
