-- The events that a listener has got, one after the other.
use Rattle.std.specs.Prelude.{◌≡◌, ◌-◌, ◌^◌, ◌≤◌, List, [], ◌∷◌, ◌++◌, length, Result, Ok, Err, ◌⊎◌}
use Rattle.cqlp_capture_streams.specs.declared.fault.StreamsFault.{StreamsFault}
use Rattle.cqlp_capture_streams.specs.declared.fault.StreamsFault.TheVariants as fault
use Rattle.cqlp_capture_streams.specs.declared.listener.Listener as listener
use Rattle.cqlp_capture_streams.specs.ConnectionEvents.{ConnectionEvent}

-- ---- what is seen of it: the view after an event, and what a fault may leave

module _ {V : Type 0} (after : V → ConnectionEvent → V) where
  -- all of it, in order
  abbrev pub after_all : V → List ConnectionEvent → V
  after_all v [] = v
  after_all v (s ∷ ss) = after_all (after v s) ss

  -- There was no end to it, of which `endless` holds then; or memory was refused before the next; or at the last of it the listener failed.
  abbrev pub FailsAtLast : (faulted : V → ConnectionEvent → StreamsFault → V → Type 0) → (endless : Type 0) → V → List ConnectionEvent → StreamsFault → V
      → Type 0
  FailsAtLast faulted endless v ss e w =
      ((e ≡ fault.TooManyTurns) × endless × (w ≡ after_all v ss))
      ⊎ (((e ≡ fault.NoMemory) × (w ≡ after_all v ss))
      ⊎ ((front : List ConnectionEvent) × (s : ConnectionEvent) × (ss ≡ front ++ s ∷ []) × faulted (after_all v front) s e w))

-- how many steps are made at most for one thing
abbrev pub AreEndless : {X : Type 0} → List X → Type 0
AreEndless xs = 2 ^ 64 - 1 ≤ length xs

-- ---- a listener that reports what it has got

-- It has got this, and goes on to report what it has got; or it failed at it.
abbrev pub GetsOne : {L : Type 0} → listener.Ghosts L → L → ConnectionEvent → Result (Unit {0}) StreamsFault → L → Type 0
GetsOne m old s (Ok u) new = m.reports new × (m.view new ≡ m.after (m.view old) s)
GetsOne m old s (Err e) new = m.faulted (m.view old) s e (m.view new)

-- So of all of this, in order.
abbrev pub GetsAll : {L : Type 0} → listener.Ghosts L → L → List ConnectionEvent → Result (Unit {0}) StreamsFault → L → Type 0
GetsAll m old ss (Ok u) new = m.reports new × (m.view new ≡ after_all m.after (m.view old) ss)
GetsAll m old ss (Err e) new = FailsAtLast m.after m.faulted (AreEndless ss) (m.view old) ss e (m.view new)

-- It has got what was reported, of which this holds.
abbrev pub Gets : {L : Type 0} → listener.Ghosts L → (List ConnectionEvent → Type 0) → L → Result (Unit {0}) StreamsFault → L → Type 0
Gets m delivered old r new = m.reports old → (ss : List ConnectionEvent) × delivered ss × GetsAll m old ss r new
