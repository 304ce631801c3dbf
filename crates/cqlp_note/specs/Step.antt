-- Reading from left to right by steps.
use Rattle.std.specs.Prelude.{◌≡◌, ℕ, List, [], ◌∷◌, drop}
use Rattle.cqlp_note.specs.declared.refusal.Reason.{Reason}
use Rattle.cqlp_note.specs.Reader.{Got, Reader, Gives, Refuses, Takes, Idles, says}
use Rattle.cqlp_note.specs.Field.{FieldValue, FieldReader}

-- One step gives an event at an offset, and the place after it, which goes by how many bytes were taken; or it
-- refuses the bytes at an offset.
pub record Emitted (E P : Type 0) : Type 0 where
  pub at : ℕ
  pub event : E
  pub after : ℕ → P

abbrev pub Step : (E P : Type 0) → Type 0
Step E P = Reader (Emitted E P) (ℕ × Reason)

abbrev pub Emit : {E P : Type 0} → (at : ℕ) → E → (ℕ → P) → Step E P
Emit at e after = Gives (record { at = at; event = e; after = after })

-- what follows a field, whose faults are at its first byte
abbrev pub after_field : {E P : Type 0} → (at : ℕ) → FieldReader → (FieldValue → Step E P) → Step E P
after_field at (Gives v) next = next v
after_field at (Refuses why) next = Refuses (at, why)
after_field at Idles next = Idles
after_field at (Takes n f) next = Takes n (λ c. after_field at (f c) next)

-- a step whose events and places are parts of others
abbrev pub map_step : {E P F Q : Type 0} → (E → F) → (P → Q) → Step E P → Step F Q
map_step f g (Gives x) = Emit x.at (f x.event) (λ used. g (x.after used))
map_step f g (Refuses fault) = Refuses fault
map_step f g Idles = Idles
map_step f g (Takes n next) = Takes n (λ c. map_step f g (next c))

-- These steps, from p over these bytes, say these events and lead to q, before the bytes that are left.
abbrev pub Runs : {E P : Type 0} → (P → Step E P) → P → List ℕ → List (ℕ × E) → P → List ℕ → Type 0
Runs step p bytes [] q rest = (q ≡ p) × (rest ≡ bytes)
Runs step p bytes (e ∷ es) q rest =
    (used : ℕ) × (after : _) × (says (step p) 0 bytes ≡ Got (record { at = e.0; event = e.1; after = after }) used)
    × Runs step (after used) (drop used bytes) es q rest
