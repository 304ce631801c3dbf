-- Frames, as the values that are made of their parts.
use Rattle.std.proofs.Common.{◌≡◌, ℕ, ◌&&◌, List, [], ◌∷◌, Bool, true, Option, refl, sym, subst}
use Rattle.std.specs.Prelude.{not}
use Rattle.cqlp_note.specs.declared.field.Field.TheVariants as field
use Rattle.cqlp_note.specs.declared.field.Notation.TheVariants as notation
use Rattle.cqlp_note.specs.declared.header.Header.{Header}
use Rattle.cqlp_note.specs.declared.opcode.Opcode.{Opcode}
use Rattle.cqlp_note.specs.Field as note
use Rattle.cqlp_note.specs.Heading.{answers, has}
use Rattle.cqlp_message.specs.Agreement.{message_agrees, opcode_of, there_if}
use Rattle.cqlp_message.specs.FrameValues.{Octets, FrameValue, Message}
use Rattle.cqlp_message.specs.Bodies as body
use Rattle.cqlp_message.specs.Frames.{frame_parts}
use Rattle.cqlp_message.specs.Parts.{Field_is}
use Rattle.cqlp_build.specs.declared.held.FrameEvents.{FrameEvents}
use Rattle.cqlp_build.specs.Building.{BeginsWith}
use Rattle.cqlp_build.specs.FrameEvents.{Builds}
use Rattle.cqlp_build.specs.Productions.{BuildsMessage, IsOf}
use Rattle.cqlp_build.specs.Emitted.{payload_parts, emitted}
use Rattle.cqlp_build.proofs.Several.{both, join}
use Rattle.cqlp_build.proofs.Steps.{as_builds, emitted_four, ◌then◌}

abbrev Announced : Type 0
Announced = ((Unit {0} × Option Octets) × Option (List Octets)) × Option (List (Octets × Option Octets))

abbrev AllParts : Type 0
AllParts = Announced × Message

-- what its header asks of them
abbrev AreOf : Header → AllParts → Type 0
AreOf h p =
    ((((not (has h.flags 0x01) ≡ true) × (there_if (answers h.opcode && has h.flags 0x02) p.0.0.0.1 ≡ true))
    × (there_if (answers h.opcode && has h.flags 0x08) p.0.0.1 ≡ true)) × (there_if (has h.flags 0x04) p.0.1 ≡ true)) × IsOf h.opcode p.1

abbrev frame_from : Header → AllParts → FrameValue
frame_from h p = record {
  flags = h.flags;
  stream = h.stream;
  tracing = p.0.0.0.1;
  warnings = p.0.0.1;
  payload = p.0.1;
  message = p.1;
}

-- what a frame asks of its parts, by its own flags and opcode
abbrev Agree : (flags : ℕ) → Opcode → AllParts → Bool
Agree n o p =
    not (has n 0x01)
    && there_if (answers o && has n 0x02) p.0.0.0.1
    && there_if (answers o && has n 0x08) p.0.0.1
    && there_if (has n 0x04) p.0.1
    && message_agrees p.1

all_of : (a b c d e : Bool) → (a && b && c && d && e) ≡ true → ((((a ≡ true) × (b ≡ true)) × (c ≡ true)) × (d ≡ true)) × (e ≡ true)
all_of a b c d e h =
    let p = both (a && b && c && d) e h in
    let q = both (a && b && c) d p.0 in
    let r = both (a && b) c q.0 in
    (((both a b r.0, r.1), q.1), p.1)

all_to : (a b c d e : Bool) → ((((a ≡ true) × (b ≡ true)) × (c ≡ true)) × (d ≡ true)) × (e ≡ true) → (a && b && c && d && e) ≡ true
all_to a b c d e h = join (a && b && c && d) e (join (a && b && c) d (join (a && b) c (join a b h.0.0.0.0 h.0.0.0.1) h.0.0.1) h.0.1) h.1

from_parts : (h : Header) (p : AllParts) → AreOf h p → BeginsWith h (frame_from h p)
from_parts h p q =
    let m = q.1 in
    let all : Agree h.flags h.opcode p ≡ true = all_to (not (has h.flags 0x01)) (there_if (answers h.opcode && has h.flags 0x02) p.0.0.0.1) (there_if (answers h.opcode && has h.flags 0x08) p.0.0.1) (there_if (has h.flags 0x04) p.0.1) (message_agrees p.1) (q.0, m.agrees) in
    record {
      flags = refl;
      stream = refl;
      opcode = m.opcode;
      agrees = subst (λ (o : Opcode). Agree h.flags o p ≡ true) (sym m.opcode) all;
      built = m.built;
      cells = m.cells;
    }

abbrev parts_in : FrameValue → AllParts
parts_in f = ((((tt, f.tracing), f.warnings), f.payload), f.message)

frame_same : (h : Header) (f : FrameValue) → f.flags ≡ h.flags → f.stream ≡ h.stream → f ≡ frame_from h (parts_in f)
frame_same h f a b = λ i. record { flags = a i; stream = b i; tracing = f.tracing; warnings = f.warnings; payload = f.payload; message = f.message }

to_parts : (h : Header) (f : FrameValue) → BeginsWith h f → AreOf h (parts_in f)
to_parts h f b =
    let own : Agree f.flags (opcode_of f.message) (parts_in f) ≡ true = b.agrees in
    let here : Agree h.flags (opcode_of f.message) (parts_in f) ≡ true = subst (λ (n : ℕ). Agree n (opcode_of f.message) (parts_in f) ≡ true) b.flags own in
    let all : Agree h.flags h.opcode (parts_in f) ≡ true = subst (λ (o : Opcode). Agree h.flags o (parts_in f) ≡ true) b.opcode here in
    let p = all_of (not (has h.flags 0x01)) (there_if (answers h.opcode && has h.flags 0x02) f.tracing) (there_if (answers h.opcode && has h.flags 0x08) f.warnings) (there_if (has h.flags 0x04) f.payload) (message_agrees f.message) all in
    (p.0, record { opcode = b.opcode; agrees = p.1; built = b.built; cells = b.cells })

pub frame_builds : (h : Header) {tracing : Option Octets} {warnings : Option (List Octets)} {payload : Option (List (Octets × Option Octets))} {message : Message} {a b c d e f : FrameEvents}
    → Builds {A = Unit {0}} (λ _. []) (λ _. not (has h.flags 0x01) ≡ true) tt a b
    → Builds (λ o. emitted (body.where_some (λ id. Field_is field.TraceId notation.Uuid (note.Uuid id) ∷ []) o)) (λ o. there_if (answers h.opcode && has h.flags 0x02) o ≡ true) tracing b c
    → Builds (λ o. emitted (body.where_some (body.texts field.Warnings field.Warning) o)) (λ o. there_if (answers h.opcode && has h.flags 0x08) o ≡ true) warnings c d
    → Builds (λ o. emitted (body.where_some (body.counted field.PayloadItems payload_parts) o)) (λ o. there_if (has h.flags 0x04) o ≡ true) payload d e
    → BuildsMessage h.opcode message e f
    → Builds (λ g. emitted (frame_parts g)) (BeginsWith h) (record { flags = h.flags; stream = h.stream; tracing = tracing; warnings = warnings; payload = payload; message = message }) a f
frame_builds h one two three four five =
    as_builds (λ g. emitted (frame_parts g)) (BeginsWith h) (frame_from h)
    (λ p q. emitted_four (body.where_some (λ id. Field_is field.TraceId notation.Uuid (note.Uuid id) ∷ []) p.0.0.0.1) (body.where_some (body.texts field.Warnings field.Warning) p.0.0.1) (body.where_some (body.counted field.PayloadItems payload_parts) p.0.1) (body.message_parts p.1))
    (λ p q. from_parts h p q)
    (λ g b. (parts_in g, to_parts h g b, frame_same h g b.flags b.stream))
    (one then two then three then four then five)
