-- Laws of events that C passes.
use Rattle.std.specs.Prelude.{◌≡◌, ⊤, ℕ, ◌^◌, ◌<◌, ◌++◌, FitsSigned, Bool, true, false, List, length, drop, Ok}
use Rattle.std.specs.Int.{w16, w32}
use Rattle.std.specs.Str.{is_utf8}
use Rattle.cqlp_note.specs.Field.{FieldValue}
use Rattle.cqlp_note.specs.Field as field
use Rattle.cqlp_note.specs.Spelling.{HasItsLength}
use Rattle.cqlp_kind.specs.CellStep.{CellEvent}
use Rattle.cqlp_kind.specs.CellStep as cell
use Rattle.cqlp_kind.specs.Scalars.{IsInRange}
use Rattle.cqlp_grammar.specs.Events.{Event, Frame, Holds, Cell_at, Leave, End}
use Rattle.cqlp_c.specs.declared.event.CqlpEvent.{CqlpEvent}
use Rattle.cqlp_c.specs.Events.{Writes, content_of}
use Rattle.cqlp_c.specs.FromC.{content_len, event_from_c}

-- ---- events that a decoder hands out

-- Numbers, arrays and texts are those of a Rust value: in the range of their types, of their lengths, and UTF-8.
abbrev pub ValueIsInRange : FieldValue → Type 0
ValueIsInRange (field.Byte n) = n < 2 ^ 8
ValueIsInRange (field.Short n) = n < 2 ^ 16
ValueIsInRange (field.Int z) = FitsSigned w32 z
ValueIsInRange (field.Uuid bytes) = length bytes ≡ 16
ValueIsInRange (field.Count n) = n < 2 ^ 32
ValueIsInRange (field.Text t) = is_utf8 t ≡ true
ValueIsInRange (field.Inet a port) = HasItsLength a
ValueIsInRange v = ⊤

-- The same of a cell. The end of a value names no row and no column.
abbrev pub CellIsInRange : CellEvent → Type 0
CellIsInRange (cell.Leaf level v) = IsInRange v
CellIsInRange (cell.Enter level k items) = items < 2 ^ 32
CellIsInRange (cell.Leave level items) = ⊥
CellIsInRange e = ⊤

abbrev pub EventIsInRange : Event → Type 0
EventIsInRange (Frame h) = FitsSigned w16 h.stream
EventIsInRange (Holds f v) = ValueIsInRange v
EventIsInRange (Cell_at row column e) = CellIsInRange e
EventIsInRange (Leave level items) = items < 2 ^ 32
EventIsInRange e = ⊤

-- it is a part of a content
abbrev pub is_part : Event → Bool
is_part (Cell_at row column (cell.Part level offset c last)) = true
is_part e = false

-- ---- read back

-- What is read back of an event: itself, but how long a body is, which is counted anew, and how many bytes come after the last field,
-- which are left out.
abbrev pub kept : Event → Event
kept (Frame h) = Frame (record h { length = 0 })
kept (End extra) = End 0
kept e = e

-- What C gets of an event, read back before other contents with the event's own, is that event, and leaves just the others.
abbrev pub IsReadBack : Event → Type 0
IsReadBack e =
    (at : ℕ) (c : CqlpEvent) (others : List ℕ) → Writes c at e
    → (event_from_c c (content_of e ++ others) ≡ Ok (kept e)) × (drop (content_len c) (content_of e ++ others) ≡ others)

-- Each event that a decoder hands out, but a part, is read back.
abbrev pub AreReadBack : Type 0
AreReadBack = (e : Event) → EventIsInRange e → is_part e ≡ false → IsReadBack e
