-- How many bytes of a page the events of its cells cover (section 6 of native_protocol_v4.spec).
use Rattle.std.specs.Prelude.{ℕ, ◌+◌, List, [], ◌∷◌, length, if◌then◌else◌}
use Rattle.cqlp_kind.specs.CellStep.{CellEvent, Leaf, Null, Empty, Enter, Leave, Part}
use Rattle.cqlp_kind.specs.Scalars.{content_of}
use Rattle.cqlp_cell.specs.Sizes.{is_counted}
use Rattle.cqlp_grammar.specs.Events.{Event, Cell_at}

-- The four of a length, and then the content of a scalar, or the four of a count. The end of a value has none, and a scalar in parts is
-- not written.
abbrev pub said_size : CellEvent → ℕ
said_size (Leaf level v) = 4 + length (content_of v)
said_size (Null level) = 4
said_size (Empty level) = 4
said_size (Enter level k items) = if is_counted k then 8 else 4
said_size (Leave level items) = 0
said_size (Part level offset c last) = 0

abbrev pub event_size : Event → ℕ
event_size (Cell_at row column e) = said_size e
event_size e = 0

abbrev pub events_size : List Event → ℕ
events_size [] = 0
events_size (e ∷ es) = event_size e + events_size es
