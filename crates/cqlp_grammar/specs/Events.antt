-- The events of frames, and those that calls hand out.
use Rattle.std.specs.Prelude.{ℕ, Some, None}
use Rattle.cqlp_note.specs.declared.field.Field.{Field}
use Rattle.cqlp_note.specs.declared.header.Header.{Header}
use Rattle.cqlp_note.specs.declared.prim.BoundValue.{BoundValue}
use Rattle.cqlp_note.specs.declared.prim.BoundValue.TheVariants as bound
use Rattle.cqlp_note.specs.Field.{FieldValue}
use Rattle.cqlp_note.specs.Field as field
use Rattle.cqlp_kind.specs.declared.kind.Kind.{Kind}
use Rattle.cqlp_kind.specs.TypeStep.{TypeEvent, IsNode, IsField}
use Rattle.cqlp_kind.specs.CellStep.{CellEvent}
use Rattle.cqlp_kind.specs.CellStep as cell
use Rattle.cqlp_kind.specs.Contents.{value_of as scalar_value}
use Rattle.cqlp_grammar.specs.declared.event.Event as handed_out
use Rattle.cqlp_grammar.specs.declared.event.Event.TheVariants as event

-- The events of a frame: its header, each field, the id of a type option, what a cell holds, and its end, with how
-- many bytes there were after the last field.
pub data Event : Type 0 where
  Frame : Header → Event
  Holds : Field → FieldValue → Event
  Node_of : Kind → Event
  Cell_at : (row column : ℕ) → CellEvent → Event
  Leave : (level items : ℕ) → Event
  End : (extra : ℕ) → Event

-- ---- of types and cells

-- an event in a type option
abbrev pub type_event : TypeEvent → Event
type_event (IsNode k) = Node_of k
type_event (IsField f v) = Holds f v

-- an event in the cell of a row and a column, which the end of a value does not name
abbrev pub cell_event : (row column : ℕ) → CellEvent → Event
cell_event row column (cell.Leave level items) = Leave level items
cell_event row column e = Cell_at row column e

-- ---- as calls hand them out

-- a [value], wherever its bytes lie
abbrev pub bound_of : BoundValue → field.BoundValue
bound_of bound.Null = field.Null
bound_of bound.Unset = field.Unset
bound_of (bound.Bytes c) = field.Known c.now

-- an event, wherever its content lies
abbrev pub event_of : handed_out.Event → Event
event_of (event.Frame h) = Frame h
event_of (event.Byte f n) = Holds f (field.Byte n)
event_of (event.Short f n) = Holds f (field.Short n)
event_of (event.Int f z) = Holds f (field.Int z)
event_of (event.Long f z) = Holds f (field.Long z)
event_of (event.Uuid f c) = Holds f (field.Uuid c)
event_of (event.Count f n) = Holds f (field.Count n)
event_of (event.Text f t) = Holds f (field.Text t.now)
event_of (event.Bytes f None) = Holds f (field.Bytes None)
event_of (event.Bytes f (Some c)) = Holds f (field.Bytes (Some c.now))
event_of (event.Bound f v) = Holds f (field.Bound (bound_of v))
event_of (event.Inet f a z) = Holds f (field.Inet a z)
event_of (event.TypeNode k) = Node_of k
event_of (event.Leaf row column level s) = Cell_at row column (cell.Leaf level (scalar_value s))
event_of (event.Null row column level) = Cell_at row column (cell.Null level)
event_of (event.Empty row column level) = Cell_at row column (cell.Empty level)
event_of (event.Enter row column level k n) = Cell_at row column (cell.Enter level k n)
event_of (event.Leave level n) = Leave level n
event_of (event.Part row column level offset c last) = Cell_at row column (cell.Part level offset c.now last)
event_of (event.End n) = End n
