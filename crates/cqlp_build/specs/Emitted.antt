-- The events of parts, wherever they lie in a stream.
use Rattle.std.specs.Prelude.{false, List, [], ◌∷◌, Option, map}
use Rattle.std.specs.List.{flat_map}
use Rattle.cqlp_type.specs.Trees.{trees_items}
use Rattle.cqlp_kind.specs.Types.{NoMore, Type_and}
use Rattle.cqlp_grammar.specs.Events.{Event, Holds, cell_event, type_event}
use Rattle.cqlp_build_cells.specs.Said.{values_said}
use Rattle.cqlp_note.specs.declared.field.Field.TheVariants as field
use Rattle.cqlp_message.specs.Bodies.{bytes, text}
use Rattle.cqlp_message.specs.FrameValues.{Octets}
use Rattle.cqlp_message.specs.Parts.{Part, Field_is, Type_is, Cell_is}

-- The events of a part, without their offsets, where each scalar of a cell comes whole.
abbrev pub part_emitted : Part → List Event
part_emitted (Field_is f n v) = Holds f v ∷ []
part_emitted (Type_is t) = map type_event (trees_items false t)
part_emitted (Cell_is row column k inner v) = map (cell_event row column) (values_said 0 (Type_and k inner NoMore) v)

-- the events of these parts, without their offsets
abbrev pub emitted : List Part → List Event
emitted parts = flat_map part_emitted parts

-- an item of a custom payload
abbrev pub payload_parts : Octets × Option Octets → List Part
payload_parts i = text field.PayloadKey i.0 ∷ bytes field.PayloadValue i.1 ∷ []
