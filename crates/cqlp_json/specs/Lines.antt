-- The line of an event: a JSON object with its offset, its name, and what it says.
use Prim.Native.String.{String}
use Rattle.std.specs.Prelude.{ℕ, true, false, List, [], ◌∷◌, ◌++◌, Some, None, codes, decimal}
use Rattle.std.specs.Fmt.{signed_decimal}
use Rattle.std.specs.List.{flat_map}
use Rattle.cqlp_note.specs.declared.field.Field.{Field}
use Rattle.cqlp_note.specs.Field.{BoundValue, FieldValue}
use Rattle.cqlp_note.specs.Field as field
use Rattle.cqlp_kind.specs.CellStep.{CellEvent}
use Rattle.cqlp_kind.specs.CellStep as cell
use Rattle.cqlp_kind.specs.Scalars.{kind_of}
use Rattle.cqlp_grammar.specs.Events.{Event}
use Rattle.cqlp_grammar.specs.Events as reading
use Rattle.cqlp_text.specs.CellText.{boolean_text}
use Rattle.cqlp_text.specs.Lines.{direction}
use Rattle.cqlp_text.specs.Names.{field_name, kind_name, opcode_name}
use Rattle.cqlp_text.specs.Text.{address_text}
use Rattle.uuid.specs.Text.{hyphenated_text, lower}
use Rattle.cqlp_json.specs.Values.{word, string, hex, scalar_text}

-- a member after another
abbrev pub member : (name : String) → (value : List ℕ) → List ℕ
member name value = codes ",\"" ++ codes name ++ codes "\":" ++ value

abbrev pub Members : Type 0
Members = List (List ℕ)

abbrev pub event : (name : String) → Members → Members
event name members = member "event" (word (codes name)) ∷ members

-- ---- a field

abbrev pub field_event : (notation : String) → Field → Members → Members
field_event notation f members = event notation (member "name" (word (field_name f)) ∷ members)

abbrev pub field_with : (notation : String) → Field → (value : List ℕ) → Members
field_with notation f value = field_event notation f (member "value" value ∷ [])

-- whether a [value] is set, and its bytes
abbrev pub bound_members : BoundValue → Members
bound_members field.Null = member "set" (boolean_text true) ∷ member "value" (codes "null") ∷ []
bound_members field.Unset = member "set" (boolean_text false) ∷ member "value" (codes "null") ∷ []
bound_members (field.Known bytes) = member "set" (boolean_text true) ∷ member "value" (hex bytes) ∷ []

abbrev pub field_members : Field → FieldValue → Members
field_members f (field.Byte n) = field_with "Byte" f (decimal n)
field_members f (field.Short n) = field_with "Short" f (decimal n)
field_members f (field.Int z) = field_with "Int" f (signed_decimal z)
field_members f (field.Long z) = field_with "Long" f (word (signed_decimal z))
field_members f (field.Uuid bytes) = field_with "Uuid" f (word (hyphenated_text lower bytes))
field_members f (field.Count n) = field_with "Count" f (decimal n)
field_members f (field.Text text) = field_with "Text" f (string text)
field_members f (field.Bytes None) = field_with "Bytes" f (codes "null")
field_members f (field.Bytes (Some bytes)) = field_with "Bytes" f (hex bytes)
field_members f (field.Bound v) = field_event "Bound" f (bound_members v)
field_members f (field.Inet a port) =
    field_event "Inet" f (member "address" (word (address_text a)) ∷ member "port" (signed_decimal port) ∷ [])

-- ---- a part of a cell

abbrev pub value_event : (name : String) → (row column level : ℕ) → Members → Members
value_event name row column level members =
    event name
    (member "row" (decimal row) ∷ member "column" (decimal column) ∷ member "level" (decimal level) ∷ members)

abbrev pub leave_members : (level items : ℕ) → Members
leave_members level items = event "Leave" (member "level" (decimal level) ∷ member "items" (decimal items) ∷ [])

abbrev pub cell_members : (row column : ℕ) → CellEvent → Members
cell_members row column (cell.Leaf level v) =
    value_event "Leaf" row column level
    (member "kind" (word (kind_name (kind_of v))) ∷ member "value" (scalar_text v) ∷ [])
cell_members row column (cell.Null level) = value_event "Null" row column level []
cell_members row column (cell.Empty level) = value_event "Empty" row column level []
cell_members row column (cell.Enter level k items) =
    value_event "Enter" row column level (member "kind" (word (kind_name k)) ∷ member "items" (decimal items) ∷ [])
cell_members row column (cell.Leave level items) = leave_members level items
cell_members row column (cell.Part level offset bytes last) =
    value_event "Part" row column level
    (member "offset" (decimal offset) ∷ member "last" (boolean_text last) ∷ member "value" (hex bytes) ∷ [])

-- ---- an event

abbrev pub members : Event → Members
members (reading.Frame h) =
    event "Frame"
    (member "direction" (word (direction h.response)) ∷ member "flags" (decimal h.flags)
    ∷ member "stream" (signed_decimal h.stream) ∷ member "opcode" (word (opcode_name h.opcode))
    ∷ member "length" (decimal h.length) ∷ [])
members (reading.Holds f v) = field_members f v
members (reading.Node_of k) = event "TypeNode" (member "kind" (word (kind_name k)) ∷ [])
members (reading.Cell_at row column e) = cell_members row column e
members (reading.Leave level items) = leave_members level items
members (reading.End extra) = event "End" (member "extra" (decimal extra) ∷ [])

abbrev pub texts : Members → List ℕ
texts = flat_map (λ m. m)

-- the line of an event at an offset
abbrev pub json_line : (at : ℕ) → Event → List ℕ
json_line at e = codes "{\"at\":" ++ (decimal at ++ (texts (members e) ++ codes "}\n"))

-- the lines of events with their offsets
abbrev pub json_lines : List (ℕ × Event) → List ℕ
json_lines = flat_map (λ e. json_line e.0 e.1)
