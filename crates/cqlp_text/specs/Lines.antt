-- The line of an event: its offset and its words, with a space before each word.
use Rattle.std.specs.Prelude.{ℕ, Bool, true, false, List, [], ◌∷◌, ◌++◌, Some, None, codes, decimal}
use Rattle.std.specs.Fmt.{signed_decimal}
use Rattle.std.specs.List.{flat_map}
use Rattle.cqlp_note.specs.declared.field.Field.{Field}
use Rattle.cqlp_note.specs.Field.{BoundValue, FieldValue}
use Rattle.cqlp_note.specs.Field as field
use Rattle.cqlp_kind.specs.CellStep.{CellEvent}
use Rattle.cqlp_kind.specs.CellStep as cell
use Rattle.cqlp_grammar.specs.Events.{Event}
use Rattle.cqlp_grammar.specs.Events as reading
use Rattle.cqlp_text.specs.Names.{field_name, opcode_name, kind_name}
use Rattle.cqlp_text.specs.Text.{hex_text, quoted, address_text}
use Rattle.cqlp_text.specs.CellText.{cell_text}
use Rattle.hex.specs.Hex.{encode_lower}
use Rattle.uuid.specs.Text.{hyphenated_text, lower}

abbrev pub Words : Type 0
Words = List (List ℕ)

abbrev pub direction : Bool → List ℕ
direction true = codes "response"
direction false = codes "request"

abbrev pub bound_text : BoundValue → List ℕ
bound_text field.Null = codes "null"
bound_text field.Unset = codes "unset"
bound_text (field.Known bytes) = hex_text bytes

abbrev pub field_words : Field → FieldValue → Words
field_words f (field.Byte n) = codes "Byte" ∷ field_name f ∷ decimal n ∷ []
field_words f (field.Short n) = codes "Short" ∷ field_name f ∷ decimal n ∷ []
field_words f (field.Int z) = codes "Int" ∷ field_name f ∷ signed_decimal z ∷ []
field_words f (field.Long z) = codes "Long" ∷ field_name f ∷ signed_decimal z ∷ []
field_words f (field.Uuid bytes) = codes "Uuid" ∷ field_name f ∷ hyphenated_text lower bytes ∷ []
field_words f (field.Count n) = codes "Count" ∷ field_name f ∷ decimal n ∷ []
field_words f (field.Text text) = codes "Text" ∷ field_name f ∷ quoted text ∷ []
field_words f (field.Bytes None) = codes "Bytes" ∷ field_name f ∷ codes "null" ∷ []
field_words f (field.Bytes (Some bytes)) = codes "Bytes" ∷ field_name f ∷ hex_text bytes ∷ []
field_words f (field.Bound v) = codes "Bound" ∷ field_name f ∷ bound_text v ∷ []
field_words f (field.Inet a port) = codes "Inet" ∷ field_name f ∷ address_text a ∷ signed_decimal port ∷ []

abbrev pub part_place : (last : Bool) → List ℕ
part_place true = codes "last"
part_place false = codes "more"

-- the words of a value at a level of a cell
abbrev value_words : (name : List ℕ) → (row column level : ℕ) → Words → Words
value_words name row column level more = name ∷ decimal row ∷ decimal column ∷ decimal level ∷ more

abbrev pub cell_words : (row column : ℕ) → CellEvent → Words
cell_words row column (cell.Leaf level v) = value_words (codes "Leaf") row column level (cell_text v ∷ [])
cell_words row column (cell.Null level) = value_words (codes "Null") row column level []
cell_words row column (cell.Empty level) = value_words (codes "Empty") row column level []
cell_words row column (cell.Enter level k items) =
    value_words (codes "Enter") row column level (kind_name k ∷ decimal items ∷ [])
cell_words row column (cell.Leave level items) = codes "Leave" ∷ decimal level ∷ decimal items ∷ []
cell_words row column (cell.Part level offset bytes last) =
    value_words (codes "Part") row column level (decimal offset ∷ part_place last ∷ hex_text bytes ∷ [])

abbrev pub words : Event → Words
words (reading.Frame h) =
    codes "Frame" ∷ direction h.response ∷ encode_lower (h.flags ∷ []) ∷ signed_decimal h.stream
    ∷ opcode_name h.opcode ∷ decimal h.length ∷ []
words (reading.Holds f v) = field_words f v
words (reading.Node_of k) = codes "TypeNode" ∷ kind_name k ∷ []
words (reading.Cell_at row column e) = cell_words row column e
words (reading.Leave level items) = codes "Leave" ∷ decimal level ∷ decimal items ∷ []
words (reading.End extra) = codes "End" ∷ decimal extra ∷ []

-- a space before each word
abbrev pub spaced : Words → List ℕ
spaced = flat_map (λ word. codes " " ++ word)

-- the line of an event at an offset
abbrev pub line : (at : ℕ) → Event → List ℕ
line at e = decimal at ++ (spaced (words e) ++ codes "\n")

-- the lines of events with their offsets
abbrev pub lines : List (ℕ × Event) → List ℕ
lines = flat_map (λ e. line e.0 e.1)
