-- The rows of pages as JSON (RFC 8259). A page begins with an object in a line of its own: how many columns it has, their
-- names where its metadata has them, and how many rows. Each row is an array in a line.
use Rattle.std.specs.Prelude.{ℕ, ◌+◌, ◌==◌, Bool, true, false, if◌then◌else◌, List, [], ◌∷◌, ◌++◌, Option, Some, None, codes, decimal}
use Rattle.hex.specs.Hex.{encode_lower}
use Rattle.cqlp_note.specs.declared.field.Field.{Field}
use Rattle.cqlp_note.specs.declared.field.Field.TheVariants as field
use Rattle.cqlp_note.specs.Field.{FieldValue}
use Rattle.cqlp_note.specs.Field as value
use Rattle.cqlp_kind.specs.declared.kind.Kind.{Kind}
use Rattle.cqlp_kind.specs.declared.kind.Kind.TheVariants as kind
use Rattle.cqlp_kind.specs.CellStep.{CellEvent}
use Rattle.cqlp_kind.specs.CellStep as cell
use Rattle.cqlp_grammar.specs.Events.{Event}
use Rattle.cqlp_grammar.specs.Events as reading
use Rattle.cqlp_text.specs.PageText.{innermost, with_item, without_open}
use Rattle.cqlp_text.specs.declared.page_text.WrittenValue.{WrittenValue}
use Rattle.cqlp_text.specs.declared.page_text.Turn.{Turn}
use Rattle.cqlp_text.specs.declared.page_text.Turn.TheVariants.{First, Paired, Another}
use Rattle.cqlp_json.specs.Values.{scalar_text, string}
use Rattle.cqlp_row_text.specs.declared.place.TablePlace.{TablePlace}
use Rattle.cqlp_row_text.specs.Places.{table_after, at_first, at_last}

-- ---- what comes around values

-- before an item; a pair of a map is an array of its own
abbrev pub before_item : Kind → Turn → List ℕ
before_item kind.Map First = codes "["
before_item kind.Map Paired = codes ","
before_item kind.Map Another = codes ",["
before_item k First = []
before_item k _ = codes ","

-- before a cell of this column, or before an item of the value that is open
abbrev pub before : (column : ℕ) → Option WrittenValue → List ℕ
before column None = if column == 0 then codes "[" else codes ","
before column (Some o) = before_item o.kind o.turn

-- after an item, where its turn is over: a pair of a map ends after its second one
abbrev pub after_item : Kind → Turn → List ℕ
after_item kind.Map Another = codes "]"
after_item k _ = []

-- after a cell, or after an item of the value that is open
abbrev pub after : (columns column : ℕ) → Option WrittenValue → List ℕ
after columns column None = if column + 1 == columns then codes "]\n" else []
after columns column (Some o) = after_item o.kind o.turn

-- ---- the text of an event on a page

module _ (p : TablePlace) (column : ℕ) where
  abbrev pub before_value : List ℕ
  before_value = before column (innermost p.page.open_values)

  abbrev pub after_value : List ℕ
  after_value = after p.page.columns column (innermost (with_item p.page.open_values))

  -- a value, with what comes before and after it; a list, a set, a map, a tuple and a udt are arrays
  abbrev pub value_part : CellEvent → List ℕ
  value_part (cell.Leaf level v) = before_value ++ (scalar_text v ++ after_value)
  value_part (cell.Null level) = before_value ++ (codes "null" ++ after_value)
  value_part (cell.Empty level) = before_value ++ (codes "\"\"" ++ after_value)
  value_part (cell.Enter level k items) = before_value ++ codes "["
  value_part (cell.Leave level items) = []
  value_part (cell.Part level offset bytes last) =
      at_first offset before_value ++ (at_first offset (codes "\"") ++ (encode_lower bytes
      ++ (at_last last (codes "\"") ++ at_last last after_value)))

-- the innermost open value ends
abbrev pub end_part : (columns column : ℕ) → List WrittenValue → List ℕ
end_part columns column [] = []
end_part columns column (o ∷ os) = codes "]" ++ after columns column (innermost os)

abbrev pub name_part : (is_named : Bool) → (name : List ℕ) → List ℕ
name_part is_named name = (if is_named then codes "," else []) ++ string name

abbrev pub field_part : TablePlace → Field → FieldValue → List ℕ
field_part p field.Columns (value.Count n) = codes "{\"columns\":" ++ (decimal n ++ codes ",\"names\":[")
field_part p field.ColumnName (value.Text name) = name_part p.is_named name
field_part p field.Rows (value.Count n) = codes "],\"rows\":" ++ (decimal n ++ codes "}\n")
field_part p f v = []

abbrev pub event_part : TablePlace → Event → List ℕ
event_part p (reading.Holds f v) = field_part p f v
event_part p (reading.Cell_at row column e) = value_part p column e
event_part p (reading.Leave level items) = end_part p.page.columns p.page.column p.page.open_values
event_part p e = []

-- what is written of an event, which is nothing but on a page
abbrev pub json_part : TablePlace → Event → List ℕ
json_part p e = if p.page.is_page then event_part p e else []

-- what is written of events, one after the other
abbrev pub json_rows : TablePlace → List (ℕ × Event) → List ℕ
json_rows p [] = []
json_rows p (e ∷ es) = json_part p e.1 ++ json_rows (table_after p e.1) es

-- ---- a page that is cut

-- what ends the line under way on a page that is cut
abbrev pub json_break : TablePlace → List ℕ
json_break p = if p.page.is_page then codes "\n" else []
