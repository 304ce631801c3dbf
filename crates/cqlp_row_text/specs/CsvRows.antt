-- The rows of pages as CSV (RFC 4180): a record of the names of the columns, where the metadata of the page has them, and a
-- record for each row.
use Rattle.std.specs.Prelude.{ℕ, ◌+◌, ◌==◌, Bool, true, false, if◌then◌else◌, List, [], ◌∷◌, ◌++◌, Option, Some, None, codes}
use Rattle.hex.specs.Hex.{encode_lower}
use Rattle.cqlp_note.specs.declared.field.Field.{Field}
use Rattle.cqlp_note.specs.declared.field.Field.TheVariants as field
use Rattle.cqlp_note.specs.Field.{FieldValue}
use Rattle.cqlp_note.specs.Field as value
use Rattle.cqlp_kind.specs.Scalars.{ScalarValue}
use Rattle.cqlp_kind.specs.Scalars as scalar
use Rattle.cqlp_kind.specs.CellStep.{CellEvent}
use Rattle.cqlp_kind.specs.CellStep as cell
use Rattle.cqlp_grammar.specs.Events.{Event}
use Rattle.cqlp_grammar.specs.Events as reading
use Rattle.cqlp_text.specs.CellText.{cell_text}
use Rattle.cqlp_text.specs.PageText.{innermost, opening, closing, separator, without_open}
use Rattle.cqlp_text.specs.declared.page_text.WrittenValue.{WrittenValue}
use Rattle.cqlp_row_text.specs.declared.place.TablePlace.{TablePlace}
use Rattle.cqlp_row_text.specs.Places.{table_after, at_first, at_last}
use Rattle.cqlp_row_text.specs.Quotes.{text_field, text_item}

-- ---- what comes around values

-- before a cell of this column, or before an item of the value that is open
abbrev pub before : (column : ℕ) → Option WrittenValue → List ℕ
before column None = if column == 0 then [] else codes ","
before column (Some o) = separator o.turn

-- after a cell of this column, or after an item of the value that is open
abbrev pub after : (columns column : ℕ) → Option WrittenValue → List ℕ
after columns column None = if column + 1 == columns then codes "\r\n" else []
after columns column (Some o) = []

-- the quote before and after a value with items, which is a field unless a value is open
abbrev pub field_quote : Option WrittenValue → List ℕ
field_quote None = codes "\""
field_quote (Some o) = []

-- ---- values, as fields or as items of the value that is open

abbrev pub text_value : Option WrittenValue → List ℕ → List ℕ
text_value None text = text_field text
text_value (Some o) text = text_item text

-- texts are in quotes, and all else is as in a page's text
abbrev pub scalar_value : Option WrittenValue → ScalarValue → List ℕ
scalar_value around (scalar.Ascii text) = text_value around text
scalar_value around (scalar.Varchar text) = text_value around text
scalar_value around v = cell_text v

-- null: an empty field, which is an empty line where it is alone in its record
abbrev pub null_value : Option WrittenValue → List ℕ
null_value None = []
null_value (Some o) = codes "null"

-- an empty text, or a value of another type without bytes
abbrev pub empty_value : Option WrittenValue → List ℕ
empty_value None = codes "\"\""
empty_value (Some o) = codes "''"

-- ---- the text of an event on a page

module _ (p : TablePlace) (column : ℕ) where
  abbrev pub before_value : List ℕ
  before_value = before column (innermost p.page.open_values)

  abbrev pub after_value : List ℕ
  after_value = after p.page.columns column (innermost p.page.open_values)

  -- a value, with what comes before and after it
  abbrev pub value_part : CellEvent → List ℕ
  value_part (cell.Leaf level v) = before_value ++ (scalar_value (innermost p.page.open_values) v ++ after_value)
  value_part (cell.Null level) = before_value ++ (null_value (innermost p.page.open_values) ++ after_value)
  value_part (cell.Empty level) = before_value ++ (empty_value (innermost p.page.open_values) ++ after_value)
  value_part (cell.Enter level k items) = before_value ++ (field_quote (innermost p.page.open_values) ++ opening k)
  value_part (cell.Leave level items) = []
  value_part (cell.Part level offset bytes last) =
      at_first offset before_value ++ (at_first offset (codes "0x") ++ (encode_lower bytes ++ at_last last after_value))

-- the innermost open value ends
abbrev pub end_part : (columns column : ℕ) → List WrittenValue → List ℕ
end_part columns column [] = []
end_part columns column (o ∷ os) =
    closing o.kind ++ (field_quote (innermost os) ++ after columns column (innermost os))

-- a column's name, and the end of the record of names
abbrev pub field_part : TablePlace → Field → FieldValue → List ℕ
field_part p field.ColumnName (value.Text name) = (if p.is_named then codes "," else []) ++ text_field name
field_part p field.Rows (value.Count n) = if p.is_named then codes "\r\n" else []
field_part p f v = []

abbrev pub event_part : TablePlace → Event → List ℕ
event_part p (reading.Holds f v) = field_part p f v
event_part p (reading.Cell_at row column e) = value_part p column e
event_part p (reading.Leave level items) = end_part p.page.columns p.page.column p.page.open_values
event_part p e = []

-- what is written of an event, which is nothing but on a page
abbrev pub csv_part : TablePlace → Event → List ℕ
csv_part p e = if p.page.is_page then event_part p e else []

-- what is written of events, one after the other
abbrev pub csv_rows : TablePlace → List (ℕ × Event) → List ℕ
csv_rows p [] = []
csv_rows p (e ∷ es) = csv_part p e.1 ++ csv_rows (table_after p e.1) es

-- ---- a page that is cut

-- the quote of the field under way, where it is one of a value with items
abbrev pub cut_quote : Option WrittenValue → List ℕ
cut_quote None = []
cut_quote (Some o) = codes "\""

-- what ends the record under way on a page that is cut
abbrev pub csv_break : TablePlace → List ℕ
csv_break p = if p.page.is_page then cut_quote (innermost p.page.open_values) ++ codes "\r\n" else []
