-- The text of pages (results of kind 2, section 4.2.5.2 of native_protocol_v4.spec): a line for each column's name, one
-- for the numbers of columns and rows, and one for each row.
use Rattle.std.specs.Prelude.{ℕ, ◌+◌, ◌==◌, ℤ, pos, negsuc, Bool, true, false, if◌then◌else◌, List, [], ◌∷◌, ◌++◌}
use Rattle.std.specs.Prelude.{length, Option, Some, None, codes, decimal}
use Rattle.cqlp_note.specs.declared.field.Field.{Field}
use Rattle.cqlp_note.specs.declared.field.Field.TheVariants as field
use Rattle.cqlp_note.specs.Field.{FieldValue}
use Rattle.cqlp_note.specs.Field as value
use Rattle.cqlp_kind.specs.declared.kind.Kind.{Kind}
use Rattle.cqlp_kind.specs.declared.kind.Kind.TheVariants as kind
use Rattle.cqlp_kind.specs.CellStep.{CellEvent}
use Rattle.cqlp_kind.specs.CellStep as cell
use Rattle.cqlp_grammar.specs.Events.{Event}
use Rattle.cqlp_grammar.specs.Events as reading
use Rattle.cqlp_text.specs.declared.page_text.WrittenValue.{WrittenValue}
use Rattle.cqlp_text.specs.declared.page_text.Turn.{Turn}
use Rattle.cqlp_text.specs.declared.page_text.Turn.TheVariants.{First, Paired, Another}
use Rattle.cqlp_text.specs.declared.gap.Gap.{Gap}
use Rattle.cqlp_text.specs.declared.gap.Gap.TheVariants as gap
use Rattle.cqlp_text.specs.Text.{quoted}
use Rattle.cqlp_text.specs.CellText.{cell_text}
use Rattle.hex.specs.Hex.{encode_lower}

-- What the text of an event depends on of those before it: whether the frame is a page, its columns, the column of the
-- cell that is open, and the values that are open, the innermost first.
pub record PagePlace : Type 0 where
  pub is_page : Bool
  pub columns : ℕ
  pub column : ℕ
  pub open_values : List WrittenValue

abbrev pub no_page : PagePlace
no_page = record { is_page = false; columns = 0; column = 0; open_values = [] }

-- ---- what comes around values

abbrev pub opening : Kind → List ℕ
opening kind.List = codes "["
opening kind.Set = codes "{"
opening kind.Map = codes "{"
opening _ = codes "("

abbrev pub closing : Kind → List ℕ
closing kind.List = codes "]"
closing kind.Set = codes "}"
closing kind.Map = codes "}"
closing _ = codes ")"

abbrev pub separator : Turn → List ℕ
separator First = []
separator Paired = codes ": "
separator Another = codes ", "

-- before a cell of this column, or before an item of the value that is open
abbrev pub before : (column : ℕ) → List WrittenValue → List ℕ
before column [] = if column == 0 then [] else codes " | "
before column (o ∷ os) = separator o.turn

-- the text of a gap
abbrev pub gap_text : Gap → List ℕ
gap_text gap.Nothing = []
gap_text gap.Bar = codes " | "
gap_text gap.Colon = codes ": "
gap_text gap.Comma = codes ", "

-- after the last cell of a row
abbrev pub after : (columns column : ℕ) → List WrittenValue → List ℕ
after columns column [] = if column + 1 == columns then codes "\n" else []
after columns column (o ∷ os) = []

abbrev pub innermost : List WrittenValue → Option WrittenValue
innermost [] = None
innermost (o ∷ os) = Some o

-- what comes after an item
abbrev pub turn_after : Kind → Turn → Turn
turn_after kind.Map First = Paired
turn_after kind.Map Another = Paired
turn_after _ _ = Another

abbrev pub with_item : List WrittenValue → List WrittenValue
with_item [] = []
with_item (o ∷ os) = record o { turn = turn_after o.kind o.turn } ∷ os

abbrev pub with_item_if : (ends : Bool) → List WrittenValue → List WrittenValue
with_item_if ends values = if ends then with_item values else values

-- one more open value; no type is deeper than 64, the greatest depth that limits allow
abbrev pub with_open : Kind → List WrittenValue → List WrittenValue
with_open k os = if length os == 64 then os else record { kind = k; turn = First } ∷ os

-- the end of a line, where one ends
abbrev pub line_end : (ends : Bool) → List ℕ
line_end ends = if ends then codes "\n" else []

-- a text behind a gap, and where a line ends, its end
abbrev pub item_text : Gap → List ℕ → (ends_line : Bool) → List ℕ
item_text g text ends_line = gap_text g ++ (text ++ line_end ends_line)

-- ---- the text of an event on a page

module _ (p : PagePlace) (column : ℕ) where
  -- a value of this text, with what comes before and after it
  abbrev pub whole_value : List ℕ → List ℕ
  whole_value text = before column p.open_values ++ (text ++ after p.columns column p.open_values)

  -- what comes before a part of a long content, and after it
  abbrev pub part_start : (offset : ℕ) → List ℕ
  part_start offset = if offset == 0 then before column p.open_values ++ codes "0x" else []

  abbrev pub part_end : (last : Bool) → List ℕ
  part_end last = if last then after p.columns column p.open_values else []

  abbrev pub value_part : CellEvent → List ℕ
  value_part (cell.Leaf level v) = whole_value (cell_text v)
  value_part (cell.Null level) = whole_value (codes "null")
  value_part (cell.Empty level) = whole_value (codes "empty")
  value_part (cell.Enter level k items) = before column p.open_values ++ opening k
  value_part (cell.Leave level items) = []
  value_part (cell.Part level offset bytes last) = part_start offset ++ (encode_lower bytes ++ part_end last)

  abbrev pub open_after : CellEvent → List WrittenValue
  open_after (cell.Enter level k items) = with_open k (with_item p.open_values)
  open_after (cell.Part level offset bytes last) = with_item_if last p.open_values
  open_after e = with_item p.open_values

-- the innermost open value ends
abbrev pub end_part : (columns column : ℕ) → List WrittenValue → List ℕ
end_part columns column [] = []
end_part columns column (o ∷ os) = closing o.kind ++ after columns column os

abbrev pub without_open : List WrittenValue → List WrittenValue
without_open [] = []
without_open (o ∷ os) = os

abbrev pub column_line : (name : List ℕ) → List ℕ
column_line name = codes "column " ++ (quoted name ++ codes "\n")

abbrev pub page_line : (columns rows : ℕ) → List ℕ
page_line columns rows = codes "page " ++ (decimal columns ++ (codes " columns " ++ (decimal rows ++ codes " rows\n")))

abbrev pub field_part : PagePlace → Field → FieldValue → List ℕ
field_part p field.ColumnName (value.Text name) = column_line name
field_part p field.Rows (value.Count rows) = page_line p.columns rows
field_part p f v = []

abbrev pub event_part : PagePlace → Event → List ℕ
event_part p (reading.Holds f v) = field_part p f v
event_part p (reading.Cell_at row column e) = value_part p column e
event_part p (reading.Leave level items) = end_part p.columns p.column p.open_values
event_part p e = []

-- what is written of an event, which is nothing but on a page
abbrev pub page_part : PagePlace → Event → List ℕ
page_part p e = if p.is_page then event_part p e else []

-- ---- after an event

-- the kind of a result that is a page
abbrev pub is_rows : ℤ → Bool
is_rows (pos n) = n == 2
is_rows (negsuc n) = false

abbrev pub place_after_field : PagePlace → Field → FieldValue → PagePlace
place_after_field p field.ResultKind (value.Int z) = if is_rows z then record no_page { is_page = true } else p
place_after_field p field.Columns (value.Count columns) = record p { columns = columns }
place_after_field p f v = p

abbrev pub place_after : PagePlace → Event → PagePlace
place_after p (reading.Holds f v) = place_after_field p f v
place_after p (reading.Cell_at row column e) = record p { column = column; open_values = open_after p column e }
place_after p (reading.Leave level items) = record p { open_values = without_open p.open_values }
place_after p (reading.End extra) = no_page
place_after p e = p

-- what is written of events, one after the other
abbrev pub page_text : PagePlace → List (ℕ × Event) → List ℕ
page_text p [] = []
page_text p (e ∷ es) = page_part p e.1 ++ page_text (place_after p e.1) es
