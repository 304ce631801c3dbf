-- The text of pages, read off the values in them (results of kind 2, section 4.2.5.2 of native_protocol_v4.spec): what
-- `cqlp rows` writes.
use Rattle.std.specs.Prelude.{ℕ, zero, suc, List, [], ◌∷◌, ◌++◌, take, drop, Option, Some, None, codes}
use Rattle.std.specs.List.{flat_map, join_by}
use Rattle.cqlp_kind.specs.declared.kind.Kind.{Kind}
use Rattle.cqlp_kind.specs.declared.kind.Kind.TheVariants as kind
use Rattle.cqlp_value.specs.Values.{Values, NoValue, Null_and, Empty_and, Scalar_and, Counted_and, Fields_and}
use Rattle.cqlp_message.specs.FrameValues.{Spec, Page, Message, Rows, FrameValue}
use Rattle.cqlp_text.specs.CellText.{cell_text}
use Rattle.cqlp_text.specs.PageText.{opening, closing, column_line, page_line}

-- texts one after the other, and this between them
abbrev pub joined : (between : List ℕ) → List (List ℕ) → List ℕ
joined between texts = join_by (λ text. text) between texts

-- keys and values, two by two
abbrev pub entries : List (List ℕ) → List (List ℕ)
entries (key ∷ value ∷ others) = (key ++ (codes ": " ++ value)) ∷ entries others
entries texts = texts

-- the items of a value of this kind
abbrev pub items_text : Kind → List (List ℕ) → List ℕ
items_text kind.Map texts = joined (codes ", ") (entries texts)
items_text _ texts = joined (codes ", ") texts

-- a value of this kind with these items: a list, a set, a map, a tuple or a user-defined type
abbrev pub bracketed : Kind → List (List ℕ) → List ℕ
bracketed k items = opening k ++ (items_text k items ++ closing k)

-- the text of each of these values
abbrev pub value_texts : Values → List (List ℕ)
value_texts NoValue = []
value_texts (Null_and others) = codes "null" ∷ value_texts others
value_texts (Empty_and others) = codes "empty" ∷ value_texts others
value_texts (Scalar_and v others) = cell_text v ∷ value_texts others
value_texts (Counted_and k count items others) = bracketed k (value_texts items) ∷ value_texts others
value_texts (Fields_and k items others) = bracketed k (value_texts items) ∷ value_texts others

-- a line of cells, each of which is one value; of no cells there is no line
abbrev pub row_text : List Values → List ℕ
row_text [] = []
row_text (cell ∷ cells) = joined (codes " | ") (flat_map value_texts (cell ∷ cells)) ++ codes "\n"

-- this many rows, of a cell for each column
abbrev pub rows_text : (columns rows : ℕ) → List Values → List ℕ
rows_text columns zero cells = []
rows_text columns (suc rows) cells = row_text (take columns cells) ++ rows_text columns rows (drop columns cells)

-- a line for each column that is described
abbrev pub column_lines : Option (List Spec) → List ℕ
column_lines None = []
column_lines (Some specs) = flat_map (λ c. column_line c.name) specs

-- a page: its columns, how many columns and rows there are, and the rows
abbrev pub page_of_rows : Page → List ℕ
page_of_rows p =
    column_lines p.meta.specs ++ (page_line p.meta.columns p.rows ++ rows_text p.meta.columns p.rows p.cells)

-- no message but a page has a text
abbrev pub message_text : Message → List ℕ
message_text (Rows p) = page_of_rows p
message_text m = []

-- frames one after the other, whatever number of bytes is more in each
abbrev pub frames_text : List (FrameValue × ℕ) → List ℕ
frames_text fs = flat_map (λ f. message_text f.0.message) fs
