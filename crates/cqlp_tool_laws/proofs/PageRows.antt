-- Pages with their texts.
use Rattle.std.proofs.Common.{◌≡◌, ℕ, List, [], ◌∷◌, ◌++◌, pos, true, false, codes, refl}
use Rattle.std.specs.Fmt.{digits}
use Rattle.std.specs.Prelude.{Some, None}
use Rattle.hex.specs.Hex.{encode_with}
use Rattle.cqlp_note.specs.Field as value
use Rattle.cqlp_note.specs.declared.field.Field.TheVariants as field
use Rattle.cqlp_kind.specs.declared.kind.Kind.TheVariants as kind
use Rattle.cqlp_kind.specs.CellStep as cell
use Rattle.cqlp_kind.specs.Scalars as scalar
use Rattle.cqlp_type.specs.Trees.{NoTree}
use Rattle.cqlp_value.specs.Values.{Values, NoValue, Null_and, Empty_and, Scalar_and, Counted_and, Fields_and}
use Rattle.cqlp_grammar.specs.Events.{Event, Holds, Cell_at, Leave, End}
use Rattle.cqlp_message.specs.FrameValues.{Spec}
use Rattle.cqlp_text.specs.PageText.{no_page, page_text}
use Rattle.cqlp_tool_laws.specs.ValueText.{page_of_rows}

-- a page of rows begins, whose columns have no names
abbrev begins : (columns rows : ℕ) → List (ℕ × Event)
begins columns rows = (9, Holds field.ResultKind (value.Int (pos 2))) ∷ (13, Holds field.MetaFlags (value.Int (pos 4))) ∷ (17, Holds field.Columns (value.Count columns)) ∷ (21, Holds field.Rows (value.Count rows)) ∷ []

-- ---- one column "c", and a list of three

abbrev list_begins : List (ℕ × Event)
list_begins =
    (9, Holds field.ResultKind (value.Int (pos 2)))
    ∷ (13, Holds field.MetaFlags (value.Int (pos 1)))
    ∷ (17, Holds field.Columns (value.Count 1))
    ∷ (21, Holds field.Keyspace (value.Text (codes "k")))
    ∷ (24, Holds field.Table (value.Text (codes "t")))
    ∷ (27, Holds field.ColumnName (value.Text (codes "c")))
    ∷ (34, Holds field.Rows (value.Count 1))
    ∷ (38, Cell_at 0 0 (cell.Enter 0 kind.List 3))
    ∷ (46, Cell_at 0 0 (cell.Leaf 1 (scalar.Int (pos 1))))
    ∷ []

abbrev list_ends : List (ℕ × Event)
list_ends =
    (54, Cell_at 0 0 (cell.Null 1))
    ∷ (58, Cell_at 0 0 (cell.Empty 1))
    ∷ (62, Leave 0 3)
    ∷ (62, End 0)
    ∷ []

list_of_three : page_text no_page (list_begins ++ list_ends) ≡ codes "column \"c\"\npage 1 columns 1 rows\n[1, null, empty]\n"
unfolding digits
list_of_three = refl

-- the separator comes with the item that it precedes
cut_within_a_list : page_text no_page list_begins ≡ codes "column \"c\"\npage 1 columns 1 rows\n[1"
unfolding digits
cut_within_a_list = refl

-- the names of a prepared result's columns
prepared : page_text no_page ((9, Holds field.ResultKind (value.Int (pos 4))) ∷ (27, Holds field.ColumnName (value.Text (codes "c"))) ∷ (34, End 0) ∷ []) ≡ []
prepared = refl

-- ---- other values

two_columns : page_text no_page (begins 2 1 ++ (25, Cell_at 0 0 (cell.Leaf 0 (scalar.Raw (7 ∷ [])))) ∷ (30, Cell_at 0 1 (cell.Null 0)) ∷ (34, End 0) ∷ []) ≡ codes "page 2 columns 1 rows\n0x07 | null\n"
unfolding digits encode_with
two_columns = refl

map_of_two :
    page_text no_page
    (begins 1 1
    ++ (25, Cell_at 0 0 (cell.Enter 0 kind.Map 2))
    ∷ (33, Cell_at 0 0 (cell.Leaf 1 (scalar.Tinyint (pos 1))))
    ∷ (38, Cell_at 0 0 (cell.Leaf 1 (scalar.Boolean true)))
    ∷ (43, Cell_at 0 0 (cell.Leaf 1 (scalar.Tinyint (pos 2))))
    ∷ (48, Cell_at 0 0 (cell.Null 1))
    ∷ (52, Leave 0 2)
    ∷ [])
    ≡ codes "page 1 columns 1 rows\n{1: true, 2: null}\n"
unfolding digits
map_of_two = refl

sets_in_tuple :
    page_text no_page
    (begins 2 1
    ++ (25, Cell_at 0 0 (cell.Enter 0 kind.Tuple 2))
    ∷ (29, Cell_at 0 0 (cell.Enter 1 kind.Set 0))
    ∷ (37, Leave 1 0)
    ∷ (37, Cell_at 0 0 (cell.Enter 1 kind.Set 1))
    ∷ (45, Cell_at 0 0 (cell.Leaf 2 (scalar.Varchar (codes "a"))))
    ∷ (50, Leave 1 1)
    ∷ (50, Leave 0 2)
    ∷ (50, Cell_at 0 1 (cell.Empty 0))
    ∷ [])
    ≡ codes "page 2 columns 1 rows\n({}, {\"a\"}) | empty\n"
unfolding digits
sets_in_tuple = refl

blob_in_parts : page_text no_page (begins 1 1 ++ (29, Cell_at 0 0 (cell.Part 0 0 (0xCA ∷ 0xFE ∷ []) false)) ∷ (31, Cell_at 0 0 (cell.Part 0 2 (7 ∷ []) true)) ∷ []) ≡ codes "page 1 columns 1 rows\n0xcafe07\n"
unfolding digits encode_with
blob_in_parts = refl

page_of_no_columns : page_text no_page (begins 0 2147483647 ++ (25, End 0) ∷ []) ≡ codes "page 0 columns 2147483647 rows\n"
unfolding digits
page_of_no_columns = refl

-- ---- a page by its values

abbrev described : (name : List ℕ) → Spec
described name = record { table = None; name = name; tree = NoTree }

abbrev map_in_tuple : Values
map_in_tuple =
    Fields_and kind.Tuple
    (Counted_and kind.Map 2 (Scalar_and (scalar.Tinyint (pos 1)) (Scalar_and (scalar.Boolean true) (Scalar_and (scalar.Tinyint (pos 2)) (Null_and NoValue))))
    (Counted_and kind.List 1 (Empty_and NoValue) (Counted_and kind.Set 0 NoValue NoValue)))
    NoValue

two_rows :
    page_of_rows
    (record {
      meta = record { flags = pos 1; columns = 2; paging = None; table = None; specs = Some (described (codes "a") ∷ described (codes "b") ∷ []) };
      rows = 2;
      cells = map_in_tuple ∷ Scalar_and (scalar.Raw (7 ∷ [])) NoValue ∷ Null_and NoValue ∷ Empty_and NoValue ∷ [];
    })
    ≡ codes "column \"a\"\ncolumn \"b\"\npage 2 columns 2 rows\n({1: true, 2: null}, [empty], {}) | 0x07\nnull | empty\n"
unfolding digits encode_with
two_rows = refl
