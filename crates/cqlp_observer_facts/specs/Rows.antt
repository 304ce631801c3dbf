-- A RESULT of kind Rows (section 4.2.5.2 of native_protocol_v4.spec), up to the number of rows: <metadata><rows_count>, where metadata is
-- <flags><columns_count>[<paging_state>][<global_table_spec>?<col_spec_1>...<col_spec_n>]
use Rattle.std.specs.Prelude.{ℕ, ◌-◌, ◌==◌, ◌&&◌, not, nat_lt, Bool, true, false, List, Option, Some, None, if◌then◌else◌}
use Rattle.cqlp_note.specs.Field.{is_negative}
use Rattle.cqlp_note.specs.Heading.{has}
use Rattle.cqlp_observer_facts.specs.declared.due.Due.{Due}
use Rattle.cqlp_observer_facts.specs.declared.due.Due.TheVariants as due
use Rattle.cqlp_observer_facts.specs.declared.due.Next.{Next}
use Rattle.cqlp_observer_facts.specs.declared.facts.Fact.TheVariants as fact
use Rattle.cqlp_observer_facts.specs.declared.rows.RowsField.{RowsField}
use Rattle.cqlp_observer_facts.specs.declared.rows.RowsField.TheVariants as rows
use Rattle.cqlp_observer_facts.specs.declared.types.Types.{Types}
use Rattle.cqlp_observer_facts.specs.declared.types.TypesNext.{TypesNext}
use Rattle.cqlp_observer_facts.specs.declared.types.TypesNext.TheVariants as next
use Rattle.cqlp_observer_facts.specs.Contents.{past_bytes}
use Rattle.cqlp_observer_facts.specs.Due.{at, past, says}
use Rattle.cqlp_observer_facts.specs.Numbers.{int, short, signed_int}
use Rattle.cqlp_observer_facts.specs.Types.{columns_of, types_next, with_fields, with_types}

-- types and fields, and then the number of rows
abbrev pub due_of : TypesNext → Due
due_of (next.Type t) = due.Rows (rows.Type t)
due_of (next.Names more t) = due.Rows (rows.Name more t)
due_of next.Over = due.Rows rows.RowCount

abbrev pub types_due : Types → Due
types_due t = due_of (types_next t)

-- so many names before them
abbrev pub names_due : ℕ → Types → Due
names_due n t = if n == 0 then types_due t else due.Rows (rows.Name (n - 1) t)

-- ---- the columns

-- The flag 04 says that there are no metadata, and 01 that one keyspace and table are before the columns, and none before each.
abbrev pub columns_due : (flags columns : ℕ) → Due
columns_due flags n =
    if has flags 0x04 then due.Rows rows.RowCount
    else if has flags 0x01 then due.Rows (rows.Name 1 (columns_of n false))
    else types_due (columns_of n true)

-- The flag 02 says that there is a paging state: more pages follow.
abbrev pub has_more_pages : (flags : ℕ) → Bool
has_more_pages flags = has flags 0x02

abbrev pub paged_columns_due : (flags columns : ℕ) → Due
paged_columns_due flags n =
    if has_more_pages flags then due.Rows (rows.PagingState flags n) else columns_due flags n

abbrev pub columns_following : (flags : ℕ) → List ℕ → Next
columns_following flags b =
    if is_negative (int b) then at due.Over
    else says (fact.Columns (signed_int b)) (paged_columns_due flags (int b))

-- ---- an [option]: the id of a type, and what follows it

-- a type without parameters
abbrev pub is_plain : (id : ℕ) → Bool
is_plain id = not (nat_lt 0x14 id) && not (id == 0x0A)

-- Of a custom type (00) its name, of a list (20) and a set (22) one type, of a map (21) two, of a UDT (30) its keyspace, its name and its
-- fields, of a tuple (31) its types.
abbrev pub after_option : (id : ℕ) → Types → Due
after_option id t =
    if id == 0x00 then names_due 1 t
    else if id == 0x20 then types_due (with_types 1 t)
    else if id == 0x21 then types_due (with_types 2 t)
    else if id == 0x22 then types_due (with_types 1 t)
    else if id == 0x30 then due.Rows (rows.UdtName false t)
    else if id == 0x31 then due.Rows (rows.ItemCount t)
    else if is_plain id then types_due t
    else due.Over

abbrev pub udt_due : (is_own : Bool) → Types → Due
udt_due is_own t = if is_own then due.Rows (rows.FieldCount t) else due.Rows (rows.UdtName true t)

abbrev pub fields_within : Option Types → Due
fields_within (Some t) = types_due t
fields_within None = due.Over

abbrev pub fields_due : ℕ → Types → Due
fields_due n t = fields_within (with_fields n t)

-- ---- the fields

abbrev pub row_count : List ℕ → Next
row_count b = if is_negative (int b) then at due.Over else says (fact.Rows (signed_int b)) due.Over

abbrev pub rows_width : RowsField → ℕ
rows_width rows.Flags = 4
rows_width (rows.ColumnCount flags) = 4
rows_width (rows.PagingState flags columns) = 4
rows_width (rows.Name more t) = 2
rows_width (rows.Type t) = 2
rows_width (rows.UdtName is_own t) = 2
rows_width (rows.FieldCount t) = 2
rows_width (rows.ItemCount t) = 2
rows_width rows.RowCount = 4

abbrev pub rows_following : RowsField → List ℕ → Next
rows_following rows.Flags b = says (fact.HasMorePages (has_more_pages (int b))) (due.Rows (rows.ColumnCount (int b)))
rows_following (rows.ColumnCount flags) b = columns_following flags b
rows_following (rows.PagingState flags columns) b = past_bytes (int b) (columns_due flags columns)
rows_following (rows.Name more t) b = past (short b) (names_due more t)
rows_following (rows.Type t) b = at (after_option (short b) t)
rows_following (rows.UdtName is_own t) b = past (short b) (udt_due is_own t)
rows_following (rows.FieldCount t) b = at (fields_due (short b) t)
rows_following (rows.ItemCount t) b = at (types_due (with_types (short b) t))
rows_following rows.RowCount b = row_count b
