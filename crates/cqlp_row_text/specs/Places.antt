-- What the rows of a page, as JSON or CSV, depend on of the events before: the place on the page, as its text has it, and
-- whether a column's name has come.
use Rattle.std.specs.Prelude.{◌==◌, ℕ, Bool, true, false, if◌then◌else◌, List, []}
use Rattle.cqlp_note.specs.declared.field.Field.{Field}
use Rattle.cqlp_note.specs.declared.field.Field.TheVariants as field
use Rattle.cqlp_note.specs.Field.{FieldValue}
use Rattle.cqlp_note.specs.Field as value
use Rattle.cqlp_grammar.specs.Events.{Event}
use Rattle.cqlp_grammar.specs.Events as reading
use Rattle.cqlp_text.specs.PageText.{no_page, place_after}
use Rattle.cqlp_row_text.specs.declared.place.TablePlace.{TablePlace}

abbrev pub no_table : TablePlace
no_table = record { page = no_page; is_named = false }

abbrev pub named_after_field : Bool → Field → FieldValue → Bool
named_after_field named field.ColumnName (value.Text name) = true
named_after_field named f v = named

abbrev pub named_after : Bool → Event → Bool
named_after named (reading.Holds f v) = named_after_field named f v
named_after named (reading.End extra) = false
named_after named e = named

abbrev pub table_after : TablePlace → Event → TablePlace
table_after p e = record { page = place_after p.page e; is_named = named_after p.is_named e }

-- ---- parts of a long content

-- what comes before its first part alone
abbrev pub at_first : (offset : ℕ) → List ℕ → List ℕ
at_first offset text = if offset == 0 then text else []

-- what comes after its last part alone
abbrev pub at_last : (last : Bool) → List ℕ → List ℕ
at_last last text = if last then text else []
