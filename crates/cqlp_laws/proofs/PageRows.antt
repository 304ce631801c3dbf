-- Worked pages: their events and verdicts, by computation.
use Rattle.std.proofs.Common.{◌≡◌, [], ◌∷◌, true, false, refl, pos, negsuc}
use Rattle.std.specs.Str.{is_utf8, chars}
use lib.Utf8.{encode}
use Rattle.cqlp_note.specs.declared.opcode.Opcode.TheVariants as opcode
use Rattle.cqlp_note.specs.declared.field.Field.TheVariants as field
use Rattle.cqlp_note.specs.declared.refusal.Reason.TheVariants as reason
use Rattle.cqlp_kind.specs.declared.kind.Kind.TheVariants as kind
use Rattle.cqlp_note.specs.Limits.{Rules}
use Rattle.cqlp_note.specs.Reader.{number_of}
use Rattle.cqlp_note.specs.Field as note
use Rattle.cqlp_note.specs.Field.{field_of, content_of}
use Rattle.cqlp_note.specs.Heading.{heading}
use Rattle.cqlp_kind.specs.Scalars as scalar
use Rattle.cqlp_kind.specs.Scalars.{scalar_of}
use Rattle.cqlp_kind.specs.CellStep as cell
use Rattle.cqlp_decode.specs.Reading.{reading, start, Frame, Holds, Node_of, Cell_at, Leave, End, Waits, Refused}

abbrev limits : Rules
limits = record { text = 64; cell = 64; entries = 8; depth = 3; types = true; part = 64; parts = false; lenient = false }

list_with_null_and_empty : reading limits 63 start (132 ∷ 0 ∷ 0 ∷ 0 ∷ 8 ∷ 0 ∷ 0 ∷ 0 ∷ 53 ∷ 0 ∷ 0 ∷ 0 ∷ 2 ∷ 0 ∷ 0 ∷ 0 ∷ 1 ∷ 0 ∷ 0 ∷ 0 ∷ 1 ∷ 0 ∷ 1 ∷ 107 ∷ 0 ∷ 1 ∷ 116 ∷ 0 ∷ 1 ∷ 99 ∷ 0 ∷ 32 ∷ 0 ∷ 9 ∷ 0 ∷ 0 ∷ 0 ∷ 1 ∷ 0 ∷ 0 ∷ 0 ∷ 20 ∷ 0 ∷ 0 ∷ 0 ∷ 3 ∷ 0 ∷ 0 ∷ 0 ∷ 4 ∷ 0 ∷ 0 ∷ 0 ∷ 1 ∷ 255 ∷ 255 ∷ 255 ∷ 255 ∷ 0 ∷ 0 ∷ 0 ∷ 0 ∷ []) ≡ ((0, Frame (record { response = true; flags = 0; stream = pos 0; opcode = opcode.Result; length = 53 })) ∷ (9, Holds field.ResultKind (note.Int (pos 2))) ∷ (13, Holds field.MetaFlags (note.Int (pos 1))) ∷ (17, Holds field.Columns (note.Count 1)) ∷ (21, Holds field.Keyspace (note.Text (107 ∷ []))) ∷ (24, Holds field.Table (note.Text (116 ∷ []))) ∷ (27, Holds field.ColumnName (note.Text (99 ∷ []))) ∷ (30, Node_of kind.List) ∷ (32, Node_of kind.Int) ∷ (34, Holds field.Rows (note.Count 1)) ∷ (38, Cell_at 0 0 (cell.Enter 0 kind.List 3)) ∷ (46, Cell_at 0 0 (cell.Leaf 1 (scalar.Int (pos 1)))) ∷ (54, Cell_at 0 0 (cell.Null 1)) ∷ (58, Cell_at 0 0 (cell.Empty 1)) ∷ (62, Leave 0 3) ∷ (62, End 0) ∷ [], Waits)
unfolding heading field_of number_of content_of scalar_of is_utf8 chars encode
list_with_null_and_empty = refl

udt_with_fewer_fields : reading limits 72 start (132 ∷ 0 ∷ 0 ∷ 0 ∷ 8 ∷ 0 ∷ 0 ∷ 0 ∷ 62 ∷ 0 ∷ 0 ∷ 0 ∷ 2 ∷ 0 ∷ 0 ∷ 0 ∷ 1 ∷ 0 ∷ 0 ∷ 0 ∷ 1 ∷ 0 ∷ 1 ∷ 107 ∷ 0 ∷ 1 ∷ 116 ∷ 0 ∷ 1 ∷ 99 ∷ 0 ∷ 48 ∷ 0 ∷ 1 ∷ 107 ∷ 0 ∷ 1 ∷ 117 ∷ 0 ∷ 3 ∷ 0 ∷ 1 ∷ 97 ∷ 0 ∷ 9 ∷ 0 ∷ 1 ∷ 98 ∷ 0 ∷ 9 ∷ 0 ∷ 1 ∷ 99 ∷ 0 ∷ 13 ∷ 0 ∷ 0 ∷ 0 ∷ 1 ∷ 0 ∷ 0 ∷ 0 ∷ 8 ∷ 0 ∷ 0 ∷ 0 ∷ 4 ∷ 0 ∷ 0 ∷ 0 ∷ 7 ∷ []) ≡ ((0, Frame (record { response = true; flags = 0; stream = pos 0; opcode = opcode.Result; length = 62 })) ∷ (9, Holds field.ResultKind (note.Int (pos 2))) ∷ (13, Holds field.MetaFlags (note.Int (pos 1))) ∷ (17, Holds field.Columns (note.Count 1)) ∷ (21, Holds field.Keyspace (note.Text (107 ∷ []))) ∷ (24, Holds field.Table (note.Text (116 ∷ []))) ∷ (27, Holds field.ColumnName (note.Text (99 ∷ []))) ∷ (30, Node_of kind.Udt) ∷ (32, Holds field.Keyspace (note.Text (107 ∷ []))) ∷ (35, Holds field.TypeName (note.Text (117 ∷ []))) ∷ (38, Holds field.Fields (note.Count 3)) ∷ (40, Holds field.FieldName (note.Text (97 ∷ []))) ∷ (43, Node_of kind.Int) ∷ (45, Holds field.FieldName (note.Text (98 ∷ []))) ∷ (48, Node_of kind.Int) ∷ (50, Holds field.FieldName (note.Text (99 ∷ []))) ∷ (53, Node_of kind.Varchar) ∷ (55, Holds field.Rows (note.Count 1)) ∷ (59, Cell_at 0 0 (cell.Enter 0 kind.Udt 3)) ∷ (63, Cell_at 0 0 (cell.Leaf 1 (scalar.Int (pos 7)))) ∷ (71, Leave 0 1) ∷ (71, End 0) ∷ [], Waits)
unfolding heading field_of number_of content_of scalar_of is_utf8 chars encode
udt_with_fewer_fields = refl

blob_longer_than_the_limit : reading limits 106 start (132 ∷ 0 ∷ 0 ∷ 0 ∷ 8 ∷ 0 ∷ 0 ∷ 0 ∷ 96 ∷ 0 ∷ 0 ∷ 0 ∷ 2 ∷ 0 ∷ 0 ∷ 0 ∷ 1 ∷ 0 ∷ 0 ∷ 0 ∷ 1 ∷ 0 ∷ 1 ∷ 107 ∷ 0 ∷ 1 ∷ 116 ∷ 0 ∷ 1 ∷ 99 ∷ 0 ∷ 3 ∷ 0 ∷ 0 ∷ 0 ∷ 1 ∷ 0 ∷ 0 ∷ 0 ∷ 65 ∷ 0 ∷ 0 ∷ 0 ∷ 0 ∷ 0 ∷ 0 ∷ 0 ∷ 0 ∷ 0 ∷ 0 ∷ 0 ∷ 0 ∷ 0 ∷ 0 ∷ 0 ∷ 0 ∷ 0 ∷ 0 ∷ 0 ∷ 0 ∷ 0 ∷ 0 ∷ 0 ∷ 0 ∷ 0 ∷ 0 ∷ 0 ∷ 0 ∷ 0 ∷ 0 ∷ 0 ∷ 0 ∷ 0 ∷ 0 ∷ 0 ∷ 0 ∷ 0 ∷ 0 ∷ 0 ∷ 0 ∷ 0 ∷ 0 ∷ 0 ∷ 0 ∷ 0 ∷ 0 ∷ 0 ∷ 0 ∷ 0 ∷ 0 ∷ 0 ∷ 0 ∷ 0 ∷ 0 ∷ 0 ∷ 0 ∷ 0 ∷ 0 ∷ 0 ∷ 0 ∷ 0 ∷ 0 ∷ 0 ∷ 0 ∷ 0 ∷ []) ≡ ((0, Frame (record { response = true; flags = 0; stream = pos 0; opcode = opcode.Result; length = 96 })) ∷ (9, Holds field.ResultKind (note.Int (pos 2))) ∷ (13, Holds field.MetaFlags (note.Int (pos 1))) ∷ (17, Holds field.Columns (note.Count 1)) ∷ (21, Holds field.Keyspace (note.Text (107 ∷ []))) ∷ (24, Holds field.Table (note.Text (116 ∷ []))) ∷ (27, Holds field.ColumnName (note.Text (99 ∷ []))) ∷ (30, Node_of kind.Blob) ∷ (32, Holds field.Rows (note.Count 1)) ∷ [], Refused 36 reason.TooLong)
unfolding heading field_of number_of content_of scalar_of is_utf8 chars encode
blob_longer_than_the_limit = refl

blob_past_the_frame : reading limits 105 start (132 ∷ 0 ∷ 0 ∷ 0 ∷ 8 ∷ 0 ∷ 0 ∷ 0 ∷ 95 ∷ 0 ∷ 0 ∷ 0 ∷ 2 ∷ 0 ∷ 0 ∷ 0 ∷ 1 ∷ 0 ∷ 0 ∷ 0 ∷ 1 ∷ 0 ∷ 1 ∷ 107 ∷ 0 ∷ 1 ∷ 116 ∷ 0 ∷ 1 ∷ 99 ∷ 0 ∷ 3 ∷ 0 ∷ 0 ∷ 0 ∷ 1 ∷ 0 ∷ 0 ∷ 0 ∷ 65 ∷ 0 ∷ 0 ∷ 0 ∷ 0 ∷ 0 ∷ 0 ∷ 0 ∷ 0 ∷ 0 ∷ 0 ∷ 0 ∷ 0 ∷ 0 ∷ 0 ∷ 0 ∷ 0 ∷ 0 ∷ 0 ∷ 0 ∷ 0 ∷ 0 ∷ 0 ∷ 0 ∷ 0 ∷ 0 ∷ 0 ∷ 0 ∷ 0 ∷ 0 ∷ 0 ∷ 0 ∷ 0 ∷ 0 ∷ 0 ∷ 0 ∷ 0 ∷ 0 ∷ 0 ∷ 0 ∷ 0 ∷ 0 ∷ 0 ∷ 0 ∷ 0 ∷ 0 ∷ 0 ∷ 0 ∷ 0 ∷ 0 ∷ 0 ∷ 0 ∷ 0 ∷ 0 ∷ 0 ∷ 0 ∷ 0 ∷ 0 ∷ 0 ∷ 0 ∷ 0 ∷ 0 ∷ 0 ∷ 0 ∷ 0 ∷ []) ≡ ((0, Frame (record { response = true; flags = 0; stream = pos 0; opcode = opcode.Result; length = 95 })) ∷ (9, Holds field.ResultKind (note.Int (pos 2))) ∷ (13, Holds field.MetaFlags (note.Int (pos 1))) ∷ (17, Holds field.Columns (note.Count 1)) ∷ (21, Holds field.Keyspace (note.Text (107 ∷ []))) ∷ (24, Holds field.Table (note.Text (116 ∷ []))) ∷ (27, Holds field.ColumnName (note.Text (99 ∷ []))) ∷ (30, Node_of kind.Blob) ∷ (32, Holds field.Rows (note.Count 1)) ∷ [], Refused 36 reason.Overrun)
unfolding heading field_of number_of content_of scalar_of is_utf8 chars encode
blob_past_the_frame = refl

map_value_past_the_map : reading limits 69 start (132 ∷ 0 ∷ 0 ∷ 0 ∷ 8 ∷ 0 ∷ 0 ∷ 0 ∷ 59 ∷ 0 ∷ 0 ∷ 0 ∷ 2 ∷ 0 ∷ 0 ∷ 0 ∷ 1 ∷ 0 ∷ 0 ∷ 0 ∷ 1 ∷ 0 ∷ 1 ∷ 107 ∷ 0 ∷ 1 ∷ 116 ∷ 0 ∷ 1 ∷ 99 ∷ 0 ∷ 33 ∷ 0 ∷ 9 ∷ 0 ∷ 9 ∷ 0 ∷ 0 ∷ 0 ∷ 2 ∷ 0 ∷ 0 ∷ 0 ∷ 20 ∷ 0 ∷ 0 ∷ 0 ∷ 1 ∷ 0 ∷ 0 ∷ 0 ∷ 4 ∷ 0 ∷ 0 ∷ 0 ∷ 1 ∷ 0 ∷ 0 ∷ 0 ∷ 5 ∷ 0 ∷ 0 ∷ 0 ∷ 2 ∷ 255 ∷ 255 ∷ 255 ∷ 255 ∷ []) ≡ ((0, Frame (record { response = true; flags = 0; stream = pos 0; opcode = opcode.Result; length = 59 })) ∷ (9, Holds field.ResultKind (note.Int (pos 2))) ∷ (13, Holds field.MetaFlags (note.Int (pos 1))) ∷ (17, Holds field.Columns (note.Count 1)) ∷ (21, Holds field.Keyspace (note.Text (107 ∷ []))) ∷ (24, Holds field.Table (note.Text (116 ∷ []))) ∷ (27, Holds field.ColumnName (note.Text (99 ∷ []))) ∷ (30, Node_of kind.Map) ∷ (32, Node_of kind.Int) ∷ (34, Node_of kind.Int) ∷ (36, Holds field.Rows (note.Count 2)) ∷ (40, Cell_at 0 0 (cell.Enter 0 kind.Map 1)) ∷ (48, Cell_at 0 0 (cell.Leaf 1 (scalar.Int (pos 1)))) ∷ [], Refused 56 reason.Overrun)
unfolding heading field_of number_of content_of scalar_of is_utf8 chars encode
map_value_past_the_map = refl

empty_list_with_extra_bytes : reading limits 51 start (132 ∷ 0 ∷ 0 ∷ 0 ∷ 8 ∷ 0 ∷ 0 ∷ 0 ∷ 41 ∷ 0 ∷ 0 ∷ 0 ∷ 2 ∷ 0 ∷ 0 ∷ 0 ∷ 1 ∷ 0 ∷ 0 ∷ 0 ∷ 1 ∷ 0 ∷ 1 ∷ 107 ∷ 0 ∷ 1 ∷ 116 ∷ 0 ∷ 1 ∷ 99 ∷ 0 ∷ 32 ∷ 0 ∷ 9 ∷ 0 ∷ 0 ∷ 0 ∷ 1 ∷ 0 ∷ 0 ∷ 0 ∷ 8 ∷ 0 ∷ 0 ∷ 0 ∷ 0 ∷ 0 ∷ 0 ∷ 0 ∷ 0 ∷ []) ≡ ((0, Frame (record { response = true; flags = 0; stream = pos 0; opcode = opcode.Result; length = 41 })) ∷ (9, Holds field.ResultKind (note.Int (pos 2))) ∷ (13, Holds field.MetaFlags (note.Int (pos 1))) ∷ (17, Holds field.Columns (note.Count 1)) ∷ (21, Holds field.Keyspace (note.Text (107 ∷ []))) ∷ (24, Holds field.Table (note.Text (116 ∷ []))) ∷ (27, Holds field.ColumnName (note.Text (99 ∷ []))) ∷ (30, Node_of kind.List) ∷ (32, Node_of kind.Int) ∷ (34, Holds field.Rows (note.Count 1)) ∷ (38, Cell_at 0 0 (cell.Enter 0 kind.List 0)) ∷ [], Refused 46 reason.ExtraInValue)
unfolding heading field_of number_of content_of scalar_of is_utf8 chars encode
empty_list_with_extra_bytes = refl

list_of_lists : reading limits 65 start (132 ∷ 0 ∷ 0 ∷ 0 ∷ 8 ∷ 0 ∷ 0 ∷ 0 ∷ 55 ∷ 0 ∷ 0 ∷ 0 ∷ 2 ∷ 0 ∷ 0 ∷ 0 ∷ 1 ∷ 0 ∷ 0 ∷ 0 ∷ 1 ∷ 0 ∷ 1 ∷ 107 ∷ 0 ∷ 1 ∷ 116 ∷ 0 ∷ 1 ∷ 99 ∷ 0 ∷ 32 ∷ 0 ∷ 32 ∷ 0 ∷ 9 ∷ 0 ∷ 0 ∷ 0 ∷ 1 ∷ 0 ∷ 0 ∷ 0 ∷ 20 ∷ 0 ∷ 0 ∷ 0 ∷ 1 ∷ 0 ∷ 0 ∷ 0 ∷ 12 ∷ 0 ∷ 0 ∷ 0 ∷ 1 ∷ 0 ∷ 0 ∷ 0 ∷ 4 ∷ 0 ∷ 0 ∷ 0 ∷ 7 ∷ []) ≡ ((0, Frame (record { response = true; flags = 0; stream = pos 0; opcode = opcode.Result; length = 55 })) ∷ (9, Holds field.ResultKind (note.Int (pos 2))) ∷ (13, Holds field.MetaFlags (note.Int (pos 1))) ∷ (17, Holds field.Columns (note.Count 1)) ∷ (21, Holds field.Keyspace (note.Text (107 ∷ []))) ∷ (24, Holds field.Table (note.Text (116 ∷ []))) ∷ (27, Holds field.ColumnName (note.Text (99 ∷ []))) ∷ (30, Node_of kind.List) ∷ (32, Node_of kind.List) ∷ (34, Node_of kind.Int) ∷ (36, Holds field.Rows (note.Count 1)) ∷ (40, Cell_at 0 0 (cell.Enter 0 kind.List 1)) ∷ (48, Cell_at 0 0 (cell.Enter 1 kind.List 1)) ∷ (56, Cell_at 0 0 (cell.Leaf 2 (scalar.Int (pos 7)))) ∷ (64, Leave 1 1) ∷ (64, Leave 0 1) ∷ (64, End 0) ∷ [], Waits)
unfolding heading field_of number_of content_of scalar_of is_utf8 chars encode
list_of_lists = refl

tuple_with_an_item_too_many : reading limits 61 start (132 ∷ 0 ∷ 0 ∷ 0 ∷ 8 ∷ 0 ∷ 0 ∷ 0 ∷ 51 ∷ 0 ∷ 0 ∷ 0 ∷ 2 ∷ 0 ∷ 0 ∷ 0 ∷ 1 ∷ 0 ∷ 0 ∷ 0 ∷ 1 ∷ 0 ∷ 1 ∷ 107 ∷ 0 ∷ 1 ∷ 116 ∷ 0 ∷ 1 ∷ 99 ∷ 0 ∷ 49 ∷ 0 ∷ 1 ∷ 0 ∷ 9 ∷ 0 ∷ 0 ∷ 0 ∷ 1 ∷ 0 ∷ 0 ∷ 0 ∷ 16 ∷ 0 ∷ 0 ∷ 0 ∷ 4 ∷ 0 ∷ 0 ∷ 0 ∷ 7 ∷ 0 ∷ 0 ∷ 0 ∷ 4 ∷ 0 ∷ 0 ∷ 0 ∷ 7 ∷ []) ≡ ((0, Frame (record { response = true; flags = 0; stream = pos 0; opcode = opcode.Result; length = 51 })) ∷ (9, Holds field.ResultKind (note.Int (pos 2))) ∷ (13, Holds field.MetaFlags (note.Int (pos 1))) ∷ (17, Holds field.Columns (note.Count 1)) ∷ (21, Holds field.Keyspace (note.Text (107 ∷ []))) ∷ (24, Holds field.Table (note.Text (116 ∷ []))) ∷ (27, Holds field.ColumnName (note.Text (99 ∷ []))) ∷ (30, Node_of kind.Tuple) ∷ (32, Holds field.Fields (note.Count 1)) ∷ (34, Node_of kind.Int) ∷ (36, Holds field.Rows (note.Count 1)) ∷ (40, Cell_at 0 0 (cell.Enter 0 kind.Tuple 1)) ∷ (44, Cell_at 0 0 (cell.Leaf 1 (scalar.Int (pos 7)))) ∷ [], Refused 52 reason.ExtraInValue)
unfolding heading field_of number_of content_of scalar_of is_utf8 chars encode
tuple_with_an_item_too_many = refl

page_without_metadata : reading limits 35 start (132 ∷ 0 ∷ 0 ∷ 0 ∷ 8 ∷ 0 ∷ 0 ∷ 0 ∷ 25 ∷ 0 ∷ 0 ∷ 0 ∷ 2 ∷ 0 ∷ 0 ∷ 0 ∷ 4 ∷ 0 ∷ 0 ∷ 0 ∷ 1 ∷ 0 ∷ 0 ∷ 0 ∷ 2 ∷ 0 ∷ 0 ∷ 0 ∷ 1 ∷ 7 ∷ 255 ∷ 255 ∷ 255 ∷ 255 ∷ []) ≡ ((0, Frame (record { response = true; flags = 0; stream = pos 0; opcode = opcode.Result; length = 25 })) ∷ (9, Holds field.ResultKind (note.Int (pos 2))) ∷ (13, Holds field.MetaFlags (note.Int (pos 4))) ∷ (17, Holds field.Columns (note.Count 1)) ∷ (21, Holds field.Rows (note.Count 2)) ∷ (25, Cell_at 0 0 (cell.Leaf 0 (scalar.Raw (7 ∷ [])))) ∷ (30, Cell_at 1 0 (cell.Null 0)) ∷ (34, End 0) ∷ [], Waits)
unfolding heading field_of number_of content_of scalar_of is_utf8 chars encode
page_without_metadata = refl

int_of_three_bytes : reading limits 44 start (132 ∷ 0 ∷ 0 ∷ 0 ∷ 8 ∷ 0 ∷ 0 ∷ 0 ∷ 34 ∷ 0 ∷ 0 ∷ 0 ∷ 2 ∷ 0 ∷ 0 ∷ 0 ∷ 1 ∷ 0 ∷ 0 ∷ 0 ∷ 1 ∷ 0 ∷ 1 ∷ 107 ∷ 0 ∷ 1 ∷ 116 ∷ 0 ∷ 1 ∷ 99 ∷ 0 ∷ 9 ∷ 0 ∷ 0 ∷ 0 ∷ 1 ∷ 0 ∷ 0 ∷ 0 ∷ 3 ∷ 1 ∷ 2 ∷ 3 ∷ []) ≡ ((0, Frame (record { response = true; flags = 0; stream = pos 0; opcode = opcode.Result; length = 34 })) ∷ (9, Holds field.ResultKind (note.Int (pos 2))) ∷ (13, Holds field.MetaFlags (note.Int (pos 1))) ∷ (17, Holds field.Columns (note.Count 1)) ∷ (21, Holds field.Keyspace (note.Text (107 ∷ []))) ∷ (24, Holds field.Table (note.Text (116 ∷ []))) ∷ (27, Holds field.ColumnName (note.Text (99 ∷ []))) ∷ (30, Node_of kind.Int) ∷ (32, Holds field.Rows (note.Count 1)) ∷ [], Refused 36 reason.BadSize)
unfolding heading field_of number_of content_of scalar_of is_utf8 chars encode
int_of_three_bytes = refl

negative_list_count : reading limits 47 start (132 ∷ 0 ∷ 0 ∷ 0 ∷ 8 ∷ 0 ∷ 0 ∷ 0 ∷ 37 ∷ 0 ∷ 0 ∷ 0 ∷ 2 ∷ 0 ∷ 0 ∷ 0 ∷ 1 ∷ 0 ∷ 0 ∷ 0 ∷ 1 ∷ 0 ∷ 1 ∷ 107 ∷ 0 ∷ 1 ∷ 116 ∷ 0 ∷ 1 ∷ 99 ∷ 0 ∷ 32 ∷ 0 ∷ 9 ∷ 0 ∷ 0 ∷ 0 ∷ 1 ∷ 0 ∷ 0 ∷ 0 ∷ 4 ∷ 255 ∷ 255 ∷ 255 ∷ 255 ∷ []) ≡ ((0, Frame (record { response = true; flags = 0; stream = pos 0; opcode = opcode.Result; length = 37 })) ∷ (9, Holds field.ResultKind (note.Int (pos 2))) ∷ (13, Holds field.MetaFlags (note.Int (pos 1))) ∷ (17, Holds field.Columns (note.Count 1)) ∷ (21, Holds field.Keyspace (note.Text (107 ∷ []))) ∷ (24, Holds field.Table (note.Text (116 ∷ []))) ∷ (27, Holds field.ColumnName (note.Text (99 ∷ []))) ∷ (30, Node_of kind.List) ∷ (32, Node_of kind.Int) ∷ (34, Holds field.Rows (note.Count 1)) ∷ [], Refused 42 reason.BadCount)
unfolding heading field_of number_of content_of scalar_of is_utf8 chars encode
negative_list_count = refl

list_count_past_the_list : reading limits 46 start (132 ∷ 0 ∷ 0 ∷ 0 ∷ 8 ∷ 0 ∷ 0 ∷ 0 ∷ 36 ∷ 0 ∷ 0 ∷ 0 ∷ 2 ∷ 0 ∷ 0 ∷ 0 ∷ 1 ∷ 0 ∷ 0 ∷ 0 ∷ 1 ∷ 0 ∷ 1 ∷ 107 ∷ 0 ∷ 1 ∷ 116 ∷ 0 ∷ 1 ∷ 99 ∷ 0 ∷ 32 ∷ 0 ∷ 9 ∷ 0 ∷ 0 ∷ 0 ∷ 1 ∷ 0 ∷ 0 ∷ 0 ∷ 3 ∷ 0 ∷ 0 ∷ 0 ∷ []) ≡ ((0, Frame (record { response = true; flags = 0; stream = pos 0; opcode = opcode.Result; length = 36 })) ∷ (9, Holds field.ResultKind (note.Int (pos 2))) ∷ (13, Holds field.MetaFlags (note.Int (pos 1))) ∷ (17, Holds field.Columns (note.Count 1)) ∷ (21, Holds field.Keyspace (note.Text (107 ∷ []))) ∷ (24, Holds field.Table (note.Text (116 ∷ []))) ∷ (27, Holds field.ColumnName (note.Text (99 ∷ []))) ∷ (30, Node_of kind.List) ∷ (32, Node_of kind.Int) ∷ (34, Holds field.Rows (note.Count 1)) ∷ [], Refused 42 reason.Overrun)
unfolding heading field_of number_of content_of scalar_of is_utf8 chars encode
list_count_past_the_list = refl

types_are_not_asked_for : reading (record limits { types = false }) 44 start (132 ∷ 0 ∷ 0 ∷ 0 ∷ 8 ∷ 0 ∷ 0 ∷ 0 ∷ 34 ∷ 0 ∷ 0 ∷ 0 ∷ 2 ∷ 0 ∷ 0 ∷ 0 ∷ 1 ∷ 0 ∷ 0 ∷ 0 ∷ 1 ∷ 0 ∷ 1 ∷ 107 ∷ 0 ∷ 1 ∷ 116 ∷ 0 ∷ 1 ∷ 99 ∷ 0 ∷ 9 ∷ 0 ∷ 0 ∷ 0 ∷ 1 ∷ 0 ∷ 0 ∷ 0 ∷ 3 ∷ 1 ∷ 2 ∷ 3 ∷ []) ≡ ((0, Frame (record { response = true; flags = 0; stream = pos 0; opcode = opcode.Result; length = 34 })) ∷ (9, Holds field.ResultKind (note.Int (pos 2))) ∷ (13, Holds field.MetaFlags (note.Int (pos 1))) ∷ (17, Holds field.Columns (note.Count 1)) ∷ (21, Holds field.Keyspace (note.Text (107 ∷ []))) ∷ (24, Holds field.Table (note.Text (116 ∷ []))) ∷ (27, Holds field.ColumnName (note.Text (99 ∷ []))) ∷ (30, Node_of kind.Int) ∷ (32, Holds field.Rows (note.Count 1)) ∷ (36, Cell_at 0 0 (cell.Leaf 0 (scalar.Raw (1 ∷ 2 ∷ 3 ∷ [])))) ∷ (43, End 0) ∷ [], Waits)
unfolding heading field_of number_of content_of scalar_of is_utf8 chars encode
types_are_not_asked_for = refl

blob_in_parts : reading (record limits { parts = true }) 106 start (132 ∷ 0 ∷ 0 ∷ 0 ∷ 8 ∷ 0 ∷ 0 ∷ 0 ∷ 96 ∷ 0 ∷ 0 ∷ 0 ∷ 2 ∷ 0 ∷ 0 ∷ 0 ∷ 1 ∷ 0 ∷ 0 ∷ 0 ∷ 1 ∷ 0 ∷ 1 ∷ 107 ∷ 0 ∷ 1 ∷ 116 ∷ 0 ∷ 1 ∷ 99 ∷ 0 ∷ 3 ∷ 0 ∷ 0 ∷ 0 ∷ 1 ∷ 0 ∷ 0 ∷ 0 ∷ 65 ∷ 0 ∷ 1 ∷ 2 ∷ 3 ∷ 4 ∷ 5 ∷ 6 ∷ 7 ∷ 8 ∷ 9 ∷ 10 ∷ 11 ∷ 12 ∷ 13 ∷ 14 ∷ 15 ∷ 16 ∷ 17 ∷ 18 ∷ 19 ∷ 20 ∷ 21 ∷ 22 ∷ 23 ∷ 24 ∷ 25 ∷ 26 ∷ 27 ∷ 28 ∷ 29 ∷ 30 ∷ 31 ∷ 32 ∷ 33 ∷ 34 ∷ 35 ∷ 36 ∷ 37 ∷ 38 ∷ 39 ∷ 40 ∷ 41 ∷ 42 ∷ 43 ∷ 44 ∷ 45 ∷ 46 ∷ 47 ∷ 48 ∷ 49 ∷ 50 ∷ 51 ∷ 52 ∷ 53 ∷ 54 ∷ 55 ∷ 56 ∷ 57 ∷ 58 ∷ 59 ∷ 60 ∷ 61 ∷ 62 ∷ 63 ∷ 64 ∷ []) ≡ ((0, Frame (record { response = true; flags = 0; stream = pos 0; opcode = opcode.Result; length = 96 })) ∷ (9, Holds field.ResultKind (note.Int (pos 2))) ∷ (13, Holds field.MetaFlags (note.Int (pos 1))) ∷ (17, Holds field.Columns (note.Count 1)) ∷ (21, Holds field.Keyspace (note.Text (107 ∷ []))) ∷ (24, Holds field.Table (note.Text (116 ∷ []))) ∷ (27, Holds field.ColumnName (note.Text (99 ∷ []))) ∷ (30, Node_of kind.Blob) ∷ (32, Holds field.Rows (note.Count 1)) ∷ (40, Cell_at 0 0 (cell.Part 0 0 (0 ∷ 1 ∷ 2 ∷ 3 ∷ 4 ∷ 5 ∷ 6 ∷ 7 ∷ 8 ∷ 9 ∷ 10 ∷ 11 ∷ 12 ∷ 13 ∷ 14 ∷ 15 ∷ 16 ∷ 17 ∷ 18 ∷ 19 ∷ 20 ∷ 21 ∷ 22 ∷ 23 ∷ 24 ∷ 25 ∷ 26 ∷ 27 ∷ 28 ∷ 29 ∷ 30 ∷ 31 ∷ 32 ∷ 33 ∷ 34 ∷ 35 ∷ 36 ∷ 37 ∷ 38 ∷ 39 ∷ 40 ∷ 41 ∷ 42 ∷ 43 ∷ 44 ∷ 45 ∷ 46 ∷ 47 ∷ 48 ∷ 49 ∷ 50 ∷ 51 ∷ 52 ∷ 53 ∷ 54 ∷ 55 ∷ 56 ∷ 57 ∷ 58 ∷ 59 ∷ 60 ∷ 61 ∷ 62 ∷ 63 ∷ []) false)) ∷ (104, Cell_at 0 0 (cell.Part 0 64 (64 ∷ []) true)) ∷ (105, End 0) ∷ [], Waits)
unfolding heading field_of number_of content_of scalar_of is_utf8 chars encode
blob_in_parts = refl

blob_at_the_limit_is_whole : reading (record limits { parts = true }) 105 start (132 ∷ 0 ∷ 0 ∷ 0 ∷ 8 ∷ 0 ∷ 0 ∷ 0 ∷ 95 ∷ 0 ∷ 0 ∷ 0 ∷ 2 ∷ 0 ∷ 0 ∷ 0 ∷ 1 ∷ 0 ∷ 0 ∷ 0 ∷ 1 ∷ 0 ∷ 1 ∷ 107 ∷ 0 ∷ 1 ∷ 116 ∷ 0 ∷ 1 ∷ 99 ∷ 0 ∷ 3 ∷ 0 ∷ 0 ∷ 0 ∷ 1 ∷ 0 ∷ 0 ∷ 0 ∷ 64 ∷ 9 ∷ 9 ∷ 9 ∷ 9 ∷ 9 ∷ 9 ∷ 9 ∷ 9 ∷ 9 ∷ 9 ∷ 9 ∷ 9 ∷ 9 ∷ 9 ∷ 9 ∷ 9 ∷ 9 ∷ 9 ∷ 9 ∷ 9 ∷ 9 ∷ 9 ∷ 9 ∷ 9 ∷ 9 ∷ 9 ∷ 9 ∷ 9 ∷ 9 ∷ 9 ∷ 9 ∷ 9 ∷ 9 ∷ 9 ∷ 9 ∷ 9 ∷ 9 ∷ 9 ∷ 9 ∷ 9 ∷ 9 ∷ 9 ∷ 9 ∷ 9 ∷ 9 ∷ 9 ∷ 9 ∷ 9 ∷ 9 ∷ 9 ∷ 9 ∷ 9 ∷ 9 ∷ 9 ∷ 9 ∷ 9 ∷ 9 ∷ 9 ∷ 9 ∷ 9 ∷ 9 ∷ 9 ∷ 9 ∷ 9 ∷ []) ≡ ((0, Frame (record { response = true; flags = 0; stream = pos 0; opcode = opcode.Result; length = 95 })) ∷ (9, Holds field.ResultKind (note.Int (pos 2))) ∷ (13, Holds field.MetaFlags (note.Int (pos 1))) ∷ (17, Holds field.Columns (note.Count 1)) ∷ (21, Holds field.Keyspace (note.Text (107 ∷ []))) ∷ (24, Holds field.Table (note.Text (116 ∷ []))) ∷ (27, Holds field.ColumnName (note.Text (99 ∷ []))) ∷ (30, Node_of kind.Blob) ∷ (32, Holds field.Rows (note.Count 1)) ∷ (36, Cell_at 0 0 (cell.Leaf 0 (scalar.Blob (9 ∷ 9 ∷ 9 ∷ 9 ∷ 9 ∷ 9 ∷ 9 ∷ 9 ∷ 9 ∷ 9 ∷ 9 ∷ 9 ∷ 9 ∷ 9 ∷ 9 ∷ 9 ∷ 9 ∷ 9 ∷ 9 ∷ 9 ∷ 9 ∷ 9 ∷ 9 ∷ 9 ∷ 9 ∷ 9 ∷ 9 ∷ 9 ∷ 9 ∷ 9 ∷ 9 ∷ 9 ∷ 9 ∷ 9 ∷ 9 ∷ 9 ∷ 9 ∷ 9 ∷ 9 ∷ 9 ∷ 9 ∷ 9 ∷ 9 ∷ 9 ∷ 9 ∷ 9 ∷ 9 ∷ 9 ∷ 9 ∷ 9 ∷ 9 ∷ 9 ∷ 9 ∷ 9 ∷ 9 ∷ 9 ∷ 9 ∷ 9 ∷ 9 ∷ 9 ∷ 9 ∷ 9 ∷ 9 ∷ 9 ∷ [])))) ∷ (104, End 0) ∷ [], Waits)
unfolding heading field_of number_of content_of scalar_of is_utf8 chars encode
blob_at_the_limit_is_whole = refl

null_and_empty_cells : reading limits 55 start (132 ∷ 0 ∷ 0 ∷ 0 ∷ 8 ∷ 0 ∷ 0 ∷ 0 ∷ 45 ∷ 0 ∷ 0 ∷ 0 ∷ 2 ∷ 0 ∷ 0 ∷ 0 ∷ 1 ∷ 0 ∷ 0 ∷ 0 ∷ 1 ∷ 0 ∷ 1 ∷ 107 ∷ 0 ∷ 1 ∷ 116 ∷ 0 ∷ 1 ∷ 99 ∷ 0 ∷ 32 ∷ 0 ∷ 9 ∷ 0 ∷ 0 ∷ 0 ∷ 3 ∷ 255 ∷ 255 ∷ 255 ∷ 255 ∷ 0 ∷ 0 ∷ 0 ∷ 0 ∷ 0 ∷ 0 ∷ 0 ∷ 4 ∷ 0 ∷ 0 ∷ 0 ∷ 0 ∷ []) ≡ ((0, Frame (record { response = true; flags = 0; stream = pos 0; opcode = opcode.Result; length = 45 })) ∷ (9, Holds field.ResultKind (note.Int (pos 2))) ∷ (13, Holds field.MetaFlags (note.Int (pos 1))) ∷ (17, Holds field.Columns (note.Count 1)) ∷ (21, Holds field.Keyspace (note.Text (107 ∷ []))) ∷ (24, Holds field.Table (note.Text (116 ∷ []))) ∷ (27, Holds field.ColumnName (note.Text (99 ∷ []))) ∷ (30, Node_of kind.List) ∷ (32, Node_of kind.Int) ∷ (34, Holds field.Rows (note.Count 3)) ∷ (38, Cell_at 0 0 (cell.Null 0)) ∷ (42, Cell_at 1 0 (cell.Empty 0)) ∷ (46, Cell_at 2 0 (cell.Enter 0 kind.List 0)) ∷ (54, Leave 0 0) ∷ (54, End 0) ∷ [], Waits)
unfolding heading field_of number_of content_of scalar_of is_utf8 chars encode
null_and_empty_cells = refl

two_rows_of_two_columns : reading limits 76 start (132 ∷ 0 ∷ 0 ∷ 0 ∷ 8 ∷ 0 ∷ 0 ∷ 0 ∷ 66 ∷ 0 ∷ 0 ∷ 0 ∷ 2 ∷ 0 ∷ 0 ∷ 0 ∷ 1 ∷ 0 ∷ 0 ∷ 0 ∷ 2 ∷ 0 ∷ 1 ∷ 107 ∷ 0 ∷ 1 ∷ 116 ∷ 0 ∷ 1 ∷ 97 ∷ 0 ∷ 34 ∷ 0 ∷ 9 ∷ 0 ∷ 1 ∷ 98 ∷ 0 ∷ 13 ∷ 0 ∷ 0 ∷ 0 ∷ 2 ∷ 0 ∷ 0 ∷ 0 ∷ 12 ∷ 0 ∷ 0 ∷ 0 ∷ 1 ∷ 0 ∷ 0 ∷ 0 ∷ 4 ∷ 255 ∷ 255 ∷ 255 ∷ 254 ∷ 0 ∷ 0 ∷ 0 ∷ 1 ∷ 98 ∷ 255 ∷ 255 ∷ 255 ∷ 255 ∷ 0 ∷ 0 ∷ 0 ∷ 2 ∷ 99 ∷ 99 ∷ 238 ∷ []) ≡ ((0, Frame (record { response = true; flags = 0; stream = pos 0; opcode = opcode.Result; length = 66 })) ∷ (9, Holds field.ResultKind (note.Int (pos 2))) ∷ (13, Holds field.MetaFlags (note.Int (pos 1))) ∷ (17, Holds field.Columns (note.Count 2)) ∷ (21, Holds field.Keyspace (note.Text (107 ∷ []))) ∷ (24, Holds field.Table (note.Text (116 ∷ []))) ∷ (27, Holds field.ColumnName (note.Text (97 ∷ []))) ∷ (30, Node_of kind.Set) ∷ (32, Node_of kind.Int) ∷ (34, Holds field.ColumnName (note.Text (98 ∷ []))) ∷ (37, Node_of kind.Varchar) ∷ (39, Holds field.Rows (note.Count 2)) ∷ (43, Cell_at 0 0 (cell.Enter 0 kind.Set 1)) ∷ (51, Cell_at 0 0 (cell.Leaf 1 (scalar.Int (negsuc 1)))) ∷ (59, Leave 0 1) ∷ (59, Cell_at 0 1 (cell.Leaf 0 (scalar.Varchar (98 ∷ [])))) ∷ (64, Cell_at 1 0 (cell.Null 0)) ∷ (68, Cell_at 1 1 (cell.Leaf 0 (scalar.Varchar (99 ∷ 99 ∷ [])))) ∷ (75, End 1) ∷ [], Waits)
unfolding heading field_of number_of content_of scalar_of is_utf8 chars encode
two_rows_of_two_columns = refl

text_that_is_not_utf8_in_a_cell : reading limits 43 start (132 ∷ 0 ∷ 0 ∷ 0 ∷ 8 ∷ 0 ∷ 0 ∷ 0 ∷ 33 ∷ 0 ∷ 0 ∷ 0 ∷ 2 ∷ 0 ∷ 0 ∷ 0 ∷ 1 ∷ 0 ∷ 0 ∷ 0 ∷ 1 ∷ 0 ∷ 1 ∷ 107 ∷ 0 ∷ 1 ∷ 116 ∷ 0 ∷ 1 ∷ 99 ∷ 0 ∷ 13 ∷ 0 ∷ 0 ∷ 0 ∷ 1 ∷ 0 ∷ 0 ∷ 0 ∷ 2 ∷ 195 ∷ 40 ∷ []) ≡ ((0, Frame (record { response = true; flags = 0; stream = pos 0; opcode = opcode.Result; length = 33 })) ∷ (9, Holds field.ResultKind (note.Int (pos 2))) ∷ (13, Holds field.MetaFlags (note.Int (pos 1))) ∷ (17, Holds field.Columns (note.Count 1)) ∷ (21, Holds field.Keyspace (note.Text (107 ∷ []))) ∷ (24, Holds field.Table (note.Text (116 ∷ []))) ∷ (27, Holds field.ColumnName (note.Text (99 ∷ []))) ∷ (30, Node_of kind.Varchar) ∷ (32, Holds field.Rows (note.Count 1)) ∷ [], Refused 36 reason.BadUtf8)
unfolding heading field_of number_of content_of scalar_of is_utf8 chars encode
text_that_is_not_utf8_in_a_cell = refl

time_past_midnight : reading limits 49 start (132 ∷ 0 ∷ 0 ∷ 0 ∷ 8 ∷ 0 ∷ 0 ∷ 0 ∷ 39 ∷ 0 ∷ 0 ∷ 0 ∷ 2 ∷ 0 ∷ 0 ∷ 0 ∷ 1 ∷ 0 ∷ 0 ∷ 0 ∷ 1 ∷ 0 ∷ 1 ∷ 107 ∷ 0 ∷ 1 ∷ 116 ∷ 0 ∷ 1 ∷ 99 ∷ 0 ∷ 18 ∷ 0 ∷ 0 ∷ 0 ∷ 1 ∷ 0 ∷ 0 ∷ 0 ∷ 8 ∷ 0 ∷ 0 ∷ 78 ∷ 148 ∷ 145 ∷ 79 ∷ 0 ∷ 0 ∷ []) ≡ ((0, Frame (record { response = true; flags = 0; stream = pos 0; opcode = opcode.Result; length = 39 })) ∷ (9, Holds field.ResultKind (note.Int (pos 2))) ∷ (13, Holds field.MetaFlags (note.Int (pos 1))) ∷ (17, Holds field.Columns (note.Count 1)) ∷ (21, Holds field.Keyspace (note.Text (107 ∷ []))) ∷ (24, Holds field.Table (note.Text (116 ∷ []))) ∷ (27, Holds field.ColumnName (note.Text (99 ∷ []))) ∷ (30, Node_of kind.Time) ∷ (32, Holds field.Rows (note.Count 1)) ∷ [], Refused 36 reason.BadScalar)
unfolding heading field_of number_of content_of scalar_of is_utf8 chars encode
time_past_midnight = refl

decimal_and_boolean : reading limits 57 start (132 ∷ 0 ∷ 0 ∷ 0 ∷ 8 ∷ 0 ∷ 0 ∷ 0 ∷ 47 ∷ 0 ∷ 0 ∷ 0 ∷ 2 ∷ 0 ∷ 0 ∷ 0 ∷ 1 ∷ 0 ∷ 0 ∷ 0 ∷ 2 ∷ 0 ∷ 1 ∷ 107 ∷ 0 ∷ 1 ∷ 116 ∷ 0 ∷ 1 ∷ 97 ∷ 0 ∷ 6 ∷ 0 ∷ 1 ∷ 98 ∷ 0 ∷ 4 ∷ 0 ∷ 0 ∷ 0 ∷ 1 ∷ 0 ∷ 0 ∷ 0 ∷ 6 ∷ 0 ∷ 0 ∷ 0 ∷ 2 ∷ 0 ∷ 128 ∷ 0 ∷ 0 ∷ 0 ∷ 1 ∷ 5 ∷ []) ≡ ((0, Frame (record { response = true; flags = 0; stream = pos 0; opcode = opcode.Result; length = 47 })) ∷ (9, Holds field.ResultKind (note.Int (pos 2))) ∷ (13, Holds field.MetaFlags (note.Int (pos 1))) ∷ (17, Holds field.Columns (note.Count 2)) ∷ (21, Holds field.Keyspace (note.Text (107 ∷ []))) ∷ (24, Holds field.Table (note.Text (116 ∷ []))) ∷ (27, Holds field.ColumnName (note.Text (97 ∷ []))) ∷ (30, Node_of kind.Decimal) ∷ (32, Holds field.ColumnName (note.Text (98 ∷ []))) ∷ (35, Node_of kind.Boolean) ∷ (37, Holds field.Rows (note.Count 1)) ∷ (41, Cell_at 0 0 (cell.Leaf 0 (scalar.Decimal (pos 2) (0 ∷ 128 ∷ [])))) ∷ (51, Cell_at 0 1 (cell.Leaf 0 (scalar.Boolean true))) ∷ (56, End 0) ∷ [], Waits)
unfolding heading field_of number_of content_of scalar_of is_utf8 chars encode
decimal_and_boolean = refl

cell_length_past_the_frame : reading limits 40 start (132 ∷ 0 ∷ 0 ∷ 0 ∷ 8 ∷ 0 ∷ 0 ∷ 0 ∷ 30 ∷ 0 ∷ 0 ∷ 0 ∷ 2 ∷ 0 ∷ 0 ∷ 0 ∷ 1 ∷ 0 ∷ 0 ∷ 0 ∷ 1 ∷ 0 ∷ 1 ∷ 107 ∷ 0 ∷ 1 ∷ 116 ∷ 0 ∷ 1 ∷ 99 ∷ 0 ∷ 9 ∷ 0 ∷ 0 ∷ 0 ∷ 1 ∷ 0 ∷ 0 ∷ 0 ∷ []) ≡ ((0, Frame (record { response = true; flags = 0; stream = pos 0; opcode = opcode.Result; length = 30 })) ∷ (9, Holds field.ResultKind (note.Int (pos 2))) ∷ (13, Holds field.MetaFlags (note.Int (pos 1))) ∷ (17, Holds field.Columns (note.Count 1)) ∷ (21, Holds field.Keyspace (note.Text (107 ∷ []))) ∷ (24, Holds field.Table (note.Text (116 ∷ []))) ∷ (27, Holds field.ColumnName (note.Text (99 ∷ []))) ∷ (30, Node_of kind.Int) ∷ (32, Holds field.Rows (note.Count 1)) ∷ [], Refused 36 reason.Overrun)
unfolding heading field_of number_of content_of scalar_of is_utf8 chars encode
cell_length_past_the_frame = refl
