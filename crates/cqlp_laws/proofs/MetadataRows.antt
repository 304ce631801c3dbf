-- Worked streams of metadata, type options and prepared results: their events and verdicts, by computation.
use Rattle.std.proofs.Common.{◌≡◌, [], ◌∷◌, true, false, refl, pos}
use Rattle.std.specs.Prelude.{Some}
use Rattle.std.specs.Str.{is_utf8, chars}
use lib.Utf8.{encode}
use Rattle.cqlp_note.specs.declared.opcode.Opcode.TheVariants as opcode
use Rattle.cqlp_note.specs.declared.field.Field.TheVariants as field
use Rattle.cqlp_note.specs.declared.refusal.Reason.TheVariants as reason
use Rattle.cqlp_kind.specs.declared.kind.Kind.TheVariants as kind
use Rattle.cqlp_note.specs.Limits.{Rules}
use Rattle.cqlp_note.specs.Reader.{number_of}
use Rattle.cqlp_note.specs.Field as note
use Rattle.cqlp_note.specs.Field.{field_of, content_of}
use Rattle.cqlp_note.specs.Heading.{heading}
use Rattle.cqlp_decode.specs.Reading.{reading, start, Frame, Holds, Node_of, End, Waits, Refused}

abbrev limits : Rules
limits = record { text = 64; cell = 64; entries = 8; depth = 3; types = true; part = 64; parts = false; lenient = false }

lists_too_deep : reading limits 54 start (132 ∷ 0 ∷ 0 ∷ 0 ∷ 8 ∷ 0 ∷ 0 ∷ 0 ∷ 33 ∷ 0 ∷ 0 ∷ 0 ∷ 2 ∷ 0 ∷ 0 ∷ 0 ∷ 1 ∷ 0 ∷ 0 ∷ 0 ∷ 1 ∷ 0 ∷ 1 ∷ 107 ∷ 0 ∷ 1 ∷ 116 ∷ 0 ∷ 1 ∷ 99 ∷ 0 ∷ 32 ∷ 0 ∷ 32 ∷ 0 ∷ 32 ∷ 0 ∷ 9 ∷ 0 ∷ 0 ∷ 0 ∷ 0 ∷ []) ≡ ((0, Frame (record { response = true; flags = 0; stream = pos 0; opcode = opcode.Result; length = 33 })) ∷ (9, Holds field.ResultKind (note.Int (pos 2))) ∷ (13, Holds field.MetaFlags (note.Int (pos 1))) ∷ (17, Holds field.Columns (note.Count 1)) ∷ (21, Holds field.Keyspace (note.Text (107 ∷ []))) ∷ (24, Holds field.Table (note.Text (116 ∷ []))) ∷ (27, Holds field.ColumnName (note.Text (99 ∷ []))) ∷ (30, Node_of kind.List) ∷ (32, Node_of kind.List) ∷ (34, Node_of kind.List) ∷ [], Refused 36 reason.TooDeep)
unfolding heading field_of number_of content_of is_utf8 chars encode
lists_too_deep = refl

a_level_is_refused_before_a_node : reading (record limits { entries = 3 }) 54 start (132 ∷ 0 ∷ 0 ∷ 0 ∷ 8 ∷ 0 ∷ 0 ∷ 0 ∷ 33 ∷ 0 ∷ 0 ∷ 0 ∷ 2 ∷ 0 ∷ 0 ∷ 0 ∷ 1 ∷ 0 ∷ 0 ∷ 0 ∷ 1 ∷ 0 ∷ 1 ∷ 107 ∷ 0 ∷ 1 ∷ 116 ∷ 0 ∷ 1 ∷ 99 ∷ 0 ∷ 32 ∷ 0 ∷ 32 ∷ 0 ∷ 32 ∷ 0 ∷ 9 ∷ 0 ∷ 0 ∷ 0 ∷ 0 ∷ []) ≡ ((0, Frame (record { response = true; flags = 0; stream = pos 0; opcode = opcode.Result; length = 33 })) ∷ (9, Holds field.ResultKind (note.Int (pos 2))) ∷ (13, Holds field.MetaFlags (note.Int (pos 1))) ∷ (17, Holds field.Columns (note.Count 1)) ∷ (21, Holds field.Keyspace (note.Text (107 ∷ []))) ∷ (24, Holds field.Table (note.Text (116 ∷ []))) ∷ (27, Holds field.ColumnName (note.Text (99 ∷ []))) ∷ (30, Node_of kind.List) ∷ (32, Node_of kind.List) ∷ (34, Node_of kind.List) ∷ [], Refused 36 reason.TooDeep)
unfolding heading field_of number_of content_of is_utf8 chars encode
a_level_is_refused_before_a_node = refl

one_node_too_many : reading (record limits { entries = 2 }) 53 start (132 ∷ 0 ∷ 0 ∷ 0 ∷ 8 ∷ 0 ∷ 0 ∷ 0 ∷ 33 ∷ 0 ∷ 0 ∷ 0 ∷ 2 ∷ 0 ∷ 0 ∷ 0 ∷ 1 ∷ 0 ∷ 0 ∷ 0 ∷ 1 ∷ 0 ∷ 1 ∷ 107 ∷ 0 ∷ 1 ∷ 116 ∷ 0 ∷ 1 ∷ 99 ∷ 0 ∷ 32 ∷ 0 ∷ 32 ∷ 0 ∷ 32 ∷ 0 ∷ 9 ∷ 0 ∷ 0 ∷ 0 ∷ 0 ∷ []) ≡ ((0, Frame (record { response = true; flags = 0; stream = pos 0; opcode = opcode.Result; length = 33 })) ∷ (9, Holds field.ResultKind (note.Int (pos 2))) ∷ (13, Holds field.MetaFlags (note.Int (pos 1))) ∷ (17, Holds field.Columns (note.Count 1)) ∷ (21, Holds field.Keyspace (note.Text (107 ∷ []))) ∷ (24, Holds field.Table (note.Text (116 ∷ []))) ∷ (27, Holds field.ColumnName (note.Text (99 ∷ []))) ∷ (30, Node_of kind.List) ∷ (32, Node_of kind.List) ∷ [], Refused 34 reason.TooMany)
unfolding heading field_of number_of content_of is_utf8 chars encode
one_node_too_many = refl

lists_of_the_greatest_depth : reading limits 54 start (132 ∷ 0 ∷ 0 ∷ 0 ∷ 8 ∷ 0 ∷ 0 ∷ 0 ∷ 31 ∷ 0 ∷ 0 ∷ 0 ∷ 2 ∷ 0 ∷ 0 ∷ 0 ∷ 1 ∷ 0 ∷ 0 ∷ 0 ∷ 1 ∷ 0 ∷ 1 ∷ 107 ∷ 0 ∷ 1 ∷ 116 ∷ 0 ∷ 1 ∷ 99 ∷ 0 ∷ 32 ∷ 0 ∷ 32 ∷ 0 ∷ 9 ∷ 0 ∷ 0 ∷ 0 ∷ 0 ∷ []) ≡ ((0, Frame (record { response = true; flags = 0; stream = pos 0; opcode = opcode.Result; length = 31 })) ∷ (9, Holds field.ResultKind (note.Int (pos 2))) ∷ (13, Holds field.MetaFlags (note.Int (pos 1))) ∷ (17, Holds field.Columns (note.Count 1)) ∷ (21, Holds field.Keyspace (note.Text (107 ∷ []))) ∷ (24, Holds field.Table (note.Text (116 ∷ []))) ∷ (27, Holds field.ColumnName (note.Text (99 ∷ []))) ∷ (30, Node_of kind.List) ∷ (32, Node_of kind.List) ∷ (34, Node_of kind.Int) ∷ (36, Holds field.Rows (note.Count 0)) ∷ (40, End 0) ∷ [], Waits)
unfolding heading field_of number_of content_of is_utf8 chars encode
lists_of_the_greatest_depth = refl

tuple_with_one_node_too_many : reading limits 72 start (132 ∷ 0 ∷ 0 ∷ 0 ∷ 8 ∷ 0 ∷ 0 ∷ 0 ∷ 45 ∷ 0 ∷ 0 ∷ 0 ∷ 2 ∷ 0 ∷ 0 ∷ 0 ∷ 1 ∷ 0 ∷ 0 ∷ 0 ∷ 1 ∷ 0 ∷ 1 ∷ 107 ∷ 0 ∷ 1 ∷ 116 ∷ 0 ∷ 1 ∷ 99 ∷ 0 ∷ 49 ∷ 0 ∷ 8 ∷ 0 ∷ 9 ∷ 0 ∷ 9 ∷ 0 ∷ 9 ∷ 0 ∷ 9 ∷ 0 ∷ 9 ∷ 0 ∷ 9 ∷ 0 ∷ 9 ∷ 0 ∷ 9 ∷ 0 ∷ 0 ∷ 0 ∷ 0 ∷ []) ≡ ((0, Frame (record { response = true; flags = 0; stream = pos 0; opcode = opcode.Result; length = 45 })) ∷ (9, Holds field.ResultKind (note.Int (pos 2))) ∷ (13, Holds field.MetaFlags (note.Int (pos 1))) ∷ (17, Holds field.Columns (note.Count 1)) ∷ (21, Holds field.Keyspace (note.Text (107 ∷ []))) ∷ (24, Holds field.Table (note.Text (116 ∷ []))) ∷ (27, Holds field.ColumnName (note.Text (99 ∷ []))) ∷ (30, Node_of kind.Tuple) ∷ (32, Holds field.Fields (note.Count 8)) ∷ (34, Node_of kind.Int) ∷ (36, Node_of kind.Int) ∷ (38, Node_of kind.Int) ∷ (40, Node_of kind.Int) ∷ (42, Node_of kind.Int) ∷ (44, Node_of kind.Int) ∷ (46, Node_of kind.Int) ∷ [], Refused 48 reason.TooMany)
unfolding heading field_of number_of content_of is_utf8 chars encode
tuple_with_one_node_too_many = refl

unknown_option_id : reading limits 45 start (132 ∷ 0 ∷ 0 ∷ 0 ∷ 8 ∷ 0 ∷ 0 ∷ 0 ∷ 27 ∷ 0 ∷ 0 ∷ 0 ∷ 2 ∷ 0 ∷ 0 ∷ 0 ∷ 1 ∷ 0 ∷ 0 ∷ 0 ∷ 1 ∷ 0 ∷ 1 ∷ 107 ∷ 0 ∷ 1 ∷ 116 ∷ 0 ∷ 1 ∷ 99 ∷ 0 ∷ 10 ∷ 0 ∷ 0 ∷ 0 ∷ 0 ∷ []) ≡ ((0, Frame (record { response = true; flags = 0; stream = pos 0; opcode = opcode.Result; length = 27 })) ∷ (9, Holds field.ResultKind (note.Int (pos 2))) ∷ (13, Holds field.MetaFlags (note.Int (pos 1))) ∷ (17, Holds field.Columns (note.Count 1)) ∷ (21, Holds field.Keyspace (note.Text (107 ∷ []))) ∷ (24, Holds field.Table (note.Text (116 ∷ []))) ∷ (27, Holds field.ColumnName (note.Text (99 ∷ []))) ∷ [], Refused 30 reason.BadType)
unfolding heading field_of number_of content_of is_utf8 chars encode
unknown_option_id = refl

user_defined_type : reading limits 80 start (132 ∷ 0 ∷ 0 ∷ 0 ∷ 8 ∷ 0 ∷ 0 ∷ 0 ∷ 50 ∷ 0 ∷ 0 ∷ 0 ∷ 2 ∷ 0 ∷ 0 ∷ 0 ∷ 1 ∷ 0 ∷ 0 ∷ 0 ∷ 1 ∷ 0 ∷ 1 ∷ 107 ∷ 0 ∷ 1 ∷ 116 ∷ 0 ∷ 1 ∷ 99 ∷ 0 ∷ 48 ∷ 0 ∷ 1 ∷ 107 ∷ 0 ∷ 1 ∷ 117 ∷ 0 ∷ 3 ∷ 0 ∷ 1 ∷ 97 ∷ 0 ∷ 9 ∷ 0 ∷ 1 ∷ 98 ∷ 0 ∷ 9 ∷ 0 ∷ 1 ∷ 99 ∷ 0 ∷ 13 ∷ 0 ∷ 0 ∷ 0 ∷ 0 ∷ []) ≡ ((0, Frame (record { response = true; flags = 0; stream = pos 0; opcode = opcode.Result; length = 50 })) ∷ (9, Holds field.ResultKind (note.Int (pos 2))) ∷ (13, Holds field.MetaFlags (note.Int (pos 1))) ∷ (17, Holds field.Columns (note.Count 1)) ∷ (21, Holds field.Keyspace (note.Text (107 ∷ []))) ∷ (24, Holds field.Table (note.Text (116 ∷ []))) ∷ (27, Holds field.ColumnName (note.Text (99 ∷ []))) ∷ (30, Node_of kind.Udt) ∷ (32, Holds field.Keyspace (note.Text (107 ∷ []))) ∷ (35, Holds field.TypeName (note.Text (117 ∷ []))) ∷ (38, Holds field.Fields (note.Count 3)) ∷ (40, Holds field.FieldName (note.Text (97 ∷ []))) ∷ (43, Node_of kind.Int) ∷ (45, Holds field.FieldName (note.Text (98 ∷ []))) ∷ (48, Node_of kind.Int) ∷ (50, Holds field.FieldName (note.Text (99 ∷ []))) ∷ (53, Node_of kind.Varchar) ∷ (55, Holds field.Rows (note.Count 0)) ∷ (59, End 0) ∷ [], Waits)
unfolding heading field_of number_of content_of is_utf8 chars encode
user_defined_type = refl

rows_of_no_columns : reading limits 33 start (132 ∷ 0 ∷ 0 ∷ 0 ∷ 8 ∷ 0 ∷ 0 ∷ 0 ∷ 16 ∷ 0 ∷ 0 ∷ 0 ∷ 2 ∷ 0 ∷ 0 ∷ 0 ∷ 4 ∷ 0 ∷ 0 ∷ 0 ∷ 0 ∷ 0 ∷ 0 ∷ 0 ∷ 3 ∷ []) ≡ ((0, Frame (record { response = true; flags = 0; stream = pos 0; opcode = opcode.Result; length = 16 })) ∷ (9, Holds field.ResultKind (note.Int (pos 2))) ∷ (13, Holds field.MetaFlags (note.Int (pos 4))) ∷ (17, Holds field.Columns (note.Count 0)) ∷ (21, Holds field.Rows (note.Count 3)) ∷ (25, End 0) ∷ [], Waits)
unfolding heading field_of number_of content_of is_utf8 chars encode
rows_of_no_columns = refl

prepared_without_result_metadata : reading limits 50 start (132 ∷ 0 ∷ 0 ∷ 2 ∷ 8 ∷ 0 ∷ 0 ∷ 0 ∷ 40 ∷ 0 ∷ 0 ∷ 0 ∷ 4 ∷ 0 ∷ 1 ∷ 170 ∷ 0 ∷ 0 ∷ 0 ∷ 1 ∷ 0 ∷ 0 ∷ 0 ∷ 1 ∷ 0 ∷ 0 ∷ 0 ∷ 1 ∷ 0 ∷ 0 ∷ 0 ∷ 1 ∷ 107 ∷ 0 ∷ 1 ∷ 116 ∷ 0 ∷ 1 ∷ 99 ∷ 0 ∷ 9 ∷ 0 ∷ 0 ∷ 0 ∷ 4 ∷ 0 ∷ 0 ∷ 0 ∷ 0 ∷ []) ≡ ((0, Frame (record { response = true; flags = 0; stream = pos 2; opcode = opcode.Result; length = 40 })) ∷ (9, Holds field.ResultKind (note.Int (pos 4))) ∷ (13, Holds field.StatementId (note.Bytes (Some (170 ∷ [])))) ∷ (16, Holds field.MetaFlags (note.Int (pos 1))) ∷ (20, Holds field.Columns (note.Count 1)) ∷ (24, Holds field.Keys (note.Count 1)) ∷ (28, Holds field.KeyIndex (note.Short 0)) ∷ (30, Holds field.Keyspace (note.Text (107 ∷ []))) ∷ (33, Holds field.Table (note.Text (116 ∷ []))) ∷ (36, Holds field.ColumnName (note.Text (99 ∷ []))) ∷ (39, Node_of kind.Int) ∷ (41, Holds field.MetaFlags (note.Int (pos 4))) ∷ (45, Holds field.Columns (note.Count 0)) ∷ (49, End 0) ∷ [], Waits)
unfolding heading field_of number_of content_of is_utf8 chars encode
prepared_without_result_metadata = refl
