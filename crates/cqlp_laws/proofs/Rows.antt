-- Worked streams: their events and verdicts, by computation.
use Rattle.std.proofs.Common.{◌≡◌, [], ◌∷◌, true, false, refl, pos, negsuc}
use Rattle.std.specs.Prelude.{Some}
use Rattle.std.specs.Str.{is_utf8, chars}
use lib.Utf8.{encode}
use Rattle.cqlp_note.specs.declared.opcode.Opcode.TheVariants as opcode
use Rattle.cqlp_note.specs.declared.field.Field.TheVariants as field
use Rattle.cqlp_note.specs.declared.refusal.Reason.TheVariants as reason
use Rattle.cqlp_note.specs.declared.prim.Address.TheVariants as address
use Rattle.cqlp_note.specs.Limits.{Rules}
use Rattle.cqlp_note.specs.Reader.{number_of}
use Rattle.cqlp_note.specs.Field as note
use Rattle.cqlp_note.specs.Field.{field_of, content_of}
use Rattle.cqlp_note.specs.Heading.{heading}
use Rattle.cqlp_decode.specs.Reading.{reading, start, Frame, Holds, End, Waits, Refused}

abbrev limits : Rules
limits = record { text = 64; cell = 64; entries = 8; depth = 3; types = true; part = 64; parts = false; lenient = false }

empty_stream : reading limits 2 start ([]) ≡ ([], Waits)
unfolding heading
empty_stream = refl

options_request : reading limits 3 start (4 ∷ 0 ∷ 0 ∷ 0 ∷ 5 ∷ 0 ∷ 0 ∷ 0 ∷ 0 ∷ []) ≡ ((0, Frame (record { response = false; flags = 0; stream = pos 0; opcode = opcode.Options; length = 0 })) ∷ (9, End 0) ∷ [], Waits)
unfolding heading field_of number_of content_of is_utf8 chars encode
options_request = refl

ready_response : reading limits 3 start (132 ∷ 0 ∷ 0 ∷ 0 ∷ 2 ∷ 0 ∷ 0 ∷ 0 ∷ 0 ∷ []) ≡ ((0, Frame (record { response = true; flags = 0; stream = pos 0; opcode = opcode.Ready; length = 0 })) ∷ (9, End 0) ∷ [], Waits)
unfolding heading field_of number_of content_of is_utf8 chars encode
ready_response = refl

eight_bytes_of_a_header : reading limits 3 start (4 ∷ 0 ∷ 0 ∷ 0 ∷ 5 ∷ 0 ∷ 0 ∷ 0 ∷ []) ≡ ([], Waits)
unfolding heading field_of number_of content_of is_utf8 chars encode
eight_bytes_of_a_header = refl

longest_body : reading limits 3 start (132 ∷ 0 ∷ 0 ∷ 0 ∷ 8 ∷ 16 ∷ 0 ∷ 0 ∷ 0 ∷ []) ≡ ((0, Frame (record { response = true; flags = 0; stream = pos 0; opcode = opcode.Result; length = 268435456 })) ∷ [], Waits)
unfolding heading field_of number_of content_of is_utf8 chars encode
longest_body = refl

body_past_the_longest : reading limits 3 start (132 ∷ 0 ∷ 0 ∷ 0 ∷ 8 ∷ 16 ∷ 0 ∷ 0 ∷ 1 ∷ []) ≡ ([], Refused 5 reason.BadLength)
unfolding heading field_of number_of content_of is_utf8 chars encode
body_past_the_longest = refl

option_key_of_the_greatest_length : reading limits 6 start (132 ∷ 0 ∷ 0 ∷ 0 ∷ 6 ∷ 0 ∷ 0 ∷ 0 ∷ 70 ∷ 0 ∷ 1 ∷ 0 ∷ 64 ∷ 97 ∷ 97 ∷ 97 ∷ 97 ∷ 97 ∷ 97 ∷ 97 ∷ 97 ∷ 97 ∷ 97 ∷ 97 ∷ 97 ∷ 97 ∷ 97 ∷ 97 ∷ 97 ∷ 97 ∷ 97 ∷ 97 ∷ 97 ∷ 97 ∷ 97 ∷ 97 ∷ 97 ∷ 97 ∷ 97 ∷ 97 ∷ 97 ∷ 97 ∷ 97 ∷ 97 ∷ 97 ∷ 97 ∷ 97 ∷ 97 ∷ 97 ∷ 97 ∷ 97 ∷ 97 ∷ 97 ∷ 97 ∷ 97 ∷ 97 ∷ 97 ∷ 97 ∷ 97 ∷ 97 ∷ 97 ∷ 97 ∷ 97 ∷ 97 ∷ 97 ∷ 97 ∷ 97 ∷ 97 ∷ 97 ∷ 97 ∷ 97 ∷ 97 ∷ 97 ∷ 97 ∷ 97 ∷ 97 ∷ 97 ∷ 0 ∷ 0 ∷ []) ≡ ((0, Frame (record { response = true; flags = 0; stream = pos 0; opcode = opcode.Supported; length = 70 })) ∷ (9, Holds field.Options (note.Count 1)) ∷ (11, Holds field.OptionKey (note.Text (97 ∷ 97 ∷ 97 ∷ 97 ∷ 97 ∷ 97 ∷ 97 ∷ 97 ∷ 97 ∷ 97 ∷ 97 ∷ 97 ∷ 97 ∷ 97 ∷ 97 ∷ 97 ∷ 97 ∷ 97 ∷ 97 ∷ 97 ∷ 97 ∷ 97 ∷ 97 ∷ 97 ∷ 97 ∷ 97 ∷ 97 ∷ 97 ∷ 97 ∷ 97 ∷ 97 ∷ 97 ∷ 97 ∷ 97 ∷ 97 ∷ 97 ∷ 97 ∷ 97 ∷ 97 ∷ 97 ∷ 97 ∷ 97 ∷ 97 ∷ 97 ∷ 97 ∷ 97 ∷ 97 ∷ 97 ∷ 97 ∷ 97 ∷ 97 ∷ 97 ∷ 97 ∷ 97 ∷ 97 ∷ 97 ∷ 97 ∷ 97 ∷ 97 ∷ 97 ∷ 97 ∷ 97 ∷ 97 ∷ 97 ∷ []))) ∷ (77, Holds field.OptionValues (note.Count 0)) ∷ (79, End 0) ∷ [], Waits)
unfolding heading field_of number_of content_of is_utf8 chars encode
option_key_of_the_greatest_length = refl

option_key_past_the_limit : reading limits 6 start (132 ∷ 0 ∷ 0 ∷ 0 ∷ 6 ∷ 0 ∷ 0 ∷ 0 ∷ 71 ∷ 0 ∷ 1 ∷ 0 ∷ 65 ∷ 97 ∷ 97 ∷ 97 ∷ 97 ∷ 97 ∷ 97 ∷ 97 ∷ 97 ∷ 97 ∷ 97 ∷ 97 ∷ 97 ∷ 97 ∷ 97 ∷ 97 ∷ 97 ∷ 97 ∷ 97 ∷ 97 ∷ 97 ∷ 97 ∷ 97 ∷ 97 ∷ 97 ∷ 97 ∷ 97 ∷ 97 ∷ 97 ∷ 97 ∷ 97 ∷ 97 ∷ 97 ∷ 97 ∷ 97 ∷ 97 ∷ 97 ∷ 97 ∷ 97 ∷ 97 ∷ 97 ∷ 97 ∷ 97 ∷ 97 ∷ 97 ∷ 97 ∷ 97 ∷ 97 ∷ 97 ∷ 97 ∷ 97 ∷ 97 ∷ 97 ∷ 97 ∷ 97 ∷ 97 ∷ 97 ∷ 97 ∷ 97 ∷ 97 ∷ 97 ∷ 97 ∷ 97 ∷ 97 ∷ 97 ∷ 97 ∷ []) ≡ ((0, Frame (record { response = true; flags = 0; stream = pos 0; opcode = opcode.Supported; length = 71 })) ∷ (9, Holds field.Options (note.Count 1)) ∷ [], Refused 11 reason.TooLong)
unfolding heading field_of number_of content_of is_utf8 chars encode
option_key_past_the_limit = refl

option_key_wants_its_last_byte : reading limits 6 start (132 ∷ 0 ∷ 0 ∷ 0 ∷ 6 ∷ 0 ∷ 0 ∷ 0 ∷ 6 ∷ 0 ∷ 1 ∷ 0 ∷ 2 ∷ 255 ∷ []) ≡ ((0, Frame (record { response = true; flags = 0; stream = pos 0; opcode = opcode.Supported; length = 6 })) ∷ (9, Holds field.Options (note.Count 1)) ∷ [], Waits)
unfolding heading field_of number_of content_of is_utf8 chars encode
option_key_wants_its_last_byte = refl

option_key_that_is_not_utf8 : reading limits 6 start (132 ∷ 0 ∷ 0 ∷ 0 ∷ 6 ∷ 0 ∷ 0 ∷ 0 ∷ 6 ∷ 0 ∷ 1 ∷ 0 ∷ 2 ∷ 255 ∷ 40 ∷ []) ≡ ((0, Frame (record { response = true; flags = 0; stream = pos 0; opcode = opcode.Supported; length = 6 })) ∷ (9, Holds field.Options (note.Count 1)) ∷ [], Refused 11 reason.BadUtf8)
unfolding heading field_of number_of content_of is_utf8 chars encode
option_key_that_is_not_utf8 = refl

count_past_the_frame : reading limits 6 start (132 ∷ 0 ∷ 0 ∷ 0 ∷ 6 ∷ 0 ∷ 0 ∷ 0 ∷ 1 ∷ []) ≡ ((0, Frame (record { response = true; flags = 0; stream = pos 0; opcode = opcode.Supported; length = 1 })) ∷ [], Refused 9 reason.Overrun)
unfolding heading field_of number_of content_of is_utf8 chars encode
count_past_the_frame = refl

unknown_version : reading limits 10 start (131 ∷ 1 ∷ 0 ∷ 0 ∷ 4 ∷ 255 ∷ 255 ∷ 255 ∷ 255 ∷ []) ≡ ([], Refused 0 reason.BadVersion)
unfolding heading field_of number_of content_of is_utf8 chars encode
unknown_version = refl

compressed_flag : reading limits 10 start (132 ∷ 1 ∷ 0 ∷ 0 ∷ 4 ∷ 255 ∷ 255 ∷ 255 ∷ 255 ∷ []) ≡ ([], Refused 1 reason.Compressed)
unfolding heading field_of number_of content_of is_utf8 chars encode
compressed_flag = refl

unknown_opcode : reading limits 10 start (132 ∷ 0 ∷ 0 ∷ 0 ∷ 4 ∷ 255 ∷ 255 ∷ 255 ∷ 255 ∷ []) ≡ ([], Refused 4 reason.BadOpcode)
unfolding heading field_of number_of content_of is_utf8 chars encode
unknown_opcode = refl

request_opcode_in_a_response : reading limits 10 start (132 ∷ 0 ∷ 0 ∷ 0 ∷ 7 ∷ 255 ∷ 255 ∷ 255 ∷ 255 ∷ []) ≡ ([], Refused 4 reason.BadDirection)
unfolding heading field_of number_of content_of is_utf8 chars encode
request_opcode_in_a_response = refl

negative_length : reading limits 10 start (132 ∷ 0 ∷ 0 ∷ 0 ∷ 2 ∷ 255 ∷ 255 ∷ 255 ∷ 255 ∷ []) ≡ ([], Refused 5 reason.BadLength)
unfolding heading field_of number_of content_of is_utf8 chars encode
negative_length = refl

supported_with_one_option : reading limits 34 start (132 ∷ 0 ∷ 0 ∷ 7 ∷ 6 ∷ 0 ∷ 0 ∷ 0 ∷ 24 ∷ 0 ∷ 1 ∷ 0 ∷ 11 ∷ 67 ∷ 81 ∷ 76 ∷ 95 ∷ 86 ∷ 69 ∷ 82 ∷ 83 ∷ 73 ∷ 79 ∷ 78 ∷ 0 ∷ 1 ∷ 0 ∷ 5 ∷ 51 ∷ 46 ∷ 48 ∷ 46 ∷ 48 ∷ []) ≡ ((0, Frame (record { response = true; flags = 0; stream = pos 7; opcode = opcode.Supported; length = 24 })) ∷ (9, Holds field.Options (note.Count 1)) ∷ (11, Holds field.OptionKey (note.Text (67 ∷ 81 ∷ 76 ∷ 95 ∷ 86 ∷ 69 ∷ 82 ∷ 83 ∷ 73 ∷ 79 ∷ 78 ∷ []))) ∷ (24, Holds field.OptionValues (note.Count 1)) ∷ (26, Holds field.OptionValue (note.Text (51 ∷ 46 ∷ 48 ∷ 46 ∷ 48 ∷ []))) ∷ (33, End 0) ∷ [], Waits)
unfolding heading field_of number_of content_of is_utf8 chars encode
supported_with_one_option = refl

text_that_is_not_utf8 : reading limits 14 start (132 ∷ 0 ∷ 0 ∷ 0 ∷ 3 ∷ 0 ∷ 0 ∷ 0 ∷ 4 ∷ 0 ∷ 2 ∷ 255 ∷ 40 ∷ []) ≡ ((0, Frame (record { response = true; flags = 0; stream = pos 0; opcode = opcode.Authenticate; length = 4 })) ∷ [], Refused 9 reason.BadUtf8)
unfolding heading field_of number_of content_of is_utf8 chars encode
text_that_is_not_utf8 = refl

class_past_the_frame : reading limits 10 start (132 ∷ 0 ∷ 0 ∷ 0 ∷ 3 ∷ 0 ∷ 0 ∷ 0 ∷ 1 ∷ []) ≡ ((0, Frame (record { response = true; flags = 0; stream = pos 0; opcode = opcode.Authenticate; length = 1 })) ∷ [], Refused 9 reason.Overrun)
unfolding heading field_of number_of content_of is_utf8 chars encode
class_past_the_frame = refl

tracing_warnings_and_payload : reading limits 45 start (132 ∷ 14 ∷ 0 ∷ 1 ∷ 8 ∷ 0 ∷ 0 ∷ 0 ∷ 35 ∷ 0 ∷ 1 ∷ 2 ∷ 3 ∷ 4 ∷ 5 ∷ 6 ∷ 7 ∷ 8 ∷ 9 ∷ 10 ∷ 11 ∷ 12 ∷ 13 ∷ 14 ∷ 15 ∷ 0 ∷ 1 ∷ 0 ∷ 1 ∷ 119 ∷ 0 ∷ 1 ∷ 0 ∷ 1 ∷ 107 ∷ 0 ∷ 0 ∷ 0 ∷ 1 ∷ 255 ∷ 0 ∷ 0 ∷ 0 ∷ 1 ∷ []) ≡ ((0, Frame (record { response = true; flags = 14; stream = pos 1; opcode = opcode.Result; length = 35 })) ∷ (9, Holds field.TraceId (note.Uuid (0 ∷ 1 ∷ 2 ∷ 3 ∷ 4 ∷ 5 ∷ 6 ∷ 7 ∷ 8 ∷ 9 ∷ 10 ∷ 11 ∷ 12 ∷ 13 ∷ 14 ∷ 15 ∷ []))) ∷ (25, Holds field.Warnings (note.Count 1)) ∷ (27, Holds field.Warning (note.Text (119 ∷ []))) ∷ (30, Holds field.PayloadItems (note.Count 1)) ∷ (32, Holds field.PayloadKey (note.Text (107 ∷ []))) ∷ (35, Holds field.PayloadValue (note.Bytes (Some (255 ∷ [])))) ∷ (40, Holds field.ResultKind (note.Int (pos 1))) ∷ (44, End 0) ∷ [], Waits)
unfolding heading field_of number_of content_of is_utf8 chars encode
tracing_warnings_and_payload = refl

unknown_error_code_then_ready : reading limits 29 start (132 ∷ 0 ∷ 0 ∷ 0 ∷ 0 ∷ 0 ∷ 0 ∷ 0 ∷ 10 ∷ 0 ∷ 0 ∷ 67 ∷ 33 ∷ 0 ∷ 1 ∷ 120 ∷ 170 ∷ 187 ∷ 204 ∷ 132 ∷ 0 ∷ 0 ∷ 0 ∷ 2 ∷ 0 ∷ 0 ∷ 0 ∷ 0 ∷ []) ≡ ((0, Frame (record { response = true; flags = 0; stream = pos 0; opcode = opcode.Error; length = 10 })) ∷ (9, Holds field.ErrorCode (note.Int (pos 17185))) ∷ (13, Holds field.Message (note.Text (120 ∷ []))) ∷ (19, End 3) ∷ (19, Frame (record { response = true; flags = 0; stream = pos 0; opcode = opcode.Ready; length = 0 })) ∷ (28, End 0) ∷ [], Waits)
unfolding heading field_of number_of content_of is_utf8 chars encode
unknown_error_code_then_ready = refl

query_with_an_unset_value : reading limits 24 start (4 ∷ 0 ∷ 0 ∷ 0 ∷ 7 ∷ 0 ∷ 0 ∷ 0 ∷ 14 ∷ 0 ∷ 0 ∷ 0 ∷ 1 ∷ 113 ∷ 0 ∷ 1 ∷ 1 ∷ 0 ∷ 1 ∷ 255 ∷ 255 ∷ 255 ∷ 254 ∷ []) ≡ ((0, Frame (record { response = false; flags = 0; stream = pos 0; opcode = opcode.Query; length = 14 })) ∷ (9, Holds field.Query (note.Text (113 ∷ []))) ∷ (14, Holds field.Consistency (note.Short 1)) ∷ (16, Holds field.QueryFlags (note.Byte 1)) ∷ (17, Holds field.Values (note.Count 1)) ∷ (19, Holds field.Value (note.Bound note.Unset)) ∷ (23, End 0) ∷ [], Waits)
unfolding heading field_of number_of content_of is_utf8 chars encode
query_with_an_unset_value = refl

value_length_below_minus_two : reading limits 24 start (4 ∷ 0 ∷ 0 ∷ 0 ∷ 7 ∷ 0 ∷ 0 ∷ 0 ∷ 14 ∷ 0 ∷ 0 ∷ 0 ∷ 1 ∷ 113 ∷ 0 ∷ 1 ∷ 1 ∷ 0 ∷ 1 ∷ 255 ∷ 255 ∷ 255 ∷ 253 ∷ []) ≡ ((0, Frame (record { response = false; flags = 0; stream = pos 0; opcode = opcode.Query; length = 14 })) ∷ (9, Holds field.Query (note.Text (113 ∷ []))) ∷ (14, Holds field.Consistency (note.Short 1)) ∷ (16, Holds field.QueryFlags (note.Byte 1)) ∷ (17, Holds field.Values (note.Count 1)) ∷ [], Refused 19 reason.BadValueLength)
unfolding heading field_of number_of content_of is_utf8 chars encode
value_length_below_minus_two = refl

batch_with_named_values : reading limits 16 start (4 ∷ 0 ∷ 0 ∷ 0 ∷ 13 ∷ 0 ∷ 0 ∷ 0 ∷ 6 ∷ 0 ∷ 0 ∷ 0 ∷ 0 ∷ 1 ∷ 64 ∷ []) ≡ ((0, Frame (record { response = false; flags = 0; stream = pos 0; opcode = opcode.Batch; length = 6 })) ∷ (9, Holds field.BatchType (note.Byte 0)) ∷ (10, Holds field.Entries (note.Count 0)) ∷ (12, Holds field.Consistency (note.Short 1)) ∷ [], Refused 14 reason.BadBatchFlags)
unfolding heading field_of number_of content_of is_utf8 chars encode
batch_with_named_values = refl

status_change_event : reading limits 38 start (132 ∷ 0 ∷ 255 ∷ 255 ∷ 12 ∷ 0 ∷ 0 ∷ 0 ∷ 28 ∷ 0 ∷ 13 ∷ 83 ∷ 84 ∷ 65 ∷ 84 ∷ 85 ∷ 83 ∷ 95 ∷ 67 ∷ 72 ∷ 65 ∷ 78 ∷ 71 ∷ 69 ∷ 0 ∷ 2 ∷ 85 ∷ 80 ∷ 4 ∷ 127 ∷ 0 ∷ 0 ∷ 1 ∷ 0 ∷ 0 ∷ 35 ∷ 82 ∷ []) ≡ ((0, Frame (record { response = true; flags = 0; stream = negsuc 0; opcode = opcode.Event; length = 28 })) ∷ (9, Holds field.EventType (note.Text (83 ∷ 84 ∷ 65 ∷ 84 ∷ 85 ∷ 83 ∷ 95 ∷ 67 ∷ 72 ∷ 65 ∷ 78 ∷ 71 ∷ 69 ∷ []))) ∷ (24, Holds field.Change (note.Text (85 ∷ 80 ∷ []))) ∷ (28, Holds field.Address (note.Inet (address.V4 (127 ∷ 0 ∷ 0 ∷ 1 ∷ [])) (pos 9042))) ∷ (37, End 0) ∷ [], Waits)
unfolding heading field_of number_of content_of is_utf8 chars encode
status_change_event = refl

schema_change_of_an_unknown_target : reading limits 30 start (132 ∷ 0 ∷ 0 ∷ 0 ∷ 8 ∷ 0 ∷ 0 ∷ 0 ∷ 20 ∷ 0 ∷ 0 ∷ 0 ∷ 5 ∷ 0 ∷ 7 ∷ 67 ∷ 82 ∷ 69 ∷ 65 ∷ 84 ∷ 69 ∷ 68 ∷ 0 ∷ 4 ∷ 82 ∷ 79 ∷ 76 ∷ 69 ∷ 1 ∷ []) ≡ ((0, Frame (record { response = true; flags = 0; stream = pos 0; opcode = opcode.Result; length = 20 })) ∷ (9, Holds field.ResultKind (note.Int (pos 5))) ∷ (13, Holds field.Change (note.Text (67 ∷ 82 ∷ 69 ∷ 65 ∷ 84 ∷ 69 ∷ 68 ∷ []))) ∷ (22, Holds field.Target (note.Text (82 ∷ 79 ∷ 76 ∷ 69 ∷ []))) ∷ (29, End 1) ∷ [], Waits)
unfolding heading field_of number_of content_of is_utf8 chars encode
schema_change_of_an_unknown_target = refl
