-- What an ERROR has behind its message, by its code (section 9 of native_protocol_v4.spec).
use Rattle.std.specs.Prelude.{ℕ, ℤ, ◌+◌, Bool, true, not, ◌==◌, nat_lt, List, [], ◌∷◌, length, take, drop, Option, Some, None, option_map, if◌then◌else◌}
use Rattle.std.specs.Int.{w16, w32, from_be_bytes}
use Rattle.cqlp_note.specs.Field.{signed}
use Rattle.cqlp_capture_exchanges.specs.declared.error_details.Answers.{Answers}
use Rattle.cqlp_capture_exchanges.specs.declared.error_details as declared
use Rattle.cqlp_capture_exchanges.specs.declared.error_details.ErrorDetails.TheVariants as details_as
use Rattle.cqlp_capture_exchanges.specs.declared.reply.Reply.{Reply}
use Rattle.cqlp_capture_exchanges.specs.declared.reply.Reply.TheVariants as reply_as
use Rattle.cqlp_capture_exchanges.specs.Prepared.{id_of_said}
use Rattle.cqlp_capture_exchanges.specs.Statements.{Said, Text, short_bytes, string_in}

-- Each value as far as it is there whole.
pub data Details : Type 0 where
  Unavailable : (consistency : Option ℕ) → (required alive : Option ℤ) → Details
  WriteTimeout : Answers → (write_type : Option (List ℕ)) → Details
  ReadTimeout : Answers → (data_present : Option Bool) → Details
  ReadFailure : Answers → (failures : Option ℤ) → (data_present : Option Bool) → Details
  FunctionFailure : (keyspace function : Option (List ℕ)) → Details
  WriteFailure : Answers → (failures : Option ℤ) → (write_type : Option (List ℕ)) → Details
  AlreadyExists : (keyspace table : Option (List ℕ)) → Details
  Unprepared : (id : Option (List ℕ)) → Details

abbrev pub details_of : declared.ErrorDetails.ErrorDetails → Details
details_of (details_as.Unavailable consistency required alive) = Unavailable consistency required alive
details_of (details_as.WriteTimeout answers write_type) = WriteTimeout answers (option_map (λ t. t.now) write_type)
details_of (details_as.ReadTimeout answers data_present) = ReadTimeout answers data_present
details_of (details_as.ReadFailure answers failures data_present) = ReadFailure answers failures data_present
details_of (details_as.FunctionFailure keyspace function) = FunctionFailure (option_map (λ t. t.now) keyspace) (option_map (λ t. t.now) function)
details_of (details_as.WriteFailure answers failures write_type) = WriteFailure answers failures (option_map (λ t. t.now) write_type)
details_of (details_as.AlreadyExists keyspace table) = AlreadyExists (option_map (λ t. t.now) keyspace) (option_map (λ t. t.now) table)
details_of (details_as.Unprepared id) = Unprepared (option_map (λ t. t.now) id)

-- ---- a [short] or consistency, an [int], a [byte] and a [string] at the front (section 3)

abbrev pub short_in : List ℕ → Option ℕ
short_in b = if nat_lt (length b) 2 then None else Some (from_be_bytes w16 (take 2 b))

-- with its sign
abbrev pub int_in : List ℕ → Option ℤ
int_in b = if nat_lt (length b) 4 then None else Some (signed (from_be_bytes w32 (take 4 b)))

-- any but 0 is true
abbrev pub flag_in : List ℕ → Option Bool
flag_in [] = None
flag_in (x ∷ b) = Some (not (x == 0))

abbrev pub text_of_said : Option Said → Option (List ℕ)
text_of_said (Some (Text text true)) = Some text
text_of_said s = None

abbrev pub text_in : List ℕ → Option (List ℕ)
text_in b = text_of_said (string_in b)

-- what comes after a text of so many bytes
abbrev pub behind_text : Option ℕ → List ℕ → List ℕ
behind_text None b = []
behind_text (Some n) b = drop (2 + n) b

abbrev pub behind_string : List ℕ → List ℕ
behind_string b = behind_text (short_in b) b

-- ---- the contents

-- <cl><required><alive>
abbrev pub unavailable : List ℕ → Details
unavailable b = Unavailable (short_in b) (int_in (drop 2 b)) (int_in (drop 6 b))

-- <cl><received><blockfor>
abbrev pub answers_in : List ℕ → Answers
answers_in b = record { consistency = short_in b; received = int_in (drop 2 b); required = int_in (drop 6 b) }

-- and then <writeType>, <data_present>, <numfailures><data_present> or <numfailures><write_type>
abbrev pub write_timeout : List ℕ → Details
write_timeout b = WriteTimeout (answers_in b) (text_in (drop 10 b))

abbrev pub read_timeout : List ℕ → Details
read_timeout b = ReadTimeout (answers_in b) (flag_in (drop 10 b))

abbrev pub read_failure : List ℕ → Details
read_failure b = ReadFailure (answers_in b) (int_in (drop 10 b)) (flag_in (drop 14 b))

abbrev pub write_failure : List ℕ → Details
write_failure b = WriteFailure (answers_in b) (int_in (drop 10 b)) (text_in (drop 14 b))

-- <keyspace><function><arg_types>
abbrev pub function_failure : List ℕ → Details
function_failure b = FunctionFailure (text_in b) (text_in (behind_string b))

-- <ks><table>
abbrev pub already_exists : List ℕ → Details
already_exists b = AlreadyExists (text_in b) (text_in (behind_string b))

-- a [short bytes]
abbrev pub unprepared : List ℕ → Details
unprepared b = Unprepared (id_of_said (short_bytes b))

abbrev pub details_with : (code : ℕ) → (contents : List ℕ) → Option Details
details_with code b =
    if code == 0x1000 then Some (unavailable b)
    else if code == 0x1100 then Some (write_timeout b)
    else if code == 0x1200 then Some (read_timeout b)
    else if code == 0x1300 then Some (read_failure b)
    else if code == 0x1400 then Some (function_failure b)
    else if code == 0x1500 then Some (write_failure b)
    else if code == 0x2400 then Some (already_exists b)
    else if code == 0x2500 then Some (unprepared b)
    else None

-- of a response, behind the code and the message
abbrev pub details : Reply → (front : List ℕ) → Option Details
details (reply_as.Error code) b = details_with code (behind_string (drop 4 b))
details r b = None
