-- The JSON object of what an ERROR has behind its message: its keys and their values.
use Prim.Native.String.{String}
use Rattle.std.specs.Prelude.{ℕ, List, [], ◌∷◌, ◌++◌, codes, Option, Some, None}
use Rattle.cqlp_json.specs.Lines.{Members, member, texts}
use Rattle.cqlp_capture_exchanges.specs.ErrorDetails.{Details, Unavailable, WriteTimeout, ReadTimeout, ReadFailure, FunctionFailure}
use Rattle.cqlp_capture_exchanges.specs.ErrorDetails.{WriteFailure, AlreadyExists, Unprepared}
use Rattle.cqlp_capture_exchanges.specs.Members.{consistency_or_null, flag_or_null, hex_or_null, signed_or_null, string_or_null}
use Rattle.cqlp_capture_exchanges.specs.Times.{joined}

abbrev pub first_detail : (name : String) → (value : List ℕ) → List ℕ
first_detail name value = codes ",\"details\":{\"" ++ codes name ++ codes "\":" ++ value

abbrev pub detail_members : Details → Members
detail_members (Unavailable consistency required alive) =
    first_detail "consistency" (consistency_or_null consistency) ∷ member "required" (signed_or_null required) ∷ member "alive" (signed_or_null alive) ∷ []
detail_members (WriteTimeout answers write_type) =
    first_detail "consistency" (consistency_or_null answers.consistency) ∷ member "received" (signed_or_null answers.received)
    ∷ member "required" (signed_or_null answers.required) ∷ member "write_type" (string_or_null write_type) ∷ []
detail_members (ReadTimeout answers data_present) =
    first_detail "consistency" (consistency_or_null answers.consistency) ∷ member "received" (signed_or_null answers.received)
    ∷ member "required" (signed_or_null answers.required) ∷ member "data_present" (flag_or_null data_present) ∷ []
detail_members (ReadFailure answers failures data_present) =
    first_detail "consistency" (consistency_or_null answers.consistency) ∷ member "received" (signed_or_null answers.received)
    ∷ member "required" (signed_or_null answers.required) ∷ member "failures" (signed_or_null failures)
    ∷ member "data_present" (flag_or_null data_present) ∷ []
detail_members (FunctionFailure keyspace function) =
    first_detail "keyspace" (string_or_null keyspace) ∷ member "function" (string_or_null function) ∷ []
detail_members (WriteFailure answers failures write_type) =
    first_detail "consistency" (consistency_or_null answers.consistency) ∷ member "received" (signed_or_null answers.received)
    ∷ member "required" (signed_or_null answers.required) ∷ member "failures" (signed_or_null failures)
    ∷ member "write_type" (string_or_null write_type) ∷ []
detail_members (AlreadyExists keyspace table) = first_detail "keyspace" (string_or_null keyspace) ∷ member "table" (string_or_null table) ∷ []
detail_members (Unprepared id) = first_detail "id" (hex_or_null id) ∷ []

abbrev pub object_text : Details → List ℕ
object_text d = joined (texts (detail_members d) ∷ codes "}" ∷ [])

-- Where there are none, the object has no such member.
abbrev pub details_member : Option Details → List ℕ
details_member None = []
details_member (Some d) = object_text d
