-- What a response is, by its opcode and the first number of its body.
use Rattle.std.specs.Prelude.{ℕ, nat_lt, List, [], ◌∷◌, length, take, drop, codes, Option, Some, None, if◌then◌else◌}
use Rattle.std.specs.Int.{w32, from_be_bytes}
use Rattle.cqlp_note.specs.declared.header.Header.{Header}
use Rattle.cqlp_note.specs.declared.opcode.Opcode.{Opcode}
use Rattle.cqlp_note.specs.declared.opcode.Opcode.TheVariants as opcode
use Rattle.cqlp_note.specs.Heading.{has}
use Rattle.cqlp_capture_exchanges.specs.declared.reply.Reply.{Reply}
use Rattle.cqlp_capture_exchanges.specs.declared.reply.Reply.TheVariants as reply_as
use Rattle.cqlp_capture_exchanges.specs.Statements.{Said, string_in}

-- ---- the first number

abbrev pub number_in : List ℕ → Option ℕ
number_in b = if nat_lt (length b) 4 then None else Some (from_be_bytes w32 (take 4 b))

-- Section 2.2: it is not to be seen in a body that is compressed (01). What comes before the message is passed over.
abbrev pub first_number : (flags : ℕ) → (front : List ℕ) → Option ℕ
first_number flags b = if has flags 0x01 then None else number_in b

abbrev pub reply_with : Opcode → Option ℕ → Reply
reply_with opcode.Result (Some kind) = reply_as.Result kind
reply_with opcode.Error (Some code) = reply_as.Error code
reply_with o n = reply_as.Other o

abbrev pub reply : Header → (body : List ℕ) → Reply
reply h b = reply_with h.opcode (first_number h.flags b)

-- ---- names

-- section 4.2.5
abbrev pub kind_names : List (ℕ × List ℕ)
kind_names =
    (1, codes "VOID") ∷ (2, codes "ROWS") ∷ (3, codes "SET_KEYSPACE") ∷ (4, codes "PREPARED")
    ∷ (5, codes "SCHEMA_CHANGE") ∷ []

-- section 9
abbrev pub error_names : List (ℕ × List ℕ)
error_names =
    (0x0000, codes "ServerError") ∷ (0x000A, codes "ProtocolError") ∷ (0x0100, codes "AuthenticationError")
    ∷ (0x1000, codes "Unavailable") ∷ (0x1001, codes "Overloaded") ∷ (0x1002, codes "IsBootstrapping")
    ∷ (0x1003, codes "TruncateError") ∷ (0x1100, codes "WriteTimeout") ∷ (0x1200, codes "ReadTimeout")
    ∷ (0x1300, codes "ReadFailure") ∷ (0x1400, codes "FunctionFailure") ∷ (0x1500, codes "WriteFailure")
    ∷ (0x2000, codes "SyntaxError") ∷ (0x2100, codes "Unauthorized") ∷ (0x2200, codes "Invalid")
    ∷ (0x2300, codes "ConfigError") ∷ (0x2400, codes "AlreadyExists") ∷ (0x2500, codes "Unprepared") ∷ []

-- section 3
abbrev pub consistency_names : List (ℕ × List ℕ)
consistency_names =
    (0x0000, codes "ANY") ∷ (0x0001, codes "ONE") ∷ (0x0002, codes "TWO") ∷ (0x0003, codes "THREE") ∷ (0x0004, codes "QUORUM")
    ∷ (0x0005, codes "ALL") ∷ (0x0006, codes "LOCAL_QUORUM") ∷ (0x0007, codes "EACH_QUORUM") ∷ (0x0008, codes "SERIAL")
    ∷ (0x0009, codes "LOCAL_SERIAL") ∷ (0x000A, codes "LOCAL_ONE") ∷ []

-- ---- the message of an ERROR

abbrev pub message : Reply → (front : List ℕ) → Option Said
message (reply_as.Error code) b = string_in (drop 4 b)
message r b = None
