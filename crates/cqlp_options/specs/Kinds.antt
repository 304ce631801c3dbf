-- The kinds of replies, by the names that the lines of a capture's exchanges show.
use Rattle.std.specs.Prelude.{ℕ, List, [], ◌∷◌, Option, Some, codes}
use Rattle.cqlp_note.specs.Heading.{beside_number}
use Rattle.cqlp_text.specs.Names.{opcode_name}
use Rattle.cqlp_options.specs.declared.kind.AskedKind.{AskedKind}
use Rattle.cqlp_options.specs.declared.kind.AskedKind.TheVariants as kind

-- section 4.2.5
abbrev pub result_names : List (ℕ × List ℕ)
result_names =
    (1, codes "VOID") ∷ (2, codes "ROWS") ∷ (3, codes "SET_KEYSPACE") ∷ (4, codes "PREPARED")
    ∷ (5, codes "SCHEMA_CHANGE") ∷ []

-- section 9
abbrev pub error_names : List (ℕ × List ℕ)
error_names =
    (0x0000, codes "ServerError") ∷ (0x000A, codes "ProtocolError") ∷ (0x0100, codes "AuthenticationError")
    ∷ (0x1000, codes "Unavailable") ∷ (0x1001, codes "Overloaded") ∷ (0x1002, codes "IsBootstrapping")
    ∷ (0x1003, codes "TruncateError") ∷ (0x1100, codes "WriteTimeout") ∷ (0x1200, codes "ReadTimeout")
    ∷ (0x1300, codes "ReadFailure") ∷ (0x1400, codes "FunctionFailure") ∷ (0x1500, codes "WriteFailure")
    ∷ (0x2000, codes "SyntaxError") ∷ (0x2100, codes "Unauthorized") ∷ (0x2200, codes "Invalid")
    ∷ (0x2300, codes "ConfigError") ∷ (0x2400, codes "AlreadyExists") ∷ (0x2500, codes "Unprepared") ∷ []

abbrev pub kind_name : AskedKind → Option (List ℕ)
kind_name (kind.Result number) = beside_number number result_names
kind_name (kind.Error code) = beside_number code error_names
kind_name (kind.Response o) = Some (opcode_name o)
