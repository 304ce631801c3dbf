-- Headers that are written for C.
use Rattle.std.specs.Prelude.{◌≡◌, ℕ, not, ◌==◌, nat_lt, List, Option, Some, None, Result, Ok, Err, if◌then◌else◌}
use Rattle.cqlp_note.specs.declared.header.Header.{Header}
use Rattle.cqlp_note.specs.declared.header.TheConstants.Header.{LONGEST_BODY}
use Rattle.cqlp_note.specs.declared.opcode.Opcode.{Opcode}
use Rattle.cqlp_note.specs.Heading.{answers, beside_number, has, header_bytes, heading, opcodes, same}
use Rattle.cqlp_c.specs.declared.header.BadHeader.{BadHeader}
use Rattle.cqlp_c.specs.declared.header.BadHeader.TheVariants as bad
use Rattle.cqlp_c.specs.declared.header.CqlpHeader.{CqlpHeader}
use Rattle.cqlp_c.specs.declared.numbers.TheConstants as numbers

-- it is a response's by anything but 0
abbrev pub header_of : CqlpHeader → Opcode → Header
header_of c o =
    record { response = not (c.response == 0); flags = c.flags; stream = c.stream; opcode = o; length = c.length }

abbrev pub header_with : CqlpHeader → Option Opcode → Result Header BadHeader
header_with c None = Err bad.Opcode
header_with c (Some o) =
    if same (answers o) (not (c.response == 0))
    then (if nat_lt LONGEST_BODY c.length then Err bad.Length else Ok (header_of c o))
    else Err bad.Direction

-- The header that these fields are, or the first of them, in the order of its bytes, that no header has.
abbrev pub header_in : CqlpHeader → Result Header BadHeader
header_in c = if has c.flags 0x01 then Err bad.Compressed else header_with c (beside_number c.opcode opcodes)

abbrev pub code_of_bad : BadHeader → ℕ
code_of_bad bad.Compressed = numbers.COMPRESSED
code_of_bad bad.Opcode = numbers.BAD_OPCODE
code_of_bad bad.Direction = numbers.BAD_DIRECTION
code_of_bad bad.Length = numbers.BAD_LENGTH

-- The bytes are the header's, which is read from them again; or the code says why there is none, and they are as they
-- were.
abbrev pub Writes : Result Header BadHeader → (code : ℕ) → (was written : List ℕ) → Type 0
Writes (Ok h) code was written = (code ≡ numbers.DONE) × (written ≡ header_bytes h) × (heading written ≡ Ok h)
Writes (Err why) code was written = (code ≡ code_of_bad why) × (written ≡ was)
