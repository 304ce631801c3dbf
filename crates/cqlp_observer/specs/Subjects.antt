-- What a message is about, by its first field.
use Rattle.std.specs.Prelude.{◌≡◌, ℕ, List, Option, Some, None, if◌then◌else◌}
use Rattle.cqlp_note.specs.declared.field.Notation.{Notation}
use Rattle.cqlp_note.specs.declared.field.Notation.TheVariants.{Text32, Bytes16, Int}
use Rattle.cqlp_note.specs.declared.header.Header.{Header}
use Rattle.cqlp_note.specs.declared.opcode.Opcode.{Opcode}
use Rattle.cqlp_note.specs.declared.opcode.Opcode.TheVariants as opcode
use Rattle.cqlp_note.specs.declared.whole.WholeField.{WholeField}
use Rattle.cqlp_note.specs.Heading.{has}
use Rattle.cqlp_note.specs.Whole.{IsFrontField}

-- Sections 4.1.4 to 4.1.6, 4.2.1 and 4.2.5: the text of a QUERY or a PREPARE, the id of an EXECUTE, the code of an ERROR, the kind of a RESULT.
abbrev pub first_notation : Opcode → Option Notation
first_notation opcode.Query = Some Text32
first_notation opcode.Prepare = Some Text32
first_notation opcode.Execute = Some Bytes16
first_notation opcode.Error = Some Int
first_notation opcode.Result = Some Int
first_notation o = None

-- Section 2.2: none where the body is compressed (01).
abbrev pub subject_notation : Header → Option Notation
subject_notation h = if has h.flags 0x01 then None else first_notation h.opcode

-- the field that the first bytes of a message say whole, of at most 256 bytes
abbrev pub SaysIn : Option Notation → List ℕ → Option WholeField → Type 0
SaysIn None front said = said ≡ None
SaysIn (Some n) front said = IsFrontField n 256 256 front said

abbrev pub SaysSubject : Header → List ℕ → Option WholeField → Type 0
SaysSubject h front said = SaysIn (subject_notation h) front said
