-- The first field of a message is said once.
use Rattle.std.proofs.Common.{ℕ, Bool, true, false, List, Option, Some, None, IfSome, if◌then◌else◌}
use Rattle.cqlp_note.specs.declared.field.Notation.{Notation}
use Rattle.cqlp_note.specs.declared.header.Header.{Header}
use Rattle.cqlp_note.specs.declared.opcode.Opcode.{Opcode}
use Rattle.cqlp_note.specs.declared.opcode.Opcode.TheVariants as opcode
use Rattle.cqlp_note.specs.declared.whole.WholeField.{WholeField}
use Rattle.cqlp_note.specs.Heading.{has}
use Rattle.cqlp_note.specs.Laws.{AreSameFrontFields}
use Rattle.cqlp_note.specs.Whole.{IsLeft}
use Rattle.cqlp_note.proofs.Wholes.{one_front}
use Rattle.cqlp_observer.specs.Subjects.{SaysIn, SaysSubject, first_notation}

-- no field of this notation is left to a `Partial`
abbrev IsWhole : Option Notation → Type 0
IsWhole n = IfSome n (λ m. IsLeft m → ⊥)

first_is_whole : (o : Opcode) → IsWhole (first_notation o)
first_is_whole opcode.Error = λ no. no
first_is_whole opcode.Startup = tt
first_is_whole opcode.Ready = tt
first_is_whole opcode.Authenticate = tt
first_is_whole opcode.Options = tt
first_is_whole opcode.Supported = tt
first_is_whole opcode.Query = λ no. no
first_is_whole opcode.Result = λ no. no
first_is_whole opcode.Prepare = λ no. no
first_is_whole opcode.Execute = λ no. no
first_is_whole opcode.Register = tt
first_is_whole opcode.Event = tt
first_is_whole opcode.Batch = tt
first_is_whole opcode.AuthChallenge = tt
first_is_whole opcode.AuthResponse = tt
first_is_whole opcode.AuthSuccess = tt

none_or_first : (b : Bool) (o : Opcode) → IsWhole (if b then None else first_notation o)
none_or_first true o = tt
none_or_first false o = first_is_whole o

said_once : (n : Option Notation) (front : List ℕ) (a b : Option WholeField) → IsWhole n → SaysIn n front a → SaysIn n front b → AreSameFrontFields a b
said_once None front a b whole x y = rw (x, y) tt
said_once (Some n) front a b whole x y = one_front n 256 256 front a b whole x y

pub subject_once : (h : Header) (front : List ℕ) (a b : Option WholeField) → SaysSubject h front a → SaysSubject h front b → AreSameFrontFields a b
subject_once h front a b x y = said_once (if has h.flags 0x01 then None else first_notation h.opcode) front a b (none_or_first (has h.flags 0x01) h.opcode) x y
