-- What the calls on a server's core answer, and what they leave. It carries a number of the caller's with each request.
use Rattle.std.specs.Prelude.{◌≡◌, ℕ, ℤ, negsuc, Option, Some, None}
use Rattle.cqlp_note.specs.declared.opcode.Opcode.{Opcode}
use Rattle.cqlp_session.specs.Carried.{CarryingServer, accepted_with, answered_with}
use Rattle.cqlp_session.specs.Server.{accept_of, answer_of}
use Rattle.cqlp_session.specs.Signal.{Signal}
use Rattle.cqlp_session.specs.Slots.{under}
use Rattle.cqlp_c.specs.declared.header.CqlpHeader.{CqlpHeader}
use Rattle.cqlp_c.specs.declared.talked.CqlpAnswered.{CqlpAnswered}
use Rattle.cqlp_c.specs.declared.numbers.TheConstants as numbers
use Rattle.cqlp_c.specs.Numbers.{number_of_phase}
use Rattle.cqlp_c.specs.Talked.{answered_after, code_of_accept, code_of_answer}

-- a core that carries numbers
abbrev pub ServerCore : Type 0
ServerCore = CarryingServer ℕ

-- ---- accept

-- what a core answers to this signal, if it is one, with which this number is carried
abbrev pub AcceptsSignal : (old : ServerCore) → Option Signal → (carried code : ℕ) → (new : ServerCore) → Type 0
AcceptsSignal c None carried code new = (code ≡ numbers.NO_FRAME) × (new ≡ c)
AcceptsSignal c (Some s) carried code new =
    (code ≡ code_of_accept (accept_of c.core s)) × (new ≡ accepted_with c s carried)

abbrev pub Accepts : (old : Option ServerCore) → Option Signal → (carried code : ℕ) → (new : Option ServerCore) → Type 0
Accepts None s carried code new = (code ≡ numbers.NO_SERVER) × (new ≡ None)
Accepts (Some c) s carried code new = (d : ServerCore) × (new ≡ Some d) × AcceptsSignal c s carried code d

-- ---- answer

-- What a core answers to a response with this opcode, if it is one, to the request under a stream id: the number that is
-- written is the one that is carried there.
abbrev pub AnswersBy : (old : ServerCore) → (id : ℤ) → Option Opcode → (code : ℕ) → (new : ServerCore)
    → (was written : CqlpAnswered) → Type 0
AnswersBy c id None code new was written = (code ≡ numbers.BAD_OPCODE) × (new ≡ c) × (written ≡ was)
AnswersBy c id (Some o) code new was written =
    (code ≡ code_of_answer (answer_of c.core id o)) × (new ≡ answered_with c id o)
    × (written ≡ answered_after (answer_of c.core id o) (under c.carried id) was)

abbrev pub Answers : (old : Option ServerCore) → (id : ℤ) → Option Opcode → (code : ℕ) → (new : Option ServerCore)
    → (was written : CqlpAnswered) → Type 0
Answers None id o code new was written = (code ≡ numbers.NO_SERVER) × (new ≡ None) × (written ≡ was)
Answers (Some c) id o code new was written = (d : ServerCore) × (new ≡ Some d) × AnswersBy c id o code d was written

-- ---- event

-- the fields of the header of an EVENT that is pushed (section 4.2.6 of native_protocol_v4.spec)
abbrev pub event_fields : (length flags : ℕ) → CqlpHeader
event_fields length flags =
    record { length = length; stream = negsuc 0; opcode = numbers.OPCODE_EVENT; flags = flags; response = 1 }

-- ---- phase and free

abbrev pub Conforms : (old : Option ServerCore) → (code : ℕ) → (new : Option ServerCore) → (was written : ℕ) → Type 0
Conforms None code new was written = (code ≡ numbers.NO_SERVER) × (new ≡ None) × (written ≡ was)
Conforms (Some c) code new was written = (code ≡ numbers.DONE) × (new ≡ Some c) × (written ≡ number_of_phase c.core.phase)

abbrev pub code_of_free : Option ServerCore → ℕ
code_of_free None = numbers.NO_SERVER
code_of_free (Some c) = numbers.DONE
