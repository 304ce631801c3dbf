-- A server's core: what each call answers, and what it leaves.
use Rattle.std.specs.Prelude.{ℕ, ℤ, if◌then◌else◌, is_none, List, Option, Some, None, Result, Ok, Err, replicate}
use Rattle.cqlp_note.specs.declared.opcode.Opcode.{Opcode}
use Rattle.cqlp_session.specs.declared.kind.RequestKind.{RequestKind}
use Rattle.cqlp_session.specs.declared.phase.Phase.{Phase as PhaseOf}
use Rattle.cqlp_session.specs.declared.phase.Phase.TheVariants.{Fresh}
use Rattle.cqlp_session.specs.declared.server.ServerRefusal.{ServerRefusal}
use Rattle.cqlp_session.specs.declared.server.ServerRefusal.TheVariants.{NotRequest, BadId, IdTaken, Phase}
use Rattle.cqlp_session.specs.declared.server.AnswerError.{AnswerError}
use Rattle.cqlp_session.specs.declared.server.AnswerError.TheVariants.{NotTaken, WrongOpcode}
use Rattle.cqlp_session.specs.Kind.{answers, kind_of}
use Rattle.cqlp_session.specs.Phase.{may_begin, phase_begun, phase_answered}
use Rattle.cqlp_session.specs.Signal.{Signal}
use Rattle.cqlp_session.specs.Slots.{has_slot, put, under}

-- the phase, and the kind of request that is open under each id
pub record ServerCore : Type 0 where
  pub phase : PhaseOf
  pub slots : List (Option RequestKind)

-- a core that is made: nothing is open
abbrev pub new_server : (slots : ℕ) → ServerCore
new_server n = record { phase = Fresh; slots = replicate n None }

-- ---- accept

-- what is answered to a request of this kind under an id
abbrev pub accept_kind : ServerCore → ℤ → Option RequestKind → Result RequestKind ServerRefusal
accept_kind c id None = Err NotRequest
accept_kind c id (Some k) =
    if has_slot c.slots id
    then (if is_none (under c.slots id) then (if may_begin c.phase k then Ok k else Err (Phase c.phase)) else Err IdTaken)
    else Err BadId

-- What `accept` answers: the message has to be a request, its id one of the core's, and free, and the phase has to
-- allow its kind.
abbrev pub accept_of : ServerCore → Signal → Result RequestKind ServerRefusal
accept_of c s = if s.response then Err NotRequest else accept_kind c s.stream (kind_of s.opcode)

-- the core after this answer to `accept`
abbrev pub accepted : ServerCore → Signal → Result RequestKind ServerRefusal → ServerCore
accepted c s (Ok k) = record { phase = phase_begun c.phase k; slots = put c.slots s.stream (Some k) }
accepted c s (Err e) = c

-- ---- answer

-- what is answered, where this is open under the id
abbrev pub answer_for : Opcode → Option RequestKind → Result RequestKind AnswerError
answer_for o None = Err NotTaken
answer_for o (Some k) = if answers k o then Ok k else Err WrongOpcode

-- What `answer` answers: a request has to be open under the id, and the opcode has to answer its kind.
abbrev pub answer_of : ServerCore → ℤ → Opcode → Result RequestKind AnswerError
answer_of c id o = answer_for o (under c.slots id)

-- the core after this answer to `answer`
abbrev pub answered : ServerCore → ℤ → Opcode → Result RequestKind AnswerError → ServerCore
answered c id o (Ok k) = record { phase = phase_answered c.phase k o; slots = put c.slots id None }
answered c id o (Err e) = c
