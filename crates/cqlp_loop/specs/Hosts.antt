-- What a server does with the requests that come.
use Rattle.std.specs.Prelude.{◌≡◌, ℤ, Result, Ok, Err, ◌⊎◌}
use Rattle.cqlp_note.specs.declared.header.Header.{Header}
use Rattle.cqlp_note.specs.Outputs.{Output}
use Rattle.cqlp_session.specs.declared.kind.RequestKind.{RequestKind}
use Rattle.cqlp_session.specs.declared.server.ServerRefusal.{ServerRefusal}
use Rattle.cqlp_session.specs.declared.server.AnswerError.{AnswerError}
use Rattle.cqlp_session.specs.Signal.{signal_of}
use Rattle.cqlp_session.specs.Server.{ServerCore, accept_of, accepted, answer_of, answered}
use Rattle.cqlp_loop.specs.declared.fault.LoopFault.{LoopFault}
use Rattle.cqlp_loop.specs.declared.fault.LoopFault.TheVariants as fault
use Rattle.cqlp_loop.specs.declared.request.Request.{Request}
use Rattle.cqlp_loop.specs.Exchanges.{Writes, opcode_of, reply_frame}
use Rattle.cqlp_loop.specs.Inboxes.{Supply, InboxState, Receives}

-- a server: its core, and what it hears
pub record HostState : Type 0 where
  pub core : ServerCore
  pub inbox : InboxState

-- the core accepts a message by its header, or refuses it
abbrev pub Takes : ServerCore → Header → Type 0
Takes c h = (k : RequestKind) × (accept_of c (signal_of h) ≡ Ok k)

abbrev pub Refuses : ServerCore → Header → Type 0
Refuses c h = (e : ServerRefusal) × (accept_of c (signal_of h) ≡ Err e)

-- What comes of waiting for a request: its header, and the core has accepted it; or it does not come, or is refused.
abbrev pub Accepts : HostState → Supply → Result Header LoopFault → HostState → Supply → Type 0
Accepts old from (Ok h) new left =
    Receives (Takes old.core) (Refuses old.core) old.inbox from (Ok h) new.inbox left
    × (new.core ≡ accepted old.core (signal_of h) (accept_of old.core (signal_of h)))
Accepts old from (Err e) new left =
    Receives (Takes old.core) (Refuses old.core) old.inbox from (Err e) new.inbox left

-- What comes of answering the request under an id: the core closes it, and the bytes of the reply's frame go to the
-- target; or the core refuses, and nothing is changed.
abbrev pub Answers : Request → ℤ → HostState → Output → Result (Unit {0}) LoopFault → HostState → Output → Type 0
Answers r id old sent result new sent' =
    ((k : RequestKind) × (answer_of old.core id (opcode_of r) ≡ Ok k)
    × (new ≡ record old { core = answered old.core id (opcode_of r) (Ok k) })
    × Writes (reply_frame r id) sent result sent')
    ⊎ ((e : AnswerError) × (answer_of old.core id (opcode_of r) ≡ Err e) × (result ≡ Err fault.BadReply)
    × (new ≡ old) × (sent' ≡ sent))
