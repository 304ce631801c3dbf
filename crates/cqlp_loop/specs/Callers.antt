-- What a client asks and hears, and the lines that are printed.
use Rattle.std.specs.Prelude.{◌≡◌, ℕ, List, ◌++◌, codes, decimal, IsSome, Result, Ok, Err, ⊤, ◌⊎◌}
use Rattle.std.specs.Fmt.{signed_decimal}
use Rattle.cqlp_note.specs.declared.header.Header.{Header}
use Rattle.cqlp_note.specs.declared.opcode.Opcode.{Opcode}
use Rattle.cqlp_session.specs.declared.kind.RequestKind.{RequestKind}
use Rattle.cqlp_session.specs.declared.ticket.Ticket.{Ticket}
use Rattle.cqlp_session.specs.declared.ticket.BeginError.{BeginError}
use Rattle.cqlp_session.specs.declared.ticket.Reply.{Reply}
use Rattle.cqlp_session.specs.declared.ticket.Reply.TheVariants.{Answer}
use Rattle.cqlp_session.specs.declared.ticket.Stray.{Stray}
use Rattle.cqlp_session.specs.Signal.{signal_of}
use Rattle.cqlp_session.specs.Client.{ClientCore, begun, replied, reply_to, ticket_for}
use Rattle.cqlp_text.specs.Names.{opcode_name}
use Rattle.cqlp_text.specs.Outputs.{Output, with_text, StopsWithin}
use Rattle.cqlp_loop.specs.declared.fault.LoopFault.{LoopFault}
use Rattle.cqlp_loop.specs.declared.fault.LoopFault.TheVariants as fault
use Rattle.cqlp_loop.specs.declared.request.Request.{Request}
use Rattle.cqlp_loop.specs.Exchanges.{Writes, kind_of, request_frame}
use Rattle.cqlp_loop.specs.Inboxes.{Supply, InboxState, Receives}

-- a client: its core, and what it hears
pub record CallerState : Type 0 where
  pub core : ClientCore
  pub inbox : InboxState

-- ---- it asks

-- What comes of asking: the core begins the request, and the bytes of its frame, with the ticket's id, go to the
-- target; or the core refuses, and nothing is changed.
abbrev pub Asks : Request → CallerState → Output → Result (Unit {0}) LoopFault → CallerState → Output → Type 0
Asks r old sent result new sent' =
    ((t : Ticket) × (ticket_for old.core (kind_of r) ≡ Ok t)
    × (new ≡ record old { core = begun old.core (kind_of r) (Ok t) })
    × Writes (request_frame r t.id) sent result sent')
    ⊎ ((e : BeginError) × (ticket_for old.core (kind_of r) ≡ Err e) × (result ≡ Err fault.BadReply)
    × (new ≡ old) × (sent' ≡ sent))

-- ---- it hears

-- a message with this header is the answer to the request of this ticket
abbrev pub IsAnswer : ClientCore → Header → Ticket → Type 0
IsAnswer c h t = (k : RequestKind) × (reply_to c (signal_of h) ≡ Ok (Answer t k))

abbrev pub IsNoAnswerIn : Result Reply Stray → Type 0
IsNoAnswerIn (Ok (Answer t k)) = ⊥
IsNoAnswerIn r = ⊤

-- it is the answer to a request of this client, or to none
abbrev pub Takes : ClientCore → Header → Type 0
Takes c h = (t : Ticket) × IsAnswer c h t

abbrev pub Refuses : ClientCore → Header → Type 0
Refuses c h = IsNoAnswerIn (reply_to c (signal_of h))

-- What comes of waiting for a reply: the ticket of its request, and its opcode; or it does not come, or is refused.
abbrev pub Listens : CallerState → Supply → Result (Ticket × Opcode) LoopFault → CallerState → Supply → Type 0
Listens old from (Ok r) new left =
    (h : Header) × IsAnswer old.core h r.0 × (r.1 ≡ h.opcode)
    × Receives (Takes old.core) (Refuses old.core) old.inbox from (Ok h) new.inbox left
    × (new.core ≡ replied old.core (signal_of h) (reply_to old.core (signal_of h)))
Listens old from (Err e) new left =
    Receives (Takes old.core) (Refuses old.core) old.inbox from (Err e) new.inbox left

-- ---- what is printed

-- the line of a reply, with the ticket of its request
abbrev pub reply_line : Ticket → Opcode → List ℕ
reply_line t o =
    codes "reply " ++ decimal t.number ++ codes " " ++ signed_decimal t.id ++ codes " " ++ opcode_name o ++ codes "\n"

abbrev pub done_line : (count : ℕ) → List ℕ
done_line count = codes "done " ++ decimal count ++ codes "\n"

-- What comes of printing a line; where it is known what the output was given.
abbrev pub Prints : List ℕ → (old : Output) → Result (Unit {0}) LoopFault → (new : Output) → Type 0
Prints line old (Ok u) new = IsSome old.given → new ≡ with_text old line
Prints line old (Err fault.WriteFault) new = IsSome old.given → StopsWithin old line new
Prints line old (Err fault.NoMemory) new = new ≡ old
Prints line old (Err e) new = ⊥

-- What comes of hearing a reply: its line is printed; or nothing is.
abbrev pub Hears :
    CallerState → Supply → Output → Result (Unit {0}) LoopFault → CallerState → Supply → Output → Type 0
Hears old from out result new left out' =
    ((r : Ticket × Opcode) × Listens old from (Ok r) new left × Prints (reply_line r.0 r.1) out result out')
    ⊎ ((e : LoopFault) × (result ≡ Err e) × Listens old from (Err e) new left × (out' ≡ out))
