-- What holds of two cores that talk over one connection, whatever the steps.
use Rattle.std.specs.Prelude.{◌≡◌, ◌≢◌, ℕ, List, [], ◌∷◌, All, AllPairs, Option, Some, None, IsSomeAnd, Result, Ok, Err, IsOk, IfOk}
use Rattle.std.specs.Prelude.{⊤}
use Rattle.cqlp_note.specs.declared.opcode.Opcode.TheVariants.{Event}
use Rattle.cqlp_session.specs.declared.kind.RequestKind.{RequestKind}
use Rattle.cqlp_session.specs.declared.kind.RequestKind.TheVariants as kind
use Rattle.cqlp_session.specs.declared.phase.Phase.TheVariants.{Ready}
use Rattle.cqlp_session.specs.declared.ticket.Reply.{Reply}
use Rattle.cqlp_session.specs.declared.ticket.Reply.TheVariants as reply
use Rattle.cqlp_session.specs.declared.ticket.Stray.{Stray}
use Rattle.cqlp_session.specs.Client.{reply_to, ticket_for}
use Rattle.cqlp_session.specs.Server.{accept_of}
use Rattle.cqlp_session.specs.World.{World, Step, Request, Message, Deliver_down, happens, run, start}

-- of the message that is delivered next, if one is on the wire
abbrev pub IfNext : {M : Type 0} → List M → (M → Type 0) → Type 0
IfNext [] P = ⊤
IfNext (m ∷ rest) P = P m

-- The reply has the ticket and the kind of the request with which its message is tagged. No message is refused.
abbrev pub IsReplyAbout : Option Request → Result Reply Stray → Type 0
IsReplyAbout tag (Ok (reply.Answer t k)) = tag ≡ Some (record { ticket = t; kind = k })
IsReplyAbout tag (Ok (reply.Dropped t)) = IsSomeAnd tag (λ r. r.ticket ≡ t)
IsReplyAbout tag (Ok reply.ServerEvent) = tag ≡ None
IsReplyAbout tag (Err e) = ⊥

abbrev pub RepliesArePaired : World → Type 0
RepliesArePaired w = IfNext w.down (λ m. IsReplyAbout m.tag (reply_to w.client m.seen))

-- an event is reported as one, and changes no core
pub record IsEventAlone (w : World) (m : Message (Option Request)) : Type 0 where
  pub reported : reply_to w.client m.seen ≡ Ok reply.ServerEvent
  pub client : (happens w Deliver_down).client ≡ w.client
  pub server : (happens w Deliver_down).server ≡ w.server

abbrev pub EventsChangeNothing : World → Type 0
EventsChangeNothing w = IfNext w.down (λ m. m.seen.opcode ≡ Event → IsEventAlone w m)

abbrev pub HaveOtherIds : Request → Request → Type 0
HaveOtherIds r q = r.ticket.id ≢ q.ticket.id

abbrev pub HaveOtherNumbers : Request → Request → Type 0
HaveOtherNumbers r q = r.ticket.number ≢ q.ticket.number

-- No two requests that wait for their reply have the same id, or the same number, and no two that the server is to
-- answer have the same id. An id isn't given out while a request waits under it, be it cancelled or not.
pub record IdsAreApart (w : World) : Type 0 where
  pub waiting : AllPairs HaveOtherIds w.waiting
  pub numbers : AllPairs HaveOtherNumbers w.waiting
  pub serving : AllPairs HaveOtherIds w.serving
  pub next : (k : RequestKind) → IfOk (ticket_for w.client k) (λ t. All (λ r. r.ticket.id ≢ t.id) w.waiting)

-- a request that wants a connection that is set up
abbrev pub WantsReady : RequestKind → Type 0
WantsReady kind.Query = ⊤
WantsReady kind.Prepare = ⊤
WantsReady kind.Execute = ⊤
WantsReady kind.Batch = ⊤
WantsReady kind.Register = ⊤
WantsReady k = ⊥

abbrev pub BeginsOnceReady : World → Type 0
BeginsOnceReady w = (k : RequestKind) → WantsReady k → IsOk (ticket_for w.client k) → w.client.phase ≡ Ready

-- neither core refuses the message that is delivered to it next
pub record NoneIsRefused (w : World) : Type 0 where
  pub up : IfNext w.up (λ m. IsOk (accept_of w.server m.seen))
  pub down : IfNext w.down (λ m. IsOk (reply_to w.client m.seen))

-- it holds after every list of steps from two new cores with these numbers of slots
abbrev pub AfterAnySteps : (client_slots server_slots : ℕ) → (World → Type 0) → Type 0
AfterAnySteps c s P = (steps : List Step) → P (run steps (start c s))
