-- What the calls on a client's core answer, and what they leave. It carries a number of the caller's with each request.
use Rattle.std.specs.Prelude.{◌≡◌, ℕ, if◌then◌else◌, Option, Some, None}
use Rattle.cqlp_session.specs.declared.kind.RequestKind.{RequestKind}
use Rattle.cqlp_session.specs.Carried.{CarryingClient, begun_with, cancelled_with, replied_with}
use Rattle.cqlp_session.specs.Client.{cancels, reply_to, ticket_for}
use Rattle.cqlp_session.specs.Signal.{Signal}
use Rattle.cqlp_session.specs.Slots.{under}
use Rattle.cqlp_c.specs.declared.talked.CqlpReply.{CqlpReply}
use Rattle.cqlp_c.specs.declared.talked.CqlpTicket.{CqlpTicket}
use Rattle.cqlp_c.specs.declared.numbers.TheConstants as numbers
use Rattle.cqlp_c.specs.Numbers.{number_of_phase}
use Rattle.cqlp_c.specs.Talked.{code_of_begin, code_of_reply, given_ticket, reply_after, ticket_after}

-- a core that carries numbers
abbrev pub ClientCore : Type 0
ClientCore = CarryingClient ℕ

-- ---- begin

-- what a core answers to a request of this kind, if it is one, with which this number is carried
abbrev pub BeginsKind : (old : ClientCore) → Option RequestKind → (carried code : ℕ) → (new : ClientCore)
    → (was written : CqlpTicket) → Type 0
BeginsKind c None carried code new was written = (code ≡ numbers.NO_REQUEST) × (new ≡ c) × (written ≡ was)
BeginsKind c (Some k) carried code new was written =
    (code ≡ code_of_begin (ticket_for c.core k)) × (new ≡ begun_with c k carried)
    × (written ≡ ticket_after (ticket_for c.core k) was)

abbrev pub Begins : (old : Option ClientCore) → Option RequestKind → (carried code : ℕ) → (new : Option ClientCore)
    → (was written : CqlpTicket) → Type 0
Begins None k carried code new was written = (code ≡ numbers.NO_CLIENT) × (new ≡ None) × (written ≡ was)
Begins (Some c) k carried code new was written =
    (d : ClientCore) × (new ≡ Some d) × BeginsKind c k carried code d was written

-- ---- reply

-- What a core answers to this signal, if it is one: the number that is written is the one that is carried under its stream id.
abbrev pub HearsSignal : (old : ClientCore) → Option Signal → (code : ℕ) → (new : ClientCore)
    → (was written : CqlpReply) → Type 0
HearsSignal c None code new was written = (code ≡ numbers.NO_FRAME) × (new ≡ c) × (written ≡ was)
HearsSignal c (Some s) code new was written =
    (code ≡ code_of_reply (reply_to c.core s)) × (new ≡ replied_with c s)
    × (written ≡ reply_after (reply_to c.core s) (under c.carried s.stream) was)

abbrev pub Hears : (old : Option ClientCore) → Option Signal → (code : ℕ) → (new : Option ClientCore)
    → (was written : CqlpReply) → Type 0
Hears None s code new was written = (code ≡ numbers.NO_CLIENT) × (new ≡ None) × (written ≡ was)
Hears (Some c) s code new was written = (d : ClientCore) × (new ≡ Some d) × HearsSignal c s code d was written

-- ---- cancel, phase and free

abbrev pub Cancels : (old : Option ClientCore) → CqlpTicket → (code : ℕ) → (new : Option ClientCore) → Type 0
Cancels None t code new = (code ≡ numbers.NO_CLIENT) × (new ≡ None)
Cancels (Some c) t code new =
    (code ≡ (if cancels c.core (given_ticket t) then numbers.DONE else numbers.NOT_CANCELLED))
    × (new ≡ Some (cancelled_with c (given_ticket t)))

abbrev pub Conforms : (old : Option ClientCore) → (code : ℕ) → (new : Option ClientCore) → (was written : ℕ) → Type 0
Conforms None code new was written = (code ≡ numbers.NO_CLIENT) × (new ≡ None) × (written ≡ was)
Conforms (Some c) code new was written = (code ≡ numbers.DONE) × (new ≡ Some c) × (written ≡ number_of_phase c.core.phase)

abbrev pub code_of_free : Option ClientCore → ℕ
code_of_free None = numbers.NO_CLIENT
code_of_free (Some c) = numbers.DONE
