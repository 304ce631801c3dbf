-- What a client's core that carries values hands out, whatever was done with it before.
use Rattle.std.specs.Prelude.{◌≡◌, ◌≢◌, ℕ, List, [], ◌∷◌, Contains, AllPairs, Option, Some, None, Result, Ok, Err, IfOk}
use Rattle.cqlp_session.specs.declared.kind.RequestKind.{RequestKind}
use Rattle.cqlp_session.specs.declared.ticket.BeginError.{BeginError}
use Rattle.cqlp_session.specs.declared.ticket.Reply.{Reply}
use Rattle.cqlp_session.specs.declared.ticket.Reply.TheVariants.{ServerEvent, Answer, Dropped}
use Rattle.cqlp_session.specs.declared.ticket.Ticket.{Ticket}
use Rattle.cqlp_session.specs.Carried.{CarryingClient, begun_with, cancelled_with, new_carrying_client, replied_with}
use Rattle.cqlp_session.specs.Client.{reply_to, ticket_for}
use Rattle.cqlp_session.specs.Signal.{Signal}
use Rattle.cqlp_session.specs.Slots.{under}

-- a call of the core
pub data ClientCall (T : Type 0) : Type 0 where
  Begin : RequestKind → (value : T) → ClientCall T
  Reply_to : Signal → ClientCall T
  Cancel : Ticket → ClientCall T

-- the core, and the value that was given with each request that began, under its ticket
pub record Carriage (T : Type 0) : Type 0 where
  pub client : CarryingClient T
  pub given : List (Ticket × T)

abbrev pub given_under : {T : Type 0} → T → Result Ticket BeginError → List (Ticket × T) → List (Ticket × T)
given_under value (Ok t) given = (t, value) ∷ given
given_under value (Err why) given = given

abbrev pub after_call : {T : Type 0} → Carriage T → ClientCall T → Carriage T
after_call w (Begin k value) = record {
  client = begun_with w.client k value;
  given = given_under value (ticket_for w.client.core k) w.given;
}
after_call w (Reply_to s) = record { client = replied_with w.client s; given = w.given }
after_call w (Cancel t) = record { client = cancelled_with w.client t; given = w.given }

abbrev pub after_calls : {T : Type 0} → List (ClientCall T) → Carriage T → Carriage T
after_calls [] w = w
after_calls (call ∷ calls) w = after_calls calls (after_call w call)

-- a new core
abbrev pub empty_carriage : {T : Type 0} → (slots : ℕ) → Carriage T
empty_carriage n = record { client = new_carrying_client n; given = [] }

-- what is carried is what was given under this ticket
pub record IsGivenUnder {T : Type 0} (given : List (Ticket × T)) (t : Ticket) (carried : Option T) : Type 0 where
  pub value : T
  pub carried_is : carried ≡ Some value
  pub given_is : Contains given (t, value)

-- The value that a reply hands out is the one that was given with its request. An event hands out none.
abbrev pub IsReturned : {T : Type 0} → List (Ticket × T) → Option T → Reply → Type 0
IsReturned given carried ServerEvent = carried ≡ None
IsReturned given carried (Answer t k) = IsGivenUnder given t carried
IsReturned given carried (Dropped t) = IsGivenUnder given t carried

abbrev pub HaveOtherTickets : {T : Type 0} → Ticket × T → Ticket × T → Type 0
HaveOtherTickets a b = a.0.number ≢ b.0.number

-- After any calls of a new core: each reply hands out the value that was given with its request, and no two requests
-- have one ticket.
pub record ValuesComeBack (T : Type 0) (slots : ℕ) (calls : List (ClientCall T)) : Type 0 where
  pub returned : (s : Signal)
      → (let w = after_calls calls (empty_carriage slots) in
      IfOk (reply_to w.client.core s) (IsReturned w.given (under w.client.carried s.stream)))
  pub apart : AllPairs HaveOtherTickets (after_calls calls (empty_carriage slots)).given

abbrev pub EachValueComesBack : Type 0 → Type 0
EachValueComesBack T = (slots : ℕ) (calls : List (ClientCall T)) → ValuesComeBack T slots calls
