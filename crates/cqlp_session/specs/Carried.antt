-- Cores that carry a value of the caller's with each open request. They move as the cores without values do; beside them
-- is what is carried under each stream id.
use Rattle.std.specs.Prelude.{◌≡◌, ℕ, ℤ, List, length, is_none, Option, Some, None, Result, Ok, Err, replicate}
use Rattle.std.specs.List.{filter_map}
use Rattle.std.specs.Result.{result_map_both}
use Rattle.cqlp_note.specs.declared.opcode.Opcode.{Opcode}
use Rattle.cqlp_session.specs.declared.carried.Refused.{Refused}
use Rattle.cqlp_session.specs.declared.client_of.ReplyOf.{ReplyOf}
use Rattle.cqlp_session.specs.declared.client_of.ReplyOf.TheVariants as with_value
use Rattle.cqlp_session.specs.declared.kind.RequestKind.{RequestKind}
use Rattle.cqlp_session.specs.declared.ticket.BeginError.{BeginError}
use Rattle.cqlp_session.specs.declared.ticket.Reply.{Reply}
use Rattle.cqlp_session.specs.declared.ticket.Reply.TheVariants as reply
use Rattle.cqlp_session.specs.declared.ticket.Stray.{Stray}
use Rattle.cqlp_session.specs.declared.ticket.Ticket.{Ticket}
use Rattle.cqlp_session.specs.declared.server.AnswerError.{AnswerError}
use Rattle.cqlp_session.specs.Client.{ClientCore, begun, cancelled, cancels, new_client, replied, reply_to, ticket_for}
use Rattle.cqlp_session.specs.Server.{ServerCore, accept_of, accepted, answer_of, answered, new_server}
use Rattle.cqlp_session.specs.Signal.{Signal}
use Rattle.cqlp_session.specs.Slots.{put, under}

-- There is a place for each id, and a value is there exactly where a request is open under the id.
pub record ConformWith {A T : Type 0} (slots : List (Option A)) (carried : List (Option T)) : Type 0 where
  pub size : length carried ≡ length slots
  pub there : (id : ℤ) → is_none (under carried id) ≡ is_none (under slots id)

-- the values, in the order of their ids
abbrev pub values_in : {T : Type 0} → List (Option T) → List T
values_in carried = filter_map (λ value. value) carried

-- what a call answers, where the value comes back with a refusal
abbrev pub or_back : {R E T : Type 0} → T → Result R E → Result R (Refused E T)
or_back value (Ok r) = Ok r
or_back value (Err why) = Err (record { why = why; carried = value })

-- what is carried, once this is answered to a call that hands in a value
abbrev pub kept_under : {R E T : Type 0} → List (Option T) → ℤ → T → Result R E → List (Option T)
kept_under carried id value (Ok r) = put carried id (Some value)
kept_under carried id value (Err why) = carried

-- what is carried, once this is answered to a call that hands a value out
abbrev pub handed_out : {R E T : Type 0} → List (Option T) → ℤ → Result R E → List (Option T)
handed_out carried id (Ok r) = put carried id None
handed_out carried id (Err why) = carried

-- ---- the client

-- a client's core, and the value that is carried under each id
pub record CarryingClient (T : Type 0) : Type 0 where
  pub core : ClientCore
  pub carried : List (Option T)

-- a core that is made: nothing has begun, and nothing is carried
abbrev pub new_carrying_client : {T : Type 0} → (slots : ℕ) → CarryingClient T
new_carrying_client n = record { core = new_client n; carried = replicate n None }

-- what is carried after this answer to `begin`
abbrev pub kept : {T : Type 0} → List (Option T) → T → Result Ticket BeginError → List (Option T)
kept carried value (Ok t) = put carried t.id (Some value)
kept carried value (Err why) = carried

-- the core after a request of this kind was to begin with this value
abbrev pub begun_with : {T : Type 0} → CarryingClient T → RequestKind → T → CarryingClient T
begun_with c k value = record {
  core = begun c.core k (ticket_for c.core k);
  carried = kept c.carried value (ticket_for c.core k);
}

-- a reply without its value
abbrev pub reply_alone : {T : Type 0} → ReplyOf T → Reply
reply_alone with_value.ServerEvent = reply.ServerEvent
reply_alone (with_value.Answer t k value) = reply.Answer t k
reply_alone (with_value.Dropped t value) = reply.Dropped t

-- the value of a reply; an event has none
abbrev pub reply_value : {T : Type 0} → ReplyOf T → Option T
reply_value with_value.ServerEvent = None
reply_value (with_value.Answer t k value) = Some value
reply_value (with_value.Dropped t value) = Some value

-- what `reply` answers, but for the value
abbrev pub answer_alone : {T : Type 0} → Result (ReplyOf T) Stray → Result Reply Stray
answer_alone result = result_map_both reply_alone (λ why. why) result

-- The core after this message came. An event has no id of the core's, so it hands out nothing.
abbrev pub replied_with : {T : Type 0} → CarryingClient T → Signal → CarryingClient T
replied_with c s = record {
  core = replied c.core s (reply_to c.core s);
  carried = handed_out c.carried s.stream (reply_to c.core s);
}

-- the core after this request was to be given up, whose value stays until its reply
abbrev pub cancelled_with : {T : Type 0} → CarryingClient T → Ticket → CarryingClient T
cancelled_with c t = record { core = cancelled c.core t (cancels c.core t); carried = c.carried }

-- ---- the server

-- a server's core, and the value that is carried under each id
pub record CarryingServer (T : Type 0) : Type 0 where
  pub core : ServerCore
  pub carried : List (Option T)

-- a core that is made: nothing is open, and nothing is carried
abbrev pub new_carrying_server : {T : Type 0} → (slots : ℕ) → CarryingServer T
new_carrying_server n = record { core = new_server n; carried = replicate n None }

-- the core after this message came with this value
abbrev pub accepted_with : {T : Type 0} → CarryingServer T → Signal → T → CarryingServer T
accepted_with c s value = record {
  core = accepted c.core s (accept_of c.core s);
  carried = kept_under c.carried s.stream value (accept_of c.core s);
}

-- the core after the request under this id was to be answered so
abbrev pub answered_with : {T : Type 0} → CarryingServer T → ℤ → Opcode → CarryingServer T
answered_with c id o = record {
  core = answered c.core id o (answer_of c.core id o);
  carried = handed_out c.carried id (answer_of c.core id o);
}

-- what `answer` answers, but for the value
abbrev pub kind_alone : {T : Type 0} → Result (RequestKind × T) AnswerError → Result RequestKind AnswerError
kind_alone result = result_map_both (λ r. r.0) (λ why. why) result
