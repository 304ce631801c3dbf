-- What cores take from C and give to it.
use Rattle.std.specs.Prelude.{ℕ, ℤ, pos, negsuc, Bool, ◌&&◌, ◌==◌, int_le, Option, Some, None, option_and_then, Result, Ok, Err}
use Rattle.std.specs.Prelude.{if◌then◌else◌}
use Rattle.cqlp_note.specs.declared.opcode.Opcode.{Opcode}
use Rattle.cqlp_note.specs.Heading.{beside_number, code_of, opcodes}
use Rattle.cqlp_session.specs.declared.kind.RequestKind.{RequestKind}
use Rattle.cqlp_session.specs.declared.ticket.Ticket.{Ticket}
use Rattle.cqlp_session.specs.declared.ticket.BeginError.{BeginError}
use Rattle.cqlp_session.specs.declared.ticket.BeginError.TheVariants as begin
use Rattle.cqlp_session.specs.declared.ticket.Reply.{Reply}
use Rattle.cqlp_session.specs.declared.ticket.Reply.TheVariants as reply
use Rattle.cqlp_session.specs.declared.ticket.Stray.{Stray}
use Rattle.cqlp_session.specs.declared.ticket.Stray.TheVariants as stray
use Rattle.cqlp_session.specs.declared.server.AnswerError.{AnswerError}
use Rattle.cqlp_session.specs.declared.server.AnswerError.TheVariants as answer
use Rattle.cqlp_session.specs.declared.server.ServerRefusal.{ServerRefusal}
use Rattle.cqlp_session.specs.declared.server.ServerRefusal.TheVariants as refusal
use Rattle.cqlp_session.specs.Kind.{kind_of, opcode_of}
use Rattle.cqlp_session.specs.Signal.{Signal}
use Rattle.cqlp_c.specs.declared.event.CqlpEvent.{CqlpEvent}
use Rattle.cqlp_c.specs.declared.talked.CqlpAnswered.{CqlpAnswered}
use Rattle.cqlp_c.specs.declared.talked.CqlpReply.{CqlpReply}
use Rattle.cqlp_c.specs.declared.talked.CqlpTicket.{CqlpTicket}
use Rattle.cqlp_c.specs.declared.numbers.TheConstants as numbers

-- ---- begin

-- the kind of request that has this opcode, if one has
abbrev pub request_of : (opcode : ℕ) → Option RequestKind
request_of n = option_and_then kind_of (beside_number n opcodes)

abbrev pub ticket_of : Ticket → CqlpTicket
ticket_of t = record { number = t.number; id = t.id }

-- a ticket that C gives
abbrev pub given_ticket : CqlpTicket → Ticket
given_ticket t = record { id = t.id; number = t.number }

-- the code for a request that may not begin
abbrev pub code_of_refused : BeginError → ℕ
code_of_refused (begin.Phase p) = numbers.BAD_PHASE
code_of_refused begin.Spent = numbers.SPENT
code_of_refused begin.Full = numbers.FULL

abbrev pub code_of_begin : Result Ticket BeginError → ℕ
code_of_begin (Ok t) = numbers.DONE
code_of_begin (Err e) = code_of_refused e

-- the ticket that is in C's memory after this answer
abbrev pub ticket_after : Result Ticket BeginError → (was : CqlpTicket) → CqlpTicket
ticket_after (Ok t) was = ticket_of t
ticket_after (Err e) was = was

-- ---- reply

-- a stream id has 16 bits
abbrev pub is_stream : ℤ → Bool
is_stream z = int_le (negsuc 32767) z && int_le z (pos 32767)

abbrev pub signal_with : CqlpEvent → Option Opcode → Option Signal
signal_with c None = None
signal_with c (Some o) = Some (record { response = c.mark == numbers.MARK_RESPONSE; stream = c.extra; opcode = o })

-- What a core sees of the event of a frame; none of another event, and of one that no frame has.
abbrev pub signal_in : CqlpEvent → Option Signal
signal_in c =
    if (c.tag == numbers.TAG_FRAME) && is_stream c.extra then signal_with c (beside_number c.opcode opcodes) else None

-- the code for a message that is no reply
abbrev pub code_of_stray : Stray → ℕ
code_of_stray stray.NotResponse = numbers.NOT_RESPONSE
code_of_stray stray.NoSuchStream = numbers.NO_SUCH_STREAM
code_of_stray stray.WrongOpcode = numbers.WRONG_OPCODE

abbrev pub code_of_reply : Result Reply Stray → ℕ
code_of_reply (Ok r) = numbers.DONE
code_of_reply (Err e) = code_of_stray e

-- a number that is carried; 0 where none is
abbrev pub number_in : Option ℕ → ℕ
number_in None = 0
number_in (Some n) = n

-- a reply, and the number that its request began with
abbrev pub reply_of : Reply → Option ℕ → CqlpReply
reply_of reply.ServerEvent carried =
    record { number = 0; carried = 0; id = pos 0; what = numbers.REPLY_EVENT; request = 0 }
reply_of (reply.Answer t k) carried = record {
  number = t.number;
  carried = number_in carried;
  id = t.id;
  what = numbers.REPLY_ANSWER;
  request = code_of (opcode_of k);
}
reply_of (reply.Dropped t) carried =
    record { number = t.number; carried = number_in carried; id = t.id; what = numbers.REPLY_DROPPED; request = 0 }

-- the reply that is in C's memory after this answer
abbrev pub reply_after : Result Reply Stray → (carried : Option ℕ) → (was : CqlpReply) → CqlpReply
reply_after (Ok r) carried was = reply_of r carried
reply_after (Err e) carried was = was

-- ---- accept

-- the code for a message that a server does not accept as a request
abbrev pub code_of_refusal : ServerRefusal → ℕ
code_of_refusal refusal.NotRequest = numbers.NOT_REQUEST
code_of_refusal refusal.BadId = numbers.BAD_ID
code_of_refusal refusal.IdTaken = numbers.ID_TAKEN
code_of_refusal (refusal.Phase p) = numbers.BAD_PHASE

abbrev pub code_of_accept : Result RequestKind ServerRefusal → ℕ
code_of_accept (Ok k) = numbers.DONE
code_of_accept (Err e) = code_of_refusal e

-- ---- answer

-- a request that was answered, and the number that it was accepted with
abbrev pub answered_of : RequestKind → (carried : ℕ) → CqlpAnswered
answered_of k carried = record { carried = carried; request = code_of (opcode_of k) }

-- the code for a request that may not be answered so
abbrev pub code_of_unanswered : AnswerError → ℕ
code_of_unanswered answer.NotTaken = numbers.NO_SUCH_STREAM
code_of_unanswered answer.WrongOpcode = numbers.WRONG_OPCODE

abbrev pub code_of_answer : Result RequestKind AnswerError → ℕ
code_of_answer (Ok k) = numbers.DONE
code_of_answer (Err e) = code_of_unanswered e

-- what is in C's memory after this answer
abbrev pub answered_after : Result RequestKind AnswerError → (carried : Option ℕ) → (was : CqlpAnswered) → CqlpAnswered
answered_after (Ok k) carried was = answered_of k (number_in carried)
answered_after (Err e) carried was = was
