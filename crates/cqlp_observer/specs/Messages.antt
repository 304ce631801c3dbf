-- Requests, responses and events, as an observer of both directions sees them (section 2.3 of native_protocol_v4.spec).
use Rattle.std.specs.Prelude.{ℕ, Bool, true, false, not, ◌&&◌, ℤ, pos, int_lt, nat_le, Option, Some, if◌then◌else◌}
use Rattle.std.specs.Ordering.{int_eq}
use Rattle.cqlp_note.specs.declared.opcode.Opcode.{Opcode}
use Rattle.cqlp_note.specs.declared.opcode.Opcode.TheVariants as opcode
use Rattle.cqlp_observer.specs.declared.message.Message.{Message}

abbrev pub id_of : {T : Type 0} → Message T → ℤ
id_of m = m.frame.header.stream

abbrev pub is_under : {T : Type 0} → ℤ → Message T → Bool
is_under id m = int_eq (id_of m) id

abbrev pub is_of_event : Opcode → Bool
is_of_event opcode.Event = true
is_of_event o = false

-- An EVENT under a negative id, which answers no request (section 4.2.6).
abbrev pub is_event : {T : Type 0} → Message T → Bool
is_event m = (m.frame.header.response && is_of_event m.frame.header.opcode) && int_lt (id_of m) (pos 0)

abbrev pub is_request : {T : Type 0} → Message T → Bool
is_request m = not m.frame.header.response

-- One time is known to be no later than another.
abbrev pub is_no_later : Option ℕ → Option ℕ → Bool
is_no_later (Some a) (Some b) = nat_le a b
is_no_later a b = false

-- Of two messages that come one after the other under an id: a request meets any response, and a response a request that was begun no later.
abbrev pub meets : {T : Type 0} → (first second : Message T) → Bool
meets first second =
    if is_request first then not (is_request second)
    else is_request second && is_no_later second.frame.begun first.frame.begun
