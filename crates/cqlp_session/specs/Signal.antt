-- What a core sees of a message.
use Rattle.std.specs.Prelude.{Bool, true, false, ◌&&◌, ℤ, pos, int_lt}
use Rattle.cqlp_note.specs.declared.header.Header.{Header}
use Rattle.cqlp_note.specs.declared.opcode.Opcode.{Opcode}
use Rattle.cqlp_note.specs.declared.opcode.Opcode.TheVariants as opcode

-- A header's direction, stream id and opcode (section 2 of native_protocol_v4.spec). Its flags and its length are
-- nothing to a core.
pub record Signal : Type 0 where
  pub response : Bool
  pub stream : ℤ
  pub opcode : Opcode

abbrev pub signal_of : Header → Signal
signal_of h = record { response = h.response; stream = h.stream; opcode = h.opcode }

abbrev pub is_event : Opcode → Bool
is_event opcode.Event = true
is_event o = false

-- an event that the server pushed
abbrev pub is_pushed : Signal → Bool
is_pushed s = (s.response && is_event s.opcode) && int_lt s.stream (pos 0)
