-- Frames with nothing before their message, and the flags of those that have something there (section 2.2 of
-- native_protocol_v4.spec).
use Rattle.std.specs.Prelude.{◌≡◌, ℕ, ℤ, true, false, Some, None, if◌then◌else◌, is_some, bit_or}
use Rattle.cqlp_message.specs.declared.unfit.Unfit.TheVariants.{Parts}
use Rattle.cqlp_message.specs.FrameValues.{FrameValue, Message}
use Rattle.cqlp_message.specs.Agreement.{is_directed, frame_agrees, message_agrees}
use Rattle.cqlp_message.specs.Frames.{unfit_of}

-- a message with no flags, and with nothing before it
abbrev pub plain_frame : (stream : ℤ) → Message → FrameValue
plain_frame stream m =
    record { flags = 0; stream = stream; tracing = None; warnings = None; payload = None; message = m }

-- the flags of the parts that are there
abbrev pub flags_of_parts : FrameValue → ℕ
flags_of_parts f =
    bit_or (bit_or (if is_some f.tracing then 0x02 else 0) (if is_some f.payload then 0x04 else 0))
    (if is_some f.warnings then 0x08 else 0)

-- the same frame, with these flags
abbrev pub with_derived_flags : FrameValue → FrameValue
with_derived_flags f = record f { flags = flags_of_parts f }

-- With the flags of the parts that are there, only the message can disagree; and a frame whose message agrees is not
-- refused for its parts.
pub record DerivedFlagsAgree : Type 0 where
  pub agree : (f : FrameValue) → is_directed f ≡ true → frame_agrees (with_derived_flags f) ≡ message_agrees f.message
  pub fit : (f : FrameValue) → unfit_of (with_derived_flags f) ≡ Some Parts → message_agrees f.message ≡ false
