-- The events of one frame, one after the other, and its bytes.
use Rattle.std.specs.Prelude.{◌≡◌, Bool, true, false, not, ◌||◌, nat_lt, List, length, Option, Some, None, Result, Ok, Err}
use Rattle.std.specs.Prelude.{if◌then◌else◌, ℕ}
use Rattle.cqlp_grammar.specs.Events.{Event, End}
use Rattle.cqlp_message.specs.Frames.{FrameIsInRange, frame_bytes}
use Rattle.cqlp_message.specs.Owned.{frame_of}
use Rattle.cqlp_message.specs.declared.frame.Frame.{Frame as OwnedFrame}
use Rattle.cqlp_build.specs.declared.builder.BuildLimits.{BuildLimits}
use Rattle.cqlp_build.specs.declared.error.BuildError.{BuildError}
use Rattle.cqlp_build.specs.declared.error.BuildError.TheVariants as error
use Rattle.cqlp_build.specs.Building.{BuilderState, content_size, empty, is_due, is_field, is_unbuilt, state, with_event}
use Rattle.cqlp_build.specs.Closing.{Ends}
use Rattle.cqlp_build.specs.Nesting.{depth_at}
use Rattle.cqlp_compose.specs.declared.composer.Composer.{Composer}

-- The header and the fields that came, with what the limits still allow; and whether the end came.
pub record ComposerState : Type 0 where
  pub frame : BuilderState
  pub ended : Bool

abbrev pub composed : Composer → ComposerState
composed c = record { frame = state c.builder; ended = c.ended }

-- nothing came
abbrev pub start : BuildLimits → ComposerState
start limits = record { frame = empty limits; ended = false }

-- which limit has no place for a field, the kind of a type option or an event of a cell
abbrev pub limit_of : BuilderState → Event → Option BuildError
limit_of s e =
    if nat_lt s.limits.fields (length s.events) then Some error.TooManyFields
    else if nat_lt s.limits.depth (depth_at e s.around) then Some error.TooDeep
    else if nat_lt s.room (content_size e) then Some error.TooManyBytes
    else None

-- which limit has no place for an event
abbrev pub bound_of : BuilderState → Event → Option BuildError
bound_of s e = if is_field e then limit_of s e else None

-- What keeps an event from being the next of the frame, if something does: it is of another place, or a part of a scalar of a cell, or a
-- limit has no place for it.
abbrev pub refusal_of : ComposerState → Event → Option BuildError
refusal_of s e =
    if s.ended || not (is_due s.frame.events e) then Some error.Misplaced
    else if is_unbuilt e then Some error.Unbuilt
    else bound_of s.frame e

abbrev pub with_next : ComposerState → Event → ComposerState
with_next s (End x) = record { frame = s.frame; ended = true }
with_next s e = record { frame = with_event s.frame e; ended = s.ended }

-- An event is taken where nothing keeps it from being the next, unless memory was refused; else nothing changes.
abbrev pub Takes : ComposerState → Event → Result Unit BuildError → ComposerState → Type 0
Takes old e (Ok u) new = (refusal_of old e ≡ None) × (new ≡ with_next old e)
Takes old e (Err error.NoMemory) new = (refusal_of old e ≡ None) × (new ≡ old)
Takes old e (Err why) new = (refusal_of old e ≡ Some why) × (new ≡ old)

-- They are the bytes of the frame that ends after these events, whatever length its header says.
pub record IsWrittenOf (es : List Event) (bytes : List ℕ) : Type 0 where
  pub frame : OwnedFrame
  pub ends : Ends es (Ok frame)
  pub range : FrameIsInRange (frame_of frame)
  pub are : bytes ≡ frame_bytes (frame_of frame)

-- there is no such frame
abbrev pub IsOfNone : List Event → BuildError → Type 0
IsOfNone es why = Ends es (Err why)
