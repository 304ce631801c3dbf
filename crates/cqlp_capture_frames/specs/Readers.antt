-- The decoder of a frame that is read.
use Rattle.std.specs.Prelude.{◌≡◌, ⊤, Option, Some, None, Box}
use Rattle.std.specs.Box.{box_value}
use Rattle.cqlp_note.specs.Limits.{Rules}
use Rattle.cqlp_capture_frames.specs.Frames.{Open}

-- the rules that it reads by, and the frame, if it was not refused
pub record FrameReading : Type 0 where
  pub rules : Rules
  pub frame : Option Open

abbrev pub frame_reading : Rules → Option Open → FrameReading
frame_reading rules frame = record { rules = rules; frame = frame }

module _ {Z : Type 0} where
  abbrev pub frame_of : Option (Box FrameReading Z) → Option Open
  frame_of None = None
  frame_of (Some b) = (box_value b).frame

  abbrev pub HasRules : Rules → Option (Box FrameReading Z) → Type 0
  HasRules rules None = ⊤
  HasRules rules (Some b) = (box_value b).rules ≡ rules
