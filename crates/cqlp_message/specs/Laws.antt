-- Laws of frames.
use Rattle.std.specs.Prelude.{◌≡◌, ℕ, List, length}
use Rattle.cqlp_message.specs.FrameValues.{FrameValue}
use Rattle.cqlp_message.specs.Frames.{FrameSpells, frame_size}

-- What spells a frame has nine bytes of header, the bytes of its parts, and those after them.
abbrev pub HasItsSize : Type 0
HasItsSize = (f : FrameValue) (x : ℕ) (bytes : List ℕ) → FrameSpells f x bytes → length bytes ≡ frame_size f x
