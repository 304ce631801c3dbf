-- What becomes of a frame that is to be written.
use Rattle.std.specs.Prelude.{◌≡◌, ◌<◌, ◌≤◌, ◌-◌, ◌++◌, ℕ, List, length, drop, min, None, Some, Result, Ok, Err}
use Rattle.cqlp_note.specs.Heading.{header_bytes}
use Rattle.cqlp_note.specs.Outputs.{Output, Offered}
use Rattle.cqlp_message.specs.FrameValues.{FrameValue}
use Rattle.cqlp_message.specs.Parts.{parts_bytes}
use Rattle.cqlp_message.specs.Frames.{frame_parts, header_of, unfit_of, frame_size, frame_bytes}
use Rattle.cqlp_encode.specs.declared.writing.EncodeError.{EncodeError}
use Rattle.cqlp_encode.specs.declared.writing.EncodeError.TheVariants as error

-- The target has the first of these bytes, this many, from before. It took those after them up to the first n, and failed
-- where these are not all.
pub record Continued (before : ℕ) (old : Output) (bytes : List ℕ) (n : ℕ) (new : Output) : Type 0 where
  pub bound : n ≤ length bytes
  pub from : min before (length bytes) ≤ n
  pub offered : Offered old (drop before bytes) (n - before) new

-- a frame's header, where its body has this length, and then its parts
abbrev pub header_and_parts : FrameValue → (length : ℕ) → List ℕ
header_and_parts f n = header_bytes (header_of f n) ++ parts_bytes (frame_parts f)

-- Nothing keeps a frame from being spelled, and the bytes that are written of it are as many as its size says.
abbrev pub CanBeWritten : FrameValue → Type 0
CanBeWritten f = (unfit_of f ≡ None) × (length (frame_bytes f) ≡ frame_size f 0)

-- All bytes of the frame were appended, and the answer is how many they are; or no bytes spell it, and the target is as
-- it was; or the target failed after the first bytes, which were appended.
abbrev pub Encodes : FrameValue → (old : Output) → Result ℕ EncodeError → (new : Output) → Type 0
Encodes f old (Ok n) new = CanBeWritten f × (n ≡ frame_size f 0) × Offered old (frame_bytes f) n new
Encodes f old (Err (error.Unfit why)) new = (unfit_of f ≡ Some why) × (new ≡ old)
Encodes f old (Err (error.Write n)) new =
    CanBeWritten f × (n < frame_size f 0) × Offered old (frame_bytes f) n new

-- The same of a frame of which the target has the first bytes, this many, from before: the answers count these too.
abbrev pub EncodesFrom : FrameValue → (before : ℕ) → (old : Output) → Result ℕ EncodeError → (new : Output) → Type 0
EncodesFrom f before old (Ok n) new = CanBeWritten f × (n ≡ frame_size f 0) × Continued before old (frame_bytes f) n new
EncodesFrom f before old (Err (error.Unfit why)) new = (unfit_of f ≡ Some why) × (new ≡ old)
EncodesFrom f before old (Err (error.Write n)) new =
    CanBeWritten f × (n < frame_size f 0) × Continued before old (frame_bytes f) n new
