-- What becomes of a frame that is to be behind bytes in memory.
use Rattle.std.specs.Prelude.{◌≡◌, ◌≢◌, ◌+◌, ◌<◌, ◌≤◌, ◌&&◌, ◌++◌, ℕ, Bool, true, nat_le, List, length, replicate, Option, Some, None, IfSome, Result, Ok, Err}
use Rattle.std.specs.List.{list_all}
use Rattle.std.specs.Io.KnownBytes.{Appends}
use Rattle.cqlp_note.specs.declared.header.TheConstants.Header.{LONGEST_BODY}
use Rattle.cqlp_note.specs.Outputs.{Output}
use Rattle.cqlp_message.specs.declared.tally.Tally.{Tally}
use Rattle.cqlp_message.specs.FrameValues.{FrameValue}
use Rattle.cqlp_message.specs.Parts.{Part, parts_size, parts_bytes, counts_fit, texts_fit, cell_fits}
use Rattle.cqlp_message.specs.Tallies.{IsTally}
use Rattle.cqlp_message.specs.Frames.{frame_parts, unfit_of, frame_size, frame_bytes}
use Rattle.cqlp_encode.specs.declared.appending.AppendError.{AppendError}
use Rattle.cqlp_encode.specs.declared.appending.AppendError.TheVariants as error
use Rattle.cqlp_encode.specs.Encoding.{CanBeWritten}
use Rattle.cqlp_encode.specs.Progress.{Before, Progress, HasTakenParts}

-- All bytes of the frame are behind those that were there, and the answer is how many they are; or no bytes spell it, or
-- there is room for fewer bytes than that and memory was refused, and the bytes are as they were.
abbrev pub AppendsFrame : FrameValue → (room : ℕ) → (old : List ℕ) → Result ℕ AppendError → (new : List ℕ) → Type 0
AppendsFrame f room old (Ok n) new = CanBeWritten f × (n ≡ frame_size f 0) × (new ≡ old ++ frame_bytes f)
AppendsFrame f room old (Err (error.Unfit why)) new = (unfit_of f ≡ Some why) × (new ≡ old)
AppendsFrame f room old (Err error.NoMemory) new =
    (unfit_of f ≡ None) × (room < length old + frame_size f 0) × (new ≡ old)

-- ---- on the way

-- everything fits, and a body has as many bytes
abbrev pub is_whole : Tally → Bool
is_whole t = t.counts && t.texts && t.cells && nat_le t.size LONGEST_BODY

-- It is known of these parts what fits and how many bytes they have; and all of them were taken after what was there before,
-- if a body can have as many bytes, and else some, as many as a body can have.
pub record HasCheckedParts (before : Before) (p : Progress) (t : Tally) (parts : List Part) : Type 0 where
  pub tally : IsTally t parts
  pub passed : List Part
  pub taken : HasTakenParts before p passed
  pub small : parts_size passed ≤ LONGEST_BODY
  pub all : parts_size parts ≤ LONGEST_BODY → passed ≡ parts

-- Each part of a frame fits, a body has as many bytes, and these are so many with nine before them.
pub record PartsFit (f : FrameValue) (n : ℕ) : Type 0 where
  pub counts : list_all counts_fit (frame_parts f) ≡ true
  pub texts : list_all texts_fit (frame_parts f) ≡ true
  pub cells : list_all cell_fits (frame_parts f) ≡ true
  pub small : parts_size (frame_parts f) ≤ LONGEST_BODY
  pub long : length (parts_bytes (frame_parts f)) ≡ parts_size (frame_parts f)
  pub size : n ≡ frame_size f 0

-- nine bytes, and the parts of a frame
abbrev pub room_and_parts : FrameValue → List ℕ
room_and_parts f = replicate 9 0 ++ parts_bytes (frame_parts f)

-- Bytes in memory that more are put behind, how many bytes there was room for at first, and how many calls found no memory,
-- and how many took all of their bytes, up to 2^64 - 1.
pub record Growth : Type 0 where
  pub items : List ℕ
  pub room : ℕ
  pub failures : ℕ
  pub writes : ℕ

-- A target was given some bytes: nine and the parts of a frame, all of which fit, if there is an answer. If there is none,
-- though nothing keeps the frame from being spelled, the target failed before it had them all.
pub record WritesChecked (f : FrameValue) (old : Output) (r : Option ℕ) (new : Output) : Type 0 where
  pub bytes : List ℕ
  pub given : Appends old.given new.given bytes
  pub fit : IfSome r (λ n. PartsFit f n)
  pub whole : IfSome r (λ n. bytes ≡ room_and_parts f)
  pub failed : r ≡ None → unfit_of f ≡ None → (new.failures ≢ 0) × (length bytes < frame_size f 0)

-- Some bytes are behind those that were there: nine and the parts of a frame that nothing keeps from being spelled, if
-- there is an answer. If there is none for such a frame, there was no room for all of them.
pub record Extends (f : FrameValue) (room : ℕ) (old : List ℕ) (r : Option ℕ) (new : List ℕ) : Type 0 where
  pub bytes : List ℕ
  pub given : new ≡ old ++ bytes
  pub fit : IfSome r (λ n. PartsFit f n)
  pub none : IfSome r (λ n. unfit_of f ≡ None)
  pub whole : IfSome r (λ n. bytes ≡ room_and_parts f)
  pub full : r ≡ None → unfit_of f ≡ None → room < length old + frame_size f 0
