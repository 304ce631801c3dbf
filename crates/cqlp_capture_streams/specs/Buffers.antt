-- When lines are written, and what of them an output was given.
use Rattle.std.specs.Prelude.{◌≡◌, Bool, true, false, Result, Ok, Err, ◌⊎◌}
use Rattle.cqlp_note.specs.declared.streams.IoFault.{IoFault}
use Rattle.cqlp_text.specs.Outputs.{Output}
use Rattle.cqlp_capture_streams.specs.declared.buffering.Buffering.{Buffering}
use Rattle.cqlp_capture_streams.specs.declared.buffering.Buffering.TheVariants as buffering
use Rattle.cqlp_capture_streams.specs.declared.capturing.CaptureRead.{CaptureRead}
use Rattle.cqlp_capture_streams.specs.declared.fault.StreamsFault.{StreamsFault}
use Rattle.cqlp_capture_streams.specs.declared.fault.StreamsFault.TheVariants as fault
use Rattle.cqlp_capture_streams.specs.Blocks.{HandsOn, LacksEnd}

-- whether a write failed
abbrev pub has_failed : (read : Result CaptureRead StreamsFault) → Bool
has_failed (Err fault.Write) = true
has_failed read = false

-- how a reading ended, with the answer of the last write
abbrev pub ended_with : (read : Result CaptureRead StreamsFault) → Result (Unit {0}) IoFault → Result CaptureRead StreamsFault
ended_with (Ok x) (Ok u) = Ok x
ended_with (Ok x) (Err e) = Err fault.Write
ended_with (Err f) answer = Err f

-- After a write that failed the output lacks the end of what was written. Else the last block was passed on, or the output failed and lacks the
-- end, which is the answer where the reading had no fault.
abbrev pub FinishesBlocks : (read : Result CaptureRead StreamsFault) → (whole : Output) → Result CaptureRead StreamsFault → (new : Output) → Type 0
FinishesBlocks (Err fault.Write) whole r new = (r ≡ Err fault.Write) × LacksEnd whole new
FinishesBlocks read whole r new = (answer : Result (Unit {0}) IoFault) × HandsOn whole answer new × (r ≡ ended_with read answer)

-- What becomes of all that was written. Without memory for a block each line was written at once.
abbrev pub Buffers : Buffering → (read : Result CaptureRead StreamsFault) → (whole : Output) → Result CaptureRead StreamsFault → (new : Output) → Type 0
Buffers buffering.Line read whole r new = (r ≡ read) × (new ≡ whole)
Buffers buffering.Block read whole r new = ((r ≡ read) × (new ≡ whole)) ⊎ FinishesBlocks read whole r new
