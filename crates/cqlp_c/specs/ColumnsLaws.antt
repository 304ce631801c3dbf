-- The law of pages that are read into columns.
use Rattle.std.specs.Prelude.{◌≡◌, ℕ, List, None}
use Rattle.std.specs.Ptr.{Ptr}
use Rattle.cqlp_decode.specs.Reading.{Event, Gifts}
use Rattle.cqlp_decode.specs.Streams.{AfterGifts, Decoding, state}
use Rattle.cqlp_columns.specs.Arrays.{Site}
use Rattle.cqlp_columns.specs.Batches.{Batch, HasTaken}
use Rattle.cqlp_c.specs.declared.batch.Batch.{Batch as FromC}
use Rattle.cqlp_c.specs.declared.course.CqlpCourse.{CqlpCourse}
use Rattle.cqlp_c.specs.declared.event.CqlpEvent.{CqlpEvent}
use Rattle.cqlp_c.specs.Columns.{ReadsOn}
use Rattle.cqlp_c.specs.Laws.{unplaced}

-- At one place of a stream of which nothing was refused, over the same input and with the same columns, which have the cells of these events, a call
-- makes one answer: one batch, the same columns, one event, wherever its content lies, and one place after it, also over skips.
abbrev pub IsOneAnswerOfColumns : Type 0
IsOneAnswerOfColumns =
    (gifts : Gifts) (s : List ℕ) (es : List (ℕ × Event)) (sites : List Site) (had : List Event) (old new new' : Decoding)
    (from to to' : CqlpCourse) (input : List ℕ) (begins : Ptr) (columns after after' : Batch) (was written written' : CqlpEvent) (b b' : FromC)
    → (state old).refusal ≡ None → AfterGifts gifts (state old) s es → HasTaken columns.limits sites had columns
    → ReadsOn old new from to input begins columns after was written b → ReadsOn old new' from to' input begins columns after' was written' b'
    → (b' ≡ b) × (after' ≡ after) × (unplaced written' ≡ unplaced written) × (to' ≡ to)
