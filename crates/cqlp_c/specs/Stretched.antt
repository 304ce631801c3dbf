-- What calls over skips leave, in the words of cqlp_skip: a stream that is read in stretches.
use Rattle.std.specs.Prelude.{◌≡◌, ℕ, Bool, zero, suc, ◌++◌, List, [], ◌∷◌, length, take, drop, Option, Some, None, Result, Ok, Err, ◌⊎◌, ⊤}
use Rattle.std.specs.Ptr.{Ptr}
use Rattle.cqlp_note.specs.declared.limits.Limits.{Limits}
use Rattle.cqlp_note.specs.declared.refusal.Refusal.{Refusal}
use Rattle.cqlp_note.specs.Limits.{rules_of, with_lenient}
use Rattle.cqlp_grammar.specs.declared.event.Finish.{Finish}
use Rattle.cqlp_decode.specs.Reading.{Event, Gifts, Says, Waits, start_with}
use Rattle.cqlp_decode.specs.Streams.{AfterGifts, Decoding, state}
use Rattle.cqlp_laws.specs.OneAnswer.{IsAtStart}
use Rattle.cqlp_skip.specs.declared.fed.Skipped.{Skipped}
use Rattle.cqlp_skip.specs.declared.fed.NotSkippable.{NotSkippable}
use Rattle.cqlp_skip.specs.declared.fed.NotSkippable.TheVariants as why
use Rattle.cqlp_skip.specs.declared.frame.OpenFrame.{OpenFrame}
use Rattle.cqlp_skip.specs.Stretches.{Stretch, frame_under_way, stream_offset}
use Rattle.cqlp_skip.specs.Skipping.{Skipping, AfterSkips, FinishesAs, skip_of, stretch_given_up}
use Rattle.cqlp_c.specs.declared.batch.Batch.{Batch}
use Rattle.cqlp_c.specs.declared.batch.Stop.{Stop}
use Rattle.cqlp_c.specs.declared.batch.Stop.TheVariants as stop
use Rattle.cqlp_c.specs.declared.course.CqlpBegun.{CqlpBegun}
use Rattle.cqlp_c.specs.declared.course.CqlpCourse.{CqlpCourse}
use Rattle.cqlp_c.specs.declared.course.CqlpSkipped.{CqlpSkipped}
use Rattle.cqlp_c.specs.declared.event.CqlpEvent.{CqlpEvent}
use Rattle.cqlp_c.specs.declared.numbers.TheConstants as numbers
use Rattle.cqlp_c.specs.Batches.{Put, events_of}
use Rattle.cqlp_c.specs.Course.{at_start, finish_on, frame_in, no_frame, refusal_from}
use Rattle.cqlp_c.specs.Events.{of_frame}
use Rattle.cqlp_c.specs.Events as model
use Rattle.cqlp_c.specs.Handle.{IsFinish, PassesOver, PutsOn}
use Rattle.cqlp_c.specs.Numbers.{number_of_reason}

-- the frame under way, as a handle notes it
abbrev pub begun_of : Option OpenFrame → CqlpBegun
begun_of None = no_frame
begun_of (Some f) = frame_in (of_frame f.at f.header)

-- a handle's decoder and course, with the frame under way
abbrev pub skipping_of : Decoding → CqlpCourse → Option OpenFrame → Skipping
skipping_of d c f = record { decoder = d; base = c.base; used = c.used; frame = f; last = c.last }

-- Of the stream xs the bytes s were used, and these stretches were given up. Over the present stretch the caller gave this, and these events were handed out.
pub record AfterCalls (xs : List ℕ) (d : Decoding) (c : CqlpCourse) (s : List ℕ) (stretches : List Stretch) (gifts : Gifts)
    (events : List (ℕ × Event)) : Type 0 where
  pub conforms : AfterSkips xs (skipping_of d c (frame_under_way events)) s stretches gifts events
  pub frame : c.frame ≡ begun_of (frame_under_way events)

-- ---- a batch

-- the offset in the whole stream of what lies at an offset of a stretch that begins at `base`: those of the first stretch are the same
abbrev pub offset_in : (base at : ℕ) → ℕ
offset_in zero at = at
offset_in (suc n) at = stream_offset (suc n) at

abbrev pub refusal_in : (base : ℕ) → Refusal → Refusal
refusal_in zero r = r
refusal_in (suc n) r = refusal_from (suc n) r

-- these are the events, as C sees them, one for one, at their offsets in the whole stream
abbrev pub AreWritten : (base : ℕ) → List CqlpEvent → List Put → Type 0
AreWritten base [] [] = ⊤
AreWritten base (c ∷ cs) (p ∷ ps) =
    ((place : Ptr) × (c ≡ model.written_at (offset_in base p.at) p.event place)) × AreWritten base cs ps
AreWritten base cs ps = ⊥

-- Where the bytes of the stretch say no more events, or what is refused: `AfterSkips` has that the stream is refused so.
abbrev pub EndsBy : Stop → (new : Decoding) → (base : ℕ) → (s input : List ℕ) → Gifts → List (ℕ × Event) → Type 0
EndsBy stop.More new base s input gifts events =
    Says (state new).rules (start_with gifts) (drop base (s ++ input)) events Waits
EndsBy (stop.Refused r) new base s input gifts events =
    (own : Refusal) × ((state new).refusal ≡ Some own) × (r ≡ refusal_in base own)
EndsBy stop.Full new base s input gifts events = ⊤

-- More events of the present stretch were put, the next that it has, and its bytes were used up to there.
pub record ReadsOn (xs : List ℕ) (new : Decoding) (from to : CqlpCourse) (s input : List ℕ) (stretches : List Stretch)
    (gifts : Gifts) (events : List (ℕ × Event)) (b : Batch) (after : List CqlpEvent) : Type 0 where
  pub puts : List Put
  pub count : length puts ≡ b.events
  pub conforms : AfterCalls xs new to (s ++ take b.used input) stretches gifts (events ++ events_of puts)
  pub written : AreWritten from.base (take b.events after) puts
  pub ends : EndsBy b.stop new from.base s input gifts (events ++ events_of puts)

-- ---- a skip

abbrev pub code_of_why : NotSkippable → ℕ
code_of_why why.NotRefused = numbers.NOT_REFUSED
code_of_why why.InHeader = numbers.IN_HEADER
code_of_why why.TooFar = numbers.TOO_FAR

-- a frame that was passed over, as C sees it
abbrev pub written_skipped : Skipped → CqlpSkipped
written_skipped x = record {
  frame = of_frame x.at x.header;
  at = x.refusal.at;
  rest = x.rest;
  reason = number_of_reason x.refusal.why;
}

-- What passing over a frame comes to, by what cqlp_skip answers: the present stretch is given up, and another one begins, in which nothing is given; or nothing
-- changes.
abbrev pub SkipsBy : Result Skipped NotSkippable → (xs : List ℕ) → (old new : Decoding) → (from to : CqlpCourse) → (s : List ℕ)
    → List Stretch → Gifts → List (ℕ × Event) → (code : ℕ) → (was written : CqlpSkipped) → Type 0
SkipsBy (Err w) xs old new from to s stretches gifts events code was written =
    (code ≡ code_of_why w) × (new ≡ old) × (to ≡ from) × (written ≡ was)
SkipsBy (Ok x) xs old new from to s stretches gifts events code was written =
    (code ≡ numbers.DONE) × (written ≡ written_skipped x)
    × (f : OpenFrame) × (r : Refusal) × (frame_under_way events ≡ Some f) × ((state old).refusal ≡ Some r)
    × AfterCalls xs new to s (stretch_given_up (skipping_of old from (Some f)) gifts events f r ∷ stretches) [] []

-- ---- the laws

-- a decoder that was made, lenient or not, is at the start of any stream
abbrev pub NewBegins : Type 0
NewBegins =
    (limits : Limits) (lenient : Bool) (xs : List ℕ) (d : Decoding)
    → IsAtStart (with_lenient lenient (rules_of limits)) d → AfterCalls xs d at_start [] [] [] []

-- a call over the next piece of a stream reads on in its present stretch
abbrev pub NextReadsOn : Type 0
NextReadsOn =
    (xs s later : List ℕ) (old new : Decoding) (from to : CqlpCourse) (input : List ℕ) (begins : Ptr) (b : Batch) (before after : List CqlpEvent)
    (stretches : List Stretch) (gifts : Gifts) (events : List (ℕ × Event))
    → xs ≡ (s ++ input) ++ later → AfterCalls xs old from s stretches gifts events → PutsOn old new from to input begins b before after
    → ReadsOn xs new from to s input stretches gifts events b after

-- passing over a frame is what cqlp_skip says that a skip is
abbrev pub SkipGivesUp : Type 0
SkipGivesUp =
    (xs s : List ℕ) (old new : Decoding) (from to : CqlpCourse) (stretches : List Stretch) (gifts : Gifts) (events : List (ℕ × Event)) (code : ℕ)
    (was written : CqlpSkipped)
    → AfterCalls xs old from s stretches gifts events → PassesOver old from code new to was written
    → SkipsBy (skip_of (skipping_of old from (frame_under_way events))) xs old new from to s stretches gifts events code was written

-- Of one decoder, where it is in its stream, a skip has one answer, and leaves one course: the decoder as it was, or one at the start of a stream within its rules.
abbrev pub IsOneAnswerOfSkip : Type 0
IsOneAnswerOfSkip =
    (d e e' : Decoding) (from to to' : CqlpCourse) (code code' : ℕ) (was written written' : CqlpSkipped)
    → PassesOver d from code e to was written → PassesOver d from code' e' to' was written'
    → (code' ≡ code) × (to' ≡ to) × (written' ≡ written) × ((e' ≡ e) ⊎ (IsAtStart (state d).rules e × IsAtStart (state d).rules e'))

-- a stream ends over skips as cqlp_skip says
abbrev pub FinishEndsThere : Type 0
FinishEndsThere =
    (xs s : List ℕ) (d : Decoding) (c : CqlpCourse) (stretches : List Stretch) (gifts : Gifts) (events : List (ℕ × Event)) (f : Finish)
    → AfterCalls xs d c s stretches gifts events → IsFinish (state d) f
    → FinishesAs (skipping_of d c (frame_under_way events)) (finish_on c f)

-- Over the same input, from one place of a stream, a call has one batch, and leaves one course. What is in the array, `IsOneAnswerOfNext` says.
abbrev pub IsOneAnswerOverSkips : Type 0
IsOneAnswerOverSkips =
    (gifts : Gifts) (s : List ℕ) (events : List (ℕ × Event)) (old new new' : Decoding) (from to to' : CqlpCourse) (input : List ℕ) (begins : Ptr)
    (b b' : Batch) (before after after' : List CqlpEvent)
    → AfterGifts gifts (state old) (drop from.base s) events → PutsOn old new from to input begins b before after
    → PutsOn old new' from to' input begins b' before after' → (b' ≡ b) × (to' ≡ to)
