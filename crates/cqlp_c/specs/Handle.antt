-- What a handle owns, and what calls on one answer.
use Rattle.std.specs.Prelude.{◌≡◌, ℕ, Bool, ◌-◌, ◌≤◌, ◌++◌, min, List, [], length, take, drop, Option, None, Some, Result, Ok, Err, ◌⊎◌}
use Rattle.std.specs.Borrow.{Bor}
use Rattle.std.specs.Ptr.{Ptr}
use denote.RawPtr.{◌+ₚ◌}
use base.Fml.{Fml, ftrue}
use Rattle.cqlp_note.specs.declared.limits.BadLimits.{BadLimits}
use Rattle.cqlp_note.specs.declared.limits.Limits.{Limits}
use Rattle.cqlp_note.specs.declared.refusal.Refusal.{Refusal}
use Rattle.cqlp_note.specs.Limits.{first_bad, rules_of, with_lenient}
use Rattle.cqlp_grammar.specs.declared.event.Finish.{Finish}
use Rattle.cqlp_grammar.specs.declared.event.Finish.TheVariants as finish
use Rattle.cqlp_decode.specs.declared.step.Held.{Held}
use Rattle.cqlp_decode.specs.Progress.{StreamState}
use Rattle.cqlp_decode.specs.Streams.{After, Decoding, EndsAs, HoldsNothing, IsWithin, buffer_of, state}
use Rattle.cqlp_laws.specs.OneAnswer.{IsAtStart, IsHeld}
use Rattle.cqlp_c.specs.declared.batch.Batch.{Batch}
use Rattle.cqlp_c.specs.declared.course.CqlpCourse.{CqlpCourse}
use Rattle.cqlp_c.specs.declared.course.CqlpSkipped.{CqlpSkipped}
use Rattle.cqlp_c.specs.declared.course.Unskippable.{Unskippable}
use Rattle.cqlp_c.specs.declared.event.CqlpEvent.{CqlpEvent}
use Rattle.cqlp_c.specs.declared.shown.CqlpBatch.{CqlpBatch}
use Rattle.cqlp_c.specs.declared.shown.CqlpEnd.{CqlpEnd}
use Rattle.cqlp_c.specs.declared.shown.CqlpHeld.{CqlpHeld}
use Rattle.cqlp_c.specs.declared.numbers.TheConstants as numbers
use Rattle.cqlp_c.specs.Numbers.{code_of_limit}
use Rattle.cqlp_c.specs.Batches.{BeginsAt, Buffer, FillsOn, GoesOn, RepeatsRefusal, buffer_in}
use Rattle.cqlp_c.specs.Course.{batch_from, begun_by, code_of_unskippable, finish_on, gone_on, placed, skip_by, skipped_on}
use Rattle.cqlp_c.specs.Shown.{batch_of, end_of, held_of}

-- F of the value that is there
abbrev pub owned_in : {X : Type 0} → (X → Fml) → Option X → Fml
owned_in F None = ftrue
owned_in F (Some x) = F x

-- 1 where a value is there, else 0
abbrev pub flag_of : {X : Type 0} → Option X → ℕ
flag_of None = 0
flag_of (Some x) = 1

-- ---- new

-- A decoder, which is lenient or not, is made where memory is there and no limit is out of its range; else the code says what is
-- not so, and the handle stays empty.
abbrev pub MakesAnew : (lenient : Bool) → Limits → Result Unit BadLimits → (code : ℕ) → (new : Option Decoding) → Type 0
MakesAnew lenient l (Err limit) code new = (code ≡ code_of_limit limit) × (new ≡ None)
MakesAnew lenient l (Ok u) code new =
    ((code ≡ numbers.NO_MEMORY) × (new ≡ None))
    ⊎ ((code ≡ numbers.DONE) × (d : Decoding) × (new ≡ Some d) × IsAtStart (with_lenient lenient (rules_of l)) d)

-- What `cqlp_new` and `cqlp_new_lenient` make of a handle: one in use is refused, and stays as it is.
abbrev pub Makes : (lenient : Bool) → Limits → (old : Option Decoding) → (code : ℕ) → (new : Option Decoding) → Type 0
Makes lenient l None code new = MakesAnew lenient l (first_bad l) code new
Makes lenient l (Some d) code new = (code ≡ numbers.IN_USE) × (new ≡ Some d)

-- ---- next

-- What a call puts into the array, and how it leaves a decoder. The members of the array after the events stay as they
-- were.
pub record PutsInto (old new : StreamState) (input : List ℕ) (begins : Ptr) (buffer : Buffer) (b : Batch)
    (before after : List CqlpEvent) : Type 0 where
  pub fills : FillsOn old new input begins buffer (length before) b after
  pub refused : (r : Refusal) → old.refusal ≡ Some r → RepeatsRefusal r old new b
  pub goes_on : GoesOn old new (length before) b
  pub within : (b.used ≤ length input) × (b.events ≤ length before)
  pub others : drop b.events after ≡ drop b.events before
  pub room : length after ≡ length before
  pub rules : new.rules ≡ old.rules

-- What a call makes of a piece: its first bytes are passed over, as many as the frame passed over last still has, and of the others
-- events are put into the array, at their offsets in the whole stream.
pub record PutsOn (old new : Decoding) (from to : CqlpCourse) (input : List ℕ) (begins : Ptr) (b : Batch)
    (before after : List CqlpEvent) : Type 0 where
  pub passed : ℕ
  pub is_passed : passed ≡ min (from.base - from.used) (length input)
  pub own : Batch
  pub events : List CqlpEvent
  pub puts : PutsInto (state old) (state new) (drop passed input) (begins +ₚ passed) (buffer_in new) own before events
  pub placed : after ≡ placed from.base (take own.events events) ++ drop own.events events
  pub batch : b ≡ batch_from from.base passed own
  pub course : to ≡ record (gone_on from b.used) { frame = begun_by from.frame (take own.events events) }

abbrev pub Nexts : (old : Option Decoding) → (from : CqlpCourse) → (input : Bor (List ℕ)) → (code : ℕ)
    → (new : Option Decoding) → (to : CqlpCourse) → (before after : List CqlpEvent) → (was written : CqlpBatch) → Type 0
Nexts None from input code new to before after was written =
    (code ≡ numbers.NO_DECODER) × (new ≡ None) × (to ≡ from) × (after ≡ before) × (written ≡ was)
Nexts (Some d) from input code new to before after was written =
    (code ≡ numbers.DONE) × (e : Decoding) × (new ≡ Some e) × (b : Batch) × (written ≡ batch_of b)
    × (begins : Ptr) × BeginsAt input begins × PutsOn d e from to input.now begins b before after

-- ---- skip

-- A decoder begins another stream with the memory and the limits that it has: nothing is held, and nothing given.
pub record BeginsAgain (d e : Decoding) : Type 0 where
  pub fresh : After (state e) [] []
  pub unrefused : (state e).refusal ≡ None
  pub rules : (state e).rules ≡ (state d).rules
  pub nothing_held : HoldsNothing e
  pub nothing_given : (state e).given ≡ None
  pub in_place : buffer_of e ≡ buffer_of d

abbrev pub PassesBy : Result CqlpSkipped Unskippable → (d : Decoding) → (from : CqlpCourse) → (code : ℕ) → (e : Decoding)
    → (to : CqlpCourse) → (was written : CqlpSkipped) → Type 0
PassesBy (Err why) d from code e to was written =
    (code ≡ code_of_unskippable why) × (e ≡ d) × (to ≡ from) × (written ≡ was)
PassesBy (Ok x) d from code e to was written =
    (code ≡ numbers.DONE) × BeginsAgain d e × (to ≡ skipped_on (Ok x) from) × (written ≡ x)

-- What passing over a frame comes to, by what the decoder refuses and where it is in its stream.
abbrev pub PassesOver : (d : Decoding) → (from : CqlpCourse) → (code : ℕ) → (e : Decoding) → (to : CqlpCourse)
    → (was written : CqlpSkipped) → Type 0
PassesOver d from code e to was written = PassesBy (skip_by (state d).refusal from) d from code e to was written

abbrev pub Skips : (old : Option Decoding) → (from : CqlpCourse) → (code : ℕ) → (new : Option Decoding) → (to : CqlpCourse)
    → (was written : CqlpSkipped) → Type 0
Skips None from code new to was written = (code ≡ numbers.NO_DECODER) × (new ≡ None) × (to ≡ from) × (written ≡ was)
Skips (Some d) from code new to was written = (e : Decoding) × (new ≡ Some e) × PassesOver d from code e to was written

-- ---- finish and held

-- what `finish` of a decoder answers
abbrev pub IsFinish : StreamState → Finish → Type 0
IsFinish d f = EndsAs d f × ((r : Refusal) → d.refusal ≡ Some r → f ≡ finish.Refused r)

abbrev pub Finishes : (old : Option Decoding) → CqlpCourse → (code : ℕ) → (new : Option Decoding) → (was written : CqlpEnd) → Type 0
Finishes None c code new was written = (code ≡ numbers.NO_DECODER) × (new ≡ None) × (written ≡ was)
Finishes (Some d) c code new was written =
    (code ≡ numbers.DONE) × (new ≡ Some d) × (f : Finish) × (written ≡ end_of (finish_on c f)) × IsFinish (state d) f

abbrev pub Holds : (old : Option Decoding) → (code : ℕ) → (new : Option Decoding) → (was written : CqlpHeld) → Type 0
Holds None code new was written = (code ≡ numbers.NO_DECODER) × (new ≡ None) × (written ≡ was)
Holds (Some d) code new was written =
    (code ≡ numbers.DONE) × (new ≡ Some d)
    × (h : Held) × (written ≡ held_of h) × IsHeld d h × IsWithin h (state d).rules

-- ---- free

abbrev pub code_of_free : Option Decoding → ℕ
code_of_free None = numbers.NO_DECODER
code_of_free (Some d) = numbers.DONE
