-- What the check of a whole stream answers.
use Rattle.std.specs.Prelude.{◌≡◌, ℕ, List, [], Option, Some, None, Result, Ok, Err, ◌⊎◌}
use Rattle.cqlp_note.specs.declared.limits.BadLimits.{BadLimits}
use Rattle.cqlp_note.specs.declared.limits.Limits.{Limits}
use Rattle.cqlp_note.specs.declared.refusal.Refusal.{Refusal}
use Rattle.cqlp_note.specs.Limits.{Rules, first_bad, rules_of}
use Rattle.cqlp_grammar.specs.declared.event.Finish.{Finish}
use Rattle.cqlp_decode.specs.Reading.{Event, Verdict, Waits, Refused, Says, start}
use Rattle.cqlp_decode.specs.Progress.{StreamState}
use Rattle.cqlp_decode.specs.Streams.{After}
use Rattle.cqlp_laws.specs.OneAnswer.{EndsBy}
use Rattle.cqlp_c.specs.declared.shown.CqlpEnd.{CqlpEnd}
use Rattle.cqlp_c.specs.declared.numbers.TheConstants as numbers
use Rattle.cqlp_c.specs.Numbers.{code_of_limit}
use Rattle.cqlp_c.specs.Shown.{end_of}

-- ---- a decoder that was given all of a stream

-- These events are all that the stream says, and the decoder has refused it, or waits for more.
abbrev pub IsDone : Option Refusal → (new : StreamState) → (stream : List ℕ) → List (ℕ × Event) → Type 0
IsDone None new stream es = After new stream es × Says new.rules start stream es Waits
IsDone (Some r) new stream es = Says new.rules start stream es (Refused r.at r.why)

-- a decoder at the start of a stream was given all of it
abbrev pub Drains : (old new : StreamState) → (stream : List ℕ) → Type 0
Drains old new stream =
    old.refusal ≡ None → After old [] [] → (es : List (ℕ × Event)) × IsDone new.refusal new stream es

-- ---- the verdict

-- The reading of the stream says some events and ends so: at a frame's end, within a frame, or at a refusal.
abbrev pub HasVerdict : Rules → (stream : List ℕ) → Finish → Type 0
HasVerdict l stream f =
    (es : List (ℕ × Event)) × (v : Verdict) × Says l start stream es v × EndsBy v stream es f

abbrev pub ChecksBy : Limits → Result Unit BadLimits → (stream : List ℕ) → (code : ℕ) → (was written : CqlpEnd) → Type 0
ChecksBy l (Err limit) stream code was written = (code ≡ code_of_limit limit) × (written ≡ was)
ChecksBy l (Ok u) stream code was written =
    ((code ≡ numbers.NO_MEMORY) × (written ≡ was))
    ⊎ ((code ≡ numbers.DONE) × (f : Finish) × (written ≡ end_of f) × HasVerdict (rules_of l) stream f)

-- What `cqlp_check` answers: the verdict of the stream, or the code says why there is none.
abbrev pub Checks : Limits → (stream : List ℕ) → (code : ℕ) → (was written : CqlpEnd) → Type 0
Checks l stream code was written = ChecksBy l (first_bad l) stream code was written
