-- What is written of a stream.
use Rattle.std.specs.Prelude.{◌≡◌, ℕ, ◌+◌, ◌≤◌, true, List, ◌∷◌, ◌++◌, Option, Some, None, ◌⊎◌}
use Rattle.std.specs.Io.KnownBytes.{append_known}
use Rattle.cqlp_note.specs.Streams.{counted, CountsUp}
use Rattle.cqlp_decode.specs.declared.running.Outcome.{Outcome}
use Rattle.cqlp_decode.specs.declared.running.Outcome.TheVariants as outcome
use Rattle.cqlp_decode.specs.Reading.{Event, Gifts}
use Rattle.cqlp_decode.specs.Progress.{StreamState}
use Rattle.cqlp_decode.specs.Streams.{AfterGifts}
use Rattle.cqlp_decode.specs.Draining.{InReads, ReadsInTime, RunsTo}
use Rattle.cqlp_text.specs.Outputs.{Output, output, with_text, StopsWithin}
use Rattle.cqlp_text.specs.Written.{Written, taken}
use Rattle.cqlp_render.specs.declared.text_form.TextForm.{TextForm}
use Rattle.cqlp_render.specs.Forms.{text, text_of, form_after}

-- what was written, and the form of what comes next
pub record Rendering : Type 0 where
  pub output : Output
  pub form : TextForm

abbrev pub rendering : Output → TextForm → Rendering
rendering o f = record { output = o; form = f }

-- with the text of an event
abbrev pub with_event : Rendering → (at : ℕ) → Event → Rendering
with_event r at e = rendering (with_text r.output (text_of r.form at e)) (form_after r.form e)

abbrev pub StopsWithinEvent : Rendering → (at : ℕ) → Event → Rendering → Type 0
StopsWithinEvent old at e new = StopsWithin old.output (text_of old.form at e) new.output

-- what a buffer has taken and passed on, and the form of what comes next
pub record Buffering : Type 0 where
  pub written : Written
  pub form : TextForm

-- the same as if all that was taken had been passed on
abbrev pub rendered : Buffering → Rendering
rendered b = rendering (output (taken b.written) b.written.failures) b.form

-- One call of the target failed before it was given all that it should have been, with this text: some byte is missing.
pub record FallsShort (old : Output) (text : List ℕ) (new : Output) : Type 0 where
  pub lost : ℕ
  pub later : List ℕ
  pub front : append_known new.given (lost ∷ later) ≡ append_known old.given text
  pub failures : new.failures ≡ counted true old.failures

abbrev pub FallsShortAtEvent : Rendering → (at : ℕ) → Event → Rendering → Type 0
FallsShortAtEvent old at e new = FallsShort old.output (text_of old.form at e) new.output

-- what was known to be given is a front of what is
abbrev pub GoesOn : (before after : Option (List ℕ)) → Type 0
GoesOn before after = (text : List ℕ) → before ≡ Some text → (more : List ℕ) × (after ≡ Some (text ++ more))

-- a target, or what is behind a buffer, was given more at an event or at a fault there
abbrev pub GoesOnAtEvent : Buffering → (at : ℕ) → Event → Buffering → Type 0
GoesOnAtEvent old at e new = GoesOn old.written.given new.written.given

-- What was written of the bytes xs of a reader is what a run hands to a sink in this form, whatever its form is at
-- the end.
abbrev pub RendersTo : TextForm → (turns : ℕ) → Outcome → (old new : StreamState) → (xs : List ℕ)
    → (left : Option (List ℕ)) → (before after : Output) → Type 0
RendersTo form turns o old new xs left before after =
    (end : TextForm)
    × RunsTo with_event StopsWithinEvent turns o old new xs left (rendering before form) (rendering after end)

-- The last read was made, if there was one, when all text of the bytes read before was written.
abbrev pub RendersInTime : TextForm → (turns : ℕ) → Outcome → (old new : StreamState) → (xs : List ℕ)
    → (was now : ℕ) → (left : Option (List ℕ)) → (before after : Output) → Type 0
RendersInTime form turns o old new xs was now left before after =
    (end : TextForm)
    × ReadsInTime with_event StopsWithinEvent turns o old new xs was now left (rendering before form)
    (rendering after end)

-- Of a reader the last read: before it the target had been given the text of all events of the bytes that the reads so
-- far gave, and nothing was refused. That text is a front of what the target was given in the end.
pub record ReadsAfterText (form : TextForm) (turns : ℕ) (old : StreamState) (xs : List ℕ) (was now : ℕ)
    (left : Option (List ℕ)) (before : Output) (given : Option (List ℕ)) : Type 0 where
  pub earlier : ℕ
  pub counted : CountsUp (earlier + 1) was now
  pub within : earlier + 1 ≤ turns
  pub mid : StreamState
  pub rest : List ℕ
  pub sent : Output
  pub wrote : RendersTo form earlier outcome.Turns old mid xs (Some rest) before sent
  pub gave : InReads earlier xs (Some rest)
  pub free : mid.refusal ≡ None
  pub rules : mid.rules ≡ old.rules
  pub front : GoesOn sent.given given
  pub last : (giving : ℕ) × (giving ≤ 1) × InReads giving rest left

-- No read was made, or the last one after that text.
abbrev pub ReadsOnlyAfterText : TextForm → (turns : ℕ) → (old : StreamState) → (xs : List ℕ) → (was now : ℕ)
    → (left : Option (List ℕ)) → (before : Output) → (given : Option (List ℕ)) → Type 0
ReadsOnlyAfterText form turns old xs was now left before given =
    ((now ≡ was) × (left ≡ Some xs)) ⊎ ReadsAfterText form turns old xs was now left before given

-- After these gifts, the bytes s and the events es, these bytes were used, and the target failed before it was given all
-- text of their events.
pub record WritesFront (form : TextForm) (gifts : Gifts) (new : StreamState) (s : List ℕ) (es : List (ℕ × Event))
    (bytes : List ℕ) (before after : Output) : Type 0 where
  pub more : List (ℕ × Event)
  pub conforms : AfterGifts gifts new (s ++ bytes) (es ++ more)
  pub short : FallsShort before (text form more) after

-- Of the bytes xs of a reader, `rest` is left or was not used; the target failed within the text of the others.
pub record RendersFront (form : TextForm) (old new : StreamState) (xs : List ℕ) (before after : Output) : Type 0 where
  pub bytes : List ℕ
  pub rest : List ℕ
  pub parts : xs ≡ bytes ++ rest
  pub events : (gifts : Gifts) (s : List ℕ) (es : List (ℕ × Event)) → AfterGifts gifts old s es
      → WritesFront form gifts new s es bytes before after
