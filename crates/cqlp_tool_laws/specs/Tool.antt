-- Laws of one answer: what is written of a stream, and how that ends, is decided by its bytes, but for what only the
-- outside decides: whether a target or the reader fails, whether there is memory, and whether the turns run out.
use Rattle.std.specs.Prelude.{◌≡◌, ◌≢◌, ℕ, ◌+◌, ◌-◌, ◌^◌, ◌<◌, ◌≤◌, ◌*◌, List, ◌++◌, length, Option, None, ◌⊎◌}
use Rattle.cqlp_note.specs.Limits.{Rules}
use Rattle.cqlp_note.specs.Streams.{CountsUp}
use Rattle.std.specs.Io.KnownBytes.{append_known}
use Rattle.cqlp_grammar.specs.declared.event.Finish.{Finish}
use Rattle.cqlp_grammar.specs.declared.event.Finish.TheVariants as finish
use Rattle.cqlp_decode.specs.declared.running.Outcome.{Outcome}
use Rattle.cqlp_decode.specs.declared.running.Outcome.TheVariants as outcome
use Rattle.cqlp_decode.specs.Reading.{Event, Gifts, Verdict, Waits, Refused, Says, start, start_with}
use Rattle.cqlp_decode.specs.Progress.{StreamState}
use Rattle.cqlp_decode.specs.Streams.{AfterGifts, FinishesBy}
use Rattle.cqlp_text.specs.declared.ending.Ending.{Ending}
use Rattle.cqlp_text.specs.declared.ending.Ending.TheVariants as ending
use Rattle.cqlp_text.specs.Endings.{ending_line, finish_status}
use Rattle.cqlp_tool_laws.specs.Text.{FailsAlike, GoesOnFromOther}
use Rattle.cqlp_text.specs.Outputs.{Output, with_text, HasFailed}
use Rattle.cqlp_render.specs.declared.text_form.TextForm.{TextForm}
use Rattle.cqlp_render.specs.Forms.{text}
use Rattle.cqlp_render.specs.declared.text_form.TextForm.TheVariants as forms
use Rattle.cqlp_render.specs.Rendering.{GoesOn, RendersTo}
use Rattle.cqlp_render.specs.Showing.{ShowsBytes, ChecksBytes}
use Rattle.cqlp_render.specs.Streams.{Input, Streams}

-- ---- the right answer

-- how a stream of these bytes ends that says these events, all that there are, and this verdict
abbrev pub EndsAs : List ℕ → List (ℕ × Event) → Verdict → Finish → Type 0
EndsAs xs es Waits f = FinishesBy None xs es f
EndsAs xs es (Refused at why) f = f ≡ finish.Refused (record { at = at; why = why })

-- A renderer that is Finished wrote the text of all events that the stream says, and reports its end, whatever types were
-- given.
abbrev pub IsRenderedWholeAfter : Gifts → TextForm → Type 0
IsRenderedWholeAfter gifts form = (turns : ℕ) (f : Finish) (old new : StreamState) (xs : List ℕ) (left : Option (List ℕ))
    (before after : Output) (s : List ℕ) (es more : List (ℕ × Event)) (v : Verdict)
    → AfterGifts gifts old s es → old.refusal ≡ None → new.rules ≡ old.rules
    → Says old.rules (start_with gifts) (s ++ xs) (es ++ more) v
    → RendersTo form turns (outcome.Finished f) old new xs left before after
    → (after ≡ with_text before (text form more)) × EndsAs (s ++ xs) (es ++ more) v f

abbrev pub IsRenderedWhole : TextForm → Type 0
IsRenderedWhole form = (gifts : Gifts) → IsRenderedWholeAfter gifts form

-- no call failed of what counts these failures before and after
abbrev pub IsSound : (before after : ℕ) → Type 0
IsSound before after = (before < 2 ^ 64 - 1) × (after ≡ before)

-- The turns did not run out: the stream has fewer bytes than there are turns, or fewer reads were made.
abbrev pub HasTime : (turns : ℕ) → (xs : List ℕ) → (before after : Input) → Type 0
HasTime turns xs before after =
    (length xs < turns) ⊎ ((before.reads + turns < 2 ^ 64) × (after.reads < before.reads + turns))

-- The outside granted all: no target and no reader failed, the turns did not run out, and the line of no memory was not
-- written.
pub record IsGranted (turns : ℕ) (xs : List ℕ) (before after : Streams) : Type 0 where
  pub reader : IsSound before.input.failures after.input.failures
  pub output : IsSound before.out.failures after.out.failures
  pub error_output : IsSound before.err.failures after.err.failures
  pub time : HasTime turns xs before.input after.input
  pub memory : after.err ≢ with_text before.err (ending_line ending.NoMemory)

-- A stream that says these events and this verdict is shown: where the outside granted all, or the status is not that
-- of a fault, just the text of the events was written, the verdict line is that of the stream, and the status is its
-- own.
abbrev pub IsShownRightly : TextForm → Type 0
IsShownRightly form = (limits : Rules) (turns : ℕ) (xs : List ℕ) (before : Streams) (status : ℕ) (after : Streams)
    (es : List (ℕ × Event)) (v : Verdict)
    → Says limits start xs es v → IsGranted turns xs before after ⊎ (status ≢ 3)
    → ShowsBytes form limits turns xs before status after
    → (f : Finish) × EndsAs xs es v f × (status ≡ finish_status f)
    × (after.out ≡ with_text before.out (text form es))
    × (after.err ≡ with_text before.err (ending_line (ending.Finished f)))

-- The same of a stream that is checked: the verdict line is all that was written.
abbrev pub IsCheckedRightly : Type 0
IsCheckedRightly = (limits : Rules) (turns : ℕ) (xs : List ℕ) (before : Streams) (status : ℕ) (after : Streams)
    (es : List (ℕ × Event)) (v : Verdict)
    → Says limits start xs es v → IsGranted turns xs before after ⊎ (status ≢ 3)
    → ChecksBytes limits turns xs before status after
    → (f : Finish) × EndsAs xs es v f × (status ≡ finish_status f)
    × (after.out ≡ with_text before.out (ending_line (ending.Finished f))) × (after.err ≡ before.err)

-- ---- when it reads

-- Of a command the last read. The bytes that the reads before it gave say these events and no refusal, and before it the
-- output had been given all their text: that is a front of what it was given in the end.
pub record LastReadAfterText (form : TextForm) (limits : Rules) (turns : ℕ) (xs : List ℕ) (was now : Input)
    (before after : Output) : Type 0 where
  pub earlier : ℕ
  pub counted : CountsUp (earlier + 1) was.reads now.reads
  pub within : earlier + 1 ≤ turns
  pub first : List ℕ
  pub rest : List ℕ
  pub parts : xs ≡ first ++ rest
  pub some : earlier ≤ length first
  pub few : length first ≤ 4096 * earlier
  pub events : List (ℕ × Event)
  pub says : Says limits start first events Waits
  pub given : GoesOn (append_known before.given (text form events)) after.given

-- A command that showed a stream made no read, or its last one after that text.
abbrev pub IsReadAfterText : TextForm → Type 0
IsReadAfterText form = (limits : Rules) (turns : ℕ) (xs : List ℕ) (before : Streams) (status : ℕ) (after : Streams)
    → ShowsBytes form limits turns xs before status after
    → (after.input.reads ≡ before.input.reads)
    ⊎ LastReadAfterText form limits turns xs before.input after.input before.out after.out

-- One that checked a stream made no read, or its last one when the bytes read before were refused nothing.
abbrev pub IsReadUnrefused : Type 0
IsReadUnrefused = (limits : Rules) (turns : ℕ) (xs : List ℕ) (before : Streams) (status : ℕ) (after : Streams)
    → (checks : ChecksBytes limits turns xs before status after)
    → (after.input.reads ≡ before.input.reads)
    ⊎ LastReadAfterText forms.Nothing limits turns xs before.input after.input before.out checks.1

-- ---- one answer

-- Two outputs, from the same one, are the same; or the target failed in both, and one was given what the other was, and
-- then perhaps more.
abbrev pub IsOneOutput : (before after after' : Output) → Type 0
IsOneOutput before after after' =
    (after' ≡ after) ⊎ (HasFailed before after × HasFailed before after' × GoesOnFromOther after after')

-- What only the outside decides is the same of two runs: how they end, and what a reader has left that failed or was
-- not at its end.
abbrev pub EndsAlike : Outcome → Outcome → (left left' : Option (List ℕ)) → Type 0
EndsAlike (outcome.Finished f) (outcome.Finished f') left left' = Unit {0}
EndsAlike outcome.ReadFault outcome.ReadFault left left' = left' ≡ left
EndsAlike outcome.Turns outcome.Turns left left' = left' ≡ left
EndsAlike outcome.SinkFault outcome.SinkFault left left' = Unit {0}
EndsAlike o o' left left' = ⊥

-- Two runs of a renderer, from the same history and the same bytes, that end alike: one outcome, and one output.
abbrev pub IsRenderedOnceAfter : Gifts → TextForm → Type 0
IsRenderedOnceAfter gifts form =
    (turns : ℕ) (o o' : Outcome) (old new new' : StreamState) (xs : List ℕ) (left left' : Option (List ℕ))
    (before after after' : Output) (s : List ℕ) (es : List (ℕ × Event))
    → AfterGifts gifts old s es → old.refusal ≡ None → new.rules ≡ old.rules → new'.rules ≡ old.rules
    → EndsAlike o o' left left'
    → RendersTo form turns o old new xs left before after → RendersTo form turns o' old new' xs left' before after'
    → (o' ≡ o) × IsOneOutput before after after'

abbrev pub IsRenderedOnce : TextForm → Type 0
IsRenderedOnce form = (gifts : Gifts) → IsRenderedOnceAfter gifts form

-- the same of two commands
abbrev pub EndAlike : Ending → Ending → (left left' : Option (List ℕ)) → Type 0
EndAlike (ending.Finished f) (ending.Finished f') left left' = Unit {0}
EndAlike ending.ReadFault ending.ReadFault left left' = left' ≡ left
EndAlike ending.TooManyTurns ending.TooManyTurns left left' = left' ≡ left
EndAlike ending.WriteFault ending.WriteFault left left' = Unit {0}
EndAlike ending.NoMemory ending.NoMemory left left' = Unit {0}
EndAlike e e' left left' = ⊥

-- Both of two things hold or neither.
abbrev Both : (A B : Type 0) → Type 0
Both A B = (A → B) × (B → A)

-- To two commands over the same bytes the outside did the same: the reader failed in both or in neither, and so did the
-- output; memory was wanting in both or in neither; and the turns ran out in both or in neither, where so many reads were
-- made. What is left by a reader that failed or was not at its end is the same.
pub record IsServedAlike (turns : ℕ) (xs : List ℕ) (was input input' : Input) (before out out' : Output) (e e' : Ending)
    : Type 0 where
  pub reader : (was.failures < 2 ^ 64 - 1) × (input'.failures ≡ input.failures)
  pub output : FailsAlike before out out'
  pub memory : Both (e ≡ ending.NoMemory) (e' ≡ ending.NoMemory)
  pub time : (HasTime turns xs was input × HasTime turns xs was input')
      ⊎ Both (e ≡ ending.TooManyTurns) (e' ≡ ending.TooManyTurns)
  pub left : (e ≡ ending.ReadFault) ⊎ (e ≡ ending.TooManyTurns) → input'.left ≡ input.left

-- Two commands that show the same bytes within the same limits, and to which the outside did the same, end alike.
abbrev pub EndsOnce : TextForm → Type 0
EndsOnce form = (limits : Rules) (turns : ℕ) (xs : List ℕ) (before : Streams) (status status' : ℕ)
    (after after' : Streams)
    → (shows : ShowsBytes form limits turns xs before status after)
    (shows' : ShowsBytes form limits turns xs before status' after')
    → IsServedAlike turns xs before.input after.input after'.input before.out after.out after'.out shows.0 shows'.0
    → EndAlike shows.0 shows'.0 after.input.left after'.input.left

-- The same of two that check them; the output is the one before the verdict line.
abbrev pub ChecksEndOnce : Type 0
ChecksEndOnce = (limits : Rules) (turns : ℕ) (xs : List ℕ) (before : Streams) (status status' : ℕ)
    (after after' : Streams)
    → (checks : ChecksBytes limits turns xs before status after)
    (checks' : ChecksBytes limits turns xs before status' after')
    → IsServedAlike turns xs before.input after.input after'.input before.out checks.1 checks'.1 checks.0 checks'.0
    → EndAlike checks.0 checks'.0 after.input.left after'.input.left

-- Two commands that show the same bytes within the same limits, and end alike: one ending, one status, and one text on
-- each output.
abbrev pub IsShownOnce : TextForm → Type 0
IsShownOnce form = (limits : Rules) (turns : ℕ) (xs : List ℕ) (before : Streams) (status status' : ℕ)
    (after after' : Streams)
    → (shows : ShowsBytes form limits turns xs before status after)
    (shows' : ShowsBytes form limits turns xs before status' after')
    → EndAlike shows.0 shows'.0 after.input.left after'.input.left → FailsAlike before.err after.err after'.err
    → (shows'.0 ≡ shows.0) × (status' ≡ status)
    × IsOneOutput before.out after.out after'.out × IsOneOutput before.err after.err after'.err

abbrev pub IsCheckedOnce : Type 0
IsCheckedOnce = (limits : Rules) (turns : ℕ) (xs : List ℕ) (before : Streams) (status status' : ℕ)
    (after after' : Streams)
    → (checks : ChecksBytes limits turns xs before status after)
    (checks' : ChecksBytes limits turns xs before status' after')
    → EndAlike checks.0 checks'.0 after.input.left after'.input.left
    → FailsAlike before.out after.out after'.out → FailsAlike before.err after.err after'.err
    → (checks'.0 ≡ checks.0) × (status' ≡ status)
    × IsOneOutput before.out after.out after'.out × IsOneOutput before.err after.err after'.err
