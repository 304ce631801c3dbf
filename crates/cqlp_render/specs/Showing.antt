-- What a command that shows a stream writes.
use Rattle.std.specs.Prelude.{◌≡◌, ◌≢◌, ℕ, true, List, [], Option, None, IsSome, ◌⊎◌}
use Rattle.cqlp_note.specs.Limits.{Rules}
use Rattle.cqlp_note.specs.Streams.{counted}
use Rattle.cqlp_decode.specs.declared.running.Outcome.{Outcome}
use Rattle.cqlp_decode.specs.declared.running.Outcome.TheVariants as outcome
use Rattle.cqlp_decode.specs.Progress.{StreamState}
use Rattle.cqlp_decode.specs.Streams.{After}
use Rattle.cqlp_decode.specs.Draining.{Calls, MakesReads}
use Rattle.cqlp_text.specs.declared.ending.Ending.{Ending}
use Rattle.cqlp_text.specs.declared.ending.Ending.TheVariants as ending
use Rattle.cqlp_text.specs.Endings.{ending_line, finish_status, status_of}
use Rattle.cqlp_render.specs.declared.text_form.TextForm.{TextForm}
use Rattle.cqlp_render.specs.declared.text_form.TextForm.TheVariants as forms
use Rattle.cqlp_text.specs.Outputs.{Output, output, with_text, StopsWithin}
use Rattle.cqlp_text.specs.Written.{Written, Receives, BreaksOff}
use Rattle.cqlp_render.specs.Rendering.{ReadsOnlyAfterText, RendersFront, RendersTo}
use Rattle.cqlp_render.specs.Streams.{Input, Streams, IfKnown}

-- how the command ends where a run does
abbrev pub ending_of : Outcome → Ending
ending_of (outcome.Finished f) = ending.Finished f
ending_of outcome.ReadFault = ending.ReadFault
ending_of outcome.SinkFault = ending.WriteFault
ending_of outcome.Turns = ending.TooManyTurns

-- What a decoder rendered through a buffer; where the target failed, it was given a front of that.
abbrev pub RendersOrFails : TextForm → (turns : ℕ) → Outcome → (old new : StreamState) → (xs : List ℕ)
    → (left : Option (List ℕ)) → (before after : Output) → Type 0
RendersOrFails form turns outcome.SinkFault old new xs left before after = RendersFront form old new xs before after
RendersOrFails form turns o old new xs left before after = RendersTo form turns o old new xs left before after

-- All that waits in a buffer was passed on, and the run ends as it did; or the target failed.
abbrev pub FlushesTo : (ran : Outcome) → (waits : Written) → (ends : Outcome) → (flushed : Written) → Type 0
FlushesTo ran waits ends flushed =
    ((ends ≡ ran) × Receives waits [] flushed × (flushed.waiting ≡ []))
    ⊎ ((ends ≡ outcome.SinkFault) × BreaksOff waits [] flushed)

-- The target after a run over a buffer: it was given all that waits, unless it had failed in the run.
abbrev pub IsPassedOn : (ran : Outcome) → (waits : Written) → (ends : Outcome) → (after : Output) → Type 0
IsPassedOn ran waits ends after =
    ((ran ≡ outcome.SinkFault) × (ends ≡ outcome.SinkFault) × (after ≡ output waits.given waits.failures))
    ⊎ ((ran ≢ outcome.SinkFault) × (flushed : Written) × FlushesTo ran waits ends flushed
    × (after ≡ output flushed.given flushed.failures))

-- A decoder that was just made with these limits, and has refused nothing, rendered the bytes xs of a reader.
pub record RendersNew (form : TextForm) (limits : Rules) (turns : ℕ) (o : Outcome) (xs : List ℕ)
    (left : Option (List ℕ)) (before after : Output) : Type 0 where
  pub old : StreamState
  pub new : StreamState
  pub fresh : After old [] []
  pub unrefused : old.refusal ≡ None
  pub rules : old.rules ≡ limits
  pub same_rules : new.rules ≡ old.rules
  pub renders : RendersOrFails form turns o old new xs left before after

-- What was written of the bytes xs of a reader, by how the command ends; it does not end as a conversation does.
module _ (form : TextForm) (limits : Rules) (turns : ℕ) where
  abbrev pub ShowsTo : Ending → (xs : List ℕ) → (left : Option (List ℕ)) → (before after : Output) → Type 0
  ShowsTo (ending.Finished f) = RendersNew form limits turns (outcome.Finished f)
  ShowsTo ending.ReadFault = RendersNew form limits turns outcome.ReadFault
  ShowsTo ending.TooManyTurns = RendersNew form limits turns outcome.Turns
  ShowsTo ending.WriteFault = RendersNew form limits turns outcome.SinkFault
  ShowsTo ending.NoMemory = λ xs left before after. after ≡ before
  ShowsTo ending.BadReply = λ xs left before after. ⊥
  ShowsTo ending.SocketFault = λ xs left before after. ⊥

-- A read fault that is reported is one more failed call of the reader; and none failed where the stream was read.
abbrev pub CountsReads : Ending → (old new : ℕ) → Type 0
CountsReads ending.ReadFault old new = new ≡ counted true old
CountsReads ending.WriteFault old new = Unit {0}
CountsReads e old new = new ≡ old

abbrev pub calls_of : Input → Calls
calls_of i = record { reads = i.reads; asked = i.asked }

-- the reads of a run that ends so
abbrev pub RunReads : (turns : ℕ) → Outcome → (old new : Input) → Type 0
RunReads turns o old new = MakesReads turns o (calls_of old) (calls_of new) old.left new.left

-- Which reads were made, by how the command ends: those of a run, after which a write may have failed; and none where
-- memory was wanting.
abbrev pub ReadsBy : (turns : ℕ) → Ending → (old new : Input) → Type 0
ReadsBy turns (ending.Finished f) old new = RunReads turns (outcome.Finished f) old new
ReadsBy turns ending.ReadFault old new = RunReads turns outcome.ReadFault old new
ReadsBy turns ending.TooManyTurns old new = RunReads turns outcome.Turns old new
ReadsBy turns ending.WriteFault old new = (o : Outcome) × RunReads turns o old new
ReadsBy turns ending.NoMemory old new = new ≡ old
ReadsBy turns ending.BadReply old new = ⊥
ReadsBy turns ending.SocketFault old new = ⊥

-- When the last read of the bytes xs was made, by a decoder that was just made with these limits: after all text of the
-- bytes read before, or never.
abbrev pub ReadsNew : TextForm → Rules → (turns : ℕ) → (xs : List ℕ) → (old new : Input) → (before after : Output)
    → Type 0
ReadsNew form limits turns xs old new before after =
    (new ≡ old)
    ⊎ ((start : StreamState) × After start [] [] × (start.refusal ≡ None) × (start.rules ≡ limits)
    × ReadsOnlyAfterText form turns start xs old.reads new.reads new.left before after.given)

-- The line of the ending was written, and the status is its own; or the target failed within it, and the status is
-- that of a fault.
abbrev pub Concludes : Ending → (before : Output) → (status : ℕ) → (after : Output) → Type 0
Concludes e before status after =
    ((status ≡ status_of e) × (after ≡ with_text before (ending_line e)))
    ⊎ ((status ≡ 3) × StopsWithin before (ending_line e) after)

-- the same of a target of which it is known what it was given
abbrev pub ConcludesIfKnown : Ending → (before : Output) → (status : ℕ) → (after : Output) → Type 0
ConcludesIfKnown e before status after = IsSome before.given → Concludes e before status after

-- The verdict line of a stream that was read went to the output. The fault line of any other ending, also of an output
-- that failed there, went to the error output.
abbrev pub ConcludesCheck : Ending → (out err : Output) → (status : ℕ) → (out' err' : Output) → Type 0
ConcludesCheck (ending.Finished f) out err status out' err' =
    ((status ≡ finish_status f) × (out' ≡ with_text out (ending_line (ending.Finished f))) × (err' ≡ err))
    ⊎ (StopsWithin out (ending_line (ending.Finished f)) out' × Concludes ending.WriteFault err status err')
ConcludesCheck e out err status out' err' = (out' ≡ out) × Concludes e err status err'

-- The bytes xs of the input were shown: what was written of them, which calls of the reader failed, the line that
-- reports how it ended, how often the reader was called, and after what.
abbrev pub ShowsBytes : TextForm → Rules → (turns : ℕ) → List ℕ
    → (before : Streams) → (status : ℕ) → (after : Streams) → Type 0
ShowsBytes form limits turns xs before status after =
    (e : Ending) × ShowsTo form limits turns e xs after.input.left before.out after.out
    × CountsReads e before.input.failures after.input.failures × Concludes e before.err status after.err
    × ReadsBy turns e before.input after.input × ReadsNew form limits turns xs before.input after.input before.out after.out

-- The bytes xs of the input were read and nothing of them written, and how it ended was reported.
abbrev pub ChecksBytes : Rules → (turns : ℕ) → List ℕ → (before : Streams) → (status : ℕ) → (after : Streams) → Type 0
ChecksBytes limits turns xs before status after =
    (e : Ending) × (read : Output) × ShowsTo forms.Nothing limits turns e xs after.input.left before.out read
    × CountsReads e before.input.failures after.input.failures
    × ConcludesCheck e read before.err status after.out after.err × ReadsBy turns e before.input after.input
    × ReadsNew forms.Nothing limits turns xs before.input after.input before.out read

-- A stream was shown, and how it ended was reported.
abbrev pub ShowsAndReports : TextForm → Rules → (turns : ℕ)
    → (before : Streams) → (status : ℕ) → (after : Streams) → Type 0
ShowsAndReports form limits turns before status after =
    IfKnown before.input before.out (λ xs.
    IsSome before.err.given → ShowsBytes form limits turns xs before status after)

-- A stream was checked, and how it ended was reported.
abbrev pub ChecksAndReports : Rules → (turns : ℕ) → (before : Streams) → (status : ℕ) → (after : Streams) → Type 0
ChecksAndReports limits turns before status after =
    IfKnown before.input before.out (λ xs. IsSome before.err.given → ChecksBytes limits turns xs before status after)
