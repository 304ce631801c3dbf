-- The law of one answer of a command line that was read: what is written, and the status, are decided by the line and by
-- what comes of the outside, but for what only the outside decides.
use Rattle.std.specs.Prelude.{◌≡◌, ◌≢◌, ◌⊎◌, ℕ, true, List, Some, IsSome, Result, Ok, Err}
use Rattle.std.specs.Prelude.{codes}
use Rattle.std.proofs.Common.{inl, inr, subst}
use Rattle.std.specs.declared.io.traits.Read.{Ghosts}
use Rattle.cqlp_note.specs.Limits.{Rules}
use Rattle.cqlp_note.specs.Streams.{counted}
use Rattle.cqlp_options.specs.Ports.{named}
use Rattle.cqlp_options.specs.declared.capture.CaptureTask.{CaptureTask}
use Rattle.cqlp_options.specs.declared.capture.CaptureTask.TheVariants as capture_task
use Rattle.cqlp_options.specs.declared.command_line.CommandLine.{CommandLine}
use Rattle.cqlp_options.specs.declared.command_line.CommandLine.TheVariants as line
use Rattle.cqlp_options.specs.declared.no_task.NoTask.{NoTask}
use Rattle.cqlp_options.specs.declared.no_task.NoTask.TheVariants as no_task
use Rattle.cqlp_options.specs.declared.options.AtRefusal.{AtRefusal}
use Rattle.cqlp_options.specs.declared.options.AtRefusal.TheVariants as at
use Rattle.cqlp_options.specs.declared.options.Task.{Task}
use Rattle.cqlp_options.specs.declared.options.Task.TheVariants as task
use Rattle.cqlp_text.specs.declared.ending.Ending.TheVariants as ending
use Rattle.cqlp_text.specs.Outputs.{HasFailed, Output, with_text}
use Rattle.cqlp_loop.specs.declared.fault.LoopFault.{LoopFault}
use Rattle.cqlp_loop.specs.Script.{Wires}
use Rattle.cqlp_tool_laws.specs.Conversations.{IsDecided}
use Rattle.cqlp_render.specs.declared.text_form.TextForm.{TextForm}
use Rattle.cqlp_render.specs.declared.text_form.TextForm.TheVariants as forms
use Rattle.cqlp_render.specs.Showing.{ShowsBytes, ChecksBytes}
use Rattle.cqlp_render.specs.Streams.{Input, Streams}
use Rattle.cqlp_render_skip.specs.Showing as skipping
use Rattle.cqlp_render_skip.specs.Showing.{outputs_of}
use Rattle.cqlp_tool_laws.specs.Skipping.{IsPlain}
use Rattle.cqlp_capture_streams.specs.declared.fault.StreamsFault.TheVariants as fault
use Rattle.cqlp_capture_streams.specs.Endings.{fault_line, no_memory_line}
use Rattle.cqlp_options.specs.declared.limits.CaptureLimits.{CaptureLimits}
use Rattle.cqlp_capture_streams.specs.declared.limits.StreamsLimits.{StreamsLimits}
use Rattle.cqlp_tool.specs.Limits.{streams_limits_of}
use Rattle.cqlp_capture_streams.specs.declared.buffering.Buffering.{Buffering}
use Rattle.cqlp_capture_streams.specs.declared.buffering.Buffering.TheVariants as buffering
use Rattle.cqlp_tool.specs.Capturing.{DoesCaptureTask, IsCaptureOfInput, SplitsCapture}
use Rattle.cqlp_tool.specs.CommandLines.{DoesTask, Executes, Shows, form_of_events, form_of_rows, rules_for, turns}
use Rattle.cqlp_tool.specs.Files.{DoesOn, DoesWithFile, opened}
use Rattle.cqlp_tool.specs.Conversing.{ConversesAndReports, ConversesWithItself}
use Rattle.cqlp_tool_laws.specs.Text.{FailsAlike, GoesOnFromOther}
use Rattle.cqlp_tool_laws.specs.Tool.{IsOneOutput, IsServedAlike}

-- one status, and one text on each output
abbrev pub IsOneAnswer : (before : Streams) → (status status' : ℕ) → (after after' : Streams) → Type 0
IsOneAnswer before status status' after after' =
    (status' ≡ status) × IsOneOutput before.out after.out after'.out × IsOneOutput before.err after.err after'.err

-- it is known what the input has left, and what both outputs were given
pub record AreKnown (before : Streams) : Type 0 where
  pub bytes : List ℕ
  pub left : before.input.left ≡ Some bytes
  pub out : IsSome before.out.given
  pub err : IsSome before.err.given

-- ---- a stream

-- To two commands that show the same bytes the outside did the same.
pub record AreShownAlike (form : TextForm) (limits : Rules) (xs : List ℕ) (before : Streams) (status status' : ℕ)
    (after after' : Streams) (shows : ShowsBytes form limits turns xs before status after)
    (shows' : ShowsBytes form limits turns xs before status' after') : Type 0 where
  pub served : IsServedAlike turns xs before.input after.input after'.input before.out after.out after'.out shows.0
      shows'.0
  pub error : FailsAlike before.err after.err after'.err

-- The same of two that check them; the output failed alike before the verdict line, and with it.
pub record AreCheckedAlike (limits : Rules) (xs : List ℕ) (before : Streams) (status status' : ℕ)
    (after after' : Streams) (checks : ChecksBytes limits turns xs before status after)
    (checks' : ChecksBytes limits turns xs before status' after') : Type 0 where
  pub served : IsServedAlike turns xs before.input after.input after'.input before.out checks.1 checks'.1 checks.0
      checks'.0
  pub output : FailsAlike before.out after.out after'.out
  pub error : FailsAlike before.err after.err after'.err

-- Of one that passes over frames: it came to a verdict, which is not that a frame ends too far to be passed over, and its status is not that
-- of a fault.
module _ (limits : Rules) (xs : List ℕ) (before : Streams) (status : ℕ) (after : Streams) where
  abbrev pub EndsPlainly : (form : TextForm) → skipping.ShowsBytes form limits turns xs before status after → Type 0
  EndsPlainly form (ending.Finished f, passed, reported, reads, same, ends) =
      (status ≢ 3) × IsPlain form limits xs (outputs_of before) f passed reported after.input.left reads.shows
  EndsPlainly form shows = ⊥

  -- The same of one that checks.
  abbrev pub ChecksPlainly : skipping.ChecksBytes limits turns xs before status after → Type 0
  ChecksPlainly (ending.Finished f, passed, reported, reads, own, ends, is) =
      (status ≢ 3) × IsPlain forms.Nothing limits xs (outputs_of before) f passed reported after.input.left reads.shows
  ChecksPlainly checks = ⊥

module _ (limits : Rules) (before : Streams) (status status' : ℕ) (after after' : Streams) where
  -- The same of a text in a form, where what is read is known.
  abbrev pub IsTextMetAlike : (form : TextForm) (r : AtRefusal) → AreKnown before → Shows form r limits before status after
      → Shows form r limits before status' after' → Type 0
  IsTextMetAlike form at.End known does does' =
      AreShownAlike form limits known.bytes before status status' after after'
      (does known.bytes known.left known.out known.err) (does' known.bytes known.left known.out known.err)
  IsTextMetAlike form at.Skip known does does' =
      EndsPlainly limits known.bytes before status after form (does known.bytes known.left known.out known.err)
      × EndsPlainly limits known.bytes before status' after' form (does' known.bytes known.left known.out known.err)

  -- The same of a task.
  abbrev pub IsTaskMetAlike : (t : Task) → AreKnown before → DoesTask t limits before status after
      → DoesTask t limits before status' after' → Type 0
  IsTaskMetAlike (task.Show form r) known does does' = IsTextMetAlike (form_of_events form) r known does does'
  IsTaskMetAlike (task.Rows form r) known does does' = IsTextMetAlike (form_of_rows form) r known does does'
  IsTaskMetAlike (task.Check at.End) known does does' =
      AreCheckedAlike limits known.bytes before status status' after after'
      (does known.bytes known.left known.out known.err) (does' known.bytes known.left known.out known.err)
  IsTaskMetAlike (task.Check at.Skip) known does does' =
      ChecksPlainly limits known.bytes before status after (does known.bytes known.left known.out known.err)
      × ChecksPlainly limits known.bytes before status' after' (does' known.bytes known.left known.out known.err)

-- The same of a task, where what is read is known.
abbrev pub IsStreamMetAlike : (t : Task) (limits : Rules) (before : Streams) (status status' : ℕ) (after after' : Streams)
    → DoesTask t limits before status after → DoesTask t limits before status' after' → Type 0
IsStreamMetAlike t limits before status status' after after' does does' =
    (known : AreKnown before) × IsTaskMetAlike limits before status status' after after' t known does does'

-- The error output, of which it is known what it was given, failed in both or in neither.
pub record IsErrorMetAlike (before after after' : Streams) : Type 0 where
  pub known : IsSome before.err.given
  pub fails : FailsAlike before.err after.err after'.err

-- The same of both outputs.
pub record AreOutputsMetAlike (before after after' : Streams) : Type 0 where
  pub known : IsSome before.out.given
  pub fails : FailsAlike before.out after.out after'.out
  pub error : IsErrorMetAlike before after after'

-- ---- the input or a file

-- Of what is done with the input or a file: IsMet says of two that did it with the input that the outside did the same to them.
module _ {F : Type 0} (files : Ghosts F) (path : List ℕ)
    (Does : (before : Streams) → (status : ℕ) → (after : Streams) → Type 0)
    (IsMet : (before : Streams) (status status' : ℕ) (after after' : Streams)
    → Does before status after → Does before status' after' → Type 0)
    (before : Streams) (status status' : ℕ) (after after' : Streams) where
  -- The same of a file: it was opened in neither, or in both and gives the same bytes.
  abbrev pub IsFileMetAlike : DoesWithFile files path Does before.out before.err status after.out after.err
      → DoesWithFile files path Does before.out before.err status' after'.out after'.err → Type 0
  IsFileMetAlike (inl (file, (left, does))) (inl (file', (left', does'))) =
      (same : opened files file' ≡ opened files file)
      × IsMet (record before { input = opened files file }) status status'
      (record after { input = left }) (record after' { input = left' }) does
      (subst (λ (i : Input). Does (record before { input = i }) status' (record after' { input = left' })) same does')
  IsFileMetAlike (inr misses) (inr misses') = IsErrorMetAlike before after after'
  IsFileMetAlike does does' = ⊥

  abbrev pub IsMetAlikeOn : DoesOn files path Does before status after → DoesOn files path Does before status' after'
      → Type 0
  IsMetAlikeOn does does' =
      ((is : path ≡ codes "-") × IsMet before status status' after after' (does.0 is) (does'.0 is))
      ⊎ ((is : path ≢ codes "-") × IsFileMetAlike (does.1 is) (does'.1 is))

-- ---- a conversation

-- To the clients of two conversations the same bytes come, and so it is of their servers.
pub record AreOverTheSame (before before' : Wires) : Type 0 where
  pub to_client : List ℕ
  pub to_server : List ℕ
  pub client : before.client.source.left ≡ Some to_client
  pub server : before.server.source.left ≡ Some to_server
  pub client' : before'.client.source.left ≡ Some to_client
  pub server' : before'.server.source.left ≡ Some to_server

module _ (queries : ℕ) (r : Result (Unit {0}) LoopFault) (out out' : Output) where
  -- There was no connection, or the bytes that came over it decided the answer: memory was there, no stream failed, and no
  -- message took too many reads.
  abbrev pub IsLoopDecided : ConversesWithItself queries out r out' → Type 0
  IsLoopDecided (inl none) = Unit {0}
  IsLoopDecided (inr (from, left, (w, v, talks, heard, at, rest, to))) = IsDecided r w v

  -- There was no connection in both, or conversations over the same bytes.
  abbrev pub AreLoopsAlike : (r' : Result (Unit {0}) LoopFault) → (out'' : Output) → ConversesWithItself queries out r out'
      → ConversesWithItself queries out r' out'' → Type 0
  AreLoopsAlike r' out'' (inl none) (inl none') = Unit {0}
  AreLoopsAlike r' out'' (inr (from, left, (w, v, talks, heard, at, rest, to)))
      (inr (from', left', (w', v', talks', heard', at', rest', to'))) = AreOverTheSame w w'
  AreLoopsAlike r' out'' talk talk' = ⊥

-- To two executions of a conversation the network did the same, and that decided how both ended.
pub record AreLoopsMetAlike (queries : ℕ) (before : Streams) (status status' : ℕ) (after after' : Streams)
    (does : ConversesAndReports queries before.out before.err status after.out after.err)
    (does' : ConversesAndReports queries before.out before.err status' after'.out after'.err) : Type 0 where
  pub outputs : AreOutputsMetAlike before after after'
  pub alike : AreLoopsAlike queries does.0 before.out after.out does'.0 after'.out does.1 does'.1
  pub decided : IsLoopDecided queries does.0 before.out after.out does.1
  pub decided' : IsLoopDecided queries does'.0 before.out after'.out does'.1

-- Two executions of a conversation to which the network did the same, and that end alike, whoever decided that: one
-- status, and one text on the error output. Of the outputs one was given what the other was, and then perhaps more.
abbrev pub LoopGoesOn : Type 0
LoopGoesOn = (queries : ℕ) (before : Streams) (status status' : ℕ) (after after' : Streams)
    → (does : ConversesAndReports queries before.out before.err status after.out after.err)
    (does' : ConversesAndReports queries before.out before.err status' after'.out after'.err)
    → AreOutputsMetAlike before after after'
    → AreLoopsAlike queries does.0 before.out after.out does'.0 after'.out does.1 does'.1 → does'.0 ≡ does.0
    → (status' ≡ status) × GoesOnFromOther after.out after'.out × IsOneOutput before.err after.err after'.err

-- ---- a capture

-- To two executions of a task with the same capture the outside did the same: there was no folder in both; or nothing failed, so that no
-- status is that of a fault.
module _ (before : Streams) (status status' : ℕ) (after after' : Streams) where
  abbrev pub AreSplitAlike : (l : StreamsLimits) (folder ports : List ℕ) → SplitsCapture l folder ports before status after
      → SplitsCapture l folder ports before status' after' → Type 0
  AreSplitAlike l folder ports (inl misses) (inl misses') = FailsAlike before.err after.err after'.err
  AreSplitAlike l folder ports (inr splits) (inr splits') = (status ≢ 3) × (status' ≢ 3)
  AreSplitAlike l folder ports does does' = ⊥

  abbrev pub IsCaptureMetAlike : (b : Buffering) (l : CaptureLimits) (t : CaptureTask) (ports : List ℕ) → DoesCaptureTask b l t ports before status after
      → DoesCaptureTask b l t ports before status' after' → Type 0
  IsCaptureMetAlike b l (capture_task.Streams folder) ports does does' = AreSplitAlike (streams_limits_of b l) folder.now ports does does'
  IsCaptureMetAlike b l (capture_task.Exchanges asked) ports does does' = (status ≢ 3) × (status' ≢ 3)
  IsCaptureMetAlike b l (capture_task.Events asked) ports does does' = (status ≢ 3) × (status' ≢ 3)
  IsCaptureMetAlike b l (capture_task.Rows asked statements) ports does does' = (status ≢ 3) × (status' ≢ 3)

-- A read of the input failed, or the output, or the error output; or the line that was written says that there was no memory, or too
-- many turns: all reads were made that may be, or there was no end to what is reported.
abbrev pub HasFault : (before after : Streams) → Type 0
HasFault before after =
    (after.input.failures ≡ counted true before.input.failures)
    ⊎ (HasFailed before.out after.out
    ⊎ (HasFailed before.err after.err
    ⊎ ((after.err ≡ with_text before.err no_memory_line)
    ⊎ (after.err ≡ with_text before.err (fault_line fault.TooManyTurns)))))

-- Of a task that splits a capture into files nothing is said, since of files nothing is known.
abbrev pub IsCaused : CaptureTask → (before after : Streams) → Type 0
IsCaused (capture_task.Streams folder) before after = Unit {0}
IsCaused (capture_task.Exchanges asked) before after = HasFault before after
IsCaused (capture_task.Events asked) before after = HasFault before after
IsCaused (capture_task.Rows asked statements) before after = HasFault before after

-- The status of a task with a capture is that of a fault only where one came.
abbrev pub CaptureFaultsHaveCauses : Type 0
CaptureFaultsHaveCauses =
    (b : Buffering) (l : CaptureLimits) (t : CaptureTask) (ports : List ℕ) (before after : Streams)
    → AreKnown before → DoesCaptureTask b l t ports before 3 after → IsCaused t before after

-- ---- a command line

-- To two executions of a command line, which names no capture in a file and adds no summaries, the outside did the same: the input, the file of a
-- stream, both outputs, memory, the turns, the network, and the folder for a capture's streams.
module _ {F : Type 0} (files : Ghosts F) (before : Streams) (status status' : ℕ) (after after' : Streams) where
  abbrev pub AreMetAlike : (l : Result CommandLine NoTask) → Executes files l before status after
      → Executes files l before status' after' → Type 0
  AreMetAlike (Ok (line.Stream options)) does does' =
      IsMetAlikeOn files options.file.now (DoesTask options.task (rules_for options))
      (IsStreamMetAlike options.task (rules_for options)) before status status' after after' does does'
  AreMetAlike (Ok (line.Loop queries)) does does' = AreLoopsMetAlike queries before status status' after after' does does'
  AreMetAlike (Ok (line.Capture options)) does does' =
      (is : IsCaptureOfInput options) × (known : AreKnown before)
      × IsCaptureMetAlike before status status' after after' buffering.Line options.limits options.task (named options.ports) (does is) (does' is)
  AreMetAlike (Ok (line.Merge options)) does does' = ⊥
  AreMetAlike (Err (no_task.Help text)) does does' = AreOutputsMetAlike before after after'
  AreMetAlike (Err (no_task.Mistake text)) does does' = IsErrorMetAlike before after after'
  AreMetAlike (Err no_task.NoMemory) does does' = IsErrorMetAlike before after after'

-- Two executions of one command line, to which the outside did the same, have one answer.
abbrev pub IsExecutedOnce : {F : Type 0} → Ghosts F → Type 0
IsExecutedOnce files = (l : Result CommandLine NoTask) (before : Streams) (status status' : ℕ)
    (after after' : Streams)
    → (does : Executes files l before status after) (does' : Executes files l before status' after')
    → AreMetAlike files before status status' after after' l does does'
    → IsOneAnswer before status status' after after'
