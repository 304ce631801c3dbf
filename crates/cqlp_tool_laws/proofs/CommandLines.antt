-- One answer of a command line.
use Rattle.std.proofs.Common.{◌≡◌, ℕ, Bool, List, [], ◌++◌, Option, Some, None, IsSome, Result, Ok, Err, ◌⊎◌, sym, ap, ◌∙◌, inl, inr, subst, append_assoc}
use Rattle.std.specs.Prelude.{string_bytes}
use Rattle.std.specs.Io.KnownBytes.{Appends, append_known}
use Rattle.std.specs.declared.io.traits.Read.{Ghosts}
use Rattle.cqlp_note.specs.Limits.{Rules}
use Rattle.cqlp_note.specs.Streams.{counted}
use Rattle.cqlp_options.specs.Ports.{named}
use Rattle.cqlp_options.specs.declared.capture.CaptureTask.{CaptureTask}
use Rattle.cqlp_options.specs.declared.capture.CaptureTask.TheVariants as capture_task
use Rattle.cqlp_options.specs.declared.command_line.CommandLine.{CommandLine}
use Rattle.cqlp_options.specs.declared.command_line.CommandLine.TheVariants as line
use Rattle.cqlp_options.specs.declared.no_task.NoTask.{NoTask}
use Rattle.cqlp_options.specs.declared.no_task.NoTask.TheVariants as no_task
use Rattle.cqlp_options.specs.declared.options.AtRefusal.{AtRefusal}
use Rattle.cqlp_options.specs.declared.options.AtRefusal.TheVariants as at
use Rattle.cqlp_options.specs.declared.options.Task.{Task}
use Rattle.cqlp_options.specs.declared.options.Task.TheVariants as task
use Rattle.cqlp_text.specs.declared.ending.Ending.TheVariants as ending
use Rattle.cqlp_text.specs.Endings.{cannot_open_line}
use Rattle.cqlp_text.specs.Outputs.{Output, output, with_text, StopsWithin}
use Rattle.cqlp_loop.specs.declared.fault.LoopFault.{LoopFault}
use Rattle.cqlp_loop.specs.Script.{Wires}
use Rattle.cqlp_tool_laws.specs.Conversations.{SaidTheSame, SaidMore}
use Rattle.cqlp_tool_laws.proofs.Conversations.{one_answer, one_goes_on}
use Rattle.cqlp_render.specs.declared.text_form.TextForm.{TextForm}
use Rattle.cqlp_render.specs.Showing.{ShowsBytes, ChecksBytes}
use Rattle.cqlp_render.specs.Streams.{Input, Streams}
use Rattle.cqlp_render.proofs.Renders.{known_nothing}
use Rattle.cqlp_capture_streams.specs.Captures.{ReadsMade}
use Rattle.cqlp_capture_streams.specs.Causes.{HasCause}
use Rattle.cqlp_options.specs.declared.limits.CaptureLimits.{CaptureLimits}
use Rattle.cqlp_capture_streams.specs.declared.limits.StreamsLimits.{StreamsLimits}
use Rattle.cqlp_capture_streams.proofs.OneAnswer.{streams_once}
use Rattle.cqlp_capture_exchanges.proofs.Causes.{exchanges_causes}
use Rattle.cqlp_capture_exchanges.proofs.WrittenOnce.{exchanges_once}
use Rattle.cqlp_capture_events.proofs.Causes.{events_causes}
use Rattle.cqlp_capture_events.proofs.WrittenOnce.{events_once}
use Rattle.cqlp_capture_rows.proofs.Causes.{rows_causes}
use Rattle.cqlp_capture_rows.proofs.WrittenOnce.{rows_once}
use Rattle.cqlp_tool.specs.Limits.{exchange_limits_of, streams_limits_of}
use Rattle.cqlp_capture_streams.specs.declared.buffering.Buffering.{Buffering}
use Rattle.cqlp_capture_streams.specs.declared.buffering.Buffering.TheVariants as buffering
use Rattle.cqlp_tool.specs.Capturing.{DoesCaptureTask, ReadsInput, SplitsCapture, filter_of, form_of}
use Rattle.cqlp_tool.specs.Faults.{ReportsFault}
use Rattle.cqlp_tool.specs.CommandLines.{DoesTask, Executes, Complains, Helps, Shows, form_of_events, form_of_rows, rules_for, turns}
use Rattle.cqlp_tool.specs.Files.{DoesOn, DoesWithFile, opened}
use Rattle.cqlp_tool.specs.Conversing.{ConversesWithItself, Reports, ending_of}
use Rattle.cqlp_tool_laws.specs.Text.{FailsAlike, GoesOnFromOther}
use Rattle.cqlp_tool_laws.specs.Tool.{IsOneOutput}
use Rattle.cqlp_tool_laws.specs.CommandLines.{CaptureFaultsHaveCauses, HasFault, AreCheckedAlike, AreMetAlike, AreKnown, AreSplitAlike, IsCaptureMetAlike, AreShownAlike, AreLoopsAlike, IsExecutedOnce, IsLoopDecided, IsOneAnswer, IsFileMetAlike, IsMetAlikeOn, IsStreamMetAlike, IsTaskMetAlike, IsTextMetAlike, LoopGoesOn}
use Rattle.cqlp_tool_laws.proofs.OneText.{counts_up, stops_once}
use Rattle.cqlp_tool_laws.proofs.SkippedOnce.{skipping_once, checking_skipping_once}
use Rattle.cqlp_tool_laws.proofs.OneAnswer.{commands_end_once, checks_end_once, concludes_once, shown_once, checked_once}

-- ---- a text

same_output : (o o' : Output) → o'.given ≡ o.given → o'.failures ≡ o.failures → o' ≡ o
same_output o o' given failures = ap (λ z. output z o'.failures) given ∙ ap (λ z. output o.given z) failures

nothing : (o : Output) → o ≡ with_text o []
nothing o = ap (λ z. output z o.failures) (sym (known_nothing o.given))

-- a text that is written whole, or at which the target fails
text_once : (before after after' : Output) (text : List ℕ) → FailsAlike before after after' → (after ≡ with_text before text) ⊎ StopsWithin before text after → (after' ≡ with_text before text) ⊎ StopsWithin before text after' → IsOneOutput before after after'
text_once before after after' text alike (inl a) (inl b) = inl (b ∙ sym a)
text_once before after after' text alike (inl a) (inr b) = absurd (counts_up before.failures alike.0 (sym b.failures ∙ alike.1 ∙ ap (λ o. o.failures) a))
text_once before after after' text alike (inr a) (inl b) = absurd (counts_up before.failures alike.0 (sym a.failures ∙ sym alike.1 ∙ ap (λ o. o.failures) b))
text_once before after after' text alike (inr a) (inr b) = inr (a.failures, b.failures, stops_once before after after' text a b)

complained_once : (text : List ℕ) (before after after' : Output) (status status' : ℕ) → FailsAlike before after after' → Complains text before status after → Complains text before status' after' → (status' ≡ status) × IsOneOutput before after after'
complained_once text before after after' status status' alike (inl a) (inl b) = (b.0 ∙ sym a.0, inl (b.1 ∙ sym a.1))
complained_once text before after after' status status' alike (inl a) (inr b) = absurd (counts_up before.failures alike.0 (sym b.1.failures ∙ alike.1 ∙ ap (λ o. o.failures) a.1))
complained_once text before after after' status status' alike (inr a) (inl b) = absurd (counts_up before.failures alike.0 (sym a.1.failures ∙ sym alike.1 ∙ ap (λ o. o.failures) b.1))
complained_once text before after after' status status' alike (inr a) (inr b) = (b.0 ∙ sym a.0, text_once before after after' text alike (inr a.1) (inr b.1))

fault_reported_once : (text : List ℕ) (before after after' : Output) (status status' : ℕ) → FailsAlike before after after' → ReportsFault text before status after → ReportsFault text before status' after' → (status' ≡ status) × IsOneOutput before after after'
fault_reported_once text before after after' status status' alike a b = (b.0 ∙ sym a.0, text_once before after after' text alike a.1 b.1)

-- ---- a command

module _ (before : Streams) (status status' : ℕ) (after after' : Streams) where
  helped_once : (text : List ℕ) → FailsAlike before.out after.out after'.out → FailsAlike before.err after.err after'.err → Helps text before.out before.err status after.out after.err → Helps text before.out before.err status' after'.out after'.err → IsOneAnswer before status status' after after'
  helped_once text fails fails_err (inl a) (inl b) = (b.0 ∙ sym a.0, inl (b.1 ∙ sym a.1), inl (b.2 ∙ sym a.2))
  helped_once text fails fails_err (inl a) (inr b) = absurd (counts_up before.out.failures fails.0 (sym b.0.failures ∙ fails.1 ∙ ap (λ o. o.failures) a.1))
  helped_once text fails fails_err (inr a) (inl b) = absurd (counts_up before.out.failures fails.0 (sym a.0.failures ∙ sym fails.1 ∙ ap (λ o. o.failures) b.1))
  helped_once text fails fails_err (inr a) (inr b) =
      let reported = concludes_once ending.WriteFault before.err after.err after'.err status status' fails_err a.1 b.1 in
      (reported.0, text_once before.out after.out after'.out text fails (inr a.0) (inr b.0), reported.1)

-- ---- a task

module _ (limits : Rules) (before : Streams) (status status' : ℕ) (after after' : Streams) where
  showing_once : (form : TextForm) (xs : List ℕ) (a : ShowsBytes form limits turns xs before status after) (b : ShowsBytes form limits turns xs before status' after') → AreShownAlike form limits xs before status status' after after' a b → IsOneAnswer before status status' after after'
  showing_once form xs a b alike =
      let one = shown_once form limits turns xs before status status' after after' a b (commands_end_once form limits turns xs before status status' after after' a b alike.served) alike.error in
      (one.1, one.2, one.3)

  checking_once : (xs : List ℕ) (a : ChecksBytes limits turns xs before status after) (b : ChecksBytes limits turns xs before status' after') → AreCheckedAlike limits xs before status status' after after' a b → IsOneAnswer before status status' after after'
  checking_once xs a b alike =
      let one = checked_once limits turns xs before status status' after after' a b (checks_end_once limits turns xs before status status' after after' a b alike.served) alike.output alike.error in
      (one.1, one.2, one.3)

  form_once : (form : TextForm) (r : AtRefusal) (known : AreKnown before) (a : Shows form r limits before status after) (b : Shows form r limits before status' after') → IsTextMetAlike limits before status status' after after' form r known a b → IsOneAnswer before status status' after after'
  form_once form at.End known a b alike = showing_once form known.bytes (a known.bytes known.left known.out known.err) (b known.bytes known.left known.out known.err) alike
  form_once form at.Skip known a b alike = skipping_once limits known.bytes before status status' after after' known.err form (a known.bytes known.left known.out known.err) (b known.bytes known.left known.out known.err) alike.0 alike.1

  task_once : (t : Task) (known : AreKnown before) (a : DoesTask t limits before status after) (b : DoesTask t limits before status' after') → IsTaskMetAlike limits before status status' after after' t known a b → IsOneAnswer before status status' after after'
  task_once (task.Show form r) known a b alike = form_once (form_of_events form) r known a b alike
  task_once (task.Rows form r) known a b alike = form_once (form_of_rows form) r known a b alike
  task_once (task.Check at.End) known a b alike = checking_once known.bytes (a known.bytes known.left known.out known.err) (b known.bytes known.left known.out known.err) alike
  task_once (task.Check at.Skip) known a b alike = checking_skipping_once limits known.bytes before status status' after after' known.err (a known.bytes known.left known.out known.err) (b known.bytes known.left known.out known.err) alike.0 alike.1

-- ---- the input or a file

module _ {F : Type 0} (files : Ghosts F) (path : List ℕ)
    (Does : (before : Streams) → (status : ℕ) → (after : Streams) → Type 0)
    (IsMet : (before : Streams) (status status' : ℕ) (after after' : Streams) → Does before status after → Does before status' after' → Type 0)
    (once : (before : Streams) (status status' : ℕ) (after after' : Streams) (a : Does before status after) (b : Does before status' after') → IsMet before status status' after after' a b → IsOneAnswer before status status' after after')
    (before : Streams) (status status' : ℕ) (after after' : Streams) where
  file_once : (a : DoesWithFile files path Does before.out before.err status after.out after.err) (b : DoesWithFile files path Does before.out before.err status' after'.out after'.err) → IsFileMetAlike files path Does IsMet before status status' after after' a b → IsOneAnswer before status status' after after'
  file_once (inl (file, (left, a))) (inl (file', (left', b))) (same, alike) =
      once (record before { input = opened files file }) status status' (record after { input = left }) (record after' { input = left' }) a (subst (λ (i : Input). Does (record before { input = i }) status' (record after' { input = left' })) same b) alike
  file_once (inl a) (inr b) alike = absurd alike
  file_once (inr a) (inl b) alike = absurd alike
  file_once (inr a) (inr b) alike =
      let one = fault_reported_once (cannot_open_line path) before.err after.err after'.err status status' alike.fails (a.2 alike.known) (b.2 alike.known) in
      (one.0, inl (b.1 ∙ sym a.1), one.1)

  once_on : (a : DoesOn files path Does before status after) (b : DoesOn files path Does before status' after') → IsMetAlikeOn files path Does IsMet before status status' after after' a b → IsOneAnswer before status status' after after'
  once_on a b (inl (is, alike)) = once before status status' after after' (a.0 is) (b.0 is) alike
  once_on a b (inr (is, alike)) = file_once (a.1 is) (b.1 is) alike

-- ---- a conversation

given_once : (old new new' : Option (List ℕ)) (bytes : List ℕ) → IsSome old → Appends old new bytes → Appends old new' bytes → new' ≡ new
given_once None new new' bytes known a b = cc
given_once (Some t) None new' bytes known a b = absurd a
given_once (Some t) (Some u) None bytes known a b = absurd b
given_once (Some t) (Some u) (Some v) bytes known a b = ap (λ z. Some z) (b ∙ sym a)

reported_once : (r : Result (Unit {0}) LoopFault) (err err' err'' : Output) (status status' : ℕ) → FailsAlike err err' err'' → Reports r err status err' → Reports r err status' err'' → (status' ≡ status) × IsOneOutput err err' err''
reported_once (Ok u) err err' err'' status status' alike a b = (b.0 ∙ sym a.0, inl (b.1 ∙ sym a.1))
reported_once (Err e) err err' err'' status status' alike a b = concludes_once (ending_of e) err err' err'' status status' alike a b

module _ (queries : ℕ) (out out' out'' : Output) (known : IsSome out.given) (fails : FailsAlike out out' out'') where
  printed_once : (before after before' after' : Wires) → before.out ≡ out → after.out ≡ out' → before'.out ≡ out → after'.out ≡ out'' → SaidTheSame before after before' after' → out'' ≡ out'
  printed_once before after before' after' from to from' to' said =
      let bytes = said.lines.0 in
      let a : Appends out.given out'.given bytes = subst (λ (o : Output). Appends o.given out'.given bytes) from (subst (λ (o : Output). Appends before.out.given o.given bytes) to said.lines.1) in
      let b : Appends out.given out''.given bytes = subst (λ (o : Output). Appends o.given out''.given bytes) from' (subst (λ (o : Output). Appends before'.out.given o.given bytes) to' said.lines.2) in
      same_output out' out'' (given_once out.given out'.given out''.given bytes known a b) fails.1

  talked_once : (r r' : Result (Unit {0}) LoopFault) (a : ConversesWithItself queries out r out') (b : ConversesWithItself queries out r' out'') → AreLoopsAlike queries r out out' r' out'' a b → IsLoopDecided queries r out out' a → IsLoopDecided queries r' out out'' b → (r' ≡ r) × (out'' ≡ out')
  talked_once r r' (inl a) (inl b) alike d d' = (b.0 ∙ sym a.0, b.1 ∙ sym a.1)
  talked_once r r' (inl a) (inr b) alike d d' = absurd alike
  talked_once r r' (inr a) (inl b) alike d d' = absurd alike
  talked_once r r' (inr (from, left, (w, v, talks, heard, at, rest, to))) (inr (from', left', (w', v', talks', heard', at', rest', to'))) alike d d' =
      let one = one_answer queries alike.to_client alike.to_server r r' w v w' v' (record { client = alike.client; server = alike.server; talks = talks }) (record { client = alike.client'; server = alike.server'; talks = talks' }) d d' in
      (one.0, printed_once w v w' v' at to at' to' one.1)

more_given : (old new new' : Option (List ℕ)) (bytes more : List ℕ) → IsSome old → Appends old new bytes → Appends old new' (bytes ++ more) → new' ≡ append_known new more
more_given None new new' bytes more known a b = cc
more_given (Some t) None new' bytes more known a b = absurd a
more_given (Some t) (Some u) None bytes more known a b = absurd b
more_given (Some t) (Some u) (Some v) bytes more known a b = ap (λ z. Some z) (b ∙ sym (append_assoc t bytes more) ∙ ap (λ z. z ++ more) (sym a))

-- what was printed in one conversation, and then perhaps more
more_printed : (out out' out'' : Output) (known : IsSome out.given) (same : out''.failures ≡ out'.failures) (before after before' after' : Wires) → before.out ≡ out → after.out ≡ out' → before'.out ≡ out → after'.out ≡ out'' → SaidMore before after before' after' → (more : List ℕ) × (out'' ≡ with_text out' more)
more_printed out out' out'' known same before after before' after' from to from' to' said =
    let bytes = said.lines.0 in
    let more = said.lines.1 in
    let a : Appends out.given out'.given bytes = subst (λ (o : Output). Appends o.given out'.given bytes) from (subst (λ (o : Output). Appends before.out.given o.given bytes) to said.lines.2) in
    let b : Appends out.given out''.given (bytes ++ more) = subst (λ (o : Output). Appends o.given out''.given (bytes ++ more)) from' (subst (λ (o : Output). Appends before'.out.given o.given (bytes ++ more)) to' said.lines.3) in
    (more, same_output (with_text out' more) out'' (more_given out.given out'.given out''.given bytes more known a b) same)

module _ (queries : ℕ) (out out' out'' : Output) (known : IsSome out.given) (same : out''.failures ≡ out'.failures) where
  goes_on : (r r' : Result (Unit {0}) LoopFault) (a : ConversesWithItself queries out r out') (b : ConversesWithItself queries out r' out'') → AreLoopsAlike queries r out out' r' out'' a b → GoesOnFromOther out' out''
  goes_on r r' (inl a) (inl b) alike = inl ([], b.1 ∙ sym a.1 ∙ nothing out')
  goes_on r r' (inl a) (inr b) alike = absurd alike
  goes_on r r' (inr a) (inl b) alike = absurd alike
  goes_on r r' (inr (from, left, (w, v, talks, heard, at, rest, to))) (inr (from', left', (w', v', talks', heard', at', rest', to'))) alike =
      elim (one_goes_on queries alike.to_client alike.to_server r r' w v w' v' (record { client = alike.client; server = alike.server; talks = talks }) (record { client = alike.client'; server = alike.server'; talks = talks' })) [
        | inl m ↦ inl (more_printed out out' out'' known same w v w' v' at to at' to' m)
        | inr m ↦ inr (more_printed out out'' out' known (sym same) w' v' w v at' to' at to m)
      ]

pub loop_goes_on : LoopGoesOn
loop_goes_on queries before status status' after after' a b met alike ends =
    let reports : Reports a.0 before.err status' after'.err = subst (λ (r : Result (Unit {0}) LoopFault). Reports r before.err status' after'.err) ends (b.2 met.error.known) in
    let reported = reported_once a.0 before.err after.err after'.err status status' met.error.fails (a.2 met.error.known) reports in
    (reported.0, goes_on queries before.out after.out after'.out met.known met.fails.1 a.0 b.0 a.1 b.1 alike, reported.1)

-- ---- a capture

module _ (before : Streams) (status status' : ℕ) (after after' : Streams) where
  split_once : (l : StreamsLimits) (folder ports : List ℕ) (known : AreKnown before) (a : SplitsCapture l folder ports before status after) (b : SplitsCapture l folder ports before status' after') → AreSplitAlike before status status' after after' l folder ports a b → IsOneAnswer before status status' after after'
  split_once l folder ports known (inl a) (inl b) alike =
      let one = fault_reported_once (cannot_open_line folder) before.err after.err after'.err status status' alike (a.2 known.err) (b.2 known.err) in
      (one.0, inl (b.1 ∙ sym a.1), one.1)
  split_once l folder ports known (inl a) (inr b) alike = absurd alike
  split_once l folder ports known (inr a) (inl b) alike = absurd alike
  split_once l folder ports known (inr a) (inr b) alike =
      let x = a known.bytes known.left known.out known.err in
      let y = b known.bytes known.left known.out known.err in
      let one = streams_once l ports known.bytes None before.out before.err after.input.left after'.input.left status status' None None after.out after'.out after.err after'.err (x.0, x.2) alike.0 (y.0, y.2) alike.1 in
      (one.0, inl one.2, inl one.3)

  capture_once : (by : Buffering) (l : CaptureLimits) (t : CaptureTask) (ports : List ℕ) (known : AreKnown before) (a : DoesCaptureTask by l t ports before status after) (b : DoesCaptureTask by l t ports before status' after') → IsCaptureMetAlike before status status' after after' by l t ports a b → IsOneAnswer before status status' after after'
  capture_once by l (capture_task.Streams folder) ports known a b alike = split_once (streams_limits_of by l) folder.now ports known a b alike
  capture_once by l (capture_task.Exchanges asked) ports known a b alike =
      let x = a known.bytes known.left known.out known.err in
      let y = b known.bytes known.left known.out known.err in
      let one = exchanges_once by by (streams_limits_of by l) (exchange_limits_of l) [] (filter_of asked) (form_of asked.form) ports known.bytes before.out before.err x.0 y.0 after.input.left after'.input.left status status' after.out after'.out after.err after'.err x.2 alike.0 y.2 alike.1 in
      (one.0, inl one.1, inl one.2)
  capture_once by l (capture_task.Events asked) ports known a b alike =
      let x = a known.bytes known.left known.out known.err in
      let y = b known.bytes known.left known.out known.err in
      let one = events_once (streams_limits_of by l) asked ports known.bytes before.out before.err x.0 y.0 after.input.left after'.input.left status status' after.out after'.out after.err after'.err x.2 alike.0 y.2 alike.1 in
      (one.0, inl one.1, inl one.2)
  capture_once by l (capture_task.Rows asked statements) ports known a b alike =
      let x = a known.bytes known.left known.out known.err in
      let y = b known.bytes known.left known.out known.err in
      let one = rows_once (streams_limits_of by l) [] asked ports known.bytes before.out before.err x.0 y.0 after.input.left after'.input.left status status' after.out after'.out after.err after'.err x.2 alike.0 y.2 alike.1 in
      (one.0, inl one.1, inl one.2)

-- ---- a fault of it

caused : (before after : Streams) (m : ReadsMade) → ReadsInput m before after → HasCause m before.out before.err after.out after.err → HasFault before after
caused before after m reads (inl failed) = inl (reads.1 ∙ ap (λ (b : Bool). counted b before.input.failures) failed)
caused before after m reads (inr x) = inr x

pub captures_caused : CaptureFaultsHaveCauses
captures_caused b l (capture_task.Streams folder) ports before after known does = tt
captures_caused b l (capture_task.Exchanges asked) ports before after known does =
    let x = does known.bytes known.left known.out known.err in
    caused before after x.0 x.1 (exchanges_causes b (streams_limits_of b l) (exchange_limits_of l) [] (filter_of asked) (form_of asked.form) ports known.bytes x.0 after.input.left before.out before.err after.out after.err x.2)
captures_caused b l (capture_task.Events asked) ports before after known does =
    let x = does known.bytes known.left known.out known.err in
    caused before after x.0 x.1 (events_causes (streams_limits_of b l) asked ports known.bytes x.0 after.input.left before.out before.err after.out after.err x.2)
captures_caused b l (capture_task.Rows asked statements) ports before after known does =
    let x = does known.bytes known.left known.out known.err in
    caused before after x.0 x.1 (rows_causes (streams_limits_of b l) [] asked ports known.bytes x.0 after.input.left before.out before.err after.out after.err x.2)

-- ---- a command line

module _ {F : Type 0} (files : Ghosts F) (before : Streams) (status status' : ℕ) (after after' : Streams) where
  line_once : (l : Result CommandLine NoTask) (a : Executes files l before status after) (b : Executes files l before status' after') → AreMetAlike files before status status' after after' l a b → IsOneAnswer before status status' after after'
  line_once (Ok (line.Stream options)) a b alike =
      once_on files options.file.now (DoesTask options.task (rules_for options)) (IsStreamMetAlike options.task (rules_for options))
      (λ x s s' y y' d d' m. task_once (rules_for options) x s s' y y' options.task m.0 d d' m.1) before status status' after after' a b alike
  line_once (Ok (line.Loop queries)) a b alike =
      let met = alike.outputs in
      let one = talked_once queries before.out after.out after'.out met.known met.fails a.0 b.0 a.1 b.1 alike.alike alike.decided alike.decided' in
      let reports : Reports a.0 before.err status' after'.err = subst (λ (r : Result (Unit {0}) LoopFault). Reports r before.err status' after'.err) one.0 (b.2 met.error.known) in
      let reported = reported_once a.0 before.err after.err after'.err status status' met.error.fails (a.2 met.error.known) reports in
      (reported.0, inl one.1, reported.1)
  line_once (Ok (line.Capture options)) a b alike = capture_once before status status' after after' buffering.Line options.limits options.task (named options.ports) alike.1 (a alike.0) (b alike.0) alike.2
  line_once (Ok (line.Merge options)) a b alike = absurd alike
  line_once (Err (no_task.Help text)) a b alike = helped_once before status status' after after' (string_bytes text) alike.fails alike.error.fails (a alike.known alike.error.known) (b alike.known alike.error.known)
  line_once (Err (no_task.Mistake text)) a b alike =
      let one = complained_once (string_bytes text) before.err after.err after'.err status status' alike.fails (a alike.known).1 (b alike.known).1 in
      (one.0, inl ((b alike.known).0 ∙ sym (a alike.known).0), one.1)
  line_once (Err no_task.NoMemory) a b alike =
      let one = concludes_once ending.NoMemory before.err after.err after'.err status status' alike.fails (a alike.known).1 (b alike.known).1 in
      (one.0, inl ((b alike.known).0 ∙ sym (a alike.known).0), one.1)

pub executed_once : {F : Type 0} (files : Ghosts F) → IsExecutedOnce files
executed_once files l before status status' after after' a b alike = line_once files before status status' after after' l a b alike
