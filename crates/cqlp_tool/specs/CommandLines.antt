-- What a command line does, and what is written where it starts no task.
use Rattle.std.specs.Prelude.{◌≡◌, ◌≢◌, ◌≤◌, true, false, ℕ, List, [], Result, Ok, Err, IsSome, ◌⊎◌, codes, string_bytes}
use Rattle.std.specs.declared.io.traits.Read.{Ghosts}
use Rattle.cqlp_note.specs.declared.limits.Limits.{Limits}
use Rattle.cqlp_note.specs.Limits.{Rules, rules_of, with_lenient}
use Rattle.cqlp_options.specs.declared.command_line.CommandLine.{CommandLine}
use Rattle.cqlp_options.specs.declared.command_line.CommandLine.TheVariants as line
use Rattle.cqlp_options.specs.declared.no_task.NoTask.{NoTask}
use Rattle.cqlp_options.specs.declared.no_task.NoTask.TheVariants as no_task
use Rattle.cqlp_options.specs.declared.options.AtRefusal.{AtRefusal}
use Rattle.cqlp_options.specs.declared.options.AtRefusal.TheVariants as at
use Rattle.cqlp_options.specs.declared.options.EventsAs.{EventsAs}
use Rattle.cqlp_options.specs.declared.options.EventsAs.TheVariants as events_as
use Rattle.cqlp_options.specs.declared.options.Options.{Options}
use Rattle.cqlp_options.specs.declared.options.RowsAs.{RowsAs}
use Rattle.cqlp_options.specs.declared.options.RowsAs.TheVariants as rows_as
use Rattle.cqlp_options.specs.declared.options.Task.{Task}
use Rattle.cqlp_options.specs.declared.options.Task.TheVariants as task
use Rattle.cqlp_text.specs.declared.ending.Ending.TheVariants as ending
use Rattle.cqlp_text.specs.Outputs.{Output, with_text, StopsWithin}
use Rattle.cqlp_text.specs.PageText.{no_page}
use Rattle.cqlp_row_text.specs.Places.{no_table}
use Rattle.cqlp_render.specs.declared.text_form.TextForm.{TextForm}
use Rattle.cqlp_render.specs.declared.text_form.TextForm.TheVariants as forms
use Rattle.cqlp_render.specs.Showing.{ChecksAndReports, Concludes, ShowsAndReports}
use Rattle.cqlp_render.specs.Streams.{Streams}
use Rattle.cqlp_render_skip.specs.Showing as skipping
pub use Rattle.cqlp_tool.specs.Faults.{ReportsFault}
use Rattle.cqlp_options.specs.Ports.{named}
use Rattle.cqlp_capture_streams.specs.declared.buffering.Buffering.TheVariants as buffering
use Rattle.cqlp_tool.specs.Capturing.{DoesCaptureTask, IsCaptureOfInput}
use Rattle.cqlp_tool.specs.Files.{DoesOn}
use Rattle.cqlp_tool.specs.Conversing.{ConversesAndReports}

-- the limits where none are given
abbrev pub default_limits : Limits
default_limits = record { text = 1048576; cell = 1048576; entries = 4096; depth = 16; types = true; parts = false }

-- how many reads the program makes at most: 2 to the power of 32
abbrev pub turns : ℕ
turns = 4294967296

-- Help was written to the output, with the status of what is done; or the output failed, and the fault line reports
-- that.
abbrev pub Helps : (text : List ℕ) → (out err : Output) → (status : ℕ) → (out' err' : Output) → Type 0
Helps text out err status out' err' =
    ((status ≡ 0) × (out' ≡ with_text out text) × (err' ≡ err))
    ⊎ (StopsWithin out text out' × Concludes ending.WriteFault err status err')

-- What is wrong was written, with the status of that; or the target failed.
abbrev pub Complains : (text : List ℕ) → (before : Output) → (status : ℕ) → (after : Output) → Type 0
Complains text before status after =
    ((status ≡ 2) × (after ≡ with_text before text)) ⊎ ((status ≡ 3) × StopsWithin before text after)

-- The fault line of no memory was written, and nothing else.
abbrev pub ReportsNoMemory : (out err : Output) → (status : ℕ) → (out' err' : Output) → Type 0
ReportsNoMemory out err status out' err' = (out' ≡ out) × Concludes ending.NoMemory err status err'

-- Nothing was written to the output, and what is wrong to the other one.
abbrev pub ReportsMistake : (text : List ℕ) → (out err : Output) → (status : ℕ) → (out' err' : Output) → Type 0
ReportsMistake text out err status out' err' = (out' ≡ out) × Complains text err status err'

-- What the status of a bad command line says: nothing was written to the output, and some text to the other one.
abbrev pub ReportsWrong : (out err out' err' : Output) → Type 0
ReportsWrong out err out' err' = (out' ≡ out) × ((text : List ℕ) × (err' ≡ with_text err text))

-- What is written where the words start no task, by which of these it is.
abbrev pub PrintsNoTask : NoTask → (out err : Output) → (status : ℕ) → (out' err' : Output) → Type 0
PrintsNoTask (no_task.Help text) out err status out' err' =
    IsSome out.given → IsSome err.given → Helps (string_bytes text) out err status out' err'
PrintsNoTask (no_task.Mistake text) out err status out' err' =
    IsSome err.given → ReportsMistake (string_bytes text) out err status out' err'
PrintsNoTask no_task.NoMemory out err status out' err' = IsSome err.given → ReportsNoMemory out err status out' err'

-- the form of the text of events, and of that of rows before the first page
abbrev pub form_of_events : EventsAs → TextForm
form_of_events events_as.Lines = forms.Lines
form_of_events events_as.Json = forms.JsonLines

abbrev pub form_of_rows : RowsAs → TextForm
form_of_rows rows_as.Text = forms.Pages no_page
form_of_rows rows_as.Json = forms.JsonRows no_table
form_of_rows rows_as.Csv = forms.CsvRows no_table

-- the text in a form, with frames passed over or not
abbrev pub Shows : TextForm → AtRefusal → Rules → (before : Streams) → (status : ℕ) → (after : Streams) → Type 0
Shows form at.End limits before status after = ShowsAndReports form limits turns before status after
Shows form at.Skip limits before status after = skipping.ShowsAndReports form limits turns before status after

-- the limits of a task, and whether it reads leniently
abbrev pub rules_for : Options → Rules
rules_for options = with_lenient options.lenient (rules_of options.limits)

-- What a task does with the input, by these rules.
abbrev pub DoesTask : Task → Rules → (before : Streams) → (status : ℕ) → (after : Streams) → Type 0
DoesTask (task.Show form r) limits before status after = Shows (form_of_events form) r limits before status after
DoesTask (task.Rows form r) limits before status after = Shows (form_of_rows form) r limits before status after
DoesTask (task.Check at.End) limits before status after = ChecksAndReports limits turns before status after
DoesTask (task.Check at.Skip) limits before status after = skipping.ChecksAndReports limits turns before status after

-- What a command line does: a task with a stream, which is the input or a file, or with a capture that is the input, or a
-- conversation.
abbrev pub Executes : {F : Type 0} → Ghosts F → Result CommandLine NoTask
    → (before : Streams) → (status : ℕ) → (after : Streams) → Type 0
Executes files (Ok (line.Stream options)) before status after =
    DoesOn files options.file.now (DoesTask options.task (rules_for options)) before status after
Executes files (Ok (line.Loop queries)) before status after =
    ConversesAndReports queries before.out before.err status after.out after.err
Executes files (Ok (line.Capture options)) before status after =
    IsCaptureOfInput options → DoesCaptureTask buffering.Line options.limits options.task (named options.ports) before status after
Executes files (Ok (line.Merge options)) before status after = Unit
Executes files (Err reason) before status after =
    PrintsNoTask reason before.out before.err status after.out after.err

-- It is no task with the input.
abbrev pub NeedsNoInput : Result CommandLine NoTask → Type 0
NeedsNoInput (Ok (line.Stream options)) = options.file.now ≢ codes "-"
NeedsNoInput (Ok (line.Loop queries)) = Unit
NeedsNoInput (Ok (line.Capture options)) = options.file.now ≢ codes "-"
NeedsNoInput (Ok (line.Merge options)) = options.file.now ≢ codes "-"
NeedsNoInput (Err reason) = Unit

-- It is no task with a capture in a file.
abbrev pub ReadsNoCapture : Result CommandLine NoTask → Type 0
ReadsNoCapture (Ok (line.Stream options)) = Unit
ReadsNoCapture (Ok (line.Loop queries)) = Unit
ReadsNoCapture (Ok (line.Capture options)) = options.file.now ≡ codes "-"
ReadsNoCapture (Ok (line.Merge options)) = Unit
ReadsNoCapture (Err reason) = Unit

-- What a command line of these words does: without words it shows the input, and no status is greater than that of
-- a fault.
abbrev pub Performs : {W : Type 0} → List W
    → (before : Streams) → (status : ℕ) → (after : Streams) → Type 0
Performs words before status after =
    (words ≡ [] → ShowsAndReports forms.Lines (rules_of default_limits) turns before status after)
    × (status ≤ 3)
    × (status ≡ 2 → IsSome before.out.given → IsSome before.err.given
    → ReportsWrong before.out before.err after.out after.err)
