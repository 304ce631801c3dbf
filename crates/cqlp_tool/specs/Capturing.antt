-- What the program does with a capture.
use Rattle.std.specs.Prelude.{◌≡◌, ℕ, ◌*◌, Bool, true, false, List, [], Option, None, IsSome, ◌⊎◌, codes, option_map}
use Rattle.std.specs.Borrow.{Bor}
use Rattle.cqlp_options.specs.declared.capture.AskedLines.{AskedLines}
use Rattle.cqlp_options.specs.declared.capture.CaptureOptions.{CaptureOptions}
use Rattle.cqlp_options.specs.declared.capture.CaptureTask.{CaptureTask}
use Rattle.cqlp_options.specs.declared.capture.CaptureTask.TheVariants as task
use Rattle.cqlp_options.specs.declared.capture.ExchangeOptions.{ExchangeOptions}
use Rattle.cqlp_options.specs.declared.capture.ExchangesAs.{ExchangesAs}
use Rattle.cqlp_options.specs.declared.capture.ExchangesAs.TheVariants as asked_as
use Rattle.cqlp_options.specs.declared.capture.SummaryBy as options
use Rattle.cqlp_options.specs.declared.capture.SummaryBy.TheVariants as asked_by
use Rattle.cqlp_options.specs.declared.end.AskedEnd.{AskedEnd}
use Rattle.cqlp_options.specs.declared.kind.AskedKind.{AskedKind}
use Rattle.cqlp_options.specs.declared.kind.AskedKind.TheVariants as asked_kind
use Rattle.cqlp_options.specs.declared.time.AskedTime.{AskedTime}
use Rattle.cqlp_options.specs.declared.time.AskedTime.TheVariants as asked_time
use Rattle.cqlp_options.specs.declared.limits.CaptureLimits.{CaptureLimits}
use Rattle.cqlp_text.specs.Endings.{cannot_open_line}
use Rattle.cqlp_render.specs.Streams.{Input, Streams, IfKnown}
use Rattle.cqlp_capture_streams.specs.declared.limits.StreamsLimits.{StreamsLimits}
use Rattle.cqlp_capture_streams.specs.Captures.{AreCounted, ReadCounts, ReadsMade}
use Rattle.cqlp_capture_streams.specs.Streams.{WritesStreamsBy}
use Rattle.cqlp_capture_streams.specs.declared.buffering.Buffering.{Buffering}
use Rattle.cqlp_statement_file.specs.Texts.{Texts}
use Rattle.cqlp_statement_types.specs.Types.{Given}
use Rattle.cqlp_capture_exchanges.specs.declared.filter.EndFilter.{EndFilter}
use Rattle.cqlp_capture_exchanges.specs.declared.filter.Moment.{Moment}
use Rattle.cqlp_capture_exchanges.specs.declared.filter.Moment.TheVariants as moment
use Rattle.cqlp_capture_exchanges.specs.declared.filter.ExchangeFilter.{ExchangeFilter}
use Rattle.cqlp_capture_exchanges.specs.declared.filter.ReplyKind.{ReplyKind}
use Rattle.cqlp_capture_exchanges.specs.declared.filter.ReplyKind.TheVariants as reply_kind
use Rattle.cqlp_capture_exchanges.specs.declared.form.ExchangeForm.{ExchangeForm}
use Rattle.cqlp_capture_exchanges.specs.declared.form.ExchangeForm.TheVariants as form
use Rattle.cqlp_capture_exchanges.specs.declared.form.IntervalsAs.{IntervalsAs}
use Rattle.cqlp_capture_exchanges.specs.declared.form.IntervalsAs.TheVariants as intervals
use Rattle.cqlp_capture_exchanges.specs.declared.form.ValuesShown.{ValuesShown}
use Rattle.cqlp_capture_exchanges.specs.declared.form.ValuesShown.TheVariants as shown
use Rattle.cqlp_capture_exchanges.specs.declared.form.LineStyle.{LineStyle}
use Rattle.cqlp_capture_exchanges.specs.declared.naming.Naming.TheVariants as naming
use Rattle.cqlp_capture_exchanges.specs.declared.pool.ExchangeLimits.{ExchangeLimits}
use Rattle.cqlp_capture_exchanges.specs.declared.summary_by.Attribute.TheVariants as attribute
use Rattle.cqlp_capture_exchanges.specs.declared.summary_by.SummaryBy.{SummaryBy}
use Rattle.cqlp_capture_exchanges.specs.declared.summary_by.SummaryBy.TheVariants as by
use Rattle.cqlp_capture_exchanges.specs.Capturing.{WritesExchanges}
use Rattle.cqlp_capture_exchanges.specs.Parts.{part_of}
use Rattle.cqlp_capture_events.specs.Capturing.{WritesEvents}
use Rattle.cqlp_capture_rows.specs.Capturing.{WritesRows}
use Rattle.cqlp_tool.specs.Faults.{ReportsFault}
use Rattle.cqlp_tool.specs.Limits.{exchange_limits_of, streams_limits_of}

-- the file with statements that a task asks for
abbrev pub statements_of : CaptureTask → Option (Bor (List ℕ))
statements_of (task.Exchanges asked) = asked.statements
statements_of (task.Rows connection statements) = statements
statements_of t = None

-- the capture is the input, and no file, and there is none with statements
abbrev pub IsCaptureOfInput : CaptureOptions → Type 0
IsCaptureOfInput options = (options.file.now ≡ codes "-") × (options.follow ≡ false) × (statements_of options.task ≡ None)

abbrev pub counts_of : Input → ReadCounts
counts_of i = record { reads = i.reads; failures = i.failures; asked = i.asked }

-- So many reads were made of the input.
abbrev pub ReadsInput : ReadsMade → (before after : Streams) → Type 0
ReadsInput m before after = AreCounted m (counts_of before.input) (counts_of after.input)

-- The streams of the input's connections were written to a folder, of whose files nothing is known; the lines went to the output, and how
-- it ended was reported with its status, after so many reads.
abbrev pub SplitsToFolder : StreamsLimits → (ports : List ℕ) → (before : Streams) → (status : ℕ) → (after : Streams) → Type 0
SplitsToFolder l ports before status after =
    IfKnown before.input before.out (λ xs. IsSome before.err.given →
    (m : ReadsMade) × ReadsInput m before after
    × WritesStreamsBy m l ports xs after.input.left None before.out before.err status None after.out after.err)

-- There is no such folder: nothing was read and nothing printed, and this was reported.
abbrev pub MissesFolder : (folder : List ℕ) → (before : Streams) → (status : ℕ) → (after : Streams) → Type 0
MissesFolder folder before status after =
    (after.input ≡ before.input) × (after.out ≡ before.out)
    × (IsSome before.err.given → ReportsFault (cannot_open_line folder) before.err status after.err)

-- The streams of the input's connections were written to a folder, if there is one with this path.
abbrev pub SplitsCapture : StreamsLimits → (folder ports : List ℕ) → (before : Streams) → (status : ℕ) → (after : Streams) → Type 0
SplitsCapture l folder ports before status after =
    MissesFolder folder before status after ⊎ SplitsToFolder l ports before status after

-- an end that is asked for
abbrev pub end_filter_of : AskedEnd → EndFilter
end_filter_of e = record { address = e.address; port = e.port }

-- a time that is asked for
abbrev pub moment_of : AskedTime → Moment
moment_of (asked_time.After n) = moment.After n
moment_of (asked_time.At n) = moment.At n

-- a kind of reply that is asked for
abbrev pub reply_kind_of : AskedKind → ReplyKind
reply_kind_of (asked_kind.Result kind) = reply_kind.Result kind
reply_kind_of (asked_kind.Error code) = reply_kind.Error code
reply_kind_of (asked_kind.Response o) = reply_kind.Response o

-- what is asked of exchanges, with the time in nanoseconds
abbrev pub filter_of : ExchangeOptions → ExchangeFilter
filter_of asked =
    record {
      slow = option_map (λ ms. ms * 1000000) asked.slow;
      errors = asked.errors;
      opcode = asked.opcode;
      kind = option_map reply_kind_of asked.kind;
      client = option_map end_filter_of asked.client;
      node = option_map end_filter_of asked.node;
      since = option_map moment_of asked.since;
      until = option_map moment_of asked.until;
      statement = option_map (λ text. part_of text.now) asked.statement;
      pattern = asked.pattern;
      connection = asked.connection;
    }

-- what a summary is by
abbrev pub summary_by : options.SummaryBy → SummaryBy
summary_by (asked_by.Statement false) = by.Statement naming.Fingerprint
summary_by (asked_by.Statement true) = by.Statement naming.Literal
summary_by asked_by.Table = by.Table
summary_by asked_by.Client = by.Attribute attribute.Client
summary_by asked_by.Node = by.Attribute attribute.Node
summary_by asked_by.Opcode = by.Attribute attribute.Opcode
summary_by asked_by.Error = by.Attribute attribute.Error

-- whether the values are written
abbrev pub values_shown : (asked : Bool) → ValuesShown
values_shown true = shown.Yes
values_shown false = shown.No

-- what lines have
abbrev pub style_of : AskedLines → (values : Bool) → LineStyle
style_of asked values = record { is_utc = asked.utc; has_ends = asked.ends; values = values_shown values }

-- how intervals are written
abbrev pub intervals_as : (is_json : Bool) → IntervalsAs
intervals_as true = intervals.Json
intervals_as false = intervals.Lines

-- and how they are written
abbrev pub form_of : ExchangesAs → ExchangeForm
form_of (asked_as.Lines lines values) = form.Lines (style_of lines values)
form_of (asked_as.Json values) = form.Json (values_shown values)
form_of asked_as.Csv = form.Csv
form_of (asked_as.Summary b) = form.Summary (summary_by b)
form_of (asked_as.SummaryJson b) = form.SummaryJson (summary_by b)
form_of (asked_as.Intervals seconds is_json) = form.Intervals seconds (intervals_as is_json)
form_of asked_as.Histogram = form.Histogram

-- The input's exchanges that were asked for went to the output, with these texts of statements, and how it ended was reported with its status, after so
-- many reads.
abbrev pub PrintsExchanges : (given : Texts) → Buffering → StreamsLimits → ExchangeLimits → ExchangeOptions → (ports : List ℕ) → (before : Streams) → (status : ℕ) → (after : Streams) → Type 0
PrintsExchanges given b l most asked ports before status after =
    IfKnown before.input before.out (λ xs. IsSome before.err.given →
    (m : ReadsMade) × ReadsInput m before after
    × WritesExchanges b l most given (filter_of asked) (form_of asked.form) ports xs m after.input.left before.out before.err status after.out after.err)

-- The lines of the input's frames went to the output, those of one connection if one is asked for, and how it ended was reported with its
-- status, after so many reads.
abbrev pub PrintsEvents : StreamsLimits → (asked : Option ℕ) → (ports : List ℕ) → (before : Streams) → (status : ℕ) → (after : Streams) → Type 0
PrintsEvents l asked ports before status after =
    IfKnown before.input before.out (λ xs. IsSome before.err.given →
    (m : ReadsMade) × ReadsInput m before after
    × WritesEvents l asked ports xs m after.input.left before.out before.err status after.out after.err)

-- The pages of the input's connection with this number went to the output, with these types of statements, and how it ended was reported with its
-- status, after so many reads.
abbrev pub PrintsRows : (given : Given) → StreamsLimits → (asked : ℕ) → (ports : List ℕ) → (before : Streams) → (status : ℕ) → (after : Streams) → Type 0
PrintsRows given l asked ports before status after =
    IfKnown before.input before.out (λ xs. IsSome before.err.given →
    (m : ReadsMade) × ReadsInput m before after
    × WritesRows l given asked ports xs m after.input.left before.out before.err status after.out after.err)

-- What a task does with a capture, the input, of nodes that listen on these ports, within these limits, where these texts and types of statements were
-- given. The lines of exchanges are written at once, or in blocks.
abbrev pub DoesCaptureTaskKnowing : (texts : Texts) → (types : Given) → Buffering → CaptureLimits → CaptureTask → (ports : List ℕ)
    → (before : Streams) → (status : ℕ) → (after : Streams) → Type 0
DoesCaptureTaskKnowing texts types b l (task.Streams folder) ports before status after =
    SplitsCapture (streams_limits_of b l) folder.now ports before status after
DoesCaptureTaskKnowing texts types b l (task.Exchanges asked) ports before status after =
    PrintsExchanges texts b (streams_limits_of b l) (exchange_limits_of l) asked ports before status after
DoesCaptureTaskKnowing texts types b l (task.Events asked) ports before status after = PrintsEvents (streams_limits_of b l) asked ports before status after
DoesCaptureTaskKnowing texts types b l (task.Rows asked statements) ports before status after =
    PrintsRows types (streams_limits_of b l) asked ports before status after

-- where none were
abbrev pub DoesCaptureTask : Buffering → CaptureLimits → CaptureTask → (ports : List ℕ) → (before : Streams) → (status : ℕ) → (after : Streams) → Type 0
DoesCaptureTask = DoesCaptureTaskKnowing [] []
