-- What a command line asks for, by its words. `rows` are what the parser found at the names of a task's options.
use Rattle.std.specs.Prelude.{◌≡◌, ℕ, ◌^◌, ◌<◌, Bool, true, false, not, List, Option, Some, None, IfSome, IsSomeAnd, codes, is_some, option_map, unwrap_or}
use Rattle.std.specs.Borrow.{Bor}
use Rattle.std.specs.Str.Parse.{IsNumeral, digits_value, without_leading_plus}
use Rattle.clap.specs.Words.{Row, Text, all_of, first_of, one_of, subcommand_of}
use Rattle.cqlp_note.specs.declared.opcode.Opcode.{Opcode}
use Rattle.cqlp_text.specs.Names.{opcode_name}
use Rattle.cqlp_pattern.specs.declared.pattern.Pattern.{Pattern}
use Rattle.cqlp_options.specs.CaptureFiles.{all_files, summary_files}
use Rattle.cqlp_options.specs.Ends.{NamesEnd}
use Rattle.cqlp_options.specs.Kinds.{kind_name}
use Rattle.cqlp_options.specs.Program.{program}
use Rattle.cqlp_options.specs.Seconds.{nanoseconds_of}
use Rattle.cqlp_options.specs.declared.capture.AskedLines.{AskedLines}
use Rattle.cqlp_options.specs.declared.capture.CaptureOptions.{CaptureOptions}
use Rattle.cqlp_options.specs.declared.capture.CaptureTask.{CaptureTask}
use Rattle.cqlp_options.specs.declared.capture.CaptureTask.TheVariants as capture
use Rattle.cqlp_options.specs.declared.capture.ExchangeOptions.{ExchangeOptions}
use Rattle.cqlp_options.specs.declared.capture.ExchangesAs.{ExchangesAs}
use Rattle.cqlp_options.specs.declared.capture.ExchangesAs.TheVariants as exchanges_as
use Rattle.cqlp_options.specs.declared.capture.SummaryBy.{SummaryBy}
use Rattle.cqlp_options.specs.declared.capture.SummaryBy.TheVariants as by
use Rattle.cqlp_options.specs.declared.command_line.CommandLine.{CommandLine}
use Rattle.cqlp_options.specs.declared.command_line.CommandLine.TheVariants as line
use Rattle.cqlp_options.specs.declared.end.AskedEnd.{AskedEnd}
use Rattle.cqlp_options.specs.declared.kind.AskedKind.{AskedKind}
use Rattle.cqlp_options.specs.declared.time.AskedTime.{AskedTime}
use Rattle.cqlp_options.specs.declared.time.AskedTime.TheVariants as asked_time
use Rattle.cqlp_options.specs.Calendar.{IsTimeAt}
use Rattle.cqlp_options.specs.declared.limits.CaptureLimits.{CaptureLimits}
use Rattle.cqlp_options.specs.declared.merge.MergeOptions.{MergeOptions}
use Rattle.cqlp_options.specs.declared.merge.SumAs.{SumAs}
use Rattle.cqlp_options.specs.declared.merge.SumAs.TheVariants as sum_as
use Rattle.cqlp_options.specs.declared.options.AtRefusal.{AtRefusal}
use Rattle.cqlp_options.specs.declared.options.AtRefusal.TheVariants as at
use Rattle.cqlp_options.specs.declared.options.EventsAs.{EventsAs}
use Rattle.cqlp_options.specs.declared.options.EventsAs.TheVariants as events_as
use Rattle.cqlp_options.specs.declared.options.Options.{Options}
use Rattle.cqlp_options.specs.declared.options.RowsAs.{RowsAs}
use Rattle.cqlp_options.specs.declared.options.RowsAs.TheVariants as rows_as
use Rattle.cqlp_options.specs.declared.options.Task.{Task}
use Rattle.cqlp_options.specs.declared.options.Task.TheVariants as task

-- ---- one option

-- an option that is alone is set where it is given, and not where it is left out
pub record IsFlag (option : Text) (rows : List Row) (set : Bool) : Type 0 where
  pub given : one_of option rows ≡ Some (codes "true") → set ≡ true
  pub left_out : one_of option rows ≡ Some (codes "false") → set ≡ false
  pub unknown : one_of option rows ≡ None → set ≡ false

-- the text is a number of so many bits
abbrev pub Writes : (bits : ℕ) → Text → ℕ → Type 0
Writes bits text n =
    IsNumeral 10 (without_leading_plus text) × (n ≡ digits_value 10 (without_leading_plus text)) × (n < 2 ^ bits)

-- the number that a text is, where there is a text and it is a number
abbrev pub ReadsNumber : (bits : ℕ) → Option Text → Option ℕ → Type 0
ReadsNumber bits found (Some n) = IsSomeAnd found (λ text. Writes bits text n)
ReadsNumber bits found None = IfSome found (λ text. (n : ℕ) → Writes bits text n → ⊥)

-- the number of an option, where it has one
abbrev pub IsNumber : (bits : ℕ) → (option : Text) → List Row → Option ℕ → Type 0
IsNumber bits option rows = ReadsNumber bits (one_of option rows)

-- a limit is the number that is given, and else its default
abbrev pub IsLimit : (option : Text) → (default : ℕ) → List Row → ℕ → Type 0
IsLimit option default rows n = (given : Option ℕ) × IsNumber 32 option rows given × (n ≡ unwrap_or given default)

-- the opcode that has the name that is given
abbrev pub IsOpcode : (option : Text) → List Row → Option Opcode → Type 0
IsOpcode option rows opcode = option_map opcode_name opcode ≡ first_of option rows

-- the kind of reply that is named, if one is
abbrev pub IsKind : (option : Text) → List Row → Option AskedKind → Type 0
IsKind option rows None = first_of option rows ≡ None
IsKind option rows (Some k) = IsSomeAnd (first_of option rows) (λ text. kind_name k ≡ Some text)

-- the end that is named, if one is
abbrev pub IsEnd : (option : Text) → List Row → Option AskedEnd → Type 0
IsEnd option rows None = first_of option rows ≡ None
IsEnd option rows (Some e) = IsSomeAnd (first_of option rows) (λ text. NamesEnd text e)

-- the nanoseconds in a time that is given in seconds, or as a time of the calendar
abbrev pub IsTimeOf : List ℕ → AskedTime → Type 0
IsTimeOf text (asked_time.After n) = nanoseconds_of text ≡ Some n
IsTimeOf text (asked_time.At n) = IsTimeAt text n

-- the time that is given, if one is
abbrev pub IsTime : (option : Text) → List Row → Option AskedTime → Type 0
IsTime option rows None = first_of option rows ≡ None
IsTime option rows (Some t) = IsSomeAnd (first_of option rows) (λ text. IsTimeOf text t)

-- the text that is given
abbrev pub IsText : (option : Text) → List Row → Option (Bor Text) → Type 0
IsText option rows text = option_map (λ t. t.now) text ≡ first_of option rows

-- a pattern, where a text is given
abbrev pub IsPattern : (option : Text) → List Row → Option Pattern → Type 0
IsPattern option rows pattern = is_some pattern ≡ is_some (first_of option rows)

-- a path
abbrev pub IsPath : (option : Text) → List Row → Text → Type 0
IsPath option rows path = first_of option rows ≡ Some path

-- all texts that are given, in order
abbrev pub AreTexts : (option : Text) → List Row → List Text → Type 0
AreTexts option rows texts = all_of option rows ≡ Some texts

-- ---- a task with a stream

abbrev pub skips : AtRefusal → Bool
skips at.End = false
skips at.Skip = true

abbrev pub is_json : EventsAs → Bool
is_json events_as.Lines = false
is_json events_as.Json = true

-- where both are asked for it is JSON
abbrev pub IsRowsForm : List Row → RowsAs → Type 0
IsRowsForm rows rows_as.Json = IsFlag (codes "json") rows true
IsRowsForm rows rows_as.Csv = IsFlag (codes "json") rows false × IsFlag (codes "csv") rows true
IsRowsForm rows rows_as.Text = IsFlag (codes "json") rows false × IsFlag (codes "csv") rows false

abbrev pub IsTask : (name : Text) → List Row → Task → Type 0
IsTask name rows (task.Show form at_refusal) =
    (name ≡ codes "show") × IsFlag (codes "json") rows (is_json form) × IsFlag (codes "skip") rows (skips at_refusal)
IsTask name rows (task.Rows form at_refusal) =
    (name ≡ codes "rows") × IsRowsForm rows form × IsFlag (codes "skip") rows (skips at_refusal)
IsTask name rows (task.Check at_refusal) = (name ≡ codes "check") × IsFlag (codes "skip") rows (skips at_refusal)

-- each option, the field that it sets, and what that is where no word gives it
pub record AreOptions (name : Text) (rows : List Row) (options : Options) : Type 0 where
  pub task : IsTask name rows options.task
  pub text : IsLimit (codes "text") 1048576 rows options.limits.text
  pub cell : IsLimit (codes "cell") 1048576 rows options.limits.cell
  pub entries : IsLimit (codes "entries") 4096 rows options.limits.entries
  pub depth : IsLimit (codes "depth") 16 rows options.limits.depth
  pub raw : IsFlag (codes "raw") rows (not options.limits.types)
  pub parts : IsFlag (codes "parts") rows options.limits.parts
  pub lenient : IsFlag (codes "lenient") rows options.lenient
  pub file : IsPath (codes "file") rows options.file.now

-- ---- a task with a capture

-- the word that says what a summary is by
abbrev pub by_word : List Row → Text
by_word rows = unwrap_or (first_of (codes "by") rows) (codes "statement")

abbrev pub by_name : SummaryBy → Text
by_name (by.Statement literal) = codes "statement"
by_name by.Table = codes "table"
by_name by.Client = codes "client"
by_name by.Node = codes "node"
by_name by.Opcode = codes "opcode"
by_name by.Error = codes "error"

abbrev pub is_literal : SummaryBy → Bool
is_literal (by.Statement literal) = literal
is_literal b = false

-- Literals count for themselves in a summary by statements alone.
abbrev pub IsSummaryBy : List Row → SummaryBy → Type 0
IsSummaryBy rows b = (by_word rows ≡ by_name b) × IsFlag (codes "literal") rows (is_literal b)

-- a summary by a word, and not by intervals or ranges of time
abbrev pub IsSummary : (is_json : Bool) → List Row → SummaryBy → Type 0
IsSummary is_json rows b =
    IsFlag (codes "summary") rows true × IsFlag (codes "histogram") rows false × IsNumber 32 (codes "every") rows None
    × IsFlag (codes "json") rows is_json × IsSummaryBy rows b

-- what lines are to have
pub record AreLines (rows : List Row) (lines : AskedLines) : Type 0 where
  pub utc : IsFlag (codes "utc") rows lines.utc
  pub ends : IsFlag (codes "ends") rows lines.ends

abbrev pub plain : AskedLines
plain = record { utc = false; ends = false }

-- a histogram of all requests, beside nothing that counts otherwise
pub record IsHistogramAlone (is_json : Bool) (rows : List Row) : Type 0 where
  pub no_json : is_json ≡ false
  pub no_word : first_of (codes "by") rows ≡ None
  pub no_interval : IsNumber 32 (codes "every") rows None
  pub no_literals : IsFlag (codes "literal") rows false

-- each request, as a line, as JSON or as CSV, or a summary of them; what lines are to have is asked of them alone
abbrev pub IsExchangesForm : List Row → ExchangesAs → Type 0
IsExchangesForm rows (exchanges_as.Lines lines values) =
    IsFlag (codes "summary") rows false × IsFlag (codes "json") rows false × IsFlag (codes "csv") rows false × AreLines rows lines
    × IsFlag (codes "values") rows values
IsExchangesForm rows (exchanges_as.Json values) =
    IsFlag (codes "summary") rows false × IsFlag (codes "json") rows true × AreLines rows plain × IsFlag (codes "values") rows values
IsExchangesForm rows exchanges_as.Csv =
    IsFlag (codes "summary") rows false × IsFlag (codes "json") rows false × IsFlag (codes "csv") rows true × AreLines rows plain
IsExchangesForm rows (exchanges_as.Summary b) = IsSummary false rows b × AreLines rows plain
IsExchangesForm rows (exchanges_as.SummaryJson b) = IsSummary true rows b × AreLines rows plain
IsExchangesForm rows (exchanges_as.Intervals n is_json) =
    IsFlag (codes "summary") rows true × IsFlag (codes "histogram") rows false × IsNumber 32 (codes "every") rows (Some n)
    × IsFlag (codes "json") rows is_json × AreLines rows plain
IsExchangesForm rows exchanges_as.Histogram =
    IsFlag (codes "summary") rows true × IsFlag (codes "histogram") rows true × IsHistogramAlone false rows × AreLines rows plain

pub record AreExchanges (rows : List Row) (asked : ExchangeOptions) : Type 0 where
  pub slow : IsNumber 32 (codes "slow") rows asked.slow
  pub errors : IsFlag (codes "errors") rows asked.errors
  pub opcode : IsOpcode (codes "opcode") rows asked.opcode
  pub kind : IsKind (codes "kind") rows asked.kind
  pub client : IsEnd (codes "client") rows asked.client
  pub node : IsEnd (codes "node") rows asked.node
  pub since : IsTime (codes "from") rows asked.since
  pub until : IsTime (codes "to") rows asked.until
  pub statement : IsText (codes "statement") rows asked.statement
  pub pattern : IsPattern (codes "statement-regex") rows asked.pattern
  pub statements : IsText (codes "statements") rows asked.statements
  pub connection : IsNumber 64 (codes "connection") rows asked.connection
  pub form : IsExchangesForm rows asked.form

-- a folder goes first, then rows, and then events
abbrev pub HasNoFolder : List Row → Type 0
HasNoFolder rows = first_of (codes "streams") rows ≡ None

abbrev pub IsCaptureTask : List Row → CaptureTask → Type 0
IsCaptureTask rows (capture.Streams folder) = IsPath (codes "streams") rows folder.now
IsCaptureTask rows (capture.Rows connection statements) =
    HasNoFolder rows × IsFlag (codes "rows") rows true × IsNumber 64 (codes "connection") rows (Some connection)
    × IsText (codes "statements") rows statements
IsCaptureTask rows (capture.Events connection) =
    HasNoFolder rows × IsFlag (codes "rows") rows false × IsFlag (codes "events") rows true
    × IsNumber 64 (codes "connection") rows connection
IsCaptureTask rows (capture.Exchanges asked) =
    HasNoFolder rows × IsFlag (codes "rows") rows false × IsFlag (codes "events") rows false × AreExchanges rows asked

-- each limit is the number that is given, and else its default; how many packets wait to be put in order has none here
pub record AreCaptureLimits (rows : List Row) (limits : CaptureLimits) : Type 0 where
  pub connections : IsLimit (codes "connections") 65536 rows limits.connections
  pub waiting : IsLimit (codes "open") 262144 rows limits.open
  pub early : IsLimit (codes "early") 24 rows limits.early
  pub text : IsLimit (codes "text") 7 rows limits.text
  pub order : IsNumber 32 (codes "order") rows limits.order

pub record AreCaptureOptions (rows : List Row) (options : CaptureOptions) : Type 0 where
  pub task : IsCaptureTask rows options.task
  pub limits : AreCaptureLimits rows options.limits
  pub follow : IsFlag (codes "follow") rows options.follow
  pub files : AreTexts (codes "file") rows (all_files options)

-- ---- summaries

abbrev pub is_json_sum : SumAs → Bool
is_json_sum sum_as.Table = false
is_json_sum sum_as.Json = true

pub record AreMergeOptions (rows : List Row) (options : MergeOptions) : Type 0 where
  pub form : IsFlag (codes "json") rows (is_json_sum options.form)
  pub files : AreTexts (codes "file") rows (summary_files options)

-- ---- a command line

-- by the name of the task and what was found at its options
abbrev pub IsLine : (name : Text) → List Row → CommandLine → Type 0
IsLine name rows (line.Stream options) = AreOptions name rows options
IsLine name rows (line.Loop queries) = (name ≡ codes "loop") × IsNumber 16 (codes "queries") rows (Some queries)
IsLine name rows (line.Capture options) = (name ≡ codes "capture") × AreCaptureOptions rows options
IsLine name rows (line.Merge options) = (name ≡ codes "merge") × AreMergeOptions rows options

abbrev pub IsLineOf : Option (Text × List Row) → CommandLine → Type 0
IsLineOf found line = IsSomeAnd found (λ task. IsLine task.0 task.1 line)

-- the words ask for this
abbrev pub AskFor : (words : List Text) → CommandLine → Type 0
AskFor words = IsLineOf (subcommand_of program words)
