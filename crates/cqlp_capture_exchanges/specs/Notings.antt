-- Requests with their responses, counted in a summary.
use Rattle.std.specs.Prelude.{ℕ, ◌+◌, ℤ, pos, int_lt, unsigned_abs, Bool, true, false, ◌&&◌, nat_le, List, [], ◌∷◌, ◌++◌, codes, length, take, Option, Some, None, if◌then◌else◌}
use Rattle.cqlp_note.specs.Heading.{beside_number}
use Rattle.cqlp_note.specs.declared.opcode.Opcode.{Opcode}
use Rattle.cqlp_note.specs.declared.opcode.Opcode.TheVariants as opcode
use Rattle.cqlp_text.specs.Names.{opcode_name}
use Rattle.cqlp_capture_summary.specs.Counts.{Request}
use Rattle.cqlp_capture_summary.specs.Named.{noted_by_fingerprint}
use Rattle.cqlp_capture_summary.specs.Summaries.{Summary, noted_request}
use Rattle.cqlp_observer.specs.Keeping.{Kept}
use Rattle.cqlp_observer.specs.declared.message.Message.{Message}
use Rattle.cqlp_observer.specs.declared.paired.Paired.{Paired}
use Rattle.cqlp_observer.specs.declared.paired.Paired.TheVariants.{Exchange, Unanswered}
use Rattle.cqlp_capture_exchanges.specs.declared.connection.Connection.{Connection}
use Rattle.cqlp_capture_exchanges.specs.declared.reply.Reply.{Reply}
use Rattle.cqlp_capture_exchanges.specs.declared.reply.Reply.TheVariants as reply_as
use Rattle.cqlp_capture_exchanges.specs.declared.summary_by.Attribute.{Attribute}
use Rattle.cqlp_capture_exchanges.specs.declared.summary_by.Attribute.TheVariants as attribute
use Rattle.cqlp_capture_exchanges.specs.declared.summary_by.SummaryBy.{SummaryBy}
use Rattle.cqlp_capture_exchanges.specs.declared.summary_by.SummaryBy.TheVariants as by
use Rattle.cqlp_capture_exchanges.specs.Ends.{end_text, ip_text}
use Rattle.cqlp_capture_exchanges.specs.Lines.{name_or_number, said_text}
use Rattle.cqlp_capture_exchanges.specs.Prepared.{Known, named}
use Rattle.cqlp_capture_exchanges.specs.Replies.{error_names, reply}
use Rattle.cqlp_capture_exchanges.specs.Reports.{Report, Messages, Unread}
use Rattle.cqlp_capture_exchanges.specs.declared.naming.Naming.{Naming}
use Rattle.cqlp_capture_exchanges.specs.declared.naming.Naming.TheVariants as naming
use Rattle.cqlp_capture_exchanges.specs.declared.outcome.Outcome.{Outcome}
use Rattle.cqlp_capture_exchanges.specs.declared.span.Span.{Span}
use Rattle.cqlp_capture_exchanges.specs.Filters.{is_error as is_error_opcode, is_failure}
use Rattle.cqlp_capture_exchanges.specs.Spans.{took}
use Rattle.cqlp_capture_exchanges.specs.Statements.{Said, Text, Id, statement}
use Rattle.cqlp_capture_exchanges.specs.TableNames.{table_name}
use Rattle.cqlp_capture_exchanges.specs.Times.{joined}

-- A time that went back is not known.
abbrev pub nanoseconds_in : Option Span → Option ℕ
nanoseconds_in None = None
nanoseconds_in (Some s) = if s.is_before then None else Some s.nanoseconds

-- rows, where it is known that there are some
abbrev pub rows_in : Option ℤ → ℕ
rows_in None = 0
rows_in (Some rows) = if int_lt (pos 0) rows then unsigned_abs rows else 0

-- ---- what came of a request

abbrev pub answered_by : (request response : Message Kept) → Outcome
answered_by q r = record {
  is_answered = true;
  reply = Some (reply r.frame.header r.kept.front);
  is_error = is_failure r.frame;
  rows = rows_in r.kept.facts.rows;
  bytes = (9 + q.frame.header.length) + (9 + r.frame.header.length);
  took = nanoseconds_in (took q.frame r.frame);
  at = q.frame.begun;
}

abbrev pub unanswered : Message Kept → Outcome
unanswered q =
    record { is_answered = false; reply = None; is_error = false; rows = 0; bytes = 9 + q.frame.header.length; took = None; at = q.frame.begun }

-- a request under a name, and whether that is all of it
abbrev pub request_as : (name : List ℕ) → (is_whole_name : Bool) → Outcome → Request
request_as name is_whole_name o = record {
  entry = record {
    name = name;
    is_whole_name = is_whole_name;
    is_error = o.is_error;
    rows = o.rows;
    bytes = o.bytes;
    took = o.took;
  };
  is_answered = o.is_answered;
  at = o.at;
}

-- ---- what a request is called: the text of its statement, its opcode with the id of its statement where that has no text, or its opcode. A BATCH is
-- called by its first statement, behind a word.

abbrev pub is_batch : Opcode → Bool
is_batch opcode.Batch = true
is_batch o = false

abbrev pub batch_name : (text : List ℕ) → List ℕ
batch_name text = codes "BATCH " ++ take 250 text

abbrev pub text_request : (text : List ℕ) → (is_whole : Bool) → Message Kept → Outcome → Request
text_request text is_whole q o =
    if is_batch q.frame.header.opcode then request_as (batch_name text) (is_whole && nat_le (length text) 250) o
    else request_as text is_whole o

abbrev pub opcode_request : Message Kept → Outcome → Request
opcode_request q o = request_as (opcode_name q.frame.header.opcode) true o

-- as the line has it
abbrev pub id_name : Opcode → (id : List ℕ) → (is_whole : Bool) → List ℕ
id_name o id is_whole = joined (opcode_name o ∷ said_text (Id id is_whole) ∷ [])

abbrev pub id_request : (id : List ℕ) → (is_whole : Bool) → Message Kept → Outcome → Request
id_request id is_whole q o = request_as (id_name q.frame.header.opcode id is_whole) true o

-- ---- counted, by the fingerprint of its name or by the name itself, as by an id

abbrev pub noted_as : Naming → Request → Summary → Summary
noted_as naming.Fingerprint r s = noted_by_fingerprint r s
noted_as naming.Literal r s = noted_request r s

abbrev pub noted_named : Naming → Option Said → Message Kept → Outcome → Summary → Summary
noted_named n (Some (Text text is_whole)) q o s = noted_as n (text_request text is_whole q o) s
noted_named n (Some (Id id is_whole)) q o s = noted_request (id_request id is_whole q o) s
noted_named n None q o s = noted_as n (opcode_request q o) s

abbrev pub with_request : Naming → (known : Known) → Message Kept → Outcome → Summary → Summary
with_request n known q o s = noted_named n (named known (statement q.frame.header q.kept.front)) q o s

-- ---- the error of a reply

-- a reply that is no ERROR, and did not come to its end, or did
abbrev pub no_error_text : (is_failure : Bool) → List ℕ
no_error_text true = codes "cut"
no_error_text false = codes "none"

-- a reply without a code that is to be seen
abbrev pub no_code_text : Opcode → (is_failure : Bool) → List ℕ
no_code_text o is_failure = if is_error_opcode o then codes "ERROR" else no_error_text is_failure

-- by the name of its code, or where that has none by its four bytes
abbrev pub reply_error_text : Reply → (is_failure : Bool) → List ℕ
reply_error_text (reply_as.Error code) is_failure = name_or_number (beside_number code error_names) code
reply_error_text (reply_as.Result kind) is_failure = no_error_text is_failure
reply_error_text (reply_as.Other o) is_failure = no_code_text o is_failure

abbrev pub error_text : Option Reply → (is_failure : Bool) → List ℕ
error_text None is_failure = codes "unanswered"
error_text (Some r) is_failure = reply_error_text r is_failure

-- ---- what a request is called by an attribute of it

abbrev pub name_by : Attribute → Connection → Message Kept → Outcome → List ℕ
name_by attribute.Client n q o = ip_text n.ends.client.address
name_by attribute.Node n q o = end_text n.ends.node
name_by attribute.Opcode n q o = opcode_name q.frame.header.opcode
name_by attribute.Error n q o = error_text o.reply o.is_error

abbrev pub with_attribute : Attribute → Connection → Message Kept → Outcome → Summary → Summary
with_attribute a n q o s = noted_request (request_as (name_by a n q o) true o) s

-- ---- counted under the table that its statement names, or under its opcode

abbrev pub table_request : (name : Option (List ℕ)) → Message Kept → Outcome → Request
table_request (Some name) q o = request_as name true o
table_request None q o = opcode_request q o

abbrev pub table_of : Option Said → Option (List ℕ)
table_of (Some (Text text is_whole)) = table_name text is_whole
table_of s = None

abbrev pub with_table : (known : Known) → Message Kept → Outcome → Summary → Summary
with_table known q o s = noted_request (table_request (table_of (named known (statement q.frame.header q.kept.front))) q o) s

-- ---- by what is asked for

abbrev pub with_request_by : SummaryBy → (known : Known) → Connection → Message Kept → Outcome → Summary → Summary
with_request_by (by.Statement m) known n q o s = with_request m known q o s
with_request_by by.Table known n q o s = with_table known q o s
with_request_by (by.Attribute a) known n q o s = with_attribute a n q o s

abbrev pub with_paired : SummaryBy → (known : Known) → Connection → Paired Kept → Summary → Summary
with_paired b known n (Exchange q r) s = with_request_by b known n q (answered_by q r) s
with_paired b known n (Unanswered q) s = with_request_by b known n q (unanswered q) s
with_paired b known n p s = s

abbrev pub with_report : SummaryBy → (known : Known) → Connection → Report → Summary → Summary
with_report b known n (Messages p end) s = with_paired b known n p s
with_report b known n (Unread time o) s = s
