-- The JSON object of what is reported of a request, a response, or both, in a line of its own: its keys and their values.
use Prim.Native.String.{String}
use Rattle.std.specs.Prelude.{ℕ, ◌+◌, Bool, true, false, List, [], ◌∷◌, ◌++◌, codes, Option, Some, None}
use Rattle.std.specs.Fmt.{signed_decimal}
use Rattle.cqlp_note.specs.Heading.{has, beside_number}
use Rattle.cqlp_text.specs.CellText.{boolean_text}
use Rattle.cqlp_text.specs.Names.{opcode_name}
use Rattle.cqlp_observer_facts.specs.declared.facts.Facts.{Facts}
use Rattle.cqlp_json.specs.Lines.{Members, member, texts}
use Rattle.cqlp_json.specs.Values.{hex, string, word}
use Rattle.cqlp_observer.specs.Keeping.{Kept, announced_bytes}
use Rattle.cqlp_observer.specs.declared.message.Frame.{Frame}
use Rattle.cqlp_observer.specs.declared.message.Message.{Message}
use Rattle.cqlp_observer.specs.declared.opening.Opening.{Opening}
use Rattle.cqlp_observer.specs.declared.opening.Opening.TheVariants as opening
use Rattle.cqlp_observer.specs.declared.paired.Paired.{Paired}
use Rattle.cqlp_observer.specs.declared.paired.Paired.TheVariants.{Exchange, Unanswered, Unasked, Event}
use Rattle.cqlp_capture_exchanges.specs.declared.connection.Connection.{Connection}
use Rattle.cqlp_capture_exchanges.specs.DetailsObjects.{details_member}
use Rattle.cqlp_capture_exchanges.specs.ErrorDetails.{details}
use Rattle.cqlp_capture_exchanges.specs.Prepared.{Known, named}
use Rattle.cqlp_capture_exchanges.specs.declared.form.ValuesShown.{ValuesShown}
use Rattle.cqlp_capture_exchanges.specs.Bound.{values_members_if}
use Rattle.cqlp_capture_exchanges.specs.declared.reply.Reply.{Reply}
use Rattle.cqlp_capture_exchanges.specs.declared.reply.Reply.TheVariants as reply_as
use Rattle.cqlp_capture_exchanges.specs.declared.report.ConnectionEnd.{ConnectionEnd}
use Rattle.cqlp_capture_exchanges.specs.declared.report.ConnectionEnd.TheVariants as ending
use Rattle.cqlp_capture_exchanges.specs.Reports.{Report, Messages, Unread}
use Rattle.cqlp_capture_exchanges.specs.declared.span.Span.{Span}
use Rattle.cqlp_capture_exchanges.specs.Members.{consistency_or_null, end_value, flag_or_null, name_or_code, null, number}
use Rattle.cqlp_capture_exchanges.specs.Members.{number_or_null, seconds_or_null, signed_or_null, utc_or_null, uuid_or_null}
use Rattle.cqlp_capture_exchanges.specs.Replies.{error_names, kind_names, message, reply}
use Rattle.cqlp_capture_exchanges.specs.Spans.{is_whole, time_between, took}
use Rattle.cqlp_capture_exchanges.specs.Statements.{Said, Text, Id, statement, statements}
use Rattle.cqlp_capture_exchanges.specs.Times.{joined}
use Rattle.cqlp_capture_exchanges.specs.Warnings.{Listed, Warned, first_of, warnings_in}
use Rattle.cqlp_capture_exchanges.specs.WarningTexts.{texts_members}

-- ---- what is reported; when its first byte came, in seconds since the first packet and as a date and a time of day; and where

abbrev pub first_member : (name : String) → (value : List ℕ) → List ℕ
first_member name value = codes "{\"" ++ codes name ++ codes "\":" ++ value

abbrev pub place_members : (reported : List ℕ) → (first : Option ℕ) → (connection : Connection) → Frame → Members
place_members reported first connection f =
    first_member "told" (word reported) ∷ member "time" (seconds_or_null (time_between first f.begun)) ∷ member "utc" (utc_or_null f.begun)
    ∷ member "client" (end_value connection.ends.client) ∷ member "node" (end_value connection.ends.node)
    ∷ member "connection" (number connection.number) ∷ member "stream" (signed_decimal f.header.stream) ∷ []

-- ---- a request

-- Where a text was given up, not all of it is there.
abbrev pub none_whole : (is_given_up : Bool) → List ℕ
none_whole true = boolean_text false
none_whole false = null

-- the text of its statement, or the id of one whose text is not known; and whether all of that is there
abbrev pub statement_as : (text id is_whole : List ℕ) → Members
statement_as text id is_whole = member "statement" text ∷ member "id" id ∷ member "statement_is_whole" is_whole ∷ []

abbrev pub statement_members : (is_given_up : Bool) → Option Said → Members
statement_members is_given_up None = statement_as null null (none_whole is_given_up)
statement_members is_given_up (Some (Text text is_whole)) = statement_as (string text) null (boolean_text is_whole)
statement_members is_given_up (Some (Id id is_whole)) = statement_as null (hex id) (boolean_text is_whole)

-- how many statements a BATCH has
abbrev pub count_members : Option ℕ → Members
count_members n = member "statements" (number_or_null n) ∷ []

-- its bytes, with those of its header; whether all of them were captured, and whether its body is compressed
abbrev pub request_frame_members : Frame → Members
request_frame_members f =
    member "request" (word (opcode_name f.header.opcode)) ∷ member "request_bytes" (number (9 + f.header.length))
    ∷ member "request_is_whole" (boolean_text (is_whole f.extent)) ∷ member "request_is_compressed" (boolean_text (has f.header.flags 0x01)) ∷ []

abbrev pub query_members : Facts → Members
query_members f =
    member "consistency" (consistency_or_null f.consistency) ∷ member "page_size" (signed_or_null f.page_size)
    ∷ member "has_paging_state" (flag_or_null f.has_paging_state) ∷ []

abbrev pub request_members : (known : Known) → ValuesShown → Message Kept → List ℕ
request_members known shown m =
    joined (texts (request_frame_members m.frame) ∷ texts (count_members (statements m.frame.header m.kept.front))
    ∷ texts (statement_members m.kept.is_text_dropped (named known (statement m.frame.header m.kept.front)))
    ∷ values_members_if shown known m ∷ texts (query_members m.kept.facts) ∷ [])

-- ---- a response or an event

abbrev pub response_frame_members : Frame → Members
response_frame_members f =
    member "response" (word (opcode_name f.header.opcode)) ∷ member "response_bytes" (number (9 + f.header.length))
    ∷ member "response_is_whole" (boolean_text (is_whole f.extent)) ∷ member "response_is_compressed" (boolean_text (has f.header.flags 0x01)) ∷ []

-- the kind of a result, or the name of an error
abbrev pub reply_values : (result error : List ℕ) → Members
reply_values result error = member "result" result ∷ member "error" error ∷ []

abbrev pub reply_members : Reply → Members
reply_members (reply_as.Result kind) = reply_values (name_or_code (beside_number kind kind_names) kind) null
reply_members (reply_as.Error code) = reply_values null (name_or_code (beside_number code error_names) code)
reply_members (reply_as.Other o) = reply_values null null

-- of an ERROR, and whether all of it is there
abbrev pub message_as : (text is_whole : List ℕ) → Members
message_as text is_whole = member "message" text ∷ member "message_is_whole" is_whole ∷ []

abbrev pub message_members : (is_given_up : Bool) → Option Said → Members
message_members is_given_up (Some (Text text is_whole)) = message_as (string text) (boolean_text is_whole)
message_members is_given_up s = message_as null (none_whole is_given_up)

-- with what is behind it
abbrev pub error_members : (is_given_up : Bool) → Reply → (front : List ℕ) → List ℕ
error_members is_given_up r b = joined (texts (message_members is_given_up (message r b)) ∷ details_member (details r b) ∷ [])

abbrev pub result_members : Facts → Members
result_members f =
    member "rows" (signed_or_null f.rows) ∷ member "columns" (signed_or_null f.columns) ∷ member "has_more_pages" (flag_or_null f.has_more_pages)
    ∷ member "warnings" (number_or_null f.warnings) ∷ []

-- the first warning, and whether all of it is there
abbrev pub warning_as : (text is_whole : List ℕ) → Members
warning_as text is_whole = member "warning" text ∷ member "warning_is_whole" is_whole ∷ []

-- with the texts of all
abbrev pub warned_members : (first : Warned) → (others : Listed) → List ℕ
warned_members w others = joined (texts (warning_as (string w.text) (boolean_text w.is_whole)) ∷ texts_members w others ∷ [])

abbrev pub warnings_members : (is_given_up : Bool) → Option (Warned × Listed) → List ℕ
warnings_members is_given_up None = texts (warning_as null (none_whole is_given_up))
warnings_members is_given_up (Some (w, others)) = warned_members w others

abbrev pub tracing_members : Facts → Members
tracing_members f = member "tracing_id" (uuid_or_null f.trace_id) ∷ []

abbrev pub known_members : Message Kept → List ℕ
known_members m =
    joined (texts (result_members m.kept.facts)
    ∷ warnings_members m.kept.is_text_dropped (first_of (warnings_in m.frame.header (announced_bytes m.kept.announced)))
    ∷ texts (tracing_members m.kept.facts) ∷ [])

abbrev pub response_members : Message Kept → List ℕ
response_members m =
    joined (texts (response_frame_members m.frame) ∷ texts (reply_members (reply m.frame.header m.kept.front))
    ∷ error_members m.kept.is_text_dropped (reply m.frame.header m.kept.front) m.kept.front
    ∷ known_members m ∷ [])

-- ---- the object. Where there is no request, or no response, it has none of its keys.

-- how the connection of a request without a response ended, where that is why it has none
abbrev pub end_or_null : Option ConnectionEnd → List ℕ
end_or_null None = null
end_or_null (Some ending.Reset) = word (codes "reset")
end_or_null (Some ending.Closed) = word (codes "closed")
end_or_null (Some ending.Open) = word (codes "open")

-- the time from the first byte of the request to the last one of the response
abbrev pub last_members : (time : Option Span) → (end : Option ConnectionEnd) → Members
last_members time end = member "took" (seconds_or_null time) ∷ member "connection_end" (end_or_null end) ∷ []

abbrev pub exchange_object : (known : Known) → ValuesShown → (first : Option ℕ) → (connection : Connection)
    → (request response : Message Kept) → List ℕ
exchange_object known shown first n q r =
    joined (texts (place_members (codes "exchange") first n q.frame) ∷ request_members known shown q ∷ response_members r
    ∷ texts (last_members (took q.frame r.frame) None) ∷ codes "}\n" ∷ [])

abbrev pub unanswered_object : (known : Known) → ValuesShown → (first : Option ℕ) → (connection : Connection) → (end : Option ConnectionEnd)
    → (request : Message Kept) → List ℕ
unanswered_object known shown first n end q =
    joined (texts (place_members (codes "unanswered") first n q.frame) ∷ request_members known shown q ∷ texts (last_members None end) ∷ codes "}\n" ∷ [])

abbrev pub alone_object : (reported : List ℕ) → (first : Option ℕ) → (connection : Connection) → (response : Message Kept) → List ℕ
alone_object reported first n r =
    joined (texts (place_members reported first n r.frame) ∷ response_members r ∷ texts (last_members None None) ∷ codes "}\n" ∷ [])

abbrev pub paired_object : (known : Known) → ValuesShown → (first : Option ℕ) → (connection : Connection) → (end : Option ConnectionEnd)
    → Paired Kept → List ℕ
paired_object known shown first n end (Exchange q r) = exchange_object known shown first n q r
paired_object known shown first n end (Unanswered q) = unanswered_object known shown first n end q
paired_object known shown first n end (Unasked r) = alone_object (codes "unasked") first n r
paired_object known shown first n end (Event e) = alone_object (codes "event") first n e

-- ---- a connection that begins with no frames of version 4

abbrev pub protocol_name : Opening → List ℕ
protocol_name opening.Tls = codes "TLS"
protocol_name opening.Http = codes "HTTP"
protocol_name o = codes "CQL"

abbrev pub version_or_null : Opening → List ℕ
version_or_null (opening.OtherVersion version) = number version
version_or_null o = null

abbrev pub unread_members : (first : Option ℕ) → (connection : Connection) → (time : Option ℕ) → Opening → Members
unread_members first connection time o =
    first_member "told" (word (codes "unread")) ∷ member "time" (seconds_or_null (time_between first time)) ∷ member "utc" (utc_or_null time)
    ∷ member "client" (end_value connection.ends.client) ∷ member "node" (end_value connection.ends.node)
    ∷ member "connection" (number connection.number) ∷ member "protocol" (word (protocol_name o)) ∷ member "version" (version_or_null o) ∷ []

abbrev pub unread_object : (first : Option ℕ) → (connection : Connection) → (time : Option ℕ) → Opening → List ℕ
unread_object first n time o = joined (texts (unread_members first n time o) ∷ codes "}\n" ∷ [])

abbrev pub json_line : (known : Known) → ValuesShown → (first : Option ℕ) → (connection : Connection) → Report → List ℕ
json_line known shown first n (Messages t end) = paired_object known shown first n end t
json_line known shown first n (Unread time o) = unread_object first n time o
