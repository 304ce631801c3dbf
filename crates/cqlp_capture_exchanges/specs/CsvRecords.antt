-- The record of CSV of what is reported of a request, a response, or both (RFC 4180): its fields are values of the JSON object. What an object has
-- no key for is an empty field; what it nests is left out.
use Rattle.std.specs.Prelude.{ℕ, ◌+◌, ◌==◌, Bool, true, false, List, [], ◌∷◌, Option, Some, None, codes, if◌then◌else◌}
use Rattle.std.specs.Fmt.{signed_decimal}
use Rattle.cqlp_note.specs.Heading.{has, beside_number}
use Rattle.cqlp_text.specs.CellText.{boolean_text}
use Rattle.cqlp_text.specs.Names.{opcode_name}
use Rattle.cqlp_observer_facts.specs.declared.facts.Facts.{Facts}
use Rattle.cqlp_json.specs.Lines.{Members, texts}
use Rattle.cqlp_json.specs.Values.{hex, word}
use Rattle.cqlp_observer.specs.Keeping.{Kept, announced_bytes}
use Rattle.cqlp_observer.specs.declared.message.Frame.{Frame}
use Rattle.cqlp_observer.specs.declared.message.Message.{Message}
use Rattle.cqlp_observer.specs.declared.opening.Opening.{Opening}
use Rattle.cqlp_observer.specs.declared.opening.Opening.TheVariants as opening
use Rattle.cqlp_observer.specs.declared.paired.Paired.{Paired}
use Rattle.cqlp_observer.specs.declared.paired.Paired.TheVariants.{Exchange, Unanswered, Unasked, Event}
use Rattle.cqlp_capture_summary.specs.Summaries.{Summary}
use Rattle.cqlp_capture_summary.specs.Intervals.{noted_in_interval}
use Rattle.cqlp_capture_exchanges.specs.declared.connection.Connection.{Connection}
use Rattle.cqlp_capture_exchanges.specs.declared.outcome.Outcome.{Outcome}
use Rattle.cqlp_capture_exchanges.specs.declared.reply.Reply.{Reply}
use Rattle.cqlp_capture_exchanges.specs.declared.reply.Reply.TheVariants as reply_as
use Rattle.cqlp_capture_exchanges.specs.declared.report.ConnectionEnd.{ConnectionEnd}
use Rattle.cqlp_capture_exchanges.specs.declared.report.ConnectionEnd.TheVariants as ending
use Rattle.cqlp_capture_exchanges.specs.declared.span.Span.{Span}
use Rattle.cqlp_capture_exchanges.specs.CsvFields.{field, if_known, none_whole_field, text_field}
use Rattle.cqlp_capture_exchanges.specs.Intervals.{over_request}
use Rattle.cqlp_capture_exchanges.specs.Members.{end_value, name_or_code, number, seconds, utc, uuid}
use Rattle.cqlp_capture_exchanges.specs.Objects.{protocol_name}
use Rattle.cqlp_capture_exchanges.specs.Prepared.{Known, named}
use Rattle.cqlp_capture_exchanges.specs.Replies.{consistency_names, error_names, kind_names, message, reply}
use Rattle.cqlp_capture_exchanges.specs.Reports.{Report, Messages, Unread}
use Rattle.cqlp_capture_exchanges.specs.Spans.{is_whole, time_between, took}
use Rattle.cqlp_capture_exchanges.specs.Statements.{Said, Text, Id, statement, statements}
use Rattle.cqlp_capture_exchanges.specs.Times.{joined}
use Rattle.cqlp_capture_exchanges.specs.Warnings.{Listed, Warned, first_of, warnings_in}
use Rattle.cqlp_capture_exchanges.specs.WarningTexts.{texts_fields}

-- ---- what is reported; when its first byte came, in seconds since the first packet and as a date and a time of day; and where

abbrev pub where_fields : (first : Option ℕ) → (connection : Connection) → (time : Option ℕ) → Members
where_fields first connection time =
    field (if_known seconds (time_between first time)) ∷ field (if_known utc time)
    ∷ field (end_value connection.ends.client) ∷ field (end_value connection.ends.node) ∷ field (number connection.number) ∷ []

abbrev pub where_text : (reported : List ℕ) → (first : Option ℕ) → (connection : Connection) → (time : Option ℕ) → List ℕ
where_text reported first n time = joined (word reported ∷ texts (where_fields first n time) ∷ [])

abbrev pub stream_fields : Frame → Members
stream_fields f = field (signed_decimal f.header.stream) ∷ []

abbrev pub place_text : (reported : List ℕ) → (first : Option ℕ) → (connection : Connection) → Frame → List ℕ
place_text reported first n f = joined (where_text reported first n f.begun ∷ texts (stream_fields f) ∷ [])

-- ---- a request

-- its bytes, with those of its header; whether all of them were captured, and whether its body is compressed; so of a response
abbrev pub frame_fields : Frame → Members
frame_fields f =
    field (word (opcode_name f.header.opcode)) ∷ field (number (9 + f.header.length))
    ∷ field (boolean_text (is_whole f.extent)) ∷ field (boolean_text (has f.header.flags 0x01)) ∷ []

-- how many statements a BATCH has
abbrev pub count_fields : Option ℕ → Members
count_fields n = field (if_known number n) ∷ []

-- the text of its statement, or the id of one whose text is not known; and whether all of that is there
abbrev pub statement_fields : (is_given_up : Bool) → Option Said → Members
statement_fields is_given_up None = field [] ∷ field [] ∷ field (none_whole_field is_given_up) ∷ []
statement_fields is_given_up (Some (Text text is_whole)) = field (text_field text) ∷ field [] ∷ field (boolean_text is_whole) ∷ []
statement_fields is_given_up (Some (Id id is_whole)) = field [] ∷ field (hex id) ∷ field (boolean_text is_whole) ∷ []

abbrev pub level : ℕ → List ℕ
level n = name_or_code (beside_number n consistency_names) n

abbrev pub query_fields : Facts → Members
query_fields f =
    field (if_known level f.consistency) ∷ field (if_known signed_decimal f.page_size) ∷ field (if_known boolean_text f.has_paging_state) ∷ []

abbrev pub request_text : (known : Known) → Message Kept → List ℕ
request_text known m =
    joined (texts (frame_fields m.frame) ∷ texts (count_fields (statements m.frame.header m.kept.front))
    ∷ texts (statement_fields m.kept.is_text_dropped (named known (statement m.frame.header m.kept.front)))
    ∷ texts (query_fields m.kept.facts) ∷ [])

-- in place of the eleven fields of a request
abbrev pub no_request : List ℕ
no_request = codes ",,,,,,,,,,,"

-- ---- a response or an event

-- the kind of a result, or the name of an error
abbrev pub reply_fields : Reply → Members
reply_fields (reply_as.Result kind) = field (name_or_code (beside_number kind kind_names) kind) ∷ field [] ∷ []
reply_fields (reply_as.Error code) = field [] ∷ field (name_or_code (beside_number code error_names) code) ∷ []
reply_fields (reply_as.Other o) = field [] ∷ field [] ∷ []

-- of an ERROR, and whether all of it is there
abbrev pub message_fields : (is_given_up : Bool) → Option Said → Members
message_fields is_given_up (Some (Text text is_whole)) = field (text_field text) ∷ field (boolean_text is_whole) ∷ []
message_fields is_given_up s = field [] ∷ field (none_whole_field is_given_up) ∷ []

abbrev pub result_fields : Facts → Members
result_fields f =
    field (if_known signed_decimal f.rows) ∷ field (if_known signed_decimal f.columns) ∷ field (if_known boolean_text f.has_more_pages)
    ∷ field (if_known number f.warnings) ∷ []

-- the first warning, and whether all of it is there; and the texts of all
abbrev pub warned_fields : (first : Warned) → (others : Listed) → List ℕ
warned_fields w others = joined (texts (field (text_field w.text) ∷ field (boolean_text w.is_whole) ∷ []) ∷ texts_fields w others ∷ [])

abbrev pub warnings_fields : (is_given_up : Bool) → Option (Warned × Listed) → List ℕ
warnings_fields is_given_up None = texts (field [] ∷ field (none_whole_field is_given_up) ∷ field [] ∷ field [] ∷ [])
warnings_fields is_given_up (Some (w, others)) = warned_fields w others

abbrev pub tracing_fields : Facts → Members
tracing_fields f = field (if_known uuid f.trace_id) ∷ []

abbrev pub known_text : Message Kept → List ℕ
known_text m =
    joined (texts (result_fields m.kept.facts)
    ∷ warnings_fields m.kept.is_text_dropped (first_of (warnings_in m.frame.header (announced_bytes m.kept.announced)))
    ∷ texts (tracing_fields m.kept.facts) ∷ [])

abbrev pub response_text : Message Kept → List ℕ
response_text m =
    joined (texts (frame_fields m.frame) ∷ texts (reply_fields (reply m.frame.header m.kept.front))
    ∷ texts (message_fields m.kept.is_text_dropped (message (reply m.frame.header m.kept.front) m.kept.front))
    ∷ known_text m ∷ [])

-- in place of its seventeen fields
abbrev pub no_response : List ℕ
no_response = codes ",,,,,,,,,,,,,,,,,"

-- ---- the record

-- how the connection of a request without a response ended, where that is why it has none
abbrev pub end_field : Option ConnectionEnd → List ℕ
end_field None = []
end_field (Some ending.Reset) = word (codes "reset")
end_field (Some ending.Closed) = word (codes "closed")
end_field (Some ending.Open) = word (codes "open")

-- the time from the first byte of the request to the last one of the response
abbrev pub last_fields : (time : Option Span) → (end : Option ConnectionEnd) → Members
last_fields time end = field (if_known seconds time) ∷ field (end_field end) ∷ []

-- the end of a record of messages, which has no protocol and version
abbrev pub last_text : (time : Option Span) → (end : Option ConnectionEnd) → List ℕ
last_text time end = joined (texts (last_fields time end) ∷ codes ",,\r\n" ∷ [])

abbrev pub alone_record : (reported : List ℕ) → (first : Option ℕ) → (connection : Connection) → (response : Message Kept) → List ℕ
alone_record reported first n r =
    joined (place_text reported first n r.frame ∷ no_request ∷ response_text r ∷ last_text None None ∷ [])

abbrev pub paired_record : (known : Known) → (first : Option ℕ) → (connection : Connection) → (end : Option ConnectionEnd) → Paired Kept → List ℕ
paired_record known first n end (Exchange q r) =
    joined (place_text (codes "exchange") first n q.frame ∷ request_text known q ∷ response_text r ∷ last_text (took q.frame r.frame) None ∷ [])
paired_record known first n end (Unanswered q) =
    joined (place_text (codes "unanswered") first n q.frame ∷ request_text known q ∷ no_response ∷ last_text None end ∷ [])
paired_record known first n end (Unasked r) = alone_record (codes "unasked") first n r
paired_record known first n end (Event e) = alone_record (codes "event") first n e

-- ---- a connection that begins with no frames of version 4

abbrev pub version_field : Opening → List ℕ
version_field (opening.OtherVersion version) = number version
version_field o = []

abbrev pub protocol_fields : Opening → Members
protocol_fields o = field (word (protocol_name o)) ∷ field (version_field o) ∷ []

-- without a stream, a request, a response, a time that it took and an end
abbrev pub unread_record : (first : Option ℕ) → (connection : Connection) → (time : Option ℕ) → Opening → List ℕ
unread_record first n time o =
    joined (where_text (codes "unread") first n time ∷ codes ",,,,,,,,,,,,,,,,,,,,,,,,,,,,,,," ∷ texts (protocol_fields o) ∷ codes "\r\n" ∷ [])

abbrev pub record_of : (known : Known) → (first : Option ℕ) → (connection : Connection) → Report → List ℕ
record_of known first n (Messages t end) = paired_record known first n end t
record_of known first n (Unread time o) = unread_record first n time o

-- ---- The first record is behind one with the names of the fields. Records are counted, to know which is the first.

abbrev pub names : List ℕ
names =
    joined
    (codes "told,time,utc,client,node,connection,stream,request,request_bytes,request_is_whole,request_is_compressed,statements,"
    ∷ codes "statement,id,statement_is_whole,consistency,page_size,has_paging_state,response,response_bytes,response_is_whole,"
    ∷ codes "response_is_compressed,result,error,message,message_is_whole,rows,columns,has_more_pages,warnings,warning,"
    ∷ codes "warning_is_whole,warning_texts,warning_texts_are_whole,tracing_id,took,connection_end,protocol,version\r\n" ∷ [])

abbrev pub names_if_first : Summary → List ℕ
names_if_first s = if s.others.count == 0 then names else []

abbrev pub csv_text : (known : Known) → (first : Option ℕ) → Summary → (connection : Connection) → Report → List ℕ
csv_text known first s n r = joined (names_if_first s ∷ record_of known first n r ∷ [])

abbrev pub a_record : Outcome
a_record = record { is_answered = true; reply = None; is_error = false; rows = 0; bytes = 0; took = None; at = None }

abbrev pub with_record : Summary → Summary
with_record s = noted_in_interval 1 (over_request a_record) s
