-- The line of what is reported of a request, a response, or both.
use Rattle.std.specs.Prelude.{ℕ, ℤ, ◌+◌, Bool, true, false, List, [], ◌∷◌, codes, decimal, Option, Some, None}
use Rattle.std.specs.Fmt.{signed_decimal}
use Rattle.std.specs.Int.{w32, to_be_bytes}
use Rattle.hex.specs.Hex.{encode_lower}
use Rattle.uuid.specs.Text.{hyphenated_text, lower}
use Rattle.cqlp_note.specs.Heading.{has, beside_number}
use Rattle.cqlp_text.specs.Names.{opcode_name}
use Rattle.cqlp_text.specs.Text.{hex_text}
use Rattle.cqlp_observer_facts.specs.declared.facts.Facts.{Facts}
use Rattle.cqlp_observer.specs.Keeping.{Kept, announced_bytes}
use Rattle.cqlp_observer.specs.declared.message.Frame.{Frame}
use Rattle.cqlp_observer.specs.declared.message.Message.{Message}
use Rattle.cqlp_observer.specs.declared.opening.Opening.{Opening}
use Rattle.cqlp_observer.specs.declared.opening.Opening.TheVariants as opening
use Rattle.cqlp_observer.specs.declared.paired.Paired.{Paired}
use Rattle.cqlp_observer.specs.declared.paired.Paired.TheVariants.{Exchange, Unanswered, Unasked, Event}
use Rattle.cqlp_tcp_connections.specs.declared.ends.Ends.{Ends}
use Rattle.cqlp_capture_exchanges.specs.declared.connection.Connection.{Connection}
use Rattle.cqlp_capture_exchanges.specs.declared.form.LineStyle.{LineStyle}
use Rattle.cqlp_capture_exchanges.specs.declared.reply.Reply.{Reply}
use Rattle.cqlp_capture_exchanges.specs.declared.reply.Reply.TheVariants as reply_as
use Rattle.cqlp_capture_exchanges.specs.declared.report.ConnectionEnd.{ConnectionEnd}
use Rattle.cqlp_capture_exchanges.specs.declared.report.ConnectionEnd.TheVariants as ending
use Rattle.cqlp_capture_exchanges.specs.declared.form.ValuesShown.{ValuesShown}
use Rattle.cqlp_capture_exchanges.specs.Bound.{values_if}
use Rattle.cqlp_capture_exchanges.specs.Reports.{Report, Messages, Unread}
use Rattle.cqlp_capture_exchanges.specs.DetailsLines.{numbers_text}
use Rattle.cqlp_capture_exchanges.specs.ErrorDetails.{details}
use Rattle.cqlp_capture_exchanges.specs.Levels.{consistency_text}
use Rattle.cqlp_capture_exchanges.specs.declared.span.Unit.TheVariants.{Second, Millisecond}
use Rattle.cqlp_capture_exchanges.specs.Ends.{end_text as address_text}
use Rattle.cqlp_capture_exchanges.specs.Prepared.{Known, named}
use Rattle.cqlp_capture_exchanges.specs.Replies.{error_names, kind_names, message, reply}
use Rattle.cqlp_capture_summary.specs.Shown.{shown_text}
use Rattle.cqlp_capture_exchanges.specs.Spans.{is_whole, time_between, took}
use Rattle.cqlp_capture_exchanges.specs.Statements.{Said, Text, Id, statement, statements}
use Rattle.cqlp_capture_exchanges.specs.Times.{joined, time_text, utc_text}
use Rattle.cqlp_capture_exchanges.specs.declared.warning_texts.WarningForm.TheVariants as form
use Rattle.cqlp_capture_exchanges.specs.Warnings.{Listed, warnings_in}
use Rattle.cqlp_capture_exchanges.specs.WarningTexts.{other_texts}

-- ---- what a request asks to be done, after a space

-- two points behind what is not all of it
abbrev pub more : (is_whole : Bool) → List ℕ
more true = []
more false = codes ".."

abbrev pub said_text : Said → List ℕ
said_text (Text text is_whole) = joined (codes " \"" ∷ shown_text text ∷ codes "\"" ∷ more is_whole ∷ [])
said_text (Id id is_whole) = joined (codes " " ∷ encode_lower id ∷ more is_whole ∷ [])

abbrev pub statement_text : Option Said → List ℕ
statement_text None = []
statement_text (Some s) = said_text s

-- two points in its place, where it was given up
abbrev pub given_up_mark : (is_given_up : Bool) → List ℕ
given_up_mark true = codes " .."
given_up_mark false = []

-- ---- what a response is

-- the name that a table has beside a number, or the number's four bytes
abbrev pub name_or_number : Option (List ℕ) → ℕ → List ℕ
name_or_number (Some name) n = name
name_or_number None n = hex_text (to_be_bytes w32 n)

abbrev pub kind_text : Option (List ℕ) → (kind : ℕ) → List ℕ
kind_text (Some name) kind = name
kind_text None kind = joined (codes "RESULT " ∷ hex_text (to_be_bytes w32 kind) ∷ [])

abbrev pub reply_text : Reply → List ℕ
reply_text (reply_as.Result kind) = kind_text (beside_number kind kind_names) kind
reply_text (reply_as.Error code) = joined (codes "ERROR " ∷ name_or_number (beside_number code error_names) code ∷ [])
reply_text (reply_as.Other o) = opcode_name o

-- ---- what is known of a request and a response beside that

-- how many statements a BATCH has
abbrev pub count_text : Option ℕ → List ℕ
count_text None = []
count_text (Some n) = joined (codes " " ∷ decimal n ∷ [])

-- how many rows a page is to have
abbrev pub page_text : Option ℤ → List ℕ
page_text None = []
page_text (Some size) = joined (codes " page " ∷ signed_decimal size ∷ [])

-- whether it is a page after the first
abbrev pub next_mark : (has_paging_state : Option Bool) → List ℕ
next_mark (Some true) = codes " next"
next_mark s = []

abbrev pub paging_text : Facts → List ℕ
paging_text f = joined (page_text f.page_size ∷ next_mark f.has_paging_state ∷ [])

-- rows and columns of a result
abbrev pub counts_text : (rows columns : Option ℤ) → List ℕ
counts_text (Some rows) (Some columns) = joined (codes " " ∷ signed_decimal rows ∷ codes "x" ∷ signed_decimal columns ∷ [])
counts_text rows columns = []

-- whether more pages follow
abbrev pub pages_mark : (has_more_pages : Option Bool) → List ℕ
pages_mark (Some true) = codes " more"
pages_mark s = []

abbrev pub page_counts_text : Facts → List ℕ
page_counts_text f = joined (counts_text f.rows f.columns ∷ pages_mark f.has_more_pages ∷ [])

-- how many warnings a response has, and their texts
abbrev pub warnings_text : Option ℕ → Listed → List ℕ
warnings_text None l = []
warnings_text (Some n) l = joined (codes " warnings " ∷ decimal n ∷ other_texts form.Line l ∷ [])

abbrev pub tracing_text : Option (List ℕ) → List ℕ
tracing_text None = []
tracing_text (Some id) = joined (codes " tracing " ∷ hyphenated_text lower id ∷ [])

-- ---- a frame: its bytes, with those of its header; and whether some of them were not captured, or its body is compressed

abbrev pub cut_mark : (is_whole : Bool) → List ℕ
cut_mark true = []
cut_mark false = codes " cut"

abbrev pub compressed_mark : (is_compressed : Bool) → List ℕ
compressed_mark true = codes " compressed"
compressed_mark false = []

abbrev pub frame_text : Frame → List ℕ
frame_text f =
    joined (codes " " ∷ decimal (9 + f.header.length) ∷ cut_mark (is_whole f.extent) ∷ compressed_mark (has f.header.flags 0x01) ∷ [])

-- with the text of a statement that is known in place of its id
abbrev pub request_text : (known : Known) → ValuesShown → Message Kept → List ℕ
request_text known shown m =
    joined (opcode_name m.frame.header.opcode ∷ consistency_text m.kept.facts.consistency
    ∷ count_text (statements m.frame.header m.kept.front)
    ∷ statement_text (named known (statement m.frame.header m.kept.front)) ∷ given_up_mark m.kept.is_text_dropped
    ∷ values_if shown known m ∷ paging_text m.kept.facts ∷ frame_text m.frame ∷ [])

-- the message of an ERROR, and how many nodes it counts
abbrev pub error_text : Reply → (front : List ℕ) → List ℕ
error_text r b = joined (statement_text (message r b) ∷ numbers_text (details r b) ∷ [])

abbrev pub response_text : Message Kept → List ℕ
response_text m =
    joined (reply_text (reply m.frame.header m.kept.front) ∷ page_counts_text m.kept.facts
    ∷ error_text (reply m.frame.header m.kept.front) m.kept.front ∷ given_up_mark m.kept.is_text_dropped
    ∷ warnings_text m.kept.facts.warnings (warnings_in m.frame.header (announced_bytes m.kept.announced))
    ∷ tracing_text m.kept.facts.trace_id ∷ frame_text m.frame ∷ [])

-- ---- the line

-- when something began: in seconds since the first packet, or as a date and a time of day of UTC
abbrev pub begun_text : (is_utc : Bool) → (first time : Option ℕ) → List ℕ
begun_text false first time = time_text Second (time_between first time)
begun_text true first time = utc_text time

-- the ends of a connection, each after a space
abbrev pub both_ends : Ends → List ℕ
both_ends e = joined (codes " " ∷ address_text e.client ∷ codes " " ∷ address_text e.node ∷ [])

abbrev pub ends_text : (has_ends : Bool) → Ends → List ℕ
ends_text false e = []
ends_text true e = both_ends e

-- when a frame began, and where: the connection's number, the stream id and the ends
abbrev pub place_text : LineStyle → (first : Option ℕ) → Connection → Frame → List ℕ
place_text style first n f =
    joined (begun_text style.is_utc first f.begun ∷ codes " " ∷ decimal n.number ∷ codes ":" ∷ signed_decimal f.header.stream
    ∷ ends_text style.has_ends n.ends ∷ codes " " ∷ [])

-- from the first byte of a request to the last one of its response
abbrev pub took_text : (request response : Frame) → List ℕ
took_text q r = joined (codes " " ∷ time_text Millisecond (took q r) ∷ codes " ms\n" ∷ [])

-- how the connection of a request without a response ended, where that is why it has none
abbrev pub end_text : Option ConnectionEnd → List ℕ
end_text None = []
end_text (Some ending.Reset) = codes " (reset)"
end_text (Some ending.Closed) = codes " (closed)"
end_text (Some ending.Open) = codes " (open)"

abbrev pub paired_line : (known : Known) → LineStyle → (first : Option ℕ) → Connection → (end : Option ConnectionEnd) → Paired Kept → List ℕ
paired_line known style first n end (Exchange q r) =
    joined (place_text style first n q.frame ∷ request_text known style.values q ∷ codes " -> " ∷ response_text r ∷ took_text q.frame r.frame ∷ [])
paired_line known style first n end (Unanswered q) =
    joined (place_text style first n q.frame ∷ request_text known style.values q ∷ codes " -> nothing" ∷ end_text end ∷ codes "\n" ∷ [])
paired_line known style first n end (Unasked r) =
    joined (place_text style first n r.frame ∷ codes "nothing -> " ∷ response_text r ∷ codes "\n" ∷ [])
paired_line known style first n end (Event e) = joined (place_text style first n e.frame ∷ response_text e ∷ codes "\n" ∷ [])

-- what is not read of a connection, and what would help
abbrev pub opening_text : Opening → List ℕ
opening_text opening.Frames = []
opening_text (opening.OtherVersion version) =
    joined (codes "version " ∷ decimal version ∷ codes ": set the driver's protocol version to 4" ∷ [])
opening_text opening.Tls = codes "TLS: connect without it"
opening_text opening.Http = codes "HTTP: this is not the port of a node"

abbrev pub unread_line : LineStyle → (first : Option ℕ) → Connection → (time : Option ℕ) → Opening → List ℕ
unread_line style first n time o =
    joined (begun_text style.is_utc first time ∷ codes " " ∷ decimal n.number ∷ ends_text style.has_ends n.ends ∷ codes " unread " ∷ opening_text o
    ∷ codes "\n" ∷ [])

abbrev pub line : (known : Known) → LineStyle → (first : Option ℕ) → Connection → Report → List ℕ
line known style first n (Messages t end) = paired_line known style first n end t
line known style first n (Unread time o) = unread_line style first n time o
