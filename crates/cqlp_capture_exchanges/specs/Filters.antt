-- Which exchanges are shown.
use Rattle.std.specs.Prelude.{ℕ, Bool, true, false, not, ◌&&◌, ◌||◌, ◌==◌, nat_le, List, Option, Some, None}
use Rattle.std.specs.Net.Addr.{ipv4_octets, ipv6_octets}
use Rattle.std.specs.Str.{bytes_eq}
use Rattle.std.specs.declared.net.ip_addr.IpAddr.{IpAddr}
use Rattle.std.specs.declared.net.ip_addr.IpAddr.TheVariants as ip
use Rattle.cqlp_note.specs.declared.opcode.Opcode.{Opcode}
use Rattle.cqlp_note.specs.declared.opcode.Opcode.TheVariants as opcode
use Rattle.cqlp_note.specs.Heading.{code_of}
use Rattle.cqlp_observer.specs.Keeping.{Kept}
use Rattle.cqlp_observer.specs.declared.message.Frame.{Frame}
use Rattle.cqlp_observer.specs.declared.message.Message.{Message}
use Rattle.cqlp_observer.specs.declared.paired.Paired.{Paired}
use Rattle.cqlp_observer.specs.declared.paired.Paired.TheVariants.{Exchange, Unanswered, Unasked, Event}
use Rattle.cqlp_pattern.specs.declared.pattern.Pattern.{Pattern}
use Rattle.cqlp_pattern.specs.Matching.{is_match}
use Rattle.cqlp_tcp_segment.specs.declared.addresses.Address.{Address}
use Rattle.cqlp_tcp_segment.specs.declared.addresses.Address.TheVariants as address
use Rattle.cqlp_tcp_segment.specs.declared.addresses.Endpoint.{Endpoint}
use Rattle.cqlp_tcp_connections.specs.declared.ends.Ends.{Ends}
use Rattle.cqlp_capture_exchanges.specs.declared.connection.Connection.{Connection}
use Rattle.cqlp_capture_exchanges.specs.declared.filter.EndFilter.{EndFilter}
use Rattle.cqlp_capture_exchanges.specs.declared.filter.ExchangeFilter.{ExchangeFilter}
use Rattle.cqlp_capture_exchanges.specs.declared.filter.Moment.{Moment}
use Rattle.cqlp_capture_exchanges.specs.declared.filter.Moment.TheVariants as moment
use Rattle.cqlp_capture_exchanges.specs.declared.filter.ReplyKind.{ReplyKind}
use Rattle.cqlp_capture_exchanges.specs.declared.filter.ReplyKind.TheVariants as kind
use Rattle.cqlp_capture_exchanges.specs.declared.part.StatementPart.{StatementPart}
use Rattle.cqlp_capture_exchanges.specs.Parts.{bytes_of, is_part}
use Rattle.cqlp_capture_exchanges.specs.Prepared.{Known, named}
use Rattle.cqlp_capture_exchanges.specs.Replies.{reply}
use Rattle.cqlp_capture_exchanges.specs.Reports.{Report, Messages, Unread}
use Rattle.cqlp_capture_exchanges.specs.declared.reply.Reply.{Reply}
use Rattle.cqlp_capture_exchanges.specs.declared.reply.Reply.TheVariants as reply_as
use Rattle.cqlp_capture_exchanges.specs.Statements.{Said, Text, Id, statement}
use Rattle.cqlp_capture_exchanges.specs.declared.span.Span.{Span}
use Rattle.cqlp_capture_exchanges.specs.Spans.{is_short, time_between, took}

-- ---- with the number that is asked for: of the connection, or the port of an end

abbrev pub is_of : (asked : Option ℕ) → (number : ℕ) → Bool
is_of None number = true
is_of (Some n) number = n == number

-- ---- of a connection between the ends that are asked for: an address, at any port or at one

abbrev pub is_host : IpAddr → Address → Bool
is_host (ip.V4 a) (address.V4 octets) = bytes_eq (ipv4_octets a) octets
is_host (ip.V4 a) (address.V6 octets) = false
is_host (ip.V6 a) (address.V4 octets) = false
is_host (ip.V6 a) (address.V6 octets) = bytes_eq (ipv6_octets a) octets

abbrev pub is_end : EndFilter → Endpoint → Bool
is_end f e = is_host f.address e.address && is_of f.port e.port

abbrev pub is_at : (asked : Option EndFilter) → Endpoint → Bool
is_at None e = true
is_at (Some f) e = is_end f e

abbrev pub is_between : ExchangeFilter → Ends → Bool
is_between f e = is_at f.client e.client && is_at f.node e.node

-- ---- The reply's last byte came at least so long after the request's first.

abbrev pub is_at_least : (least : ℕ) → Option Span → Bool
is_at_least least None = false
is_at_least least (Some s) = not s.is_before && nat_le least s.nanoseconds

abbrev pub took_at_least : (least : ℕ) → Paired Kept → Bool
took_at_least least (Exchange request response) = is_at_least least (took request.frame response.frame)
took_at_least least t = false

abbrev pub reported_slow : (least : ℕ) → Report → Bool
reported_slow least (Messages t end) = took_at_least least t
reported_slow least (Unread time o) = false

abbrev pub is_slow : (least : Option ℕ) → Report → Bool
is_slow None r = true
is_slow (Some least) r = reported_slow least r

-- ---- The reply is an ERROR, or did not come to its end, or there is none; or the connection is not read.

abbrev pub is_error : Opcode → Bool
is_error opcode.Error = true
is_error o = false

abbrev pub is_failure : Frame → Bool
is_failure f = is_error f.header.opcode || is_short f.extent

abbrev pub has_failed : Paired Kept → Bool
has_failed (Exchange request response) = is_failure response.frame
has_failed (Unanswered request) = true
has_failed (Unasked response) = false
has_failed (Event event) = false

abbrev pub is_trouble : Report → Bool
is_trouble (Messages t end) = has_failed t
is_trouble (Unread time o) = true

-- ---- The request has the opcode that is asked for.

abbrev pub has_opcode : Opcode → Frame → Bool
has_opcode o f = code_of f.header.opcode == code_of o

abbrev pub asks : Opcode → Paired Kept → Bool
asks o (Exchange request response) = has_opcode o request.frame
asks o (Unanswered request) = has_opcode o request.frame
asks o (Unasked response) = false
asks o (Event event) = false

abbrev pub reported_asking : Opcode → Report → Bool
reported_asking o (Messages t end) = asks o t
reported_asking o (Unread time opening) = false

abbrev pub is_asking : (asked : Option Opcode) → Report → Bool
is_asking None r = true
is_asking (Some o) r = reported_asking o r

-- ---- The reply is of the kind that is asked for, or the response that is alone.

abbrev pub is_result_of : (number : ℕ) → Reply → Bool
is_result_of n (reply_as.Result kind) = kind == n
is_result_of n r = false

abbrev pub is_error_with : (code : ℕ) → Reply → Bool
is_error_with n (reply_as.Error code) = code == n
is_error_with n r = false

abbrev pub has_kind : ReplyKind → Message Kept → Bool
has_kind (kind.Result n) m = is_result_of n (reply m.frame.header m.kept.front)
has_kind (kind.Error code) m = is_error_with code (reply m.frame.header m.kept.front)
has_kind (kind.Response o) m = has_opcode o m.frame

abbrev pub replied_by : ReplyKind → Paired Kept → Bool
replied_by k (Exchange request response) = has_kind k response
replied_by k (Unanswered request) = false
replied_by k (Unasked response) = has_kind k response
replied_by k (Event event) = has_kind k event

abbrev pub reported_replied : ReplyKind → Report → Bool
reported_replied k (Messages t end) = replied_by k t
reported_replied k (Unread time opening) = false

abbrev pub is_replied : (asked : Option ReplyKind) → Report → Bool
is_replied None r = true
is_replied (Some k) r = reported_replied k r

-- ---- Its first byte came at a time that is asked for: since the first packet, or since 1970-01-01 00:00:00 UTC.

abbrev pub begun_in : Paired Kept → Option ℕ
begun_in (Exchange request response) = request.frame.begun
begun_in (Unanswered request) = request.frame.begun
begun_in (Unasked response) = response.frame.begun
begun_in (Event event) = event.frame.begun

abbrev pub begun : Report → Option ℕ
begun (Messages t end) = begun_in t
begun (Unread time o) = time

abbrev pub is_since : (asked : Option Moment) → (first time : Option ℕ) → Bool
is_since None first time = true
is_since (Some (moment.After least)) first time = is_at_least least (time_between first time)
is_since (Some (moment.At least)) first time = is_at_least least (time_between (Some 0) time)

abbrev pub is_at_most : (most : ℕ) → Option Span → Bool
is_at_most most None = false
is_at_most most (Some s) = s.is_before || nat_le s.nanoseconds most

abbrev pub is_until : (asked : Option Moment) → (first time : Option ℕ) → Bool
is_until None first time = true
is_until (Some (moment.After most)) first time = is_at_most most (time_between first time)
is_until (Some (moment.At most)) first time = is_at_most most (time_between (Some 0) time)

abbrev pub is_within : ExchangeFilter → (first time : Option ℕ) → Bool
is_within f first time = is_since f.since first time && is_until f.until first time

-- ---- The text of its statement, as far as it is known, has the part that is asked for.

abbrev pub says : (part : List ℕ) → Option Said → Bool
says part None = false
says part (Some (Text text is_whole)) = is_part part text
says part (Some (Id id is_whole)) = false

-- what a request asks to be done
abbrev pub request_said : (known : Known) → Message Kept → Option Said
request_said known m = named known (statement m.frame.header m.kept.front)

abbrev pub paired_said : (known : Known) → Paired Kept → Option Said
paired_said known (Exchange request response) = request_said known request
paired_said known (Unanswered request) = request_said known request
paired_said known (Unasked response) = None
paired_said known (Event event) = None

abbrev pub reported_said : (known : Known) → Report → Option Said
reported_said known (Messages t end) = paired_said known t
reported_said known (Unread time o) = None

abbrev pub is_saying : (asked : Option StatementPart) → (known : Known) → Report → Bool
is_saying None known r = true
is_saying (Some part) known r = says (bytes_of part) (reported_said known r)

-- ---- The text of its statement, as far as it is known, has a match of the pattern that is asked for.

abbrev pub has_match : Pattern → Option Said → Bool
has_match pattern None = false
has_match pattern (Some (Text text is_whole)) = is_match pattern text is_whole
has_match pattern (Some (Id id is_whole)) = false

abbrev pub is_matching : (asked : Option Pattern) → (known : Known) → Report → Bool
is_matching None known r = true
is_matching (Some pattern) known r = has_match pattern (reported_said known r)

-- ---- all that is asked for

abbrev pub shows : ExchangeFilter → (known : Known) → (first : Option ℕ) → Connection → Report → Bool
shows f known first n r =
    is_of f.connection n.number && is_between f n.ends && is_slow f.slow r
    && (not f.errors || is_trouble r) && is_asking f.opcode r && is_replied f.kind r
    && is_within f first (begun r) && is_saying f.statement known r && is_matching f.pattern known r
