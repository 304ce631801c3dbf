-- Where flags, codes and names agree with the parts that they announce (sections 2.2, 4 and 9 of
-- native_protocol_v4.spec).
use Rattle.std.specs.Prelude.{ℕ, ◌*◌, ℤ, Bool, true, ◌&&◌, ◌||◌, ◌==◌, not, List, length, Option, Some, None, is_some, codes}
use Rattle.std.specs.Prelude.{nat_lt}
use Rattle.std.specs.List.{list_all}
use Rattle.std.specs.Str.{bytes_eq}
use Rattle.std.specs.Int.{w32, cast_unsigned}
use Rattle.cqlp_note.specs.declared.opcode.Opcode.{Opcode}
use Rattle.cqlp_note.specs.declared.opcode.Opcode.TheVariants as opcode
use Rattle.cqlp_note.specs.Field.{BoundValue}
use Rattle.cqlp_note.specs.Heading.{has, same, answers, beside_number}
use Rattle.cqlp_type.specs.Trees.{is_tree}
use Rattle.cqlp_message.specs.FrameValues.{Octets, TableName, Spec, Metadata, PreparedStatement, QueryParams, ErrorExtra, Plain}
use Rattle.cqlp_message.specs.FrameValues.{Unavailable, WriteTimeout, ReadTimeout, ReadFailure, FunctionFailure, WriteFailure}
use Rattle.cqlp_message.specs.FrameValues.{AlreadyExists, Unprepared, SchemaOptions, Keyspace, Named, Callable, UnknownTarget}
use Rattle.cqlp_message.specs.FrameValues.{SchemaChange, ServerEvent, Node, Schema, UnknownEvent, Message, Startup, Options, Query}
use Rattle.cqlp_message.specs.FrameValues.{Prepare, Execute, Batch, Register, AuthResponse, Error, Ready, Authenticate, Supported}
use Rattle.cqlp_message.specs.FrameValues.{Void, SetKeyspace, Rows, Prepared, Change, UnknownResult, Event, AuthChallenge}
use Rattle.cqlp_message.specs.FrameValues.{AuthSuccess, FrameValue}
use Rattle.cqlp_grammar.specs.Codes as error
use Rattle.cqlp_grammar.specs.Productions.{Symbol, errors, targets, events, by_text}

-- a part is there exactly where it is announced
abbrev pub there_if : {A : Type 0} → (announced : Bool) → Option A → Bool
there_if announced o = same announced (is_some o)

-- ---- requests

-- the values have names, or none has
abbrev pub are_named : (named : Bool) → Option (List (Option Octets × BoundValue)) → Bool
are_named named None = true
are_named named (Some vs) = list_all (λ v. there_if named v.0) vs

-- Section 4.1.4: the parts of a query's parameters are those of its flags, and its values have names where 40 is set.
abbrev pub params_agree : QueryParams → Bool
params_agree q =
    there_if (has q.flags 0x01) q.values && are_named (has q.flags 0x40) q.values
    && there_if (has q.flags 0x04) q.page_size && there_if (has q.flags 0x08) q.paging
    && there_if (has q.flags 0x10) q.serial && there_if (has q.flags 0x20) q.timestamp

-- Section 4.1.7: the same of a batch, whose flags have no bit of 4F.
abbrev pub batch_agrees : (flags : ℕ) → Option ℕ → Option ℤ → Bool
batch_agrees flags serial timestamp =
    not (has flags 0x4F) && there_if (has flags 0x10) serial && there_if (has flags 0x20) timestamp

-- ---- responses

-- Section 9: what comes after an error's message is what its code announces. The code is the number that its bytes are.
abbrev pub extra_agrees : (code : ℕ) → ErrorExtra → Bool
extra_agrees code Plain = not (is_some (beside_number code errors))
extra_agrees code (Unavailable c r a) = code == error.unavailable
extra_agrees code (WriteTimeout c r b w) = code == error.write_timeout
extra_agrees code (ReadTimeout c r b d) = code == error.read_timeout
extra_agrees code (ReadFailure c r b f d) = code == error.read_failure
extra_agrees code (FunctionFailure k n ts) = code == error.function_failure
extra_agrees code (WriteFailure c r b f w) = code == error.write_failure
extra_agrees code (AlreadyExists k t) = code == error.already_exists
extra_agrees code (Unprepared i) = code == error.unprepared

-- no text of a table
abbrev pub is_unknown : Octets → List (Octets × List Symbol) → Bool
is_unknown text table = length (by_text text table) == 0

-- Section 4.2.5.5: what was changed is of the target's kind.
abbrev pub options_agree : (target : Octets) → SchemaOptions → Bool
options_agree target (Keyspace k) = bytes_eq target (codes "KEYSPACE")
options_agree target (Named k n) = bytes_eq target (codes "TABLE") || bytes_eq target (codes "TYPE")
options_agree target (Callable k n ts) = bytes_eq target (codes "FUNCTION") || bytes_eq target (codes "AGGREGATE")
options_agree target UnknownTarget = is_unknown target targets

abbrev pub change_agrees : SchemaChange → Bool
change_agrees c = options_agree c.target c.options

-- Section 4.2.6: what an event reports is of its type.
abbrev pub event_agrees : (event : Octets) → ServerEvent → Bool
event_agrees event (Node c a port) = bytes_eq event (codes "TOPOLOGY_CHANGE") || bytes_eq event (codes "STATUS_CHANGE")
event_agrees event (Schema c) = bytes_eq event (codes "SCHEMA_CHANGE") && change_agrees c
event_agrees event UnknownEvent = is_unknown event events

-- Section 4.2.5: no kind of result, by the number that its bytes are.
abbrev pub is_no_result : (kind : ℕ) → Bool
is_no_result kind = (kind == 0) || nat_lt 5 kind

-- Section 4.2.5.2: a column has a table of its own, or has none, and one type.
abbrev pub spec_agrees : (own : Bool) → Spec → Bool
spec_agrees own c = there_if own c.table && is_tree c.tree

-- Section 4.2.5.2: there are as many specs as columns. The table of all is there where 1 is set, and else each has one.
abbrev pub specs_agree : (flags columns : ℕ) → Option TableName → List Spec → Bool
specs_agree flags columns table specs =
    (length specs == columns) && there_if (has flags 0x01) table
    && list_all (spec_agrees (not (has flags 0x01))) specs

-- Section 4.2.5.2: the columns are described where 4 is not set.
abbrev pub columns_agree : (flags columns : ℕ) → Option TableName → Option (List Spec) → Bool
columns_agree flags columns table None = has flags 0x04 && not (is_some table)
columns_agree flags columns table (Some specs) = not (has flags 0x04) && specs_agree flags columns table specs

-- the bits of an [int]
abbrev pub bits : ℤ → ℕ
bits z = cast_unsigned w32 z

abbrev pub metadata_agrees : Metadata → Bool
metadata_agrees m =
    there_if (has (bits m.flags) 0x02) m.paging && columns_agree (bits m.flags) m.columns m.table m.specs

abbrev pub prepared_agrees : PreparedStatement → Bool
prepared_agrees p = specs_agree (bits p.flags) p.columns p.table p.specs && metadata_agrees p.result

-- ---- messages and frames

abbrev pub message_agrees : Message → Bool
message_agrees (Query text q) = params_agree q
message_agrees (Execute id q) = params_agree q
message_agrees (Batch kind entries consistency flags serial timestamp) = batch_agrees flags serial timestamp
message_agrees (Error code message extra) = extra_agrees (bits code) extra
message_agrees (Rows p) = metadata_agrees p.meta
message_agrees (Prepared p) = prepared_agrees p
message_agrees (Change c) = change_agrees c
message_agrees (UnknownResult kind) = is_no_result (bits kind)
message_agrees (Event event described) = event_agrees event described
message_agrees m = true

-- Section 2.4: the opcode of a message.
abbrev pub opcode_of : Message → Opcode
opcode_of (Startup os) = opcode.Startup
opcode_of Options = opcode.Options
opcode_of (Query text q) = opcode.Query
opcode_of (Prepare text) = opcode.Prepare
opcode_of (Execute id q) = opcode.Execute
opcode_of (Batch kind entries consistency flags serial timestamp) = opcode.Batch
opcode_of (Register types) = opcode.Register
opcode_of (AuthResponse token) = opcode.AuthResponse
opcode_of (Error code message extra) = opcode.Error
opcode_of Ready = opcode.Ready
opcode_of (Authenticate class) = opcode.Authenticate
opcode_of (Supported os) = opcode.Supported
opcode_of Void = opcode.Result
opcode_of (SetKeyspace keyspace) = opcode.Result
opcode_of (Rows p) = opcode.Result
opcode_of (Prepared p) = opcode.Result
opcode_of (Change c) = opcode.Result
opcode_of (UnknownResult kind) = opcode.Result
opcode_of (Event event described) = opcode.Event
opcode_of (AuthChallenge token) = opcode.AuthChallenge
opcode_of (AuthSuccess token) = opcode.AuthSuccess

abbrev pub is_response : Message → Bool
is_response m = answers (opcode_of m)

-- A request has neither a tracing id nor warnings.
abbrev pub is_directed : FrameValue → Bool
is_directed f = is_response f.message || (not (is_some f.tracing) && not (is_some f.warnings))

-- Section 2.2: the body is not compressed, and the parts before a message are those of the frame's flags. A request has
-- neither a tracing id nor warnings, whatever its flags.
abbrev pub frame_agrees : FrameValue → Bool
frame_agrees f =
    not (has f.flags 0x01)
    && there_if (is_response f.message && has f.flags 0x02) f.tracing
    && there_if (is_response f.message && has f.flags 0x08) f.warnings
    && there_if (has f.flags 0x04) f.payload
    && message_agrees f.message

-- Section 4.2.5.2: a page has a cell of each row and each column.
abbrev pub has_its_cells : Message → Bool
has_its_cells (Rows p) = length p.cells == p.rows * p.meta.columns
has_its_cells m = true
