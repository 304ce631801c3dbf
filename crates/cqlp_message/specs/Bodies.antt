-- The bodies of messages: their parts in order (section 4 of native_protocol_v4.spec). Read `message_parts` at the end first, a line for each
-- message; what its lines name is above it.
use Rattle.std.specs.Prelude.{ℕ, zero, suc, ◌+◌, ℤ, pos, ◌++◌, List, [], ◌∷◌, length, drop, Option, Some, None}
use Rattle.std.specs.List.{flat_map}
use Rattle.cqlp_note.specs.declared.field.Field.{Field}
use Rattle.cqlp_note.specs.declared.field.Field.TheVariants as field
use Rattle.cqlp_note.specs.declared.field.Notation.TheVariants as notation
use Rattle.cqlp_note.specs.Field.{BoundValue}
use Rattle.cqlp_note.specs.Field as note
use Rattle.cqlp_kind.specs.Types.{Types, NoMore, Type_and, how_many, followed_by}
use Rattle.cqlp_type.specs.Trees.{types_in}
use Rattle.cqlp_value.specs.Values.{Values}
use Rattle.cqlp_message.specs.FrameValues.{Octets, TableName, Spec, Metadata, Page, PreparedStatement, QueryParams, BatchEntry}
use Rattle.cqlp_message.specs.FrameValues.{Text, Id, ErrorExtra, Plain, Unavailable, WriteTimeout, ReadTimeout, ReadFailure}
use Rattle.cqlp_message.specs.FrameValues.{FunctionFailure, WriteFailure, AlreadyExists, Unprepared, SchemaOptions, Keyspace, Named}
use Rattle.cqlp_message.specs.FrameValues.{Callable, UnknownTarget, SchemaChange, ServerEvent, Node, Schema, UnknownEvent, Message}
use Rattle.cqlp_message.specs.FrameValues.{Startup, Options, Query, Prepare, Execute, Batch, Register, AuthResponse, Error, Ready}
use Rattle.cqlp_message.specs.FrameValues.{Authenticate, Supported, Void, SetKeyspace, Rows, Prepared, Change, UnknownResult, Event}
use Rattle.cqlp_message.specs.FrameValues.{AuthChallenge, AuthSuccess}
use Rattle.cqlp_grammar.specs.Codes as code
use Rattle.cqlp_grammar.specs.Productions.{raw_types}
use Rattle.cqlp_message.specs.Parts.{Part, Field_is, Type_is, Cell_is, PartsSpell}

-- ---- fields

abbrev pub byte : Field → ℕ → Part
byte f n = Field_is f notation.Byte (note.Byte n)

abbrev pub short : Field → ℕ → Part
short f n = Field_is f notation.Short (note.Short n)

abbrev pub int : Field → ℤ → Part
int f z = Field_is f notation.Int (note.Int z)

abbrev pub long : Field → ℤ → Part
long f z = Field_is f notation.Long (note.Long z)

-- a number of 32 bits that counts
abbrev pub count : Field → ℕ → Part
count f n = Field_is f notation.Count32 (note.Count n)

-- a [string]
abbrev pub text : Field → Octets → Part
text f s = Field_is f notation.Text16 (note.Text s)

-- a [long string]
abbrev pub query : Octets → Part
query s = Field_is field.Query notation.Text32 (note.Text s)

-- [short bytes]
abbrev pub statement : Octets → Part
statement id = Field_is field.StatementId notation.Bytes16 (note.Bytes (Some id))

-- [bytes]
abbrev pub bytes : Field → Option Octets → Part
bytes f o = Field_is f notation.Bytes32 (note.Bytes o)

-- a [value]
abbrev pub bound : BoundValue → Part
bound v = Field_is field.Value notation.Bound (note.Bound v)

-- ---- several fields

-- the parts of what is there
abbrev pub where_some : {A : Type 0} → (A → List Part) → Option A → List Part
where_some parts None = []
where_some parts (Some a) = parts a

-- a [short] that counts the items, and the parts of each
abbrev pub counted : {A : Type 0} → Field → (A → List Part) → List A → List Part
counted f parts items = Field_is f notation.Count16 (note.Count (length items)) ∷ flat_map parts items

-- a [string list]
abbrev pub texts : (list item : Field) → List Octets → List Part
texts list item ts = counted list (λ t. text item t ∷ []) ts

-- ---- parts of requests

-- a value, after its name if it has one
abbrev pub value_parts : Option Octets × BoundValue → List Part
value_parts v = where_some (λ name. text field.ValueName name ∷ []) v.0 ++ bound v.1 ∷ []

abbrev pub serial_parts : Option ℕ → List Part
serial_parts o = where_some (λ n. short field.SerialConsistency n ∷ []) o

abbrev pub timestamp_parts : Option ℤ → List Part
timestamp_parts o = where_some (λ z. long field.Timestamp z ∷ []) o

abbrev pub paging_parts : Option (Option Octets) → List Part
paging_parts o = where_some (λ state. bytes field.PagingState state ∷ []) o

-- Section 4.1.4: the parameters of a query.
abbrev pub params_parts : QueryParams → List Part
params_parts q =
    short field.Consistency q.consistency ∷ byte field.QueryFlags q.flags ∷ []
    ++ where_some (counted field.Values value_parts) q.values
    ++ where_some (λ z. int field.PageSize z ∷ []) q.page_size
    ++ paging_parts q.paging
    ++ serial_parts q.serial
    ++ timestamp_parts q.timestamp

-- Section 4.1.7: a statement of a batch, of kind 0 or 1, and its values.
abbrev pub entry_parts : BatchEntry → List Part
entry_parts (Text text vs) = byte field.EntryKind 0 ∷ query text ∷ counted field.Values (λ v. bound v ∷ []) vs
entry_parts (Id id vs) = byte field.EntryKind 1 ∷ statement id ∷ counted field.Values (λ v. bound v ∷ []) vs

-- ---- parts of responses

-- Section 9: what comes after the message of an error.
abbrev pub extra_parts : ErrorExtra → List Part
extra_parts Plain = []
extra_parts (Unavailable consistency required alive) =
    short field.Consistency consistency ∷ int field.Required required ∷ int field.Alive alive ∷ []
extra_parts (WriteTimeout consistency received block_for type) =
    short field.Consistency consistency ∷ int field.Received received ∷ int field.BlockFor block_for
    ∷ text field.WriteType type ∷ []
extra_parts (ReadTimeout consistency received block_for data_present) =
    short field.Consistency consistency ∷ int field.Received received ∷ int field.BlockFor block_for
    ∷ byte field.DataPresent data_present ∷ []
extra_parts (ReadFailure consistency received block_for failures data_present) =
    short field.Consistency consistency ∷ int field.Received received ∷ int field.BlockFor block_for
    ∷ int field.Failures failures ∷ byte field.DataPresent data_present ∷ []
extra_parts (FunctionFailure keyspace name arguments) =
    text field.Keyspace keyspace ∷ text field.Name name ∷ texts field.Arguments field.Argument arguments
extra_parts (WriteFailure consistency received block_for failures type) =
    short field.Consistency consistency ∷ int field.Received received ∷ int field.BlockFor block_for
    ∷ int field.Failures failures ∷ text field.WriteType type ∷ []
extra_parts (AlreadyExists keyspace table) = text field.Keyspace keyspace ∷ text field.Table table ∷ []
extra_parts (Unprepared id) = statement id ∷ []

-- a keyspace and a table, if they are there
abbrev pub table_parts : Option TableName → List Part
table_parts o = where_some (λ t. text field.Keyspace t.0 ∷ text field.Table t.1 ∷ []) o

-- Section 4.2.5.2: a column.
abbrev pub spec_parts : Spec → List Part
spec_parts c = table_parts c.table ++ text field.ColumnName c.name ∷ Type_is c.tree ∷ []

abbrev pub specs_parts : Option TableName → List Spec → List Part
specs_parts table specs = table_parts table ++ flat_map spec_parts specs

-- Section 4.2.5.2: the description of a page's columns.
abbrev pub metadata_parts : Metadata → List Part
metadata_parts m =
    int field.MetaFlags m.flags ∷ count field.Columns m.columns ∷ []
    ++ paging_parts m.paging
    ++ table_parts m.table
    ++ where_some (flat_map spec_parts) m.specs

-- the values of the partition key
abbrev pub counted_keys : List ℕ → List Part
counted_keys keys = count field.Keys (length keys) ∷ flat_map (λ k. short field.KeyIndex k ∷ []) keys

-- ---- pages

-- the types of these columns
abbrev pub column_types : List Spec → Types
column_types [] = NoMore
column_types (c ∷ specs) = followed_by (types_in c.tree) (column_types specs)

-- the types of a page's cells: those of its columns, or cells as they are where no columns are described
abbrev pub types_described : (columns : ℕ) → Option (List Spec) → Types
types_described columns None = raw_types columns
types_described columns (Some specs) = column_types specs

abbrev pub cell_types : Metadata → Types
cell_types m = types_described m.columns m.specs

-- a cell of each of these columns, the first of which has this number
abbrev pub row_parts : (row column : ℕ) → Types → List Values → List Part
row_parts row column NoMore cells = []
row_parts row column (Type_and k inner others) [] = []
row_parts row column (Type_and k inner others) (v ∷ cells) =
    Cell_is row column k inner v ∷ row_parts row (column + 1) others cells

-- the cells of this many rows, the first of which has this number
abbrev pub rows_parts : (row : ℕ) → Types → (rows : ℕ) → List Values → List Part
rows_parts row columns zero cells = []
rows_parts row columns (suc n) cells =
    row_parts row 0 columns cells ++ rows_parts (row + 1) columns n (drop (how_many columns) cells)

-- Section 4.2.5.2: a page.
abbrev pub page_parts : Page → List Part
page_parts p =
    metadata_parts p.meta ++ count field.Rows p.rows ∷ rows_parts 0 (cell_types p.meta) p.rows p.cells

-- Section 4.2.5.4: a prepared statement.
abbrev pub prepared_parts : PreparedStatement → List Part
prepared_parts p =
    statement p.id ∷ int field.MetaFlags p.flags ∷ count field.Columns p.columns
    ∷ counted_keys p.keys
    ++ specs_parts p.table p.specs
    ++ metadata_parts p.result

-- Section 4.2.5.5: what was changed.
abbrev pub options_parts : SchemaOptions → List Part
options_parts (Keyspace keyspace) = text field.Keyspace keyspace ∷ []
options_parts (Named keyspace name) = text field.Keyspace keyspace ∷ text field.Name name ∷ []
options_parts (Callable keyspace name arguments) =
    text field.Keyspace keyspace ∷ text field.Name name ∷ texts field.Arguments field.Argument arguments
options_parts UnknownTarget = []

abbrev pub change_parts : SchemaChange → List Part
change_parts c = text field.Change c.change ∷ text field.Target c.target ∷ options_parts c.options

-- Section 4.2.6: what an event reports.
abbrev pub event_parts : ServerEvent → List Part
event_parts (Node change address port) =
    text field.Change change ∷ Field_is field.Address notation.Inet (note.Inet address port) ∷ []
event_parts (Schema c) = change_parts c
event_parts UnknownEvent = []

-- ---- messages

-- The parts of a message, in order.
abbrev pub message_parts : Message → List Part
message_parts (Startup os) = counted field.Options (λ o. text field.OptionKey o.0 ∷ text field.OptionValue o.1 ∷ []) os
message_parts Options = []
message_parts (Query text q) = query text ∷ params_parts q
message_parts (Prepare text) = query text ∷ []
message_parts (Execute id q) = statement id ∷ params_parts q
message_parts (Batch kind entries consistency flags serial timestamp) =
    byte field.BatchType kind ∷ []
    ++ counted field.Entries entry_parts entries
    ++ short field.Consistency consistency ∷ byte field.BatchFlags flags ∷ []
    ++ serial_parts serial
    ++ timestamp_parts timestamp
message_parts (Register types) = texts field.EventTypes field.EventType types
message_parts (AuthResponse token) = bytes field.Token token ∷ []
message_parts (Error code message extra) = int field.ErrorCode code ∷ text field.Message message ∷ extra_parts extra
message_parts Ready = []
message_parts (Authenticate class) = text field.Class class ∷ []
message_parts (Supported os) =
    counted field.Options (λ o. text field.OptionKey o.0 ∷ texts field.OptionValues field.OptionValue o.1) os
message_parts Void = int field.ResultKind (pos code.void) ∷ []
message_parts (SetKeyspace keyspace) = int field.ResultKind (pos code.set_keyspace) ∷ text field.Keyspace keyspace ∷ []
message_parts (Rows p) = int field.ResultKind (pos code.rows) ∷ page_parts p
message_parts (Prepared p) = int field.ResultKind (pos code.prepared) ∷ prepared_parts p
message_parts (Change c) = int field.ResultKind (pos code.schema_change) ∷ change_parts c
message_parts (UnknownResult kind) = int field.ResultKind kind ∷ []
message_parts (Event event described) = text field.EventType event ∷ event_parts described
message_parts (AuthChallenge token) = bytes field.Token token ∷ []
message_parts (AuthSuccess token) = bytes field.Token token ∷ []

-- The bytes are those of the message's parts, one after the other.
abbrev pub BodySpells : Message → List ℕ → Type 0
BodySpells m b = PartsSpell (message_parts m) b
