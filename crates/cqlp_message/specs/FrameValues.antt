-- Frame values: what frames hold, without where it lies in memory (sections 2 and 4 of native_protocol_v4.spec). A text
-- is its bytes.
use Rattle.std.specs.Prelude.{ℕ, ℤ, List, Option}
use Rattle.cqlp_note.specs.declared.prim.Address.{Address}
use Rattle.cqlp_note.specs.Field.{BoundValue}
use Rattle.cqlp_type.specs.Trees.{Trees}
use Rattle.cqlp_value.specs.Values.{Values}

abbrev pub Octets : Type 0
Octets = List ℕ

-- ---- requests

-- Section 4.1.4: the parameters of a query. A value has a name, or has none.
pub record QueryParams : Type 0 where
  pub consistency : ℕ
  pub flags : ℕ
  pub values : Option (List (Option Octets × BoundValue))
  pub page_size : Option ℤ
  pub paging : Option (Option Octets)
  pub serial : Option ℕ
  pub timestamp : Option ℤ

-- Section 4.1.7: a statement of a batch, by its text or by the id of what was prepared, and its values.
pub data BatchEntry : Type 0 where
  Text : (text : Octets) → List BoundValue → BatchEntry
  Id : (id : Octets) → List BoundValue → BatchEntry

-- ---- responses

-- Section 9: what comes after the message of an error.
pub data ErrorExtra : Type 0 where
  Plain : ErrorExtra
  Unavailable : (consistency : ℕ) → (required alive : ℤ) → ErrorExtra
  WriteTimeout : (consistency : ℕ) → (received block_for : ℤ) → (write_type : Octets) → ErrorExtra
  ReadTimeout : (consistency : ℕ) → (received block_for : ℤ) → (data_present : ℕ) → ErrorExtra
  ReadFailure : (consistency : ℕ) → (received block_for failures : ℤ) → (data_present : ℕ) → ErrorExtra
  FunctionFailure : (keyspace name : Octets) → (arguments : List Octets) → ErrorExtra
  WriteFailure : (consistency : ℕ) → (received block_for failures : ℤ) → (write_type : Octets) → ErrorExtra
  AlreadyExists : (keyspace table : Octets) → ErrorExtra
  Unprepared : (id : Octets) → ErrorExtra

-- Section 4.2.5.5: what was changed.
pub data SchemaOptions : Type 0 where
  Keyspace : (keyspace : Octets) → SchemaOptions
  Named : (keyspace name : Octets) → SchemaOptions
  Callable : (keyspace name : Octets) → (arguments : List Octets) → SchemaOptions
  UnknownTarget : SchemaOptions

pub record SchemaChange : Type 0 where
  pub change : Octets
  pub target : Octets
  pub options : SchemaOptions

-- a keyspace and a table
abbrev pub TableName : Type 0
TableName = Octets × Octets

-- Section 4.2.5.2: a column, of a table if there is none for all columns, and its type.
pub record Spec : Type 0 where
  pub table : Option TableName
  pub name : Octets
  pub tree : Trees

-- Section 4.2.5.2: the description of a page's columns.
pub record Metadata : Type 0 where
  pub flags : ℤ
  pub columns : ℕ
  pub paging : Option (Option Octets)
  pub table : Option TableName
  pub specs : Option (List Spec)

-- Section 4.2.5.2: a page: the description of its columns, how many rows it has, and its cells, row after row.
pub record Page : Type 0 where
  pub meta : Metadata
  pub rows : ℕ
  pub cells : List Values

-- Section 4.2.5.4: a prepared statement: its id, the values that are to be bound, which of them are the partition key,
-- and what its pages will describe of their columns.
pub record PreparedStatement : Type 0 where
  pub id : Octets
  pub flags : ℤ
  pub columns : ℕ
  pub keys : List ℕ
  pub table : Option TableName
  pub specs : List Spec
  pub result : Metadata

-- Section 4.2.6: what an event reports.
pub data ServerEvent : Type 0 where
  Node : (change : Octets) → Address → (port : ℤ) → ServerEvent
  Schema : SchemaChange → ServerEvent
  UnknownEvent : ServerEvent

-- ---- messages and frames

pub data Message : Type 0 where
  Startup : List (Octets × Octets) → Message
  Options : Message
  Query : (text : Octets) → QueryParams → Message
  Prepare : (text : Octets) → Message
  Execute : (id : Octets) → QueryParams → Message
  Batch : (kind : ℕ) → List BatchEntry → (consistency flags : ℕ) → (serial : Option ℕ) → (timestamp : Option ℤ)
      → Message
  Register : List Octets → Message
  AuthResponse : (token : Option Octets) → Message
  Error : (code : ℤ) → (message : Octets) → ErrorExtra → Message
  Ready : Message
  Authenticate : (class : Octets) → Message
  Supported : List (Octets × List Octets) → Message
  Void : Message
  SetKeyspace : (keyspace : Octets) → Message
  Rows : Page → Message
  Prepared : PreparedStatement → Message
  Change : SchemaChange → Message
  UnknownResult : (kind : ℤ) → Message
  Event : (event : Octets) → ServerEvent → Message
  AuthChallenge : (token : Option Octets) → Message
  AuthSuccess : (token : Option Octets) → Message

-- Section 2: a frame, but for the length of its body, and the parts before its message.
pub record FrameValue : Type 0 where
  pub flags : ℕ
  pub stream : ℤ
  pub tracing : Option Octets
  pub warnings : Option (List Octets)
  pub payload : Option (List (Octets × Option Octets))
  pub message : Message
