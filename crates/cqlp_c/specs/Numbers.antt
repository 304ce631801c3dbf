-- The numbers of fields, kinds, reasons and phases. That of an opcode is its own (`code_of` of cqlp_note).
use Rattle.std.specs.Prelude.{ℕ, List, [], ◌∷◌, map}
use Rattle.cqlp_note.specs.declared.limits.BadLimits.{BadLimits}
use Rattle.cqlp_note.specs.declared.limits.BadLimits.TheVariants as limit
use Rattle.cqlp_note.specs.declared.field.Field.{Field}
use Rattle.cqlp_note.specs.declared.field.Field.TheVariants as field
use Rattle.cqlp_note.specs.declared.refusal.Reason.{Reason}
use Rattle.cqlp_note.specs.declared.refusal.Reason.TheVariants as reason
use Rattle.cqlp_kind.specs.declared.kind.Kind.{Kind}
use Rattle.cqlp_kind.specs.declared.kind.Kind.TheVariants as kind
use Rattle.cqlp_decode.specs.declared.decoder.NewError.{NewError}
use Rattle.cqlp_decode.specs.declared.decoder.NewError.TheVariants as error
use Rattle.cqlp_session.specs.declared.phase.Phase.{Phase}
use Rattle.cqlp_session.specs.declared.phase.Phase.TheVariants as phase
use Rattle.cqlp_c.specs.declared.numbers.TheConstants as numbers

-- the code for a limit that is out of its range
abbrev pub code_of_limit : BadLimits → ℕ
code_of_limit limit.Text = numbers.BAD_TEXT
code_of_limit limit.Cell = numbers.BAD_CELL
code_of_limit limit.Entries = numbers.BAD_ENTRIES
code_of_limit limit.Depth = numbers.BAD_DEPTH

-- the number of a field
abbrev pub number_of_field : Field → ℕ
number_of_field field.TraceId = numbers.FIELD_TRACE_ID
number_of_field field.Warnings = numbers.FIELD_WARNINGS
number_of_field field.Warning = numbers.FIELD_WARNING
number_of_field field.PayloadItems = numbers.FIELD_PAYLOAD_ITEMS
number_of_field field.PayloadKey = numbers.FIELD_PAYLOAD_KEY
number_of_field field.PayloadValue = numbers.FIELD_PAYLOAD_VALUE
number_of_field field.Options = numbers.FIELD_OPTIONS
number_of_field field.OptionKey = numbers.FIELD_OPTION_KEY
number_of_field field.OptionValue = numbers.FIELD_OPTION_VALUE
number_of_field field.OptionValues = numbers.FIELD_OPTION_VALUES
number_of_field field.Query = numbers.FIELD_QUERY
number_of_field field.StatementId = numbers.FIELD_STATEMENT_ID
number_of_field field.EventTypes = numbers.FIELD_EVENT_TYPES
number_of_field field.EventType = numbers.FIELD_EVENT_TYPE
number_of_field field.Token = numbers.FIELD_TOKEN
number_of_field field.BatchType = numbers.FIELD_BATCH_TYPE
number_of_field field.Entries = numbers.FIELD_ENTRIES
number_of_field field.EntryKind = numbers.FIELD_ENTRY_KIND
number_of_field field.Consistency = numbers.FIELD_CONSISTENCY
number_of_field field.BatchFlags = numbers.FIELD_BATCH_FLAGS
number_of_field field.SerialConsistency = numbers.FIELD_SERIAL_CONSISTENCY
number_of_field field.Timestamp = numbers.FIELD_TIMESTAMP
number_of_field field.QueryFlags = numbers.FIELD_QUERY_FLAGS
number_of_field field.Values = numbers.FIELD_VALUES
number_of_field field.ValueName = numbers.FIELD_VALUE_NAME
number_of_field field.Value = numbers.FIELD_VALUE
number_of_field field.PageSize = numbers.FIELD_PAGE_SIZE
number_of_field field.PagingState = numbers.FIELD_PAGING_STATE
number_of_field field.Class = numbers.FIELD_CLASS
number_of_field field.ErrorCode = numbers.FIELD_ERROR_CODE
number_of_field field.Message = numbers.FIELD_MESSAGE
number_of_field field.Required = numbers.FIELD_REQUIRED
number_of_field field.Alive = numbers.FIELD_ALIVE
number_of_field field.Received = numbers.FIELD_RECEIVED
number_of_field field.BlockFor = numbers.FIELD_BLOCK_FOR
number_of_field field.WriteType = numbers.FIELD_WRITE_TYPE
number_of_field field.DataPresent = numbers.FIELD_DATA_PRESENT
number_of_field field.Failures = numbers.FIELD_FAILURES
number_of_field field.Keyspace = numbers.FIELD_KEYSPACE
number_of_field field.Name = numbers.FIELD_NAME
number_of_field field.Arguments = numbers.FIELD_ARGUMENTS
number_of_field field.Argument = numbers.FIELD_ARGUMENT
number_of_field field.Table = numbers.FIELD_TABLE
number_of_field field.ResultKind = numbers.FIELD_RESULT_KIND
number_of_field field.Rows = numbers.FIELD_ROWS
number_of_field field.MetaFlags = numbers.FIELD_META_FLAGS
number_of_field field.Columns = numbers.FIELD_COLUMNS
number_of_field field.Keys = numbers.FIELD_KEYS
number_of_field field.KeyIndex = numbers.FIELD_KEY_INDEX
number_of_field field.ColumnName = numbers.FIELD_COLUMN_NAME
number_of_field field.Change = numbers.FIELD_CHANGE
number_of_field field.Target = numbers.FIELD_TARGET
number_of_field field.Address = numbers.FIELD_ADDRESS
number_of_field field.TypeName = numbers.FIELD_TYPE_NAME
number_of_field field.Fields = numbers.FIELD_FIELDS
number_of_field field.FieldName = numbers.FIELD_FIELD_NAME

-- all fields, in the order of their numbers
abbrev pub all_fields : List Field
all_fields =
    field.TraceId ∷ field.Warnings ∷ field.Warning ∷ field.PayloadItems ∷ field.PayloadKey ∷ field.PayloadValue ∷ field.Options
    ∷ field.OptionKey ∷ field.OptionValue ∷ field.OptionValues ∷ field.Query ∷ field.StatementId ∷ field.EventTypes ∷ field.EventType
    ∷ field.Token ∷ field.BatchType ∷ field.Entries ∷ field.EntryKind ∷ field.Consistency ∷ field.BatchFlags ∷ field.SerialConsistency
    ∷ field.Timestamp ∷ field.QueryFlags ∷ field.Values ∷ field.ValueName ∷ field.Value ∷ field.PageSize ∷ field.PagingState ∷ field.Class
    ∷ field.ErrorCode ∷ field.Message ∷ field.Required ∷ field.Alive ∷ field.Received ∷ field.BlockFor ∷ field.WriteType ∷ field.DataPresent
    ∷ field.Failures ∷ field.Keyspace ∷ field.Name ∷ field.Arguments ∷ field.Argument ∷ field.Table ∷ field.ResultKind ∷ field.Rows
    ∷ field.MetaFlags ∷ field.Columns ∷ field.Keys ∷ field.KeyIndex ∷ field.ColumnName ∷ field.Change ∷ field.Target ∷ field.Address
    ∷ field.TypeName ∷ field.Fields ∷ field.FieldName ∷ []

-- the fields by their numbers
abbrev pub fields : List (ℕ × Field)
fields = map (λ f. (number_of_field f, f)) all_fields

-- the number of a kind of types: the id of its type option
abbrev pub number_of_kind : Kind → ℕ
number_of_kind kind.Custom = numbers.KIND_CUSTOM
number_of_kind kind.Ascii = numbers.KIND_ASCII
number_of_kind kind.Bigint = numbers.KIND_BIGINT
number_of_kind kind.Blob = numbers.KIND_BLOB
number_of_kind kind.Boolean = numbers.KIND_BOOLEAN
number_of_kind kind.Counter = numbers.KIND_COUNTER
number_of_kind kind.Decimal = numbers.KIND_DECIMAL
number_of_kind kind.Double = numbers.KIND_DOUBLE
number_of_kind kind.Float = numbers.KIND_FLOAT
number_of_kind kind.Int = numbers.KIND_INT
number_of_kind kind.Timestamp = numbers.KIND_TIMESTAMP
number_of_kind kind.Uuid = numbers.KIND_UUID
number_of_kind kind.Varchar = numbers.KIND_VARCHAR
number_of_kind kind.Varint = numbers.KIND_VARINT
number_of_kind kind.Timeuuid = numbers.KIND_TIMEUUID
number_of_kind kind.Inet = numbers.KIND_INET
number_of_kind kind.Date = numbers.KIND_DATE
number_of_kind kind.Time = numbers.KIND_TIME
number_of_kind kind.Smallint = numbers.KIND_SMALLINT
number_of_kind kind.Tinyint = numbers.KIND_TINYINT
number_of_kind kind.List = numbers.KIND_LIST
number_of_kind kind.Map = numbers.KIND_MAP
number_of_kind kind.Set = numbers.KIND_SET
number_of_kind kind.Udt = numbers.KIND_UDT
number_of_kind kind.Tuple = numbers.KIND_TUPLE
number_of_kind kind.Raw = numbers.KIND_RAW

-- all kinds, in the order of their numbers
abbrev pub all_kinds : List Kind
all_kinds =
    kind.Custom ∷ kind.Ascii ∷ kind.Bigint ∷ kind.Blob ∷ kind.Boolean ∷ kind.Counter ∷ kind.Decimal ∷ kind.Double ∷ kind.Float
    ∷ kind.Int ∷ kind.Timestamp ∷ kind.Uuid ∷ kind.Varchar ∷ kind.Varint ∷ kind.Timeuuid ∷ kind.Inet ∷ kind.Date ∷ kind.Time
    ∷ kind.Smallint ∷ kind.Tinyint ∷ kind.List ∷ kind.Map ∷ kind.Set ∷ kind.Udt ∷ kind.Tuple ∷ kind.Raw ∷ []

-- the kinds by their numbers
abbrev pub kinds : List (ℕ × Kind)
kinds = map (λ k. (number_of_kind k, k)) all_kinds

-- the number of a reason
abbrev pub number_of_reason : Reason → ℕ
number_of_reason reason.BadVersion = numbers.REASON_BAD_VERSION
number_of_reason reason.Compressed = numbers.REASON_COMPRESSED
number_of_reason reason.BadOpcode = numbers.REASON_BAD_OPCODE
number_of_reason reason.BadDirection = numbers.REASON_BAD_DIRECTION
number_of_reason reason.BadLength = numbers.REASON_BAD_LENGTH
number_of_reason reason.Overrun = numbers.REASON_OVERRUN
number_of_reason reason.TooLong = numbers.REASON_TOO_LONG
number_of_reason reason.BadUtf8 = numbers.REASON_BAD_UTF8
number_of_reason reason.BadValueLength = numbers.REASON_BAD_VALUE_LENGTH
number_of_reason reason.BadInet = numbers.REASON_BAD_INET
number_of_reason reason.BadCount = numbers.REASON_BAD_COUNT
number_of_reason reason.BadType = numbers.REASON_BAD_TYPE
number_of_reason reason.TooDeep = numbers.REASON_TOO_DEEP
number_of_reason reason.TooMany = numbers.REASON_TOO_MANY
number_of_reason reason.BadBatchKind = numbers.REASON_BAD_BATCH_KIND
number_of_reason reason.BadBatchFlags = numbers.REASON_BAD_BATCH_FLAGS
number_of_reason reason.BadSize = numbers.REASON_BAD_SIZE
number_of_reason reason.BadScalar = numbers.REASON_BAD_SCALAR
number_of_reason reason.ExtraInValue = numbers.REASON_EXTRA_IN_VALUE
number_of_reason reason.StreamTooLong = numbers.REASON_STREAM_TOO_LONG

-- the code for a decoder that was not made
abbrev pub code_of_error : NewError → ℕ
code_of_error (error.BadLimits b) = code_of_limit b
code_of_error error.NoMemory = numbers.NO_MEMORY

-- the number of a phase
abbrev pub number_of_phase : Phase → ℕ
number_of_phase phase.Fresh = numbers.PHASE_FRESH
number_of_phase phase.Opening = numbers.PHASE_OPENING
number_of_phase phase.Challenged = numbers.PHASE_CHALLENGED
number_of_phase phase.Ready = numbers.PHASE_READY
number_of_phase phase.Failed = numbers.PHASE_FAILED
