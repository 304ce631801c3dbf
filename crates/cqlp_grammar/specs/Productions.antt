-- The productions of frames: what each symbol becomes (sections 2 and 4 of native_protocol_v4.spec).
use Rattle.std.specs.Prelude.{ℕ, zero, suc, ◌+◌, ◌++◌, true, false, List, [], ◌∷◌, Option, Some, None, nat_lt, ◌==◌, if◌then◌else◌}
use Rattle.std.specs.Prelude.{unwrap_or}
use Rattle.std.specs.Int.{w32, cast_unsigned}
use Rattle.std.specs.Str.{bytes_eq}
use Rattle.std.specs.Prelude.{codes}
use Rattle.cqlp_note.specs.declared.field.Field.{Field}
use Rattle.cqlp_note.specs.declared.field.Field.TheVariants as field
use Rattle.cqlp_note.specs.declared.field.Notation.{Notation}
use Rattle.cqlp_note.specs.declared.field.Notation.TheVariants.{Byte, Short, Int, Long, Uuid, Count16, Count32, Text16, Text32}
use Rattle.cqlp_note.specs.declared.field.Notation.TheVariants.{Bytes16, Bytes32, Bound, Inet}
use Rattle.cqlp_note.specs.declared.opcode.Opcode.{Opcode}
use Rattle.cqlp_note.specs.declared.opcode.Opcode.TheVariants as opcode
use Rattle.cqlp_note.specs.declared.header.Header.{Header}
use Rattle.cqlp_note.specs.declared.refusal.Reason.{Reason}
use Rattle.cqlp_note.specs.declared.refusal.Reason.TheVariants.{BadBatchKind, BadBatchFlags}
use Rattle.cqlp_note.specs.Field.{FieldValue}
use Rattle.cqlp_note.specs.Field as note
use Rattle.cqlp_note.specs.Heading.{has, beside_number}
use Rattle.cqlp_kind.specs.declared.kind.Kind.{Kind}
use Rattle.cqlp_kind.specs.declared.kind.Kind.TheVariants as kind
use Rattle.cqlp_kind.specs.Types.{Types, NoMore, Type_and}
use Rattle.cqlp_kind.specs.TypeStep.{TypeSymbol, Option_at}
use Rattle.cqlp_kind.specs.CellStep.{CellSymbol}
use Rattle.cqlp_grammar.specs.Codes as code
use Rattle.cqlp_grammar.specs.declared.grammar.Group.{Group}
use Rattle.cqlp_grammar.specs.declared.grammar.Group.TheVariants as group_of
use Rattle.cqlp_grammar.specs.declared.grammar.Role.{Role}
use Rattle.cqlp_grammar.specs.declared.grammar.Role.TheVariants as role

-- What is still to be read of a stream.
pub data Symbol : Type 0 where
  Stream : Symbol
  In : Field → Notation → Role → Symbol
  In_type : List TypeSymbol → Symbol
  -- the cell of a row and a column, a value of this type, which is not begun
  Cell_due : (row column : ℕ) → Kind → (inner : Types) → Symbol
  -- what is left of a cell
  In_cell : (row column : ℕ) → List CellSymbol → Symbol
  Extra : Symbol

abbrev pub plain : Field → Notation → Symbol
plain f n = In f n role.Alone

abbrev pub counted : Field → Group → Symbol
counted f g = In f Count16 (role.Counts g)

abbrev pub copies : ℕ → List Symbol → List Symbol
copies zero symbols = []
copies (suc n) symbols = symbols ++ copies n symbols

-- symbols that come only where a flag is set
abbrev pub where_set : (flags bit : ℕ) → List Symbol → List Symbol
where_set flags bit symbols = if has flags bit then symbols else []

-- ---- groups

abbrev pub table_name : List Symbol
table_name = plain field.Keyspace Text16 ∷ plain field.Table Text16 ∷ []

abbrev pub group : Group → List Symbol
group group_of.Warnings = plain field.Warning Text16 ∷ []
group group_of.PayloadItems = plain field.PayloadKey Text16 ∷ plain field.PayloadValue Bytes32 ∷ []
group group_of.StringPairs = plain field.OptionKey Text16 ∷ plain field.OptionValue Text16 ∷ []
group group_of.OptionLists = plain field.OptionKey Text16 ∷ counted field.OptionValues group_of.OptionValues ∷ []
group group_of.OptionValues = plain field.OptionValue Text16 ∷ []
group group_of.EventTypes = plain field.EventType Text16 ∷ []
group (group_of.QueryValues true) = plain field.ValueName Text16 ∷ plain field.Value Bound ∷ []
group (group_of.QueryValues false) = plain field.Value Bound ∷ []
group group_of.BatchValues = plain field.Value Bound ∷ []
group group_of.BatchEntries = In field.EntryKind Byte role.EntryKind ∷ []
group group_of.Arguments = plain field.Argument Text16 ∷ []
group group_of.KeyIndexes = plain field.KeyIndex Short ∷ []
group (group_of.Columns true) = plain field.ColumnName Text16 ∷ In_type (Option_at 1 ∷ []) ∷ []
group (group_of.Columns false) = table_name ++ plain field.ColumnName Text16 ∷ In_type (Option_at 1 ∷ []) ∷ []

-- ---- messages

-- what a query has after its text or id (section 4.1.4)
abbrev pub parameters : List Symbol
parameters = plain field.Consistency Short ∷ In field.QueryFlags Byte role.QueryFlags ∷ []

-- the fields of a message (section 4)
abbrev pub body : Opcode → List Symbol
body opcode.Error = In field.ErrorCode Int role.ErrorCode ∷ []
body opcode.Startup = counted field.Options group_of.StringPairs ∷ []
body opcode.Ready = []
body opcode.Authenticate = plain field.Class Text16 ∷ []
body opcode.Options = []
body opcode.Supported = counted field.Options group_of.OptionLists ∷ []
body opcode.Query = plain field.Query Text32 ∷ parameters
body opcode.Result = In field.ResultKind Int role.ResultKind ∷ []
body opcode.Prepare = plain field.Query Text32 ∷ []
body opcode.Execute = plain field.StatementId Bytes16 ∷ parameters
body opcode.Register = counted field.EventTypes group_of.EventTypes ∷ []
body opcode.Event = In field.EventType Text16 role.EventType ∷ []
body opcode.Batch =
    plain field.BatchType Byte ∷ counted field.Entries group_of.BatchEntries ∷ plain field.Consistency Short
    ∷ In field.BatchFlags Byte role.BatchFlags ∷ []
body opcode.AuthChallenge = plain field.Token Bytes32 ∷ []
body opcode.AuthResponse = plain field.Token Bytes32 ∷ []
body opcode.AuthSuccess = plain field.Token Bytes32 ∷ []

abbrev pub payload : List Symbol
payload = counted field.PayloadItems group_of.PayloadItems ∷ []

-- the parts that a header's flags announce (section 2.2)
abbrev pub announced : Header → List Symbol
announced h =
    (if h.response then where_set h.flags 0x02 (plain field.TraceId Uuid ∷ [])
    ++ where_set h.flags 0x08 (counted field.Warnings group_of.Warnings ∷ []) else [])
    ++ where_set h.flags 0x04 payload

-- what a frame with this header has after it
abbrev pub message : Header → List Symbol
message h = announced h ++ body h.opcode ++ Extra ∷ []

-- ---- what follows a value

-- the parts that a query's flags announce (section 4.1.4)
abbrev pub query_parts : ℕ → List Symbol
query_parts flags =
    where_set flags 0x01 (counted field.Values (group_of.QueryValues (has flags 0x40)) ∷ [])
    ++ where_set flags 0x04 (plain field.PageSize Int ∷ [])
    ++ where_set flags 0x08 (plain field.PagingState Bytes32 ∷ [])
    ++ where_set flags 0x10 (plain field.SerialConsistency Short ∷ [])
    ++ where_set flags 0x20 (plain field.Timestamp Long ∷ [])

-- the parts that a batch's flags announce (section 4.1.7)
abbrev pub batch_parts : ℕ → List Symbol
batch_parts flags =
    where_set flags 0x10 (plain field.SerialConsistency Short ∷ [])
    ++ where_set flags 0x20 (plain field.Timestamp Long ∷ [])

-- a statement of a batch, by its text or by its id (section 4.1.7)
abbrev pub entry_parts : ℕ → List Symbol
entry_parts kind =
    (if kind == 0 then plain field.Query Text32 ∷ [] else plain field.StatementId Bytes16 ∷ [])
    ++ counted field.Values group_of.BatchValues ∷ []

-- the fields after an error's message, by its code (section 9)
abbrev pub errors : List (ℕ × List Symbol)
errors =
    (code.unavailable, plain field.Consistency Short ∷ plain field.Required Int ∷ plain field.Alive Int ∷ [])
    ∷ (
      code.write_timeout,
      plain field.Consistency Short ∷ plain field.Received Int ∷ plain field.BlockFor Int
          ∷ plain field.WriteType Text16 ∷ [],
    )
    ∷ (
      code.read_timeout,
      plain field.Consistency Short ∷ plain field.Received Int ∷ plain field.BlockFor Int
          ∷ plain field.DataPresent Byte ∷ [],
    )
    ∷ (
      code.read_failure,
      plain field.Consistency Short ∷ plain field.Received Int ∷ plain field.BlockFor Int
          ∷ plain field.Failures Int ∷ plain field.DataPresent Byte ∷ [],
    )
    ∷ (code.function_failure, plain field.Keyspace Text16 ∷ plain field.Name Text16 ∷ counted field.Arguments group_of.Arguments ∷ [])
    ∷ (
      code.write_failure,
      plain field.Consistency Short ∷ plain field.Received Int ∷ plain field.BlockFor Int
          ∷ plain field.Failures Int ∷ plain field.WriteType Text16 ∷ [],
    )
    ∷ (code.already_exists, table_name)
    ∷ (code.unprepared, plain field.StatementId Bytes16 ∷ [])
    ∷ []

-- what was changed (sections 4.2.5.5 and 4.2.6)
abbrev pub schema_change : List Symbol
schema_change = plain field.Change Text16 ∷ In field.Target Text16 role.ChangeTarget ∷ []

-- the fields after a result's kind (section 4.2.5)
abbrev pub results : List (ℕ × List Symbol)
results =
    (code.rows, In field.MetaFlags Int (role.MetaFlags true) ∷ [])
    ∷ (code.set_keyspace, plain field.Keyspace Text16 ∷ [])
    ∷ (code.prepared, plain field.StatementId Bytes16 ∷ In field.MetaFlags Int role.PreparedFlags ∷ [])
    ∷ (code.schema_change, schema_change)
    ∷ []

abbrev pub by_text : List ℕ → List (List ℕ × List Symbol) → List Symbol
by_text text [] = []
by_text text (entry ∷ table) = if bytes_eq text entry.0 then entry.1 else by_text text table

-- the names of what was changed, by its target (section 4.2.5.5)
abbrev pub targets : List (List ℕ × List Symbol)
targets =
    (codes "KEYSPACE", plain field.Keyspace Text16 ∷ [])
    ∷ (codes "TABLE", plain field.Keyspace Text16 ∷ plain field.Name Text16 ∷ [])
    ∷ (codes "TYPE", plain field.Keyspace Text16 ∷ plain field.Name Text16 ∷ [])
    ∷ (
      codes "FUNCTION",
      plain field.Keyspace Text16 ∷ plain field.Name Text16
          ∷ counted field.Arguments group_of.Arguments ∷ [],
    )
    ∷ (
      codes "AGGREGATE",
      plain field.Keyspace Text16 ∷ plain field.Name Text16
          ∷ counted field.Arguments group_of.Arguments ∷ [],
    )
    ∷ []

-- the fields after an event's type (section 4.2.6)
abbrev pub events : List (List ℕ × List Symbol)
events =
    (codes "TOPOLOGY_CHANGE", plain field.Change Text16 ∷ plain field.Address Inet ∷ [])
    ∷ (codes "STATUS_CHANGE", plain field.Change Text16 ∷ plain field.Address Inet ∷ [])
    ∷ (codes "SCHEMA_CHANGE", schema_change)
    ∷ []

-- the columns of a table, or of several (section 4.2.5.2)
abbrev pub specs : (flags columns : ℕ) → List Symbol
specs flags columns = where_set flags 0x01 table_name ++ copies columns (group (group_of.Columns (has flags 0x01)))

-- one value of each column, of the first type on
abbrev pub row_from : (row column : ℕ) → Types → List Symbol
row_from row column NoMore = []
row_from row column (Type_and k inner others) = Cell_due row column k inner ∷ row_from row (column + 1) others

abbrev pub rows_from : (row : ℕ) → Types → (rows : ℕ) → List Symbol
rows_from row types zero = []
rows_from row types (suc n) = row_from row 0 types ++ rows_from (row + 1) types n

abbrev pub raw_types : ℕ → Types
raw_types zero = NoMore
raw_types (suc n) = Type_and kind.Raw NoMore (raw_types n)

abbrev pub or_nothing : Option (List Symbol) → List Symbol
or_nothing o = unwrap_or o []

-- A value's number: unsigned, or the bits of an [int].
abbrev pub number_in : FieldValue → ℕ
number_in (note.Byte n) = n
number_in (note.Short n) = n
number_in (note.Count n) = n
number_in (note.Int z) = cast_unsigned w32 z
number_in _ = 0

abbrev pub text_in : FieldValue → List ℕ
text_in (note.Text s) = s
text_in _ = []

-- What follows a field of this role that has this value. A page's cells have these types.
abbrev pub following : Types → Role → FieldValue → List Symbol
following types role.Alone v = []
following types (role.Counts g) v = copies (number_in v) (group g)
following types role.QueryFlags v = query_parts (number_in v)
following types role.EntryKind v = entry_parts (number_in v)
following types role.BatchFlags v = batch_parts (number_in v)
following types role.ErrorCode v = plain field.Message Text16 ∷ or_nothing (beside_number (number_in v) errors)
following types role.ResultKind v = or_nothing (beside_number (number_in v) results)
following types role.ChangeTarget v = by_text (text_in v) targets
following types role.EventType v = by_text (text_in v) events
following types (role.MetaFlags rows) v = In field.Columns Count32 (role.MetaColumns rows (number_in v)) ∷ []
following types (role.MetaColumns rows flags) v =
    where_set flags 0x02 (plain field.PagingState Bytes32 ∷ [])
    ++ (if has flags 0x04 then [] else specs flags (number_in v))
    ++ (if rows then In field.Rows Count32 (role.PageRows flags (number_in v)) ∷ [] else [])
following types role.PreparedFlags v = In field.Columns Count32 (role.PreparedColumns (number_in v)) ∷ []
following types (role.PreparedColumns flags) v = In field.Keys Count32 (role.PreparedKeys flags (number_in v)) ∷ []
following types (role.PreparedKeys flags columns) v =
    copies (number_in v) (group group_of.KeyIndexes) ++ specs flags columns
    ++ In field.MetaFlags Int (role.MetaFlags false) ∷ []
following types (role.PageRows flags columns) v = rows_from 0 types (number_in v)

-- a kind or flags that no batch has
abbrev pub fault_in : Role → FieldValue → Option Reason
fault_in role.EntryKind v = if nat_lt 1 (number_in v) then Some BadBatchKind else None
fault_in role.BatchFlags v = if has (number_in v) 0x4F then Some BadBatchFlags else None
fault_in _ v = None
