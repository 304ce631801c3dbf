-- The numbers of opcodes, fields and kinds are theirs alone.
use Rattle.std.proofs.Common.{◌≡◌, refl}
use Rattle.std.specs.Prelude.{Some}
use Rattle.cqlp_note.specs.declared.field.Field.{Field}
use Rattle.cqlp_note.specs.declared.field.Field.TheVariants as field
use Rattle.cqlp_note.specs.declared.opcode.Opcode.{Opcode}
use Rattle.cqlp_note.specs.declared.opcode.Opcode.TheVariants as opcode
use Rattle.cqlp_note.specs.Heading.{beside_number, code_of, opcodes}
use Rattle.cqlp_kind.specs.declared.kind.Kind.{Kind}
use Rattle.cqlp_kind.specs.declared.kind.Kind.TheVariants as kind
use Rattle.cqlp_c.specs.Numbers.{fields, kinds, number_of_field, number_of_kind}

pub code_conforms : (o : Opcode) → beside_number (code_of o) opcodes ≡ Some o
code_conforms opcode.Error = refl
code_conforms opcode.Startup = refl
code_conforms opcode.Ready = refl
code_conforms opcode.Authenticate = refl
code_conforms opcode.Options = refl
code_conforms opcode.Supported = refl
code_conforms opcode.Query = refl
code_conforms opcode.Result = refl
code_conforms opcode.Prepare = refl
code_conforms opcode.Execute = refl
code_conforms opcode.Register = refl
code_conforms opcode.Event = refl
code_conforms opcode.Batch = refl
code_conforms opcode.AuthChallenge = refl
code_conforms opcode.AuthResponse = refl
code_conforms opcode.AuthSuccess = refl

pub field_conforms : (f : Field) → beside_number (number_of_field f) fields ≡ Some f
field_conforms field.TraceId = refl
field_conforms field.Warnings = refl
field_conforms field.Warning = refl
field_conforms field.PayloadItems = refl
field_conforms field.PayloadKey = refl
field_conforms field.PayloadValue = refl
field_conforms field.Options = refl
field_conforms field.OptionKey = refl
field_conforms field.OptionValue = refl
field_conforms field.OptionValues = refl
field_conforms field.Query = refl
field_conforms field.StatementId = refl
field_conforms field.EventTypes = refl
field_conforms field.EventType = refl
field_conforms field.Token = refl
field_conforms field.BatchType = refl
field_conforms field.Entries = refl
field_conforms field.EntryKind = refl
field_conforms field.Consistency = refl
field_conforms field.BatchFlags = refl
field_conforms field.SerialConsistency = refl
field_conforms field.Timestamp = refl
field_conforms field.QueryFlags = refl
field_conforms field.Values = refl
field_conforms field.ValueName = refl
field_conforms field.Value = refl
field_conforms field.PageSize = refl
field_conforms field.PagingState = refl
field_conforms field.Class = refl
field_conforms field.ErrorCode = refl
field_conforms field.Message = refl
field_conforms field.Required = refl
field_conforms field.Alive = refl
field_conforms field.Received = refl
field_conforms field.BlockFor = refl
field_conforms field.WriteType = refl
field_conforms field.DataPresent = refl
field_conforms field.Failures = refl
field_conforms field.Keyspace = refl
field_conforms field.Name = refl
field_conforms field.Arguments = refl
field_conforms field.Argument = refl
field_conforms field.Table = refl
field_conforms field.ResultKind = refl
field_conforms field.Rows = refl
field_conforms field.MetaFlags = refl
field_conforms field.Columns = refl
field_conforms field.Keys = refl
field_conforms field.KeyIndex = refl
field_conforms field.ColumnName = refl
field_conforms field.Change = refl
field_conforms field.Target = refl
field_conforms field.Address = refl
field_conforms field.TypeName = refl
field_conforms field.Fields = refl
field_conforms field.FieldName = refl

pub kind_conforms : (k : Kind) → beside_number (number_of_kind k) kinds ≡ Some k
kind_conforms kind.Custom = refl
kind_conforms kind.Ascii = refl
kind_conforms kind.Bigint = refl
kind_conforms kind.Blob = refl
kind_conforms kind.Boolean = refl
kind_conforms kind.Counter = refl
kind_conforms kind.Decimal = refl
kind_conforms kind.Double = refl
kind_conforms kind.Float = refl
kind_conforms kind.Int = refl
kind_conforms kind.Timestamp = refl
kind_conforms kind.Uuid = refl
kind_conforms kind.Varchar = refl
kind_conforms kind.Varint = refl
kind_conforms kind.Timeuuid = refl
kind_conforms kind.Inet = refl
kind_conforms kind.Date = refl
kind_conforms kind.Time = refl
kind_conforms kind.Smallint = refl
kind_conforms kind.Tinyint = refl
kind_conforms kind.List = refl
kind_conforms kind.Map = refl
kind_conforms kind.Set = refl
kind_conforms kind.Udt = refl
kind_conforms kind.Tuple = refl
kind_conforms kind.Raw = refl
