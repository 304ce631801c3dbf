-- Frame values as a program owns them.
use Rattle.std.specs.Prelude.{ℕ, List, Option, map, string_bytes}
use Rattle.std.specs.Option.{option_map}
use Rattle.std.specs.declared.alloc.Global.{Global}
use Rattle.std.specs.declared.string.String.{String}
use Rattle.std.specs.declared.vec.Vec.{Vec}
use Rattle.cqlp_note.specs.Field as note
use Rattle.cqlp_type.specs.TypeTrees.{tree_of}
use Rattle.cqlp_value.specs.Owned.{value_of}
use Rattle.cqlp_message.specs.declared.request.OwnedBound.{OwnedBound}
use Rattle.cqlp_message.specs.declared.request.OwnedBound.TheVariants as bound
use Rattle.cqlp_message.specs.declared.request.QueryParams.{QueryParams}
use Rattle.cqlp_message.specs.declared.request.BatchEntry.{BatchEntry}
use Rattle.cqlp_message.specs.declared.request.BatchEntry.TheVariants as entry
use Rattle.cqlp_message.specs.declared.response.ErrorExtra.{ErrorExtra}
use Rattle.cqlp_message.specs.declared.response.ErrorExtra.TheVariants as extra
use Rattle.cqlp_message.specs.declared.response.SchemaChange.{SchemaChange}
use Rattle.cqlp_message.specs.declared.response.SchemaOptions.{SchemaOptions}
use Rattle.cqlp_message.specs.declared.response.SchemaOptions.TheVariants as options
use Rattle.cqlp_message.specs.declared.response.ServerEvent.{ServerEvent}
use Rattle.cqlp_message.specs.declared.response.ServerEvent.TheVariants as event
use Rattle.cqlp_message.specs.declared.response.Spec.{Spec}
use Rattle.cqlp_message.specs.declared.response.Metadata.{Metadata}
use Rattle.cqlp_message.specs.declared.response.Rows.{Rows}
use Rattle.cqlp_message.specs.declared.response.Prepared.{Prepared}
use Rattle.cqlp_message.specs.declared.message.Message.{Message}
use Rattle.cqlp_message.specs.declared.message.Message.TheVariants as message
use Rattle.cqlp_message.specs.declared.frame.Frame.{Frame}
use Rattle.cqlp_message.specs.FrameValues as value
use Rattle.cqlp_message.specs.FrameValues.{Octets, FrameValue}

abbrev pub OwnedText : Type 0
OwnedText = String Global

abbrev pub OwnedBytes : Type 0
OwnedBytes = Vec ℕ Global

-- bytes that may be null
abbrev pub bytes_of : Option OwnedBytes → Option Octets
bytes_of o = option_map (λ b. b.items) o

abbrev pub texts_of : Vec OwnedText Global → List Octets
texts_of ts = map string_bytes ts.items

-- a [value]
abbrev pub bound_of : OwnedBound → note.BoundValue
bound_of bound.Null = note.Null
bound_of bound.Unset = note.Unset
bound_of (bound.Bytes b) = note.Known b.items

abbrev pub params_of : QueryParams → value.QueryParams
params_of q = record {
  consistency = q.consistency;
  flags = q.flags;
  values = option_map (λ vs. map (λ v. (option_map string_bytes v.0, bound_of v.1)) vs.items) q.values;
  page_size = q.page_size;
  paging = option_map bytes_of q.paging;
  serial = q.serial;
  timestamp = q.timestamp;
}

abbrev pub entry_of : BatchEntry → value.BatchEntry
entry_of (entry.Text t vs) = value.Text (string_bytes t) (map bound_of vs.items)
entry_of (entry.Id i vs) = value.Id i.items (map bound_of vs.items)

abbrev pub extra_of : ErrorExtra → value.ErrorExtra
extra_of extra.Plain = value.Plain
extra_of (extra.Unavailable c r a) = value.Unavailable c r a
extra_of (extra.WriteTimeout c r b w) = value.WriteTimeout c r b (string_bytes w)
extra_of (extra.ReadTimeout c r b d) = value.ReadTimeout c r b d
extra_of (extra.ReadFailure c r b f d) = value.ReadFailure c r b f d
extra_of (extra.FunctionFailure k n ts) = value.FunctionFailure (string_bytes k) (string_bytes n) (texts_of ts)
extra_of (extra.WriteFailure c r b f w) = value.WriteFailure c r b f (string_bytes w)
extra_of (extra.AlreadyExists k t) = value.AlreadyExists (string_bytes k) (string_bytes t)
extra_of (extra.Unprepared i) = value.Unprepared i.items

abbrev pub options_of : SchemaOptions → value.SchemaOptions
options_of (options.Keyspace k) = value.Keyspace (string_bytes k)
options_of (options.Named k n) = value.Named (string_bytes k) (string_bytes n)
options_of (options.Callable k n ts) = value.Callable (string_bytes k) (string_bytes n) (texts_of ts)
options_of options.Unknown = value.UnknownTarget

abbrev pub change_of : SchemaChange → value.SchemaChange
change_of c = record { change = string_bytes c.change; target = string_bytes c.target; options = options_of c.options }

abbrev pub event_of : ServerEvent → value.ServerEvent
event_of (event.Node c a port) = value.Node (string_bytes c) a port
event_of (event.Schema c) = value.Schema (change_of c)
event_of event.Unknown = value.UnknownEvent

abbrev pub table_of : Option (OwnedText × OwnedText) → Option value.TableName
table_of o = option_map (λ t. (string_bytes t.0, string_bytes t.1)) o

abbrev pub spec_of : Spec → value.Spec
spec_of c = record { table = table_of c.table; name = string_bytes c.name; tree = tree_of c.tree }

abbrev pub metadata_of : Metadata → value.Metadata
metadata_of m = record {
  flags = m.flags;
  columns = m.columns;
  paging = option_map bytes_of m.paging;
  table = table_of m.table;
  specs = option_map (λ cs. map spec_of cs.items) m.specs;
}

abbrev pub page_of : Rows → value.Page
page_of p = record { meta = metadata_of p.meta; rows = p.rows; cells = map value_of p.cells.items }

abbrev pub prepared_of : Prepared → value.PreparedStatement
prepared_of p = record {
  id = p.id.items;
  flags = p.flags;
  columns = p.columns;
  keys = p.keys.items;
  table = table_of p.table;
  specs = map spec_of p.specs.items;
  result = metadata_of p.result;
}

-- What a message holds.
abbrev pub message_of : Message → value.Message
message_of (message.Startup os) = value.Startup (map (λ o. (string_bytes o.0, string_bytes o.1)) os.items)
message_of message.Options = value.Options
message_of (message.Query t q) = value.Query (string_bytes t) (params_of q)
message_of (message.Prepare t) = value.Prepare (string_bytes t)
message_of (message.Execute i q) = value.Execute i.items (params_of q)
message_of (message.Batch k es c f s t) = value.Batch k (map entry_of es.items) c f s t
message_of (message.Register ts) = value.Register (texts_of ts)
message_of (message.AuthResponse t) = value.AuthResponse (bytes_of t)
message_of (message.Error c t x) = value.Error c (string_bytes t) (extra_of x)
message_of message.Ready = value.Ready
message_of (message.Authenticate c) = value.Authenticate (string_bytes c)
message_of (message.Supported os) = value.Supported (map (λ o. (string_bytes o.0, texts_of o.1)) os.items)
message_of message.Void = value.Void
message_of (message.SetKeyspace k) = value.SetKeyspace (string_bytes k)
message_of (message.Rows p) = value.Rows (page_of p)
message_of (message.Prepared p) = value.Prepared (prepared_of p)
message_of (message.Change c) = value.Change (change_of c)
message_of (message.UnknownResult k) = value.UnknownResult k
message_of (message.Event e d) = value.Event (string_bytes e) (event_of d)
message_of (message.AuthChallenge t) = value.AuthChallenge (bytes_of t)
message_of (message.AuthSuccess t) = value.AuthSuccess (bytes_of t)

-- What a frame holds.
abbrev pub frame_of : Frame → FrameValue
frame_of f = record {
  flags = f.flags;
  stream = f.stream;
  tracing = f.tracing;
  warnings = option_map texts_of f.warnings;
  payload = option_map (λ is. map (λ i. (string_bytes i.0, bytes_of i.1)) is.items) f.payload;
  message = message_of f.message;
}
