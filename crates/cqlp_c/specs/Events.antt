-- Events, as C sees them.
use Rattle.std.specs.Prelude.{◌≡◌, ℕ, zero, suc, ◌+◌, ◌-◌, ◌++◌, pos, Bool, List, [], ◌∷◌, length, Option, Some, None, ◌==◌, ◌&&◌}
use Rattle.std.specs.Prelude.{if◌then◌else◌}
use Rattle.std.specs.Borrow.{Bor}
use Rattle.std.specs.Option.{option_map}
use Rattle.std.specs.Ptr.{Ptr, null_ptr, as_ptr}
use Rattle.cqlp_note.specs.declared.field.Field.{Field}
use Rattle.cqlp_note.specs.declared.header.Header.{Header}
use Rattle.cqlp_note.specs.declared.prim.Address.{Address}
use Rattle.cqlp_note.specs.declared.prim.Address.TheVariants as address
use Rattle.cqlp_note.specs.Field.{FieldValue}
use Rattle.cqlp_note.specs.Field as field
use Rattle.cqlp_note.specs.Heading.{code_of}
use Rattle.cqlp_kind.specs.CellStep.{CellEvent}
use Rattle.cqlp_kind.specs.CellStep as cell
use Rattle.cqlp_kind.specs.Scalars.{ScalarValue}
use Rattle.cqlp_kind.specs.Scalars as scalar
use Rattle.cqlp_grammar.specs.Events.{Event, Frame, Holds, Node_of, Cell_at, Leave, End}
use Rattle.cqlp_laws.specs.Contents.{before_content, before_scalar, content_in, scalar_content}
use Rattle.cqlp_c.specs.declared.event.CqlpEvent.{CqlpEvent}
use Rattle.cqlp_c.specs.declared.numbers.TheConstants as numbers
use Rattle.cqlp_c.specs.Numbers.{number_of_field, number_of_kind}

abbrev pub zeros : ℕ → List ℕ
zeros zero = []
zeros (suc n) = 0 ∷ zeros n

-- an event of which only the offset is known
abbrev pub blank : (at : ℕ) → CqlpEvent
blank at = record {
  at = at;
  content = null_ptr;
  length = 0;
  number = pos 0;
  row = 0;
  column = 0;
  level = 0;
  extra = pos 0;
  bytes = zeros 16;
  tag = 0;
  field = 0;
  kind = 0;
  opcode = 0;
  flags = 0;
  mark = numbers.MARK_NONE;
  octets = 0;
}

-- ---- contents

-- the bytes of what is lent, if something is
abbrev pub bytes_in : Option (List ℕ) → List ℕ
bytes_in None = []
bytes_in (Some bytes) = bytes

-- Where a content begins: a reference to it points there, also to one of no bytes, and no reference is null. It is null
-- where nothing is lent.
abbrev pub IsStart : Option (List ℕ) → Ptr → Type 0
IsStart None p = p ≡ null_ptr
IsStart (Some bytes) p = (lent : Bor (List ℕ)) × (lent.now ≡ bytes) × (p ≡ as_ptr lent)

-- with this content, which begins there
abbrev pub with_content : CqlpEvent → List ℕ → Ptr → CqlpEvent
with_content c bytes p = record c { content = p; length = length bytes }

abbrev pub LendsFrom : CqlpEvent → Option (List ℕ) → CqlpEvent → Type 0
LendsFrom c content d = (p : Ptr) × IsStart content p × (d ≡ with_content c (bytes_in content) p)

-- ---- addresses

abbrev pub has_address : CqlpEvent → Address → CqlpEvent
has_address c (address.V4 bytes) = record c { bytes = bytes ++ zeros 12; octets = 4 }
has_address c (address.V6 bytes) = record c { bytes = bytes; octets = 16 }

-- ---- fields and values

abbrev pub of_field : (at tag : ℕ) → Field → CqlpEvent
of_field at tag f = record (blank at) { tag = tag; field = number_of_field f }

abbrev pub of_value : (at tag row column level : ℕ) → CqlpEvent
of_value at tag row column level = record (blank at) { tag = tag; row = row; column = column; level = level }

-- a header: the bytes of the body, the stream id, the opcode, the flags and the direction
abbrev pub of_frame : (at : ℕ) → Header → CqlpEvent
of_frame at h = record (blank at) {
  tag = numbers.TAG_FRAME;
  number = pos h.length;
  extra = h.stream;
  opcode = code_of h.opcode;
  flags = h.flags;
  mark = if h.response then numbers.MARK_RESPONSE else numbers.MARK_NONE;
}

-- a field without its content
abbrev pub field_event : (at : ℕ) → Field → FieldValue → CqlpEvent
field_event at f (field.Byte n) = record (of_field at numbers.TAG_BYTE f) { number = pos n }
field_event at f (field.Short n) = record (of_field at numbers.TAG_SHORT f) { number = pos n }
field_event at f (field.Int z) = record (of_field at numbers.TAG_INT f) { number = z }
field_event at f (field.Long z) = record (of_field at numbers.TAG_LONG f) { number = z }
field_event at f (field.Uuid bytes) = record (of_field at numbers.TAG_UUID f) { bytes = bytes; octets = 16 }
field_event at f (field.Count n) = record (of_field at numbers.TAG_COUNT f) { number = pos n }
field_event at f (field.Text t) = of_field at numbers.TAG_TEXT f
field_event at f (field.Bytes (Some c)) = of_field at numbers.TAG_BYTES f
field_event at f (field.Bytes None) = record (of_field at numbers.TAG_BYTES f) { mark = numbers.MARK_NULL }
field_event at f (field.Bound (field.Known c)) = of_field at numbers.TAG_BOUND f
field_event at f (field.Bound field.Null) = record (of_field at numbers.TAG_BOUND f) { mark = numbers.MARK_NULL }
field_event at f (field.Bound field.Unset) = record (of_field at numbers.TAG_BOUND f) { mark = numbers.MARK_UNSET }
field_event at f (field.Inet a port) = has_address (record (of_field at numbers.TAG_INET f) { extra = port }) a

-- a scalar without its content: its kind, and its number or its bytes
abbrev pub has_scalar : CqlpEvent → ScalarValue → CqlpEvent
has_scalar c (scalar.Custom b) = record c { kind = numbers.KIND_CUSTOM }
has_scalar c (scalar.Ascii t) = record c { kind = numbers.KIND_ASCII }
has_scalar c (scalar.Bigint z) = record c { kind = numbers.KIND_BIGINT; number = z }
has_scalar c (scalar.Blob b) = record c { kind = numbers.KIND_BLOB }
has_scalar c (scalar.Boolean b) = record c { kind = numbers.KIND_BOOLEAN; number = if b then pos 1 else pos 0 }
has_scalar c (scalar.Counter z) = record c { kind = numbers.KIND_COUNTER; number = z }
has_scalar c (scalar.Decimal scale b) = record c { kind = numbers.KIND_DECIMAL; extra = scale }
has_scalar c (scalar.Double b) = record c { kind = numbers.KIND_DOUBLE; bytes = b ++ zeros 8; octets = 8 }
has_scalar c (scalar.Float b) = record c { kind = numbers.KIND_FLOAT; bytes = b ++ zeros 12; octets = 4 }
has_scalar c (scalar.Int z) = record c { kind = numbers.KIND_INT; number = z }
has_scalar c (scalar.Timestamp z) = record c { kind = numbers.KIND_TIMESTAMP; number = z }
has_scalar c (scalar.Uuid b) = record c { kind = numbers.KIND_UUID; bytes = b; octets = 16 }
has_scalar c (scalar.Varchar t) = record c { kind = numbers.KIND_VARCHAR }
has_scalar c (scalar.Varint b) = record c { kind = numbers.KIND_VARINT }
has_scalar c (scalar.Timeuuid b) = record c { kind = numbers.KIND_TIMEUUID; bytes = b; octets = 16 }
has_scalar c (scalar.Inet a) = has_address (record c { kind = numbers.KIND_INET }) a
has_scalar c (scalar.Date n) = record c { kind = numbers.KIND_DATE; number = pos n }
has_scalar c (scalar.Time z) = record c { kind = numbers.KIND_TIME; number = z }
has_scalar c (scalar.Smallint z) = record c { kind = numbers.KIND_SMALLINT; number = z }
has_scalar c (scalar.Tinyint z) = record c { kind = numbers.KIND_TINYINT; number = z }
has_scalar c (scalar.Raw b) = record c { kind = numbers.KIND_RAW }

abbrev pub cell_event : (at row column : ℕ) → CellEvent → CqlpEvent
cell_event at row column (cell.Leaf level v) = has_scalar (of_value at numbers.TAG_LEAF row column level) v
cell_event at row column (cell.Null level) = of_value at numbers.TAG_NULL row column level
cell_event at row column (cell.Empty level) = of_value at numbers.TAG_EMPTY row column level
cell_event at row column (cell.Enter level k items) =
    record (of_value at numbers.TAG_ENTER row column level) { kind = number_of_kind k; number = pos items }
cell_event at row column (cell.Leave level items) =
    record (of_value at numbers.TAG_LEAVE row column level) { number = pos items }
cell_event at row column (cell.Part level offset c last) =
    record (of_value at numbers.TAG_PART row column level) {
      number = pos offset;
      mark = if last then numbers.MARK_LAST else numbers.MARK_NONE;
    }

-- ---- events

-- an event at an offset without its content
abbrev pub numbers_of : (at : ℕ) → Event → CqlpEvent
numbers_of at (Frame h) = of_frame at h
numbers_of at (Holds f v) = field_event at f v
numbers_of at (Node_of k) = record (blank at) { tag = numbers.TAG_TYPE_NODE; kind = number_of_kind k }
numbers_of at (Cell_at row column e) = cell_event at row column e
numbers_of at (Leave level items) = record (of_value at numbers.TAG_LEAVE 0 0 level) { number = pos items }
numbers_of at (End extra) = record (of_value at numbers.TAG_END 0 0 0) { number = pos extra }

abbrev pub content_of : Event → List ℕ
content_of e = bytes_in (content_in e)

-- how many bytes come before the content of a scalar and of an event, from its offset on, if it has a content
abbrev pub scalar_after : ScalarValue → Option ℕ
scalar_after v = option_map (λ content. before_scalar v) (scalar_content v)

abbrev pub content_after : Event → Option ℕ
content_after e = option_map (λ content. before_content e) (content_in e)

-- an event at an offset, with its content there
abbrev pub written_at : (at : ℕ) → Event → Ptr → CqlpEvent
written_at at e p = with_content (numbers_of at e) (content_of e) p

-- C gets this event at this offset: its numbers, and where its content begins, with how many bytes.
abbrev pub Writes : CqlpEvent → (at : ℕ) → Event → Type 0
Writes c at e = LendsFrom (numbers_of at e) (content_in e) c

-- ---- where a content lies

-- the bytes that are gathered where a content comes in pieces: a decimal's scale comes with it
abbrev pub content_span : Event → ℕ
content_span (Cell_at row column (cell.Leaf level (scalar.Decimal scale b))) = length b + 4
content_span e = length (content_of e)

-- how many of them come before the content
abbrev pub before_gathered : Event → ℕ
before_gathered e = content_span e - length (content_of e)

abbrev pub is_decimal : CqlpEvent → Bool
is_decimal c = (c.tag == numbers.TAG_LEAF) && (c.kind == numbers.KIND_DECIMAL)

abbrev pub span_in : CqlpEvent → ℕ
span_in c = if is_decimal c then c.length + 4 else c.length

-- how many bytes of a scale come before its content
abbrev pub scale_in : CqlpEvent → ℕ
scale_in c = if is_decimal c then 4 else 0
