-- What the bytes of a content are by what C gets.
use Rattle.std.proofs.Common.{◌≡◌, ℕ, ◌≤◌, List, length, Option, Some, None, refl, ap, ◌∙◌, arith}
use Rattle.std.specs.Ptr.{Ptr}
use Rattle.cqlp_note.specs.declared.prim.Address.TheVariants as address
use Rattle.cqlp_note.specs.Field as field
use Rattle.cqlp_kind.specs.CellStep as cell
use Rattle.cqlp_kind.specs.Scalars as scalar
use Rattle.cqlp_grammar.specs.Events.{Event, Frame, Holds, Node_of, Cell_at, Leave, End}
use Rattle.cqlp_laws.specs.Contents.{content_in}
use Rattle.cqlp_c.specs.declared.event.CqlpEvent.{CqlpEvent}
use Rattle.cqlp_c.specs.Events.{Writes, bytes_in, content_of, content_span, numbers_of, span_in, with_content}

pub span_event : (at : ℕ) (e : Event) (p : Ptr) → span_in (with_content (numbers_of at e) (content_of e) p) ≡ content_span e
span_event at (Frame h) p = refl
span_event at (Holds f (field.Byte n)) p = refl
span_event at (Holds f (field.Short n)) p = refl
span_event at (Holds f (field.Int z)) p = refl
span_event at (Holds f (field.Long z)) p = refl
span_event at (Holds f (field.Uuid b)) p = refl
span_event at (Holds f (field.Count n)) p = refl
span_event at (Holds f (field.Text t)) p = refl
span_event at (Holds f (field.Bytes (Some c))) p = refl
span_event at (Holds f (field.Bytes None)) p = refl
span_event at (Holds f (field.Bound field.Null)) p = refl
span_event at (Holds f (field.Bound field.Unset)) p = refl
span_event at (Holds f (field.Bound (field.Known c))) p = refl
span_event at (Holds f (field.Inet (address.V4 b) z)) p = refl
span_event at (Holds f (field.Inet (address.V6 b) z)) p = refl
span_event at (Node_of k) p = refl
span_event at (Cell_at row column (cell.Leaf level (scalar.Custom b))) p = refl
span_event at (Cell_at row column (cell.Leaf level (scalar.Ascii t))) p = refl
span_event at (Cell_at row column (cell.Leaf level (scalar.Bigint z))) p = refl
span_event at (Cell_at row column (cell.Leaf level (scalar.Blob b))) p = refl
span_event at (Cell_at row column (cell.Leaf level (scalar.Boolean b))) p = refl
span_event at (Cell_at row column (cell.Leaf level (scalar.Counter z))) p = refl
span_event at (Cell_at row column (cell.Leaf level (scalar.Decimal z b))) p = refl
span_event at (Cell_at row column (cell.Leaf level (scalar.Double b))) p = refl
span_event at (Cell_at row column (cell.Leaf level (scalar.Float b))) p = refl
span_event at (Cell_at row column (cell.Leaf level (scalar.Int z))) p = refl
span_event at (Cell_at row column (cell.Leaf level (scalar.Timestamp z))) p = refl
span_event at (Cell_at row column (cell.Leaf level (scalar.Uuid b))) p = refl
span_event at (Cell_at row column (cell.Leaf level (scalar.Varchar t))) p = refl
span_event at (Cell_at row column (cell.Leaf level (scalar.Varint b))) p = refl
span_event at (Cell_at row column (cell.Leaf level (scalar.Timeuuid b))) p = refl
span_event at (Cell_at row column (cell.Leaf level (scalar.Date n))) p = refl
span_event at (Cell_at row column (cell.Leaf level (scalar.Time z))) p = refl
span_event at (Cell_at row column (cell.Leaf level (scalar.Smallint z))) p = refl
span_event at (Cell_at row column (cell.Leaf level (scalar.Tinyint z))) p = refl
span_event at (Cell_at row column (cell.Leaf level (scalar.Raw b))) p = refl
span_event at (Cell_at row column (cell.Leaf level (scalar.Inet (address.V4 b)))) p = refl
span_event at (Cell_at row column (cell.Leaf level (scalar.Inet (address.V6 b)))) p = refl
span_event at (Cell_at row column (cell.Null level)) p = refl
span_event at (Cell_at row column (cell.Empty level)) p = refl
span_event at (Cell_at row column (cell.Enter level k n)) p = refl
span_event at (Cell_at row column (cell.Leave level n)) p = refl
span_event at (Cell_at row column (cell.Part level offset c last)) p = refl
span_event at (Leave level n) p = refl
span_event at (End n) p = refl

pub span_written : (c : CqlpEvent) (at : ℕ) (e : Event) → Writes c at e → span_in c ≡ content_span e
span_written c at e writes = ap span_in writes.2 ∙ span_event at e writes.0

same_length : (o : Option (List ℕ)) (content : List ℕ) → o ≡ Some content → length content ≤ length (bytes_in o)
same_length None content is = absurd cc
same_length (Some c) content is = let same : c ≡ content = cc in omega (arith, ap length same)

-- a content is no longer than what is gathered of its event
pub content_spanned : (e : Event) (content : List ℕ) → content_in e ≡ Some content → length content ≤ content_span e
content_spanned (Frame h) content is = same_length (content_in (Frame h)) content is
content_spanned (Holds f (field.Byte n)) content is = same_length (content_in (Holds f (field.Byte n))) content is
content_spanned (Holds f (field.Short n)) content is = same_length (content_in (Holds f (field.Short n))) content is
content_spanned (Holds f (field.Int z)) content is = same_length (content_in (Holds f (field.Int z))) content is
content_spanned (Holds f (field.Long z)) content is = same_length (content_in (Holds f (field.Long z))) content is
content_spanned (Holds f (field.Uuid b)) content is = same_length (content_in (Holds f (field.Uuid b))) content is
content_spanned (Holds f (field.Count n)) content is = same_length (content_in (Holds f (field.Count n))) content is
content_spanned (Holds f (field.Text t)) content is = same_length (content_in (Holds f (field.Text t))) content is
content_spanned (Holds f (field.Bytes (Some c))) content is = same_length (content_in (Holds f (field.Bytes (Some c)))) content is
content_spanned (Holds f (field.Bytes None)) content is = same_length (content_in (Holds f (field.Bytes None))) content is
content_spanned (Holds f (field.Bound field.Null)) content is = same_length (content_in (Holds f (field.Bound field.Null))) content is
content_spanned (Holds f (field.Bound field.Unset)) content is = same_length (content_in (Holds f (field.Bound field.Unset))) content is
content_spanned (Holds f (field.Bound (field.Known c))) content is = same_length (content_in (Holds f (field.Bound (field.Known c)))) content is
content_spanned (Holds f (field.Inet a z)) content is = same_length (content_in (Holds f (field.Inet a z))) content is
content_spanned (Node_of k) content is = same_length (content_in (Node_of k)) content is
content_spanned (Cell_at row column (cell.Leaf level (scalar.Custom b))) content is = same_length (content_in (Cell_at row column (cell.Leaf level (scalar.Custom b)))) content is
content_spanned (Cell_at row column (cell.Leaf level (scalar.Ascii t))) content is = same_length (content_in (Cell_at row column (cell.Leaf level (scalar.Ascii t)))) content is
content_spanned (Cell_at row column (cell.Leaf level (scalar.Bigint z))) content is = same_length (content_in (Cell_at row column (cell.Leaf level (scalar.Bigint z)))) content is
content_spanned (Cell_at row column (cell.Leaf level (scalar.Blob b))) content is = same_length (content_in (Cell_at row column (cell.Leaf level (scalar.Blob b)))) content is
content_spanned (Cell_at row column (cell.Leaf level (scalar.Boolean b))) content is = same_length (content_in (Cell_at row column (cell.Leaf level (scalar.Boolean b)))) content is
content_spanned (Cell_at row column (cell.Leaf level (scalar.Counter z))) content is = same_length (content_in (Cell_at row column (cell.Leaf level (scalar.Counter z)))) content is
content_spanned (Cell_at row column (cell.Leaf level (scalar.Decimal z b))) content is = let same : b ≡ content = cc in omega (arith, ap length same)
content_spanned (Cell_at row column (cell.Leaf level (scalar.Double b))) content is = same_length (content_in (Cell_at row column (cell.Leaf level (scalar.Double b)))) content is
content_spanned (Cell_at row column (cell.Leaf level (scalar.Float b))) content is = same_length (content_in (Cell_at row column (cell.Leaf level (scalar.Float b)))) content is
content_spanned (Cell_at row column (cell.Leaf level (scalar.Int z))) content is = same_length (content_in (Cell_at row column (cell.Leaf level (scalar.Int z)))) content is
content_spanned (Cell_at row column (cell.Leaf level (scalar.Timestamp z))) content is = same_length (content_in (Cell_at row column (cell.Leaf level (scalar.Timestamp z)))) content is
content_spanned (Cell_at row column (cell.Leaf level (scalar.Uuid b))) content is = same_length (content_in (Cell_at row column (cell.Leaf level (scalar.Uuid b)))) content is
content_spanned (Cell_at row column (cell.Leaf level (scalar.Varchar t))) content is = same_length (content_in (Cell_at row column (cell.Leaf level (scalar.Varchar t)))) content is
content_spanned (Cell_at row column (cell.Leaf level (scalar.Varint b))) content is = same_length (content_in (Cell_at row column (cell.Leaf level (scalar.Varint b)))) content is
content_spanned (Cell_at row column (cell.Leaf level (scalar.Timeuuid b))) content is = same_length (content_in (Cell_at row column (cell.Leaf level (scalar.Timeuuid b)))) content is
content_spanned (Cell_at row column (cell.Leaf level (scalar.Date n))) content is = same_length (content_in (Cell_at row column (cell.Leaf level (scalar.Date n)))) content is
content_spanned (Cell_at row column (cell.Leaf level (scalar.Time z))) content is = same_length (content_in (Cell_at row column (cell.Leaf level (scalar.Time z)))) content is
content_spanned (Cell_at row column (cell.Leaf level (scalar.Smallint z))) content is = same_length (content_in (Cell_at row column (cell.Leaf level (scalar.Smallint z)))) content is
content_spanned (Cell_at row column (cell.Leaf level (scalar.Tinyint z))) content is = same_length (content_in (Cell_at row column (cell.Leaf level (scalar.Tinyint z)))) content is
content_spanned (Cell_at row column (cell.Leaf level (scalar.Raw b))) content is = same_length (content_in (Cell_at row column (cell.Leaf level (scalar.Raw b)))) content is
content_spanned (Cell_at row column (cell.Leaf level (scalar.Inet a))) content is = same_length (content_in (Cell_at row column (cell.Leaf level (scalar.Inet a)))) content is
content_spanned (Cell_at row column (cell.Null level)) content is = same_length (content_in (Cell_at row column (cell.Null level))) content is
content_spanned (Cell_at row column (cell.Empty level)) content is = same_length (content_in (Cell_at row column (cell.Empty level))) content is
content_spanned (Cell_at row column (cell.Enter level k n)) content is = same_length (content_in (Cell_at row column (cell.Enter level k n))) content is
content_spanned (Cell_at row column (cell.Leave level n)) content is = same_length (content_in (Cell_at row column (cell.Leave level n))) content is
content_spanned (Cell_at row column (cell.Part level offset c last)) content is = same_length (content_in (Cell_at row column (cell.Part level offset c last))) content is
content_spanned (Leave level n) content is = same_length (content_in (Leave level n)) content is
content_spanned (End n) content is = same_length (content_in (End n)) content is
