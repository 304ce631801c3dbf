-- What is written of a frame are bytes, each below 256.
use Rattle.std.proofs.Common.{ℕ, zero, suc, ◌-◌, ◌<◌, ◌^◌, Bool, true, false, cond, List, [], ◌∷◌, ◌++◌, length, Some, None, refl, arith, lit<}
use Rattle.std.specs.List.{All, flat_map}
use Rattle.std.specs.Int.{Width, w16, w32, w64, byte_len, byte_at, bytes_high_first, to_be_bytes, cast_unsigned}
use Rattle.std.proofs.lemmas.List.Elements.{All-nil, All-cons, All-head, All-tail, All-append}
use Rattle.cqlp_note.specs.declared.field.Notation.{Notation}
use Rattle.cqlp_note.specs.declared.field.Notation.TheVariants as notation
use Rattle.cqlp_note.specs.declared.prim.Address.TheVariants as address
use Rattle.cqlp_note.specs.declared.opcode.Opcode.{Opcode}
use Rattle.cqlp_note.specs.declared.opcode.Opcode.TheVariants as opcode
use Rattle.cqlp_note.specs.declared.header.Header.{Header}
use Rattle.cqlp_note.specs.Field.{FieldValue, Byte, Short, Int, Long, Uuid, Count, Text, Bytes, Bound, Inet, Null, Unset, Known}
use Rattle.cqlp_note.specs.Heading.{code_of, header_bytes}
use Rattle.cqlp_note.specs.Spelling.{field_bytes, IsInRange}
use Rattle.cqlp_note.proofs.Small.{Small, small_front, small_back}
use Rattle.cqlp_kind.specs.Types.{id_of}
use Rattle.cqlp_kind.specs.TypeStep.{TypeEvent, IsNode, IsField}
use Rattle.cqlp_type.specs.Trees.{trees_items, notation_for, item_bytes, ItemIsInRange}
use Rattle.cqlp_kind.specs.Scalars.{content_of}
use Rattle.cqlp_value.specs.Values.{Values, NoValue, Null_and, Empty_and, Scalar_and, Counted_and, Fields_and, values_bytes}
use Rattle.cqlp_message.specs.Parts.{Part, Field_is, Type_is, Cell_is, parts_size, part_bytes, parts_bytes, PartIsInRange}
use Rattle.cqlp_message.specs.Frames.{frame_parts, header_of, frame_bytes}
use Rattle.cqlp_message.specs.Fitting.{field_octets, item_octets, values_octets, part_octets, WrittenAreBytes, FitJustIfSpelled}
use Rattle.cqlp_message.proofs.FramesWritten.{frame_written, frame_fits}

none : Small []
none = All-nil (λ x. x < 256)

one : (n : ℕ) (b : List ℕ) → n < 256 → Small b → Small (n ∷ b)
one n b lt s = All-cons (λ x. x < 256) n b lt s

join : (b c : List ℕ) → Small b → Small c → Small (b ++ c)
join b c p q = All-append (λ x. x < 256) b c p q

byte_small : (i n : ℕ) → byte_at i n < 256
byte_small zero n = omega arith
byte_small (suc i) n = omega arith

high : (k n : ℕ) → Small (bytes_high_first k n)
high zero n = none
high (suc k) n = one (byte_at k n) (bytes_high_first k n) (byte_small k n) (high k n)

be : (w : Width) (n : ℕ) → Small (to_be_bytes w n)
be w n = high (byte_len w) n

-- ---- fields

field_small : (n : Notation) (v : FieldValue) → IsInRange n v → Small (field_octets v) → Small (field_bytes n v)
field_small notation.Byte (Byte n) r o = one n [] r none
field_small notation.Short (Short n) r o = be w16 n
field_small notation.Int (Int z) r o = be w32 (cast_unsigned w32 z)
field_small notation.Long (Long z) r o = be w64 (cast_unsigned w64 z)
field_small notation.Uuid (Uuid c) r o = o
field_small notation.Count16 (Count n) r o = be w16 n
field_small notation.Count32 (Count n) r o = be w32 n
field_small notation.Text16 (Text t) r o = join (to_be_bytes w16 (length t)) t (be w16 (length t)) o
field_small notation.Text32 (Text t) r o = join (to_be_bytes w32 (length t)) t (be w32 (length t)) o
field_small notation.Bytes16 (Bytes (Some c)) r o = join (to_be_bytes w16 (length c)) c (be w16 (length c)) o
field_small notation.Bytes32 (Bytes None) r o = be w32 (2 ^ 32 - 1)
field_small notation.Bytes32 (Bytes (Some c)) r o = join (to_be_bytes w32 (length c)) c (be w32 (length c)) o
field_small notation.Bound (Bound Null) r o = be w32 (2 ^ 32 - 1)
field_small notation.Bound (Bound Unset) r o = be w32 (2 ^ 32 - 2)
field_small notation.Bound (Bound (Known c)) r o = join (to_be_bytes w32 (length c)) c (be w32 (length c)) o
field_small notation.Inet (Inet (address.V4 a) z) r o =
    let port : List ℕ = to_be_bytes w32 (cast_unsigned w32 z) in
    join (length a ∷ a) port (one (length a) a (omega (arith, r.0)) o) (be w32 (cast_unsigned w32 z))
field_small notation.Inet (Inet (address.V6 a) z) r o =
    let port : List ℕ = to_be_bytes w32 (cast_unsigned w32 z) in
    join (length a ∷ a) port (one (length a) a (omega (arith, r.0)) o) (be w32 (cast_unsigned w32 z))
field_small (notation.Content n) (Bytes (Some c)) r o = o
field_small n v r o = absurd r

-- ---- parts

items_small : (es : List TypeEvent) → All ItemIsInRange es → Small (flat_map item_octets es) → Small (flat_map item_bytes es)
items_small [] r o = none
items_small (IsNode k ∷ es) r o =
    join (to_be_bytes w16 (id_of k)) (flat_map item_bytes es) (be w16 (id_of k)) (items_small es (All-tail ItemIsInRange (IsNode k) es r) o)
items_small (IsField f v ∷ es) r o =
    join (field_bytes (notation_for v) v) (flat_map item_bytes es)
    (field_small (notation_for v) v (All-head ItemIsInRange (IsField f v) es r) (small_front (field_octets v ++ flat_map item_octets es) (field_octets v) (flat_map item_octets es) refl o))
    (items_small es (All-tail ItemIsInRange (IsField f v) es r) (small_back (field_octets v ++ flat_map item_octets es) (field_octets v) (flat_map item_octets es) refl o))

sized : (c : List ℕ) → Small c → Small (to_be_bytes w32 (length c) ++ c)
sized c s = join (to_be_bytes w32 (length c)) c (be w32 (length c)) s

values_small : (vs : Values) → Small (values_octets vs) → Small (values_bytes vs)
values_small NoValue o = none
values_small (Null_and vs) o = join (to_be_bytes w32 (2 ^ 32 - 1)) (values_bytes vs) (be w32 (2 ^ 32 - 1)) (values_small vs o)
values_small (Empty_and vs) o = join (to_be_bytes w32 0 ++ []) (values_bytes vs) (sized [] none) (values_small vs o)
values_small (Scalar_and v vs) o =
    let all : List ℕ = content_of v ++ values_octets vs in
    join (to_be_bytes w32 (length (content_of v)) ++ content_of v) (values_bytes vs) (sized (content_of v) (small_front all (content_of v) (values_octets vs) refl o))
    (values_small vs (small_back all (content_of v) (values_octets vs) refl o))
values_small (Counted_and k n items vs) o =
    let all : List ℕ = values_octets items ++ values_octets vs in
    let c : List ℕ = to_be_bytes w32 n ++ values_bytes items in
    let inside : Small c = join (to_be_bytes w32 n) (values_bytes items) (be w32 n) (values_small items (small_front all (values_octets items) (values_octets vs) refl o)) in
    join (to_be_bytes w32 (length c) ++ c) (values_bytes vs) (sized c inside) (values_small vs (small_back all (values_octets items) (values_octets vs) refl o))
values_small (Fields_and k items vs) o =
    let all : List ℕ = values_octets items ++ values_octets vs in
    let c : List ℕ = values_bytes items in
    join (to_be_bytes w32 (length c) ++ c) (values_bytes vs) (sized c (values_small items (small_front all (values_octets items) (values_octets vs) refl o)))
    (values_small vs (small_back all (values_octets items) (values_octets vs) refl o))

part_small : (part : Part) → PartIsInRange part → Small (part_octets part) → Small (part_bytes part)
part_small (Field_is f n v) r o = field_small n v r o
part_small (Type_is t) r o = items_small (trees_items false t) r o
part_small (Cell_is row column k inner v) r o = values_small v o

parts_small : (parts : List Part) → All PartIsInRange parts → Small (flat_map part_octets parts) → Small (parts_bytes parts)
parts_small [] r o = none
parts_small (part ∷ parts) r o =
    let all : List ℕ = part_octets part ++ flat_map part_octets parts in
    join (part_bytes part) (parts_bytes parts) (part_small part (All-head PartIsInRange part parts r) (small_front all (part_octets part) (flat_map part_octets parts) refl o))
    (parts_small parts (All-tail PartIsInRange part parts r) (small_back all (part_octets part) (flat_map part_octets parts) refl o))

-- ---- frames

code_small : (o : Opcode) → code_of o < 256
code_small opcode.Error = lit< tt
code_small o = lit< tt

version_small : (response : Bool) → cond response 132 4 < 256
version_small true = lit< tt
version_small false = lit< tt

header_small : (h : Header) → h.flags < 2 ^ 8 → Small (header_bytes h)
header_small h lt =
    let id : List ℕ = to_be_bytes w16 (cast_unsigned w16 h.stream) in
    let front : List ℕ = cond h.response 132 4 ∷ h.flags ∷ id in
    join front (code_of h.opcode ∷ to_be_bytes w32 h.length) (one (cond h.response 132 4) (h.flags ∷ id) (version_small h.response) (one h.flags id lt (be w16 (cast_unsigned w16 h.stream))))
    (one (code_of h.opcode) (to_be_bytes w32 h.length) (code_small h.opcode) (be w32 h.length))

pub written_bytes : WrittenAreBytes
written_bytes f range o =
    let h : Header = header_of f (parts_size (frame_parts f)) in
    join (header_bytes h) (parts_bytes (frame_parts f)) (header_small h range.flags) (parts_small (frame_parts f) range.parts o)

pub fit_if_spelled : FitJustIfSpelled
fit_if_spelled f range = (
  λ fits. let w = frame_written f range fits in (frame_bytes f, w.0, w.1, written_bytes f range),
  λ b small s. (frame_fits f 0 b s small range.stream).0,
)
