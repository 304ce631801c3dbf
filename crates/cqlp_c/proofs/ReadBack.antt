-- What C gets of an event, read back.
use Rattle.std.proofs.Common.{◌≡◌, ℕ, ◌<◌, ◌≤◌, Bool, true, false, nat_lt, nat_le, if◌then◌else◌, List, [], ◌++◌, length, take, drop, refl, sym, ap, ◌∙◌, subst, arith, Ok, Err, Option, Some, None}
use Rattle.std.specs.Prelude.{◌^◌, ℤ, pos, negsuc, ◌==◌, FitsSigned, option_map}
use Rattle.std.specs.Int.{w8, w16, w32}
use Rattle.std.specs.Ptr.{Ptr}
use Rattle.std.specs.Str.{is_utf8}
use Rattle.std.proofs.Math.Seq.{drop-append_seam, take-append_seam}
use Rattle.std.proofs.lemmas.List.{length-append}
use lib.Signed.{mag}
use Rattle.cqlp_note.specs.declared.field.Field.{Field}
use Rattle.cqlp_note.specs.declared.header.Header.{Header}
use Rattle.cqlp_note.specs.declared.opcode.Opcode.{Opcode}
use Rattle.cqlp_note.specs.declared.prim.Address.TheVariants as address
use Rattle.cqlp_note.specs.Field.{FieldValue}
use Rattle.cqlp_note.specs.Field as field
use Rattle.cqlp_note.specs.Heading.{beside_number}
use Rattle.cqlp_kind.specs.declared.kind.Kind.{Kind}
use Rattle.cqlp_kind.specs.CellStep.{CellEvent}
use Rattle.cqlp_kind.specs.CellStep as cell
use Rattle.cqlp_kind.specs.Scalars.{ScalarValue, IsInRange}
use Rattle.cqlp_kind.specs.Scalars as scalar
use Rattle.cqlp_grammar.specs.Events.{Event, Frame, Holds, Node_of, Cell_at, Leave, End}
use Rattle.cqlp_c.specs.declared.event.CqlpEvent.{CqlpEvent}
use Rattle.cqlp_c.specs.declared.numbers.TheConstants as numbers
use Rattle.cqlp_c.specs.declared.from_c.BadEvent.TheVariants as bad_event
use Rattle.cqlp_c.specs.Events.{content_of, field_event, written_at, with_content, zeros}
use Rattle.cqlp_c.specs.Numbers.{fields, kinds, number_of_field, number_of_kind}
use Rattle.cqlp_c.specs.Talked.{is_stream}
use Rattle.cqlp_c.specs.FromC.{content_len, direction_from_c, event_from_c, event_with, field_from_c, header_from_c, header_with, is_event, number_from_c, value_from_c}
use Rattle.cqlp_c.specs.CellFromC.{below, enter_from_c, signed_to, text_in}
use Rattle.cqlp_c.specs.FromCLaws.{CellIsInRange, EventIsInRange, IsReadBack, ValueIsInRange, is_part, kept}
use Rattle.cqlp_c.proofs.Conforming.{code_conforms, field_conforms, kind_conforms}
use Rattle.cqlp_c.proofs.Written.{lt_false}

-- ---- numbers, texts and addresses

less : (n bound : ℕ) → n < bound → nat_lt n bound ≡ true
less n bound lt = grind (arith, lt)

no_more : (n most : ℕ) → n ≤ most → nat_le n most ≡ true
no_more n most le = grind (arith, le)

below_back : (bound n : ℕ) → n < bound → below bound (pos n) ≡ Some n
below_back bound n lt = rw (less n bound lt) refl

between : (most : ℕ) (z : ℤ) → mag z ≤ most → signed_to most z ≡ Some z
between most (pos n) le = rw (no_more n most le) refl
between most (negsuc n) le = rw (no_more n most le) refl

between8 : (z : ℤ) → FitsSigned w8 z → signed_to 127 z ≡ Some z
between8 z fits = between 127 z (omega (arith, fits.sfits))

between16 : (z : ℤ) → FitsSigned w16 z → signed_to 32767 z ≡ Some z
between16 z fits = between 32767 z (omega (arith, fits.sfits))

between32 : (z : ℤ) → FitsSigned w32 z → signed_to 2147483647 z ≡ Some z
between32 z fits = between 2147483647 z (omega (arith, fits.sfits))

stream_back : (z : ℤ) → FitsSigned w16 z → is_stream z ≡ true
stream_back (pos n) fits = no_more n 32767 (omega (arith, fits.sfits))
stream_back (negsuc n) fits = rw (no_more n 32767 (omega (arith, fits.sfits))) refl

text_back : (t : List ℕ) → is_utf8 t ≡ true → text_in t ≡ Some t
text_back t is = rw is refl

front_of : (n : ℕ) (bytes others : List ℕ) → length bytes ≡ n → take n (bytes ++ others) ≡ bytes
front_of n bytes others is = ap (λ (m : ℕ). take m (bytes ++ others)) (sym is) ∙ take-append_seam bytes others

-- ---- an event and its content

long_enough : (content others : List ℕ) → nat_lt (length (content ++ others)) (length content) ≡ false
long_enough content others = lt_false (length (content ++ others)) (length content) (omega (arith, length-append content others))

-- with just its content this is read as that event, which is no part
abbrev IsWith : CqlpEvent → (content : List ℕ) → Event → Type 0
IsWith c content e = ((c.tag == numbers.TAG_PART) ≡ false) × (content_len c ≡ length content) × (event_with c content ≡ Some e)

written_with : (c : CqlpEvent) (content others : List ℕ) (e : Event) → IsWith c content e → (event_from_c c (content ++ others) ≡ Ok e) × (drop (content_len c) (content ++ others) ≡ others)
written_with c content others e w =
    let front : take (content_len c) (content ++ others) ≡ content = ap (λ (n : ℕ). take n (content ++ others)) w.1 ∙ take-append_seam content others in
    let enough : nat_lt (length (content ++ others)) (content_len c) ≡ false = ap (λ (n : ℕ). nat_lt (length (content ++ others)) n) w.1 ∙ long_enough content others in (
      ap (λ (b : Bool). if b then Err bad_event.Unbuilt else (if nat_lt (length (content ++ others)) (content_len c) then Err bad_event.NoEvent else is_event (event_with c (take (content_len c) (content ++ others))))) w.0
          ∙ ap (λ (b : Bool). if b then Err bad_event.NoEvent else is_event (event_with c (take (content_len c) (content ++ others)))) enough
          ∙ ap (λ (bytes : List ℕ). is_event (event_with c bytes)) front ∙ ap is_event w.2,
      ap (λ (n : ℕ). drop n (content ++ others)) w.1 ∙ drop-append_seam content others,
    )

-- ---- fields

by_field : (c : CqlpEvent) (content : List ℕ) (f : Field) (v : FieldValue) → c.field ≡ number_of_field f → value_from_c c content ≡ Some v → field_from_c c (beside_number c.field fields) content ≡ Some (Holds f v)
by_field c content f v e is = ap (λ (n : ℕ). field_from_c c (beside_number n fields) content) e ∙ ap (λ (o : Option Field). field_from_c c o content) (field_conforms f) ∙ ap (option_map (Holds f)) is

module _ (at : ℕ) (f : Field) (p : Ptr) where
  abbrev of_value_from_c : FieldValue → CqlpEvent
  of_value_from_c v = with_content (field_event at f v) (content_of (Holds f v)) p

  value_back : (v : FieldValue) → ValueIsInRange v → value_from_c (of_value_from_c v) (content_of (Holds f v)) ≡ Some v
  unfolding number_from_c
  value_back (field.Byte n) r = ap (option_map field.Byte) (below_back (2 ^ 8) n r)
  value_back (field.Short n) r = ap (option_map field.Short) (below_back (2 ^ 16) n r)
  value_back (field.Int z) r = ap (option_map field.Int) (between32 z r)
  value_back (field.Long z) r = refl
  value_back (field.Uuid bytes) r = refl
  value_back (field.Count n) r = ap (option_map field.Count) (below_back (2 ^ 32) n r)
  value_back (field.Text t) r = ap (option_map field.Text) (text_back t r)
  value_back (field.Bytes None) r = refl
  value_back (field.Bytes (Some c)) r = refl
  value_back (field.Bound field.Null) r = refl
  value_back (field.Bound field.Unset) r = refl
  value_back (field.Bound (field.Known c)) r = refl
  value_back (field.Inet (address.V4 a) port) r = ap (λ (b : List ℕ). Some (field.Inet (address.V4 b) port)) (front_of 4 a (zeros 12) r)
  value_back (field.Inet (address.V6 a) port) r = refl

  holds_back : (v : FieldValue) → ValueIsInRange v → IsWith (of_value_from_c v) (content_of (Holds f v)) (Holds f v)
  holds_back (field.Byte n) r = (refl, refl, by_field (of_value_from_c (field.Byte n)) [] f (field.Byte n) refl (value_back (field.Byte n) r))
  holds_back (field.Short n) r = (refl, refl, by_field (of_value_from_c (field.Short n)) [] f (field.Short n) refl (value_back (field.Short n) r))
  holds_back (field.Int z) r = (refl, refl, by_field (of_value_from_c (field.Int z)) [] f (field.Int z) refl (value_back (field.Int z) r))
  holds_back (field.Long z) r = (refl, refl, by_field (of_value_from_c (field.Long z)) [] f (field.Long z) refl (value_back (field.Long z) r))
  holds_back (field.Uuid bytes) r = (refl, refl, by_field (of_value_from_c (field.Uuid bytes)) [] f (field.Uuid bytes) refl (value_back (field.Uuid bytes) r))
  holds_back (field.Count n) r = (refl, refl, by_field (of_value_from_c (field.Count n)) [] f (field.Count n) refl (value_back (field.Count n) r))
  holds_back (field.Text t) r = (refl, refl, by_field (of_value_from_c (field.Text t)) t f (field.Text t) refl (value_back (field.Text t) r))
  holds_back (field.Bytes None) r = (refl, refl, by_field (of_value_from_c (field.Bytes None)) [] f (field.Bytes None) refl (value_back (field.Bytes None) r))
  holds_back (field.Bytes (Some c)) r = (refl, refl, by_field (of_value_from_c (field.Bytes (Some c))) c f (field.Bytes (Some c)) refl (value_back (field.Bytes (Some c)) r))
  holds_back (field.Bound field.Null) r = (refl, refl, by_field (of_value_from_c (field.Bound field.Null)) [] f (field.Bound field.Null) refl (value_back (field.Bound field.Null) r))
  holds_back (field.Bound field.Unset) r = (refl, refl, by_field (of_value_from_c (field.Bound field.Unset)) [] f (field.Bound field.Unset) refl (value_back (field.Bound field.Unset) r))
  holds_back (field.Bound (field.Known c)) r = (refl, refl, by_field (of_value_from_c (field.Bound (field.Known c))) c f (field.Bound (field.Known c)) refl (value_back (field.Bound (field.Known c)) r))
  holds_back (field.Inet (address.V4 a) port) r = (refl, refl, by_field (of_value_from_c (field.Inet (address.V4 a) port)) [] f (field.Inet (address.V4 a) port) refl (value_back (field.Inet (address.V4 a) port) r))
  holds_back (field.Inet (address.V6 a) port) r = (refl, refl, by_field (of_value_from_c (field.Inet (address.V6 a) port)) [] f (field.Inet (address.V6 a) port) refl (value_back (field.Inet (address.V6 a) port) r))

-- ---- cells

module _ (at row column : ℕ) (p : Ptr) where
  abbrev of_leaf : (level : ℕ) → ScalarValue → CqlpEvent
  of_leaf level v = written_at at (Cell_at row column (cell.Leaf level v)) p

  abbrev as_leaf : (level : ℕ) → Option ScalarValue → Option Event
  as_leaf level o = option_map (λ v. Cell_at row column (cell.Leaf level v)) o

  leaf_back : (level : ℕ) (v : ScalarValue) → IsInRange v → IsWith (of_leaf level v) (content_of (Cell_at row column (cell.Leaf level v))) (Cell_at row column (cell.Leaf level v))
  leaf_back level (scalar.Custom b) r = (refl, refl, refl)
  leaf_back level (scalar.Ascii t) r = (refl, refl, ap (λ (o : Option (List ℕ)). as_leaf level (option_map scalar.Ascii o)) (text_back t r))
  leaf_back level (scalar.Bigint z) r = (refl, refl, refl)
  leaf_back level (scalar.Blob b) r = (refl, refl, refl)
  leaf_back level (scalar.Boolean true) r = (refl, refl, refl)
  leaf_back level (scalar.Boolean false) r = (refl, refl, refl)
  leaf_back level (scalar.Counter z) r = (refl, refl, refl)
  leaf_back level (scalar.Decimal scale b) r = (refl, refl, refl)
  leaf_back level (scalar.Double b) r = (refl, refl, ap (λ (x : List ℕ). as_leaf level (Some (scalar.Double x))) (front_of 8 b (zeros 8) r))
  leaf_back level (scalar.Float b) r = (refl, refl, ap (λ (x : List ℕ). as_leaf level (Some (scalar.Float x))) (front_of 4 b (zeros 12) r))
  leaf_back level (scalar.Int z) r = (refl, refl, ap (λ (o : Option ℤ). as_leaf level (option_map scalar.Int o)) (between32 z r))
  leaf_back level (scalar.Timestamp z) r = (refl, refl, refl)
  leaf_back level (scalar.Uuid b) r = (refl, refl, refl)
  leaf_back level (scalar.Varchar t) r = (refl, refl, ap (λ (o : Option (List ℕ)). as_leaf level (option_map scalar.Varchar o)) (text_back t r))
  leaf_back level (scalar.Varint b) r = (refl, refl, refl)
  leaf_back level (scalar.Timeuuid b) r = (refl, refl, refl)
  leaf_back level (scalar.Inet (address.V4 a)) r = (refl, refl, ap (λ (x : List ℕ). as_leaf level (Some (scalar.Inet (address.V4 x)))) (front_of 4 a (zeros 12) r))
  leaf_back level (scalar.Inet (address.V6 a)) r = (refl, refl, refl)
  leaf_back level (scalar.Date n) r = (refl, refl, ap (λ (o : Option ℕ). as_leaf level (option_map scalar.Date o)) (below_back (2 ^ 32) n r))
  leaf_back level (scalar.Time z) r = (refl, refl, refl)
  leaf_back level (scalar.Smallint z) r = (refl, refl, ap (λ (o : Option ℤ). as_leaf level (option_map scalar.Smallint o)) (between16 z r))
  leaf_back level (scalar.Tinyint z) r = (refl, refl, ap (λ (o : Option ℤ). as_leaf level (option_map scalar.Tinyint o)) (between8 z r))
  leaf_back level (scalar.Raw b) r = (refl, refl, refl)

  abbrev of_enter : (level : ℕ) → Kind → (items : ℕ) → CqlpEvent
  of_enter level k items = written_at at (Cell_at row column (cell.Enter level k items)) p

  enter_back : (level : ℕ) (k : Kind) (items : ℕ) → items < 2 ^ 32 → enter_from_c (of_enter level k items) (beside_number (number_of_kind k) kinds) ≡ Some (Cell_at row column (cell.Enter level k items))
  enter_back level k items r = ap (enter_from_c (of_enter level k items)) (kind_conforms k) ∙ ap (option_map (λ (n : ℕ). Cell_at row column (cell.Enter level k n))) (below_back (2 ^ 32) items r)

  cell_back : (e : CellEvent) → CellIsInRange e → is_part (Cell_at row column e) ≡ false → IsWith (written_at at (Cell_at row column e) p) (content_of (Cell_at row column e)) (Cell_at row column e)
  cell_back (cell.Leaf level v) r w = leaf_back level v r
  cell_back (cell.Null level) r w = (refl, refl, refl)
  cell_back (cell.Empty level) r w = (refl, refl, refl)
  cell_back (cell.Enter level k items) r w = (refl, refl, enter_back level k items r)
  cell_back (cell.Leave level items) r w = absurd r
  cell_back (cell.Part level offset c last) r w = absurd cc

-- ---- events

marked : (r : Bool) → direction_from_c (if r then numbers.MARK_RESPONSE else numbers.MARK_NONE) ≡ Some r
marked true = refl
marked false = refl

header_back : (at : ℕ) (h : Header) (p : Ptr) → FitsSigned w16 h.stream → header_from_c (written_at at (Frame h) p) ≡ Some (record h { length = 0 })
header_back at h p r =
    let c = written_at at (Frame h) p in
    ap (λ (o : Option Opcode). header_with c o (direction_from_c c.mark)) (code_conforms h.opcode)
    ∙ ap (λ (o : Option Bool). header_with c (Some h.opcode) o) (marked h.response)
    ∙ ap (λ (b : Bool). if b then Some (record h { length = 0 }) else None) (stream_back h.stream r)

event_back : (at : ℕ) (e : Event) (p : Ptr) → EventIsInRange e → is_part e ≡ false → IsWith (written_at at e p) (content_of e) (kept e)
event_back at (Frame h) p r w = (refl, refl, ap (option_map Frame) (header_back at h p r))
event_back at (Holds f v) p r w = holds_back at f p v r
event_back at (Node_of k) p r w = (refl, refl, ap (option_map Node_of) (kind_conforms k))
event_back at (Cell_at row column e) p r w = cell_back at row column p e r w
event_back at (Leave level items) p r w = (refl, refl, ap (option_map (λ (n : ℕ). Leave level n)) (below_back (2 ^ 32) items r))
event_back at (End extra) p r w = (refl, refl, refl)

pub read_back : (e : Event) → EventIsInRange e → is_part e ≡ false → IsReadBack e
read_back e r w at c others t =
    subst (λ (d : CqlpEvent). (event_from_c d (content_of e ++ others) ≡ Ok (kept e)) × (drop (content_len d) (content_of e ++ others) ≡ others)) (sym t.2)
    (written_with (written_at at e t.0) (content_of e) others (kept e) (event_back at e t.0 r w))
