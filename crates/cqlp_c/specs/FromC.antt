-- Events that C passes, which are to be written.
use Rattle.std.specs.Prelude.{◌≡◌, ℕ, ◌^◌, ℤ, Bool, true, false, ◌&&◌, ◌||◌, ◌==◌, nat_lt, if◌then◌else◌}
use Rattle.std.specs.Prelude.{List, length, take, Option, Some, None, option_map, Result, Ok, Err}
use Rattle.cqlp_note.specs.declared.field.Field.{Field}
use Rattle.cqlp_note.specs.declared.header.Header.{Header}
use Rattle.cqlp_note.specs.declared.opcode.Opcode.{Opcode}
use Rattle.cqlp_note.specs.Field.{FieldValue}
use Rattle.cqlp_note.specs.Field as note
use Rattle.cqlp_note.specs.Heading.{beside_number, opcodes}
use Rattle.cqlp_kind.specs.declared.kind.Kind.{Kind}
use Rattle.cqlp_kind.specs.CellStep.{Leaf}
use Rattle.cqlp_kind.specs.Scalars.{ScalarValue}
use Rattle.cqlp_grammar.specs.Events.{Event, Frame, Holds, Node_of, Cell_at, End}
use Rattle.cqlp_c.specs.declared.event.CqlpEvent.{CqlpEvent}
use Rattle.cqlp_c.specs.declared.numbers.TheConstants as numbers
use Rattle.cqlp_c.specs.declared.from_c.BadEvent.{BadEvent}
use Rattle.cqlp_c.specs.declared.from_c.BadEvent.TheVariants as bad_event
use Rattle.cqlp_c.specs.Numbers.{fields, number_of_kind}
use Rattle.cqlp_c.specs.Talked.{is_stream}
use Rattle.cqlp_c.specs.CellFromC.{address_from_c, below, cell_from_c, is_of_cell, kind_in, lends, signed_to, text_in}

-- ---- headers

abbrev pub direction_from_c : (mark : ℕ) → Option Bool
direction_from_c m = if m == numbers.MARK_NONE then Some false else if m == numbers.MARK_RESPONSE then Some true else None

-- Its length is not looked at.
abbrev pub header_with : CqlpEvent → Option Opcode → Option Bool → Option Header
header_with c (Some o) (Some answers) =
    if is_stream c.extra
    then Some (record { response = answers; flags = c.flags; stream = c.extra; opcode = o; length = 0 })
    else None
header_with c o answers = None

abbrev pub header_from_c : CqlpEvent → Option Header
header_from_c c = header_with c (beside_number c.opcode opcodes) (direction_from_c c.mark)

-- ---- what a field holds, by its tag

unfoldable pub number_from_c : (tag : ℕ) → ℤ → Option FieldValue
number_from_c t z =
    if t == numbers.TAG_BYTE then option_map note.Byte (below (2 ^ 8) z)
    else if t == numbers.TAG_SHORT then option_map note.Short (below (2 ^ 16) z)
    else if t == numbers.TAG_INT then option_map note.Int (signed_to 2147483647 z)
    else if t == numbers.TAG_LONG then Some (note.Long z)
    else if t == numbers.TAG_COUNT then option_map note.Count (below (2 ^ 32) z)
    else None

abbrev pub text_from_c : (content : List ℕ) → Option FieldValue
text_from_c content = option_map note.Text (text_in content)

abbrev pub bytes_from_c : (mark : ℕ) → (content : List ℕ) → Option FieldValue
bytes_from_c m content =
    if m == numbers.MARK_NONE then Some (note.Bytes (Some content))
    else if m == numbers.MARK_NULL then Some (note.Bytes None)
    else None

abbrev pub bound_from_c : (mark : ℕ) → (content : List ℕ) → Option FieldValue
bound_from_c m content =
    if m == numbers.MARK_NONE then Some (note.Bound (note.Known content))
    else if m == numbers.MARK_NULL then Some (note.Bound note.Null)
    else if m == numbers.MARK_UNSET then Some (note.Bound note.Unset)
    else None

abbrev pub value_from_c : CqlpEvent → (content : List ℕ) → Option FieldValue
value_from_c c content =
    if c.tag == numbers.TAG_TEXT then text_from_c content
    else if c.tag == numbers.TAG_BYTES then bytes_from_c c.mark content
    else if c.tag == numbers.TAG_BOUND then bound_from_c c.mark content
    else if c.tag == numbers.TAG_UUID then Some (note.Uuid c.bytes)
    else if c.tag == numbers.TAG_INET then option_map (λ a. note.Inet a c.extra) (address_from_c c)
    else number_from_c c.tag c.number

abbrev pub field_from_c : CqlpEvent → Option Field → (content : List ℕ) → Option Event
field_from_c c None content = None
field_from_c c (Some f) content = option_map (Holds f) (value_from_c c content)

-- ---- events

-- the event with this content
abbrev pub event_with : CqlpEvent → (content : List ℕ) → Option Event
event_with c content =
    if c.tag == numbers.TAG_FRAME then option_map Frame (header_from_c c)
    else if c.tag == numbers.TAG_END then Some (End 0)
    else if c.tag == numbers.TAG_TYPE_NODE then option_map Node_of (kind_in c)
    else if is_of_cell c.tag then cell_from_c c content
    else field_from_c c (beside_number c.field fields) content

-- a text, bytes that are there, or a scalar that has a content
abbrev pub has_content : CqlpEvent → Bool
has_content c =
    (c.tag == numbers.TAG_TEXT)
    || ((((c.tag == numbers.TAG_BYTES) || (c.tag == numbers.TAG_BOUND)) && (c.mark == numbers.MARK_NONE))
    || ((c.tag == numbers.TAG_LEAF) && lends c.kind))

abbrev pub content_len : CqlpEvent → ℕ
content_len c = if has_content c then c.length else 0

abbrev pub is_event : Option Event → Result Event BadEvent
is_event None = Err bad_event.NoEvent
is_event (Some e) = Ok e

-- What C passes as an event whose content is the first of these bytes. Of parts no frame is made.
abbrev pub event_from_c : CqlpEvent → (contents : List ℕ) → Result Event BadEvent
event_from_c c contents =
    if c.tag == numbers.TAG_PART then Err bad_event.Unbuilt
    else if nat_lt (length contents) (content_len c) then Err bad_event.NoEvent
    else is_event (event_with c (take (content_len c) contents))

-- the event that was found, of what is answered
abbrev pub first_of : {A : Type 0} → (A → Event) → Result A BadEvent → Result Event BadEvent
first_of f (Ok x) = Ok (f x)
first_of f (Err why) = Err why

-- the leaf with this scalar and no value around it, in the row and the column that C passes
abbrev pub found_leaf : CqlpEvent → ScalarValue → Result Event BadEvent
found_leaf c v = Ok (Cell_at c.row c.column (Leaf 0 v))

-- What C passes is a leaf of this kind with no value around it.
abbrev pub IsLeaf : CqlpEvent → Kind → Type 0
IsLeaf c k = (c.tag ≡ numbers.TAG_LEAF) × (c.kind ≡ number_of_kind k) × (c.level ≡ 0)

-- What C passes is a null with no value around it.
abbrev pub IsNull : CqlpEvent → Type 0
IsNull c = (c.tag ≡ numbers.TAG_NULL) × (c.level ≡ 0)

-- It is no such leaf, or its content is that of no scalar of this kind.
abbrev pub IsNoLeaf : CqlpEvent → Kind → (contents : List ℕ) → Type 0
IsNoLeaf c k contents = (v : ScalarValue) → IsLeaf c k → event_from_c c contents ≡ found_leaf c v → ⊥

-- What C passes is an empty value with no value around it.
abbrev pub IsEmpty : CqlpEvent → Type 0
IsEmpty c = (c.tag ≡ numbers.TAG_EMPTY) × (c.level ≡ 0)
