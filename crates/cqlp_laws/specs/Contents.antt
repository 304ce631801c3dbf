-- The contents of events, and where they lie in a stream.
use Rattle.std.specs.Prelude.{◌≡◌, ℕ, ◌+◌, ◌++◌, List, [], ◌∷◌, length, Option, Some, None}
use Rattle.cqlp_note.specs.declared.field.Field.{Field}
use Rattle.cqlp_note.specs.declared.field.Field.TheVariants as name
use Rattle.cqlp_note.specs.Limits.{Rules}
use Rattle.cqlp_note.specs.Field as field
use Rattle.cqlp_kind.specs.CellStep as cell
use Rattle.cqlp_kind.specs.Scalars.{ScalarValue}
use Rattle.cqlp_kind.specs.Scalars as scalar
use Rattle.cqlp_grammar.specs.Events.{Holds, Cell_at}
use Rattle.cqlp_decode.specs.Reading.{Place, Event, Gifts, Reads, start_with}

-- the content of a scalar, if it has one; the others are known by their number or their bytes
abbrev pub scalar_content : ScalarValue → Option (List ℕ)
scalar_content (scalar.Custom b) = Some b
scalar_content (scalar.Blob b) = Some b
scalar_content (scalar.Raw b) = Some b
scalar_content (scalar.Varint b) = Some b
scalar_content (scalar.Ascii t) = Some t
scalar_content (scalar.Varchar t) = Some t
scalar_content (scalar.Decimal scale b) = Some b
scalar_content v = None

-- the content that an event lends, if it lends one
abbrev pub content_in : Event → Option (List ℕ)
content_in (Holds f (field.Text t)) = Some t
content_in (Holds f (field.Bytes (Some c))) = Some c
content_in (Holds f (field.Bound (field.Known c))) = Some c
content_in (Cell_at row column (cell.Leaf level v)) = scalar_content v
content_in (Cell_at row column (cell.Part level offset c last)) = Some c
content_in e = None

-- ---- the bytes before a content

-- of a [string] two bytes of length, and four of a query, which alone is a [long string]
abbrev pub before_text : Field → ℕ
before_text name.Query = 4
before_text f = 2

-- of [bytes] four bytes of length, and two of the id of a statement, which alone is [short bytes]
abbrev pub before_bytes : Field → ℕ
before_bytes name.StatementId = 2
before_bytes f = 4

-- four bytes of length, and of a decimal the four of its scale
abbrev pub before_scalar : ScalarValue → ℕ
before_scalar (scalar.Decimal scale b) = 8
before_scalar v = 4

-- From the offset of an event on, this many bytes come before its content. A part of a long content begins with it.
abbrev pub before_content : Event → ℕ
before_content (Holds f (field.Text t)) = before_text f
before_content (Holds f (field.Bytes c)) = before_bytes f
before_content (Holds f (field.Bound v)) = 4
before_content (Cell_at row column (cell.Leaf level v)) = before_scalar v
before_content e = 0

-- Where an event with a content is read, the content is the last of the bytes read so far, and begins this many bytes
-- after the event's offset.
abbrev pub EndsWhatIsRead : Type 0
EndsWhatIsRead =
    (l : Rules) (gifts : Gifts) (s : List ℕ) (es : List (ℕ × Event)) (at : ℕ) (e : Event) (p : Place)
    (content : List ℕ)
    → Reads l (start_with gifts) s (es ++ (at, e) ∷ []) p [] → content_in e ≡ Some content
    → (before : List ℕ) × (s ≡ before ++ content) × (length before ≡ at + before_content e)
