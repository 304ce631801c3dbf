-- What of a stream exceeds the caller's limits.
use Rattle.std.specs.Prelude.{◌≡◌, ℕ, ◌+◌, ◌-◌, ◌<◌, ◌≤◌, ◌^◌, Bool, true, false, ◌&&◌, List, ◌∷◌, length, take, Some, nat_lt, ◌⊎◌}
use Rattle.std.specs.Int.{Width, w16, w32, from_be_bytes}
use Rattle.cqlp_note.specs.declared.field.Notation.{Notation}
use Rattle.cqlp_note.specs.declared.field.Notation.TheVariants as notation
use Rattle.cqlp_note.specs.declared.refusal.Reason.{Reason}
use Rattle.cqlp_note.specs.declared.refusal.Reason.TheVariants.{TooLong, TooDeep, TooMany}
use Rattle.cqlp_note.specs.Heading.{beside_number}
use Rattle.cqlp_note.specs.Limits.{Rules}
use Rattle.cqlp_kind.specs.declared.kind.Kind.{Kind}
use Rattle.cqlp_kind.specs.Types.{Type_and, kinds, has_no_items}
use Rattle.cqlp_kind.specs.TypeStep.{TypeSymbol, Option_at, Text_of, kind_or_lenient}
use Rattle.cqlp_kind.specs.Scalars.{size_or_lenient}
use Rattle.cqlp_kind.specs.CellStep.{CellSymbol, Value_of, Items_of, is_opaque}
use Rattle.cqlp_grammar.specs.Productions.{Symbol, In, In_type, Cell_due, In_cell}
use Rattle.cqlp_decode.specs.Reading.{Place, Event, Verdict, Refused, Gifts, Reads, Says, start_with}

-- other limits on texts, on contents, on the types of one metadata and on their nesting
abbrev pub with_limits : Rules → (text cell entries depth : ℕ) → Rules
with_limits l text cell entries depth = record l { text = text; cell = cell; entries = entries; depth = depth }

-- The same rules with limits that nothing passes: each length is below 2 ^ 31, and no body has as many options.
abbrev pub free : Rules → Rules
free l = with_limits l (2 ^ 31) (2 ^ 31) (2 ^ 31) (2 ^ 31)

-- ---- contents

-- the number that the first k bytes are
abbrev pub first_number : (k : ℕ) → Width → List ℕ → ℕ
first_number k w bytes = from_be_bytes w (take k bytes)

-- The bytes begin with a length, of k bytes, that is above the limit. The container has room for a content of that
-- length, of which nothing need have come.
pub record IsLong (k : ℕ) (w : Width) (limit room : ℕ) (bytes : List ℕ) : Type 0 where
  pub came : k ≤ length bytes
  pub fits : k + first_number k w bytes ≤ room
  pub long : limit < first_number k w bytes

abbrev pub IsLong16 : (limit room : ℕ) → List ℕ → Type 0
IsLong16 limit room bytes = IsLong 2 w16 limit room bytes

-- a length of four bytes is negative from 2 ^ 31 on
abbrev pub IsLong32 : (limit room : ℕ) → List ℕ → Type 0
IsLong32 limit room bytes = (first_number 4 w32 bytes < 2 ^ 31) × IsLong 4 w32 limit room bytes

-- A field in this notation is longer than its limit: a text than `text`, and bytes or a [value] than `cell`. (A bare
-- content of n bytes is a notation too, which no symbol of a stream has.)
abbrev pub IsLongField : Rules → Notation → (room : ℕ) → List ℕ → Type 0
IsLongField l notation.Text16 room bytes = IsLong16 l.text room bytes
IsLongField l notation.Text32 room bytes = IsLong32 l.text room bytes
IsLongField l notation.Bytes16 room bytes = IsLong16 l.cell room bytes
IsLongField l notation.Bytes32 room bytes = IsLong32 l.cell room bytes
IsLongField l notation.Bound room bytes = IsLong32 l.cell room bytes
IsLongField l (notation.Content n) room bytes = (n ≤ room) × (l.cell < n)
IsLongField l n room bytes = ⊥

-- a scalar of n bytes is handed out in parts
abbrev pub comes_in_parts : Rules → Kind → (n : ℕ) → Bool
comes_in_parts l k n = l.parts && is_opaque k && nat_lt l.part n

-- A value of this kind is longer than `cell`: a scalar whose length is taken, and that is not handed out in parts.
pub record IsLongValue (l : Rules) (k : Kind) (room : ℕ) (bytes : List ℕ) : Type 0 where
  pub scalar : has_no_items k ≡ true
  pub content : IsLong32 l.cell room bytes
  pub allowed : size_or_lenient l.lenient k (first_number 4 w32 bytes) ≡ true
  pub whole : comes_in_parts l k (first_number 4 w32 bytes) ≡ false

-- The value that is next in a cell is longer than `cell`.
abbrev pub IsLongInCell : Rules → (offset : ℕ) → List CellSymbol → List ℕ → Type 0
IsLongInCell l offset (Value_of k inner level stop ∷ rest) bytes = IsLongValue l k (stop - offset) bytes
IsLongInCell l offset (Items_of (Type_and k inner others) level stop taken ∷ rest) bytes =
    IsLongValue l k (stop - offset) bytes
IsLongInCell l offset symbols bytes = ⊥

-- ---- type options

-- The bytes begin with the id of a kind, or with any id where the caller is lenient, and the container has room for it.
pub record IsOption (l : Rules) (room : ℕ) (bytes : List ℕ) : Type 0 where
  pub came : 2 ≤ length bytes
  pub fits : 2 ≤ room
  pub kind : Kind
  pub known : kind_or_lenient (beside_number (first_number 2 w16 bytes) kinds) l.lenient ≡ Some kind

-- An option at this depth, after n others of its metadata, is too deep; or it is not, and is one too many.
abbrev pub IsOver : Rules → (depth n : ℕ) → Reason → Type 0
IsOver l depth n TooDeep = l.depth < depth
IsOver l depth n TooMany = (depth ≤ l.depth) × (l.entries ≤ n)
IsOver l depth n why = ⊥

-- What is next of a type option, after n options of its metadata, exceeds a limit.
abbrev pub ExceedsInType : Rules → (room n : ℕ) → List TypeSymbol → List ℕ → Reason → Type 0
ExceedsInType l room n (Option_at depth ∷ rest) bytes why = IsOption l room bytes × IsOver l depth n why
ExceedsInType l room n (Text_of f ∷ rest) bytes why = (why ≡ TooLong) × IsLongField l notation.Text16 room bytes
ExceedsInType l room n symbols bytes why = ⊥

-- ---- a stream

-- What begins here with these bytes passes the tests that come before its limit, and exceeds that limit.
abbrev pub ExceedsAt : Rules → Place → List Symbol → List ℕ → Reason → Type 0
ExceedsAt l p (In f n r ∷ rest) bytes why = (why ≡ TooLong) × IsLongField l n (p.stop - p.offset) bytes
ExceedsAt l p (In_type symbols ∷ rest) bytes why =
    ExceedsInType l (p.stop - p.offset) (length p.nodes) symbols bytes why
ExceedsAt l p (Cell_due row column k inner ∷ rest) bytes why =
    (why ≡ TooLong) × IsLongValue l k (p.stop - p.offset) bytes
ExceedsAt l p (In_cell row column symbols ∷ rest) bytes why = (why ≡ TooLong) × IsLongInCell l p.offset symbols bytes
ExceedsAt l p symbols bytes why = ⊥

abbrev pub Exceeds : Rules → Place → List ℕ → Reason → Type 0
Exceeds l p bytes why = ExceedsAt l p p.symbols bytes why

-- What is read while the caller gives this.
module _ (l : Rules) (gifts : Gifts) where
  -- Read freely, these bytes say these events and lead to this place, where what begins exceeds a limit.
  abbrev pub ComesToExcess : List ℕ → List (ℕ × Event) → Place → List ℕ → Reason → Type 0
  ComesToExcess bytes es p rest why = Reads (free l) (start_with gifts) bytes es p rest × Exceeds l p rest why

  abbrev pub NothingExceeds : List ℕ → Type 0
  NothingExceeds bytes =
      (es : List (ℕ × Event)) (p : Place) (rest : List ℕ) (why : Reason) → ComesToExcess bytes es p rest why → ⊥

  -- And they lead to no such place after fewer events.
  abbrev pub ComesFirstToExcess : List ℕ → List (ℕ × Event) → Place → List ℕ → Reason → Type 0
  ComesFirstToExcess bytes es p rest why =
      ComesToExcess bytes es p rest why
      × ((fs : List (ℕ × Event)) (q : Place) (left : List ℕ) (how : Reason)
      → ComesToExcess bytes fs q left how → length es ≤ length fs)

  -- What the free reading says of these bytes, if nothing exceeds a limit; else the events before the first that does,
  -- and its refusal, at its first byte.
  abbrev pub IsCut : List ℕ → List (ℕ × Event) → Verdict → Type 0
  IsCut bytes es v =
      (NothingExceeds bytes × Says (free l) (start_with gifts) bytes es v)
      ⊎ ((p : Place) × (rest : List ℕ) × (why : Reason)
      × ComesFirstToExcess bytes es p rest why × (v ≡ Refused p.offset why))
