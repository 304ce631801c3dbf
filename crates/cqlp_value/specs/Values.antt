-- The values of cells, and what spells them (section 6 of native_protocol_v4.spec).
use Rattle.std.specs.Prelude.{◌≡◌, ◌≢◌, ℕ, zero, suc, ◌+◌, ◌++◌, ◌<◌, ◌≤◌, ◌^◌, Bool, true, false, ◌&&◌, List, [], ◌∷◌, length}
use Rattle.std.specs.Prelude.{take, drop, Option, Some, None, nat_lt, nat_le, if◌then◌else◌}
use Rattle.cqlp_note.specs.declared.field.Notation.TheVariants as notation
use Rattle.cqlp_note.specs.Field.{Bytes, Count}
use Rattle.cqlp_note.specs.Spelling.{Spells, field_bytes}
use Rattle.cqlp_note.specs.Limits.{Rules}
use Rattle.cqlp_kind.specs.declared.kind.Kind.{Kind}
use Rattle.cqlp_kind.specs.declared.kind.Kind.TheVariants as kind
use Rattle.cqlp_kind.specs.Types.{Types, NoMore, Type_and, how_many, first_types, followed_by, is_kind}
use Rattle.cqlp_type.specs.Trees.{Joined}
use Rattle.cqlp_kind.specs.Scalars.{ScalarValue, allows_size, scalar_of, kind_of, content_of, scalar_fits, IsInRange}
use Rattle.cqlp_kind.specs.CellStep.{CellEvent, Leaf, Null, Empty, Enter, Leave, Part, is_opaque}
use Rattle.cqlp_cell.specs.Sizes.{is_counted}

-- Values side by side: one, and others after it.
pub data Values : Type 0 where
  NoValue : Values
  Null_and : (others : Values) → Values
  Empty_and : (others : Values) → Values
  Scalar_and : ScalarValue → (others : Values) → Values
  -- a list, a set or a map of this many elements or pairs; a key comes before its value
  Counted_and : Kind → (count : ℕ) → (items others : Values) → Values
  -- a tuple or a user-defined type, of whose fields the first are there
  Fields_and : Kind → (items others : Values) → Values

abbrev pub values_in : Values → ℕ
values_in NoValue = 0
values_in (Null_and vs) = suc (values_in vs)
values_in (Empty_and vs) = suc (values_in vs)
values_in (Scalar_and v vs) = suc (values_in vs)
values_in (Counted_and k n items vs) = suc (values_in vs)
values_in (Fields_and k items vs) = suc (values_in vs)

-- ---- spelling

-- these types this many times over
abbrev pub type_copies : ℕ → Types → Types
type_copies zero ts = NoMore
type_copies (suc n) ts = followed_by ts (type_copies n ts)

abbrev pub has_fields : Kind → Bool
has_fields kind.Tuple = true
has_fields kind.Udt = true
has_fields _ = false

-- a [bytes]: one of a negative length is null
abbrev pub IsBytes : Option (List ℕ) → List ℕ → Type 0
IsBytes c b = Spells notation.Bytes32 (Bytes c) b

-- a content that is not empty, of a length that the type allows, is this scalar
pub record IsScalar (k : Kind) (v : ScalarValue) (content : List ℕ) : Type 0 where
  pub some : content ≢ []
  pub size : allows_size k (length content) ≡ true
  pub is : scalar_of k content ≡ Some v

-- These bytes spell these values, one of each type. A count is before the elements of a list or a set and before
-- the pairs of a map. The last fields of a tuple or a user-defined type may be missing.
abbrev pub ValuesSpell : Types → Values → List ℕ → Type 0
ValuesSpell NoMore NoValue b = b ≡ []
ValuesSpell (Type_and k inner ts) (Null_and vs) b = Joined (IsBytes None) (ValuesSpell ts vs) b
ValuesSpell (Type_and k inner ts) (Empty_and vs) b = Joined (IsBytes (Some [])) (ValuesSpell ts vs) b
ValuesSpell (Type_and k inner ts) (Scalar_and v vs) b =
    (c : List ℕ) × IsScalar k v c × Joined (IsBytes (Some c)) (ValuesSpell ts vs) b
ValuesSpell (Type_and k inner ts) (Counted_and j n items vs) b =
    (j ≡ k) × (is_counted k ≡ true) × (c : List ℕ)
    × Joined (Spells notation.Count32 (Count n)) (ValuesSpell (type_copies n inner) items) c
    × Joined (IsBytes (Some c)) (ValuesSpell ts vs) b
ValuesSpell (Type_and k inner ts) (Fields_and j items vs) b =
    (j ≡ k) × (has_fields k ≡ true) × (c : List ℕ) × (c ≢ [])
    × ValuesSpell (first_types (values_in items) inner) items c
    × Joined (IsBytes (Some c)) (ValuesSpell ts vs) b
ValuesSpell ts vs b = ⊥

-- These bytes spell this value, of this type.
abbrev pub ValueSpells : Kind → Types → Values → List ℕ → Type 0
ValueSpells k inner v b = ValuesSpell (Type_and k inner NoMore) v b

-- how many bytes spell them
abbrev pub values_size : Values → ℕ
values_size NoValue = 0
values_size (Null_and vs) = 4 + values_size vs
values_size (Empty_and vs) = 4 + values_size vs
values_size (Scalar_and v vs) = 4 + length (content_of v) + values_size vs
values_size (Counted_and k n items vs) = 8 + values_size items + values_size vs
values_size (Fields_and k items vs) = 4 + values_size items + values_size vs

-- ---- the spelling that is written

-- Each null has the length -1, and each true is 01.
abbrev pub values_bytes : Values → List ℕ
values_bytes NoValue = []
values_bytes (Null_and vs) = field_bytes notation.Bytes32 (Bytes None) ++ values_bytes vs
values_bytes (Empty_and vs) = field_bytes notation.Bytes32 (Bytes (Some [])) ++ values_bytes vs
values_bytes (Scalar_and v vs) = field_bytes notation.Bytes32 (Bytes (Some (content_of v))) ++ values_bytes vs
values_bytes (Counted_and k n items vs) =
    field_bytes notation.Bytes32 (Bytes (Some (field_bytes notation.Count32 (Count n) ++ values_bytes items)))
    ++ values_bytes vs
values_bytes (Fields_and k items vs) =
    field_bytes notation.Bytes32 (Bytes (Some (values_bytes items))) ++ values_bytes vs

-- ---- fit

-- Each value is one of its type. Null and empty are of any type. A collection has as many items as its count says, which
-- is no negative [int]. A tuple or a user-defined type has one field at least, and no more than its type.
abbrev pub values_fit : Types → Values → Bool
values_fit NoMore NoValue = true
values_fit (Type_and k inner ts) (Null_and vs) = values_fit ts vs
values_fit (Type_and k inner ts) (Empty_and vs) = values_fit ts vs
values_fit (Type_and k inner ts) (Scalar_and v vs) = is_kind (kind_of v) k && scalar_fits v && values_fit ts vs
values_fit (Type_and k inner ts) (Counted_and j n items vs) =
    is_kind j k && is_counted k && nat_lt n (2 ^ 31) && values_fit (type_copies n inner) items && values_fit ts vs
values_fit (Type_and k inner ts) (Fields_and j items vs) =
    is_kind j k && has_fields k && nat_lt 0 (values_in items)
    && values_fit (first_types (values_in items) inner) items && values_fit ts vs
values_fit ts vs = false

-- a value is one of its type
abbrev pub value_fits : Kind → Types → Values → Bool
value_fits k inner v = values_fit (Type_and k inner NoMore) v

-- each scalar is in range
abbrev pub AreInRange : Values → Type 0
AreInRange NoValue = Unit {0}
AreInRange (Null_and vs) = AreInRange vs
AreInRange (Empty_and vs) = AreInRange vs
AreInRange (Scalar_and v vs) = IsInRange v × AreInRange vs
AreInRange (Counted_and k n items vs) = AreInRange items × AreInRange vs
AreInRange (Fields_and k items vs) = AreInRange items × AreInRange vs

-- ---- items

module _ (l : Rules) where
  -- the parts of a content from this offset in it, at most this many before the last
  abbrev pub part_items : (most level at offset : ℕ) → List ℕ → List (ℕ × CellEvent)
  part_items zero level at offset c = (at, Part level offset c true) ∷ []
  part_items (suc n) level at offset c =
      if nat_le (length c) l.part then (at, Part level offset c true) ∷ []
      else (at, Part level offset (take l.part c) false)
      ∷ part_items n level (at + l.part) (offset + l.part) (drop l.part c)

  -- a long scalar comes in parts, if the caller asks for parts
  abbrev pub in_parts : ScalarValue → Bool
  in_parts v = l.parts && is_opaque (kind_of v) && nat_lt l.part (length (content_of v))

  -- a scalar comes whole, or in parts after its length
  abbrev pub scalar_items : (level at : ℕ) → ScalarValue → List (ℕ × CellEvent)
  scalar_items level at v =
      if in_parts v then part_items (length (content_of v)) level (at + 4) 0 (content_of v)
      else (at, Leaf level v) ∷ []

  -- the items of values of these types at this level, the first of which begins at this offset
  abbrev pub values_items : (level at : ℕ) → Types → Values → List (ℕ × CellEvent)
  values_items level at (Type_and k inner ts) (Null_and vs) = (at, Null level) ∷ values_items level (at + 4) ts vs
  values_items level at (Type_and k inner ts) (Empty_and vs) = (at, Empty level) ∷ values_items level (at + 4) ts vs
  values_items level at (Type_and k inner ts) (Scalar_and v vs) =
      scalar_items level at v ++ values_items level (at + 4 + length (content_of v)) ts vs
  values_items level at (Type_and k inner ts) (Counted_and j n items vs) =
      let stop = at + 8 + values_size items in
      (at, Enter level k n)
      ∷ (values_items (level + 1) (at + 8) (type_copies n inner) items
      ++ ((stop, Leave level n) ∷ values_items level stop ts vs))
  values_items level at (Type_and k inner ts) (Fields_and j items vs) =
      let stop = at + 4 + values_size items in
      (at, Enter level k (how_many inner))
      ∷ (values_items (level + 1) (at + 4) (first_types (values_in items) inner) items
      ++ ((stop, Leave level (values_in items)) ∷ values_items level stop ts vs))
  values_items level at ts vs = []

  -- the items of a value of this type, which begins at this offset
  abbrev pub value_items : (at : ℕ) → Kind → Types → Values → List (ℕ × CellEvent)
  value_items at k inner v = values_items 0 at (Type_and k inner NoMore) v

  -- each scalar fits into a cell, or into parts
  abbrev pub AreWithin : Values → Type 0
  AreWithin NoValue = Unit {0}
  AreWithin (Null_and vs) = AreWithin vs
  AreWithin (Empty_and vs) = AreWithin vs
  AreWithin (Scalar_and v vs) =
      (in_parts v ≡ false → length (content_of v) ≤ l.cell) × (in_parts v ≡ true → 0 < l.part) × AreWithin vs
  AreWithin (Counted_and k n items vs) = AreWithin items × AreWithin vs
  AreWithin (Fields_and k items vs) = AreWithin items × AreWithin vs
