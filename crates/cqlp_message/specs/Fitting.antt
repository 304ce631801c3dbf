-- What fits is spelled: the laws of frames that bytes spell.
use Rattle.std.specs.Prelude.{◌≡◌, ℕ, ◌++◌, ◌<◌, false, List, [], length, Some, None, All, FitsSigned}
use Rattle.std.specs.List.{flat_map}
use Rattle.std.specs.Int.{w16}
use Rattle.cqlp_note.specs.Field.{FieldValue, Uuid, Text, Bytes, Bound, Inet, Known}
use Rattle.cqlp_note.specs.Spelling.{address_bytes}
use Rattle.cqlp_kind.specs.TypeStep.{TypeEvent, IsNode, IsField}
use Rattle.cqlp_type.specs.Trees.{trees_items}
use Rattle.cqlp_kind.specs.Scalars.{content_of}
use Rattle.cqlp_value.specs.Values.{Values, NoValue, Null_and, Empty_and, Scalar_and, Counted_and, Fields_and}
use Rattle.cqlp_message.specs.FrameValues.{Octets, FrameValue}
use Rattle.cqlp_message.specs.Parts.{Part, Field_is, Type_is, Cell_is}
use Rattle.cqlp_message.specs.Frames.{FrameSpells, frame_parts, frame_size, frame_bytes, unfit_of, FrameIsInRange}

-- A frame that nothing keeps from being spelled is spelled by the bytes that are written of it, which are as many as its
-- size says.
abbrev pub WhatFitsIsSpelled : Type 0
WhatFitsIsSpelled =
    (f : FrameValue) → FrameIsInRange f → unfit_of f ≡ None
    → FrameSpells f 0 (frame_bytes f) × (length (frame_bytes f) ≡ frame_size f 0)

-- A frame that some bytes spell, with x bytes more, is one that nothing keeps from being spelled, and its parts are in
-- range. Its stream id is one of 16 bits.
abbrev pub WhatIsSpelledFits : Type 0
WhatIsSpelledFits =
    (f : FrameValue) (x : ℕ) (b : List ℕ)
    → FrameSpells f x b → All (λ y. y < 256) b → FitsSigned w16 f.stream → (unfit_of f ≡ None) × FrameIsInRange f

-- ---- octets

-- the octets in a field: an id, a text, a content, an address
abbrev pub field_octets : FieldValue → Octets
field_octets (Uuid id) = id
field_octets (Text s) = s
field_octets (Bytes (Some c)) = c
field_octets (Bound (Known c)) = c
field_octets (Inet a port) = address_bytes a
field_octets v = []

abbrev pub item_octets : TypeEvent → Octets
item_octets (IsNode k) = []
item_octets (IsField f v) = field_octets v

-- the contents of scalars
abbrev pub values_octets : Values → Octets
values_octets NoValue = []
values_octets (Null_and vs) = values_octets vs
values_octets (Empty_and vs) = values_octets vs
values_octets (Scalar_and v vs) = content_of v ++ values_octets vs
values_octets (Counted_and k n items vs) = values_octets items ++ values_octets vs
values_octets (Fields_and k items vs) = values_octets items ++ values_octets vs

abbrev pub part_octets : Part → Octets
part_octets (Field_is f n v) = field_octets v
part_octets (Type_is t) = flat_map item_octets (trees_items false t)
part_octets (Cell_is row column k inner v) = values_octets v

-- Each octet in a frame is below 256, as in each `Frame`.
abbrev pub HasOctets : FrameValue → Type 0
HasOctets f = All (λ y. y < 256) (flat_map part_octets (frame_parts f))

-- What is written of a frame are bytes.
abbrev pub WrittenAreBytes : Type 0
WrittenAreBytes = (f : FrameValue) → FrameIsInRange f → HasOctets f → All (λ y. y < 256) (frame_bytes f)

-- Nothing keeps a frame from being spelled exactly where some bytes spell it, as many as its size says: bytes, where its
-- octets are.
abbrev pub FitJustIfSpelled : Type 0
FitJustIfSpelled =
    (f : FrameValue) → FrameIsInRange f
    → (unfit_of f ≡ None
    → (b : List ℕ) × FrameSpells f 0 b × (length b ≡ frame_size f 0) × (HasOctets f → All (λ y. y < 256) b))
    × ((b : List ℕ) → All (λ y. y < 256) b → FrameSpells f 0 b → unfit_of f ≡ None)
