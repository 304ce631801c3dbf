-- What spells a field.
use Rattle.std.specs.Prelude.{◌≡◌, ℕ, ◌-◌, ◌++◌, ◌<◌, ◌≤◌, ◌^◌, Bool, true, List, [], ◌∷◌, length, Some, None, nat_lt, FitsSigned}
use Rattle.std.specs.Int.{Width, w8, w16, w32, w64, from_be_bytes, to_be_bytes, cast_signed, cast_unsigned}
use Rattle.std.specs.Str.{is_utf8}
use Rattle.cqlp_note.specs.declared.field.Notation.{Notation}
use Rattle.cqlp_note.specs.declared.field.Notation.TheVariants as notation
use Rattle.cqlp_note.specs.declared.prim.Address.{Address}
use Rattle.cqlp_note.specs.declared.prim.Address.TheVariants as address
use Rattle.cqlp_note.specs.Field.{FieldValue, Byte, Short, Int, Long, Uuid, Count, Text, Bytes, Bound, Inet, Null, Unset, Known}
use Rattle.cqlp_note.specs.Field.{signed, content_length}

-- these n bytes are this number, the highest byte first
pub record IsNumber (n : ℕ) (w : Width) (m : ℕ) (bytes : List ℕ) : Type 0 where
  pub long : length bytes ≡ n
  pub is : from_be_bytes w bytes ≡ m

-- the length of a content in n bytes, and the content
pub record Counted (n : ℕ) (w : Width) (content bytes : List ℕ) : Type 0 where
  pub head : List ℕ
  pub counts : IsNumber n w (length content) head
  pub parts : bytes ≡ head ++ content

-- an address after the number of its bytes, and a port
pub record IsInet (address bytes : List ℕ) (port : ℕ) : Type 0 where
  pub head : List ℕ
  pub tail : List ℕ
  pub counts : IsNumber 1 w8 (length address) head
  pub ends : IsNumber 4 w32 port tail
  pub parts : bytes ≡ head ++ address ++ tail

-- The bytes, all of them, spell this value in this notation.
unfoldable pub Spells : Notation → FieldValue → List ℕ → Type 0
Spells notation.Byte (Byte n) b = IsNumber 1 w8 n b
Spells notation.Short (Short n) b = IsNumber 2 w16 n b
Spells notation.Int (Int z) b = (n : ℕ) × IsNumber 4 w32 n b × (z ≡ signed n)
Spells notation.Long (Long z) b = (n : ℕ) × IsNumber 8 w64 n b × (z ≡ cast_signed w64 n)
Spells notation.Uuid (Uuid c) b = (length b ≡ 16) × (b ≡ c)
Spells notation.Count16 (Count n) b = IsNumber 2 w16 n b
Spells notation.Count32 (Count n) b = IsNumber 4 w32 n b × (n < 2 ^ 31)
Spells notation.Text16 (Text s) b = Counted 2 w16 s b × (is_utf8 s ≡ true)
Spells notation.Text32 (Text s) b = Counted 4 w32 s b × (length s < 2 ^ 31) × (is_utf8 s ≡ true)
Spells notation.Bytes16 (Bytes (Some c)) b = Counted 2 w16 c b
Spells notation.Bytes32 (Bytes None) b = (n : ℕ) × IsNumber 4 w32 n b × (2 ^ 31 ≤ n)
Spells notation.Bytes32 (Bytes (Some c)) b = Counted 4 w32 c b × (length c < 2 ^ 31)
Spells notation.Bound (Bound Null) b = IsNumber 4 w32 (2 ^ 32 - 1) b
Spells notation.Bound (Bound Unset) b = IsNumber 4 w32 (2 ^ 32 - 2) b
Spells notation.Bound (Bound (Known c)) b = Counted 4 w32 c b × (length c < 2 ^ 31)
Spells notation.Inet (Inet (address.V4 a) z) b = (port : ℕ) × IsInet a b port × (length a ≡ 4) × (z ≡ signed port)
Spells notation.Inet (Inet (address.V6 a) z) b = (port : ℕ) × IsInet a b port × (length a ≡ 16) × (z ≡ signed port)
Spells (notation.Content n) (Bytes (Some c)) b = (length b ≡ n) × (b ≡ c)
Spells n v b = ⊥

-- ---- the spelling that is written

abbrev pub address_bytes : Address → List ℕ
address_bytes (address.V4 a) = a
address_bytes (address.V6 a) = a

-- The bytes of a field: null has the length -1, and not set the length -2.
abbrev pub field_bytes : Notation → FieldValue → List ℕ
field_bytes notation.Byte (Byte n) = n ∷ []
field_bytes notation.Short (Short n) = to_be_bytes w16 n
field_bytes notation.Int (Int z) = to_be_bytes w32 (cast_unsigned w32 z)
field_bytes notation.Long (Long z) = to_be_bytes w64 (cast_unsigned w64 z)
field_bytes notation.Uuid (Uuid c) = c
field_bytes notation.Count16 (Count n) = to_be_bytes w16 n
field_bytes notation.Count32 (Count n) = to_be_bytes w32 n
field_bytes notation.Text16 (Text s) = to_be_bytes w16 (length s) ++ s
field_bytes notation.Text32 (Text s) = to_be_bytes w32 (length s) ++ s
field_bytes notation.Bytes16 (Bytes (Some c)) = to_be_bytes w16 (length c) ++ c
field_bytes notation.Bytes32 (Bytes None) = to_be_bytes w32 (2 ^ 32 - 1)
field_bytes notation.Bytes32 (Bytes (Some c)) = to_be_bytes w32 (length c) ++ c
field_bytes notation.Bound (Bound Null) = to_be_bytes w32 (2 ^ 32 - 1)
field_bytes notation.Bound (Bound Unset) = to_be_bytes w32 (2 ^ 32 - 2)
field_bytes notation.Bound (Bound (Known c)) = to_be_bytes w32 (length c) ++ c
field_bytes notation.Inet (Inet a port) =
    length (address_bytes a) ∷ address_bytes a ++ to_be_bytes w32 (cast_unsigned w32 port)
field_bytes (notation.Content n) (Bytes (Some c)) = c
field_bytes n v = []

-- a count that is no greater than its notation counts
abbrev pub counts_no_more : Notation → FieldValue → Bool
counts_no_more notation.Count16 (Count n) = nat_lt n (2 ^ 16)
counts_no_more notation.Count32 (Count n) = nat_lt n (2 ^ 31)
counts_no_more n v = true

-- a text or bytes that are no longer than their notation counts; a content alone is not counted
abbrev pub is_short_enough : Notation → FieldValue → Bool
is_short_enough notation.Text16 v = nat_lt (content_length v) (2 ^ 16)
is_short_enough notation.Bytes16 v = nat_lt (content_length v) (2 ^ 16)
is_short_enough (notation.Content n) v = true
is_short_enough n v = nat_lt (content_length v) (2 ^ 31)

abbrev pub HasItsLength : Address → Type 0
HasItsLength (address.V4 a) = length a ≡ 4
HasItsLength (address.V6 a) = length a ≡ 16

-- The value is one of the notation's, as it is of a Rust value: its number is in its type's range, an id and an address
-- have their lengths, and a text is UTF-8.
abbrev pub IsInRange : Notation → FieldValue → Type 0
IsInRange notation.Byte (Byte n) = n < 2 ^ 8
IsInRange notation.Short (Short n) = n < 2 ^ 16
IsInRange notation.Int (Int z) = FitsSigned w32 z
IsInRange notation.Long (Long z) = FitsSigned w64 z
IsInRange notation.Uuid (Uuid c) = length c ≡ 16
IsInRange notation.Count16 (Count n) = Unit {0}
IsInRange notation.Count32 (Count n) = Unit {0}
IsInRange notation.Text16 (Text s) = is_utf8 s ≡ true
IsInRange notation.Text32 (Text s) = is_utf8 s ≡ true
IsInRange notation.Bytes16 (Bytes (Some c)) = Unit {0}
IsInRange notation.Bytes32 (Bytes c) = Unit {0}
IsInRange notation.Bound (Bound v) = Unit {0}
IsInRange notation.Inet (Inet a port) = HasItsLength a × FitsSigned w32 port
IsInRange (notation.Content n) (Bytes (Some c)) = length c ≡ n
IsInRange n v = ⊥
