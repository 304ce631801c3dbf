-- Fields: their values, and how much the bytes so far say of one.
use Rattle.std.specs.Prelude.{ℕ, ◌+◌, ◌-◌, ◌^◌, ℤ, Bool, List, length, Option, Some, None, nat_lt, ◌==◌, ◌||◌, if◌then◌else◌}
use Rattle.std.specs.Int.{w8, w16, w32, w64, from_be_bytes, cast_signed}
use Rattle.std.specs.Str.{is_utf8}
use Rattle.cqlp_note.specs.declared.field.Notation.{Notation}
use Rattle.cqlp_note.specs.declared.field.Notation.TheVariants as notation
use Rattle.cqlp_note.specs.declared.prim.Address.{Address}
use Rattle.cqlp_note.specs.declared.prim.Address.TheVariants as address
use Rattle.cqlp_note.specs.declared.refusal.Reason.{Reason}
use Rattle.cqlp_note.specs.declared.refusal.Reason.TheVariants.{Overrun, TooLong, BadUtf8, BadValueLength, BadInet, BadCount}
use Rattle.cqlp_note.specs.Reader.{Reader, Gives, Refuses, Takes, fits, number_of}

-- A [value] of a request.
pub data BoundValue : Type 0 where
  Null : BoundValue
  Unset : BoundValue
  Known : List ℕ → BoundValue

-- What a field holds, without where its bytes lie in memory.
pub data FieldValue : Type 0 where
  Byte : ℕ → FieldValue
  Short : ℕ → FieldValue
  Int : ℤ → FieldValue
  Long : ℤ → FieldValue
  Uuid : List ℕ → FieldValue
  Count : ℕ → FieldValue
  Text : List ℕ → FieldValue
  Bytes : Option (List ℕ) → FieldValue
  Bound : BoundValue → FieldValue
  Inet : Address → ℤ → FieldValue

-- the bytes of a field that its limit counts
abbrev pub content_length : FieldValue → ℕ
content_length (Text s) = length s
content_length (Bytes (Some c)) = length c
content_length (Bound (Known c)) = length c
content_length v = 0

abbrev pub signed : ℕ → ℤ
signed n = cast_signed w32 n

abbrev pub is_negative : ℕ → Bool
is_negative n = nat_lt (2 ^ 31 - 1) n

abbrev pub address_of : ℕ → List ℕ → Address
address_of n bytes = if n == 4 then address.V4 bytes else address.V6 bytes

abbrev pub FieldReader : Type 0
FieldReader = Reader FieldValue Reason

-- n bytes of content after k bytes of length
unfoldable pub content_of : (k n limit room : ℕ) → (List ℕ → FieldReader) → FieldReader
content_of k n limit room next = fits Overrun room (k + n) (if nat_lt limit n then Refuses TooLong else Takes n next)

abbrev pub text_of : List ℕ → FieldReader
text_of c = if is_utf8 c then Gives (Text c) else Refuses BadUtf8

-- an address of n bytes and a port, after the number of the address's bytes
abbrev pub inet_of : (n room : ℕ) → FieldReader
inet_of n room = fits Overrun room (n + 5) (Takes n (λ a. Takes 4 (λ b.
    Gives (Inet (address_of n a) (signed (from_be_bytes w32 b))))))

-- A field in this notation. Its container has `room` bytes from the field's first one.
unfoldable pub field_of : Notation → (limit room : ℕ) → FieldReader
field_of notation.Byte limit room = number_of Overrun 1 w8 room (λ n. Gives (Byte n))
field_of notation.Short limit room = number_of Overrun 2 w16 room (λ n. Gives (Short n))
field_of notation.Int limit room = number_of Overrun 4 w32 room (λ n. Gives (Int (signed n)))
field_of notation.Long limit room = number_of Overrun 8 w64 room (λ n. Gives (Long (cast_signed w64 n)))
field_of notation.Uuid limit room = fits Overrun room 16 (Takes 16 (λ c. Gives (Uuid c)))
field_of notation.Count16 limit room = number_of Overrun 2 w16 room (λ n. Gives (Count n))
field_of notation.Count32 limit room =
    number_of Overrun 4 w32 room (λ n. if is_negative n then Refuses BadCount else Gives (Count n))
field_of notation.Text16 limit room = number_of Overrun 2 w16 room (λ n. content_of 2 n limit room text_of)
field_of notation.Text32 limit room = number_of Overrun 4 w32 room (λ n.
    if is_negative n then Refuses BadCount else content_of 4 n limit room text_of)
field_of notation.Bytes16 limit room =
    number_of Overrun 2 w16 room (λ n. content_of 2 n limit room (λ c. Gives (Bytes (Some c))))
field_of notation.Bytes32 limit room = number_of Overrun 4 w32 room (λ n.
    if is_negative n then Gives (Bytes None) else content_of 4 n limit room (λ c. Gives (Bytes (Some c))))
field_of notation.Bound limit room = number_of Overrun 4 w32 room (λ n.
    if n == (2 ^ 32 - 1) then Gives (Bound Null)
    else if n == (2 ^ 32 - 2) then Gives (Bound Unset)
    else if is_negative n then Refuses BadValueLength
    else content_of 4 n limit room (λ c. Gives (Bound (Known c))))
field_of notation.Inet limit room =
    number_of Overrun 1 w8 room (λ n. if (n == 4) || (n == 16) then inet_of n room else Refuses BadInet)
field_of (notation.Content n) limit room = content_of 0 n limit room (λ c. Gives (Bytes (Some c)))
