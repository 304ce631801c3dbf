-- Scalars (section 6 of native_protocol_v4.spec).
use Rattle.std.specs.Prelude.{◌≡◌, ℕ, ◌/◌, ◌<◌, ◌^◌, ◌++◌, ℤ, Bool, true, false, ◌&&◌, ◌||◌, List, [], ◌∷◌, length, take, drop}
use Rattle.std.specs.Prelude.{Option, Some, None, is_some, nat_lt, nat_le, ◌==◌, if◌then◌else◌, slice_index, FitsSigned}
use Rattle.std.specs.List.{list_all}
use Rattle.std.specs.Int.{w8, w16, w32, w64, from_be_bytes, to_be_bytes, cast_signed, cast_unsigned}
use Rattle.std.specs.Str.{is_utf8}
use Rattle.cqlp_kind.specs.declared.kind.Kind.{Kind}
use Rattle.cqlp_kind.specs.declared.kind.Kind.TheVariants as kind
use Rattle.cqlp_note.specs.declared.prim.Address.{Address}
use Rattle.cqlp_note.specs.declared.refusal.Reason.{Reason}
use Rattle.cqlp_note.specs.declared.refusal.Reason.TheVariants.{BadUtf8, BadScalar}
use Rattle.cqlp_note.specs.Field.{address_of, signed}
use Rattle.cqlp_note.specs.Spelling.{address_bytes, HasItsLength}

-- What a scalar cell holds, without where its bytes lie in memory.
pub data ScalarValue : Type 0 where
  Custom Blob Raw Varint : List ℕ → ScalarValue
  Double Float Uuid Timeuuid : List ℕ → ScalarValue
  Ascii Varchar : List ℕ → ScalarValue
  Bigint Counter Timestamp Time Int Smallint Tinyint : ℤ → ScalarValue
  Date : ℕ → ScalarValue
  Boolean : Bool → ScalarValue
  Decimal : (scale : ℤ) → (unscaled : List ℕ) → ScalarValue
  Inet : Address → ScalarValue

-- the type allows a content of this length, which is not 0
abbrev pub allows_size : Kind → ℕ → Bool
allows_size kind.Bigint n = n == 8
allows_size kind.Counter n = n == 8
allows_size kind.Timestamp n = n == 8
allows_size kind.Time n = n == 8
allows_size kind.Double n = n == 8
allows_size kind.Int n = n == 4
allows_size kind.Date n = n == 4
allows_size kind.Float n = n == 4
allows_size kind.Smallint n = n == 2
allows_size kind.Tinyint n = n == 1
allows_size kind.Boolean n = n == 1
allows_size kind.Uuid n = n == 16
allows_size kind.Timeuuid n = n == 16
allows_size kind.Inet n = (n == 4) || (n == 16)
allows_size kind.Decimal n = nat_le 5 n
allows_size _ n = true

abbrev pub is_time : ℕ → Bool
is_time n = nat_lt n 86400000000000

abbrev pub is_version_1 : List ℕ → Bool
is_version_1 bytes = slice_index bytes 6 / 16 == 1

abbrev pub only_if : Bool → ScalarValue → Option ScalarValue
only_if b s = if b then Some s else None

-- The scalar of a type that a content of an allowed length spells.
unfoldable pub scalar_of : Kind → List ℕ → Option ScalarValue
scalar_of kind.Custom c = Some (Custom c)
scalar_of kind.Ascii c = only_if (list_all (λ b. nat_lt b 128) c) (Ascii c)
scalar_of kind.Bigint c = Some (Bigint (cast_signed w64 (from_be_bytes w64 c)))
scalar_of kind.Blob c = Some (Blob c)
scalar_of kind.Boolean c = Some (Boolean (nat_lt 0 (slice_index c 0)))
scalar_of kind.Counter c = Some (Counter (cast_signed w64 (from_be_bytes w64 c)))
scalar_of kind.Decimal c = Some (Decimal (signed (from_be_bytes w32 (take 4 c))) (drop 4 c))
scalar_of kind.Double c = Some (Double c)
scalar_of kind.Float c = Some (Float c)
scalar_of kind.Int c = Some (Int (signed (from_be_bytes w32 c)))
scalar_of kind.Timestamp c = Some (Timestamp (cast_signed w64 (from_be_bytes w64 c)))
scalar_of kind.Uuid c = Some (Uuid c)
scalar_of kind.Varchar c = only_if (is_utf8 c) (Varchar c)
-- any bytes: no form of a number is the least one that has to be taken
scalar_of kind.Varint c = Some (Varint c)
scalar_of kind.Timeuuid c = only_if (is_version_1 c) (Timeuuid c)
scalar_of kind.Inet c = Some (Inet (address_of (length c) c))
scalar_of kind.Date c = Some (Date (from_be_bytes w32 c))
scalar_of kind.Time c = only_if (is_time (from_be_bytes w64 c)) (Time (cast_signed w64 (from_be_bytes w64 c)))
scalar_of kind.Smallint c = Some (Smallint (cast_signed w16 (from_be_bytes w16 c)))
scalar_of kind.Tinyint c = Some (Tinyint (cast_signed w8 (slice_index c 0)))
scalar_of kind.Raw c = Some (Raw c)
scalar_of kind.List c = None
scalar_of kind.Map c = None
scalar_of kind.Set c = None
scalar_of kind.Udt c = None
scalar_of kind.Tuple c = None

-- Lenient: a scalar may have any length. Else the type decides.
abbrev pub size_or_lenient : (lenient : Bool) → Kind → ℕ → Bool
size_or_lenient lenient k n = lenient || allows_size k n

-- Lenient: the value, or else the bytes.
abbrev pub or_raw : Option ScalarValue → List ℕ → ScalarValue
or_raw (Some v) c = v
or_raw None c = Raw c

-- Lenient: the scalar of a content, or else its bytes.
abbrev pub scalar_or_raw : Kind → List ℕ → ScalarValue
scalar_or_raw k c = if allows_size k (length c) then or_raw (scalar_of k c) c else Raw c

-- Lenient: the scalar of a content; where it has none, its bytes.
abbrev pub scalar_or_lenient : (lenient : Bool) → Kind → List ℕ → Option ScalarValue
scalar_or_lenient false k c = scalar_of k c
scalar_or_lenient true k c = Some (scalar_or_raw k c)

-- why a content of an allowed length spells no scalar of the type
abbrev pub fault_of : Kind → Reason
fault_of kind.Varchar = BadUtf8
fault_of _ = BadScalar

-- ---- of a scalar

abbrev pub kind_of : ScalarValue → Kind
kind_of (Custom c) = kind.Custom
kind_of (Ascii c) = kind.Ascii
kind_of (Bigint z) = kind.Bigint
kind_of (Blob c) = kind.Blob
kind_of (Boolean b) = kind.Boolean
kind_of (Counter z) = kind.Counter
kind_of (Decimal scale c) = kind.Decimal
kind_of (Double c) = kind.Double
kind_of (Float c) = kind.Float
kind_of (Int z) = kind.Int
kind_of (Timestamp z) = kind.Timestamp
kind_of (Uuid c) = kind.Uuid
kind_of (Varchar c) = kind.Varchar
kind_of (Varint c) = kind.Varint
kind_of (Timeuuid c) = kind.Timeuuid
kind_of (Inet a) = kind.Inet
kind_of (Date n) = kind.Date
kind_of (Time z) = kind.Time
kind_of (Smallint z) = kind.Smallint
kind_of (Tinyint z) = kind.Tinyint
kind_of (Raw c) = kind.Raw

abbrev pub boolean_byte : Bool → ℕ
boolean_byte true = 1
boolean_byte false = 0

-- The content that is written of a scalar. Any byte but 0 is read as true; 1 is written.
abbrev pub content_of : ScalarValue → List ℕ
content_of (Custom c) = c
content_of (Ascii c) = c
content_of (Bigint z) = to_be_bytes w64 (cast_unsigned w64 z)
content_of (Blob c) = c
content_of (Boolean b) = boolean_byte b ∷ []
content_of (Counter z) = to_be_bytes w64 (cast_unsigned w64 z)
content_of (Decimal scale c) = to_be_bytes w32 (cast_unsigned w32 scale) ++ c
content_of (Double c) = c
content_of (Float c) = c
content_of (Int z) = to_be_bytes w32 (cast_unsigned w32 z)
content_of (Timestamp z) = to_be_bytes w64 (cast_unsigned w64 z)
content_of (Uuid c) = c
content_of (Varchar c) = c
content_of (Varint c) = c
content_of (Timeuuid c) = c
content_of (Inet a) = address_bytes a
content_of (Date n) = to_be_bytes w32 n
content_of (Time z) = to_be_bytes w64 (cast_unsigned w64 z)
content_of (Smallint z) = to_be_bytes w16 (cast_unsigned w16 z)
content_of (Tinyint z) = cast_unsigned w8 z ∷ []
content_of (Raw c) = c

-- Its content is one of its kind: not empty, of a length that its kind allows, and no more than its kind allows.
abbrev pub scalar_fits : ScalarValue → Bool
scalar_fits v =
    nat_lt 0 (length (content_of v)) && allows_size (kind_of v) (length (content_of v))
    && is_some (scalar_of (kind_of v) (content_of v))

-- Numbers, arrays and texts are those of a Rust value: in the range of their types, of their lengths, and UTF-8.
abbrev pub IsInRange : ScalarValue → Type 0
IsInRange (Ascii c) = is_utf8 c ≡ true
IsInRange (Bigint z) = FitsSigned w64 z
IsInRange (Counter z) = FitsSigned w64 z
IsInRange (Decimal scale c) = FitsSigned w32 scale
IsInRange (Double c) = length c ≡ 8
IsInRange (Float c) = length c ≡ 4
IsInRange (Int z) = FitsSigned w32 z
IsInRange (Timestamp z) = FitsSigned w64 z
IsInRange (Uuid c) = length c ≡ 16
IsInRange (Varchar c) = is_utf8 c ≡ true
IsInRange (Timeuuid c) = length c ≡ 16
IsInRange (Inet a) = HasItsLength a
IsInRange (Date n) = n < 2 ^ 32
IsInRange (Time z) = FitsSigned w64 z
IsInRange (Smallint z) = FitsSigned w16 z
IsInRange (Tinyint z) = FitsSigned w8 z
IsInRange v = Unit {0}

-- how many bytes spell a scalar
abbrev pub content_size : ScalarValue → ℕ
content_size v = length (content_of v)
