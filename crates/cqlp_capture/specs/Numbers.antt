-- Numbers of a capture file.
use Rattle.std.specs.Prelude.{ℕ, ◌+◌, ◌-◌, ◌*◌, ◌/◌, ◌%◌, ◌^◌, ◌==◌, ◌&&◌, nat_le, nat_lt, Bool, List, [], ◌∷◌, Option, Some, None, slice_index, if◌then◌else◌}
use Rattle.std.specs.Int.{w16, w32, w64, from_be_bytes, from_le_bytes}
use Rattle.cqlp_capture.specs.declared.file.ByteOrder.{ByteOrder}
use Rattle.cqlp_capture.specs.declared.file.ByteOrder.TheVariants.{BigEndian, LittleEndian}
use Rattle.cqlp_capture.specs.declared.file.Fraction.{Fraction}
use Rattle.cqlp_capture.specs.declared.file.Fraction.TheVariants.{Microseconds, Nanoseconds}
use Rattle.cqlp_capture.specs.declared.file.FileForm.{FileForm}

-- two bytes from this index on, four, and eight
abbrev pub two_at : (i : ℕ) → List ℕ → List ℕ
two_at i b = slice_index b i ∷ slice_index b (i + 1) ∷ []

abbrev pub four_at : (i : ℕ) → List ℕ → List ℕ
four_at i b = slice_index b i ∷ slice_index b (i + 1) ∷ slice_index b (i + 2) ∷ slice_index b (i + 3) ∷ []

abbrev pub eight_at : (i : ℕ) → List ℕ → List ℕ
eight_at i b =
    slice_index b i ∷ slice_index b (i + 1) ∷ slice_index b (i + 2) ∷ slice_index b (i + 3)
    ∷ slice_index b (i + 4) ∷ slice_index b (i + 5) ∷ slice_index b (i + 6) ∷ slice_index b (i + 7) ∷ []

-- the number that they are, in this order
abbrev pub number_16 : ByteOrder → (i : ℕ) → List ℕ → ℕ
number_16 BigEndian i b = from_be_bytes w16 (two_at i b)
number_16 LittleEndian i b = from_le_bytes w16 (two_at i b)

abbrev pub number_32 : ByteOrder → (i : ℕ) → List ℕ → ℕ
number_32 BigEndian i b = from_be_bytes w32 (four_at i b)
number_32 LittleEndian i b = from_le_bytes w32 (four_at i b)

abbrev pub number_64 : ByteOrder → (i : ℕ) → List ℕ → ℕ
number_64 BigEndian i b = from_be_bytes w64 (eight_at i b)
number_64 LittleEndian i b = from_le_bytes w64 (eight_at i b)

-- The magic number of a pcap file, read with its highest byte first, says the order of the file's numbers and what a
-- time counts beside its seconds (section 4 of draft-ietf-opsawg-pcap).
abbrev pub form_of : ℕ → Option FileForm
form_of n =
    if n == 0xA1B2C3D4 then Some (record { order = BigEndian; fraction = Microseconds })
    else if n == 0xD4C3B2A1 then Some (record { order = LittleEndian; fraction = Microseconds })
    else if n == 0xA1B23C4D then Some (record { order = BigEndian; fraction = Nanoseconds })
    else if n == 0x4D3CB2A1 then Some (record { order = LittleEndian; fraction = Nanoseconds })
    else None

-- the first two bytes of what gzip compresses (RFC 1952, section 2.3.1), the upper half of four
abbrev pub is_gzip : ℕ → Bool
is_gzip n = n / 65536 == 0x1F8B

-- how many nanoseconds a fraction counts
abbrev pub unit_of_fraction : Fraction → ℕ
unit_of_fraction Microseconds = 1000
unit_of_fraction Nanoseconds = 1

-- a time in nanoseconds
abbrev pub nanoseconds : Fraction → (seconds fraction : ℕ) → ℕ
nanoseconds f seconds fraction = seconds * 1000000000 + fraction * unit_of_fraction f

-- ---- pcapng (draft-ietf-opsawg-pcapng)

-- the type of a section header block, the same in both orders of bytes (section 4.1)
abbrev pub is_section : ℕ → Bool
is_section n = n == 0x0A0D0D0A

-- the byte-order magic of a section, read with its highest byte first (section 4.1)
abbrev pub order_of : ℕ → Option ByteOrder
order_of n =
    if n == 0x1A2B3C4D then Some BigEndian
    else if n == 0x4D3C2B1A then Some LittleEndian
    else None

-- the length of a block that has at least so many bytes: a multiple of four, and a number of 32 bits (section 3.1)
abbrev pub is_block_length : (least n : ℕ) → Bool
is_block_length least n = (n % 4 == 0) && nat_le least n && nat_lt n (2 ^ 32)

-- how many bytes something takes that is filled up to 32 bits
abbrev pub padded : ℕ → ℕ
padded n = (n + 3) / 4 * 4

-- How many nanoseconds a unit of time is, by the byte of if_tsresol: a second over this power of ten (section 4.2). Finer
-- units are no whole number of them, and units by powers of two, which the highest bit says, are mostly none.
abbrev pub unit_of : ℕ → Option ℕ
unit_of n = if nat_le n 9 then Some (10 ^ (9 - n)) else None
