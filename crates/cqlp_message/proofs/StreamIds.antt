-- The bytes of a frame hold 16 bits of its stream id: they are those of a frame whose id has 16 bits.
use Rattle.std.proofs.Common.{◌≡◌, ℕ, ◌/◌, ◌%◌, ◌^◌, ◌<◌, ℤ, List, ◌++◌, sym, ap, ◌∙◌, arith}
use Rattle.std.specs.Prelude.{FitsSigned}
use Rattle.std.specs.Int.{w16, cast_signed, cast_unsigned}
use Rattle.std.proofs.Math.Facts.{of_z-to_z, sfits_to_z, Fits-of_lt}
use Rattle.cqlp_note.specs.Heading.{header_bytes}
use Rattle.cqlp_message.specs.FrameValues.{FrameValue}
use Rattle.cqlp_message.specs.Frames.{FrameSpells, header_of}

-- the 16 bits of an id that are in a header, as an id
abbrev pub id_of_bits : ℤ → ℤ
id_of_bits z = cast_signed w16 (cast_unsigned w16 z % 2 ^ 16)

abbrev pub with_id_of_bits : FrameValue → FrameValue
with_id_of_bits f = record f { stream = id_of_bits f.stream }

below : (z : ℤ) → cast_unsigned w16 z % 2 ^ 16 < 2 ^ 16
below z = omega arith

pub id_fits : (z : ℤ) → FitsSigned w16 (id_of_bits z)
id_fits z = sfits_to_z {w = w16} {n = cast_unsigned w16 z % 2 ^ 16} (Fits-of_lt (below z))

same_bits : (z : ℤ) → cast_unsigned w16 (id_of_bits z) ≡ cast_unsigned w16 z % 2 ^ 16
same_bits z = of_z-to_z {w = w16} {n = cast_unsigned w16 z % 2 ^ 16} (Fits-of_lt (below z))

high_byte : (n : ℕ) → (n % 65536) / 256 % 256 ≡ n / 256 % 256
high_byte n = omega arith

low_byte : (n : ℕ) → (n % 65536) % 256 ≡ n % 256
low_byte n = omega arith

same_header : (f : FrameValue) (n : ℕ) → header_bytes (header_of (with_id_of_bits f) n) ≡ header_bytes (header_of f n)
same_header f n = rw (same_bits f.stream, high_byte (cast_unsigned w16 f.stream), low_byte (cast_unsigned w16 f.stream))

pub id_spelled : (f : FrameValue) (x : ℕ) (b : List ℕ) → FrameSpells f x b → FrameSpells (with_id_of_bits f) x b
id_spelled f x b s = record {
  announced = s.announced;
  body = s.body;
  extra = s.extra;
  agrees = s.agrees;
  cells = s.cells;
  parts = s.parts;
  message = s.message;
  more = s.more;
  lawful = record { plain = s.lawful.plain; direction = s.lawful.direction; bounded = s.lawful.bounded };
  whole = s.whole ∙ ap (λ (head : List ℕ). head ++ s.announced ++ s.body ++ s.extra) (sym (same_header f _));
}
