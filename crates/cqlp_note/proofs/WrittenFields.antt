-- A field that fits is spelled by the bytes that are written of it, and a field that bytes spell fits.
use Rattle.std.proofs.Common.{◌≡◌, ℕ, ◌-◌, ◌<◌, ◌^◌, ℤ, true, List, [], ◌∷◌, ◌++◌, length, Some, None, refl, sym, ap, ◌∙◌, subst, arith, lit<, lit≤, of_z}
use Rattle.std.specs.Prelude.{FitsSigned}
use Rattle.std.specs.Int.{w16, w32, w64, to_be_bytes, cast_signed, cast_unsigned}
use Rattle.std.proofs.Math.Facts.{to_z-of_z, Fits-of_z, Fits-of_lt, sfits_to_z}
use Rattle.std.proofs.lemmas.Bool.{ltb-true, lt-ltb}
use Rattle.std.proofs.lemmas.Nat.{from_be_bytes-to_be_bytes_2, from_be_bytes-to_be_bytes_4, from_be_bytes-to_be_bytes_8}
use Rattle.cqlp_note.specs.declared.field.Notation.{Notation}
use Rattle.cqlp_note.specs.declared.field.Notation.TheVariants as notation
use Rattle.cqlp_note.specs.declared.prim.Address.TheVariants as address
use Rattle.cqlp_note.specs.Field.{FieldValue, Byte, Short, Int, Long, Uuid, Count, Text, Bytes, Bound, Inet, Null, Unset, Known, signed}
use Rattle.cqlp_note.specs.Spelling.{IsNumber, Counted, IsInet, Spells, field_bytes, counts_no_more, is_short_enough, IsInRange}
use Rattle.cqlp_note.proofs.Small.{Small, small_front, small_back, number_8, number_16, number_32, number_64}

-- ---- what is written

number_2 : (n : ℕ) → n < 2 ^ 16 → IsNumber 2 w16 n (to_be_bytes w16 n)
number_2 n lt = record { long = refl; is = from_be_bytes-to_be_bytes_2 n lt }

number_4 : (n : ℕ) → n < 2 ^ 32 → IsNumber 4 w32 n (to_be_bytes w32 n)
number_4 n lt = record { long = refl; is = from_be_bytes-to_be_bytes_4 n lt }

signed_4 : (z : ℤ) → FitsSigned w32 z → (n : ℕ) × IsNumber 4 w32 n (to_be_bytes w32 (cast_unsigned w32 z)) × (z ≡ signed n)
signed_4 z f = (of_z w32 z, number_4 (of_z w32 z) (omega (arith, Fits-of_z {w = w32} f)), sym (to_z-of_z {w = w32} f))

signed_8 : (z : ℤ) → FitsSigned w64 z → (n : ℕ) × IsNumber 8 w64 n (to_be_bytes w64 (cast_unsigned w64 z)) × (z ≡ cast_signed w64 n)
signed_8 z f = (of_z w64 z, record { long = refl; is = from_be_bytes-to_be_bytes_8 (of_z w64 z) (omega (arith, Fits-of_z {w = w64} f)) }, sym (to_z-of_z {w = w64} f))

counted_2 : (c : List ℕ) → length c < 2 ^ 16 → Counted 2 w16 c (to_be_bytes w16 (length c) ++ c)
counted_2 c lt = record { head = to_be_bytes w16 (length c); counts = number_2 (length c) lt; parts = refl }

counted_4 : (c : List ℕ) → length c < 2 ^ 31 → Counted 4 w32 c (to_be_bytes w32 (length c) ++ c)
counted_4 c lt = record { head = to_be_bytes w32 (length c); counts = number_4 (length c) (omega arith); parts = refl }

inet_written : (a : List ℕ) (z : ℤ) → length a < 2 ^ 8 → FitsSigned w32 z → (port : ℕ) × IsInet a (length a ∷ a ++ to_be_bytes w32 (cast_unsigned w32 z)) port × (z ≡ signed port)
inet_written a z lt f =
    let port = signed_4 z f in
    (port.0, record { head = length a ∷ []; tail = to_be_bytes w32 (cast_unsigned w32 z); counts = record { long = refl; is = omega arith }; ends = port.1; parts = refl }, port.2)

pub field_written : (n : Notation) (v : FieldValue) → IsInRange n v → counts_no_more n v ≡ true → is_short_enough n v ≡ true → Spells n v (field_bytes n v)
unfolding Spells
field_written notation.Byte (Byte n) r c s = record { long = refl; is = omega arith }
field_written notation.Short (Short n) r c s = number_2 n r
field_written notation.Int (Int z) r c s = signed_4 z r
field_written notation.Long (Long z) r c s = signed_8 z r
field_written notation.Uuid (Uuid c) r _ s = (r, refl)
field_written notation.Count16 (Count n) r c s = number_2 n (ltb-true n (2 ^ 16) c)
field_written notation.Count32 (Count n) r c s = let lt = ltb-true n (2 ^ 31) c in (number_4 n (omega arith), lt)
field_written notation.Text16 (Text t) r c s = (counted_2 t (ltb-true (length t) (2 ^ 16) s), r)
field_written notation.Text32 (Text t) r c s = let lt = ltb-true (length t) (2 ^ 31) s in (counted_4 t lt, lt, r)
field_written notation.Bytes16 (Bytes (Some c)) r _ s = counted_2 c (ltb-true (length c) (2 ^ 16) s)
field_written notation.Bytes32 (Bytes None) r c s = (2 ^ 32 - 1, number_4 (2 ^ 32 - 1) (lit< tt), lit≤ tt)
field_written notation.Bytes32 (Bytes (Some c)) r _ s = let lt = ltb-true (length c) (2 ^ 31) s in (counted_4 c lt, lt)
field_written notation.Bound (Bound Null) r c s = number_4 (2 ^ 32 - 1) (lit< tt)
field_written notation.Bound (Bound Unset) r c s = number_4 (2 ^ 32 - 2) (lit< tt)
field_written notation.Bound (Bound (Known c)) r _ s = let lt = ltb-true (length c) (2 ^ 31) s in (counted_4 c lt, lt)
field_written notation.Inet (Inet (address.V4 a) z) r c s = let i = inet_written a z (omega (arith, r.0)) r.1 in (i.0, i.1, r.0, i.2)
field_written notation.Inet (Inet (address.V6 a) z) r c s = let i = inet_written a z (omega (arith, r.0)) r.1 in (i.0, i.1, r.0, i.2)
field_written (notation.Content n) (Bytes (Some c)) r _ s = (r, refl)
field_written n v r c s = absurd r

-- ---- what is spelled

low_2 : (n : ℕ) (b : List ℕ) → IsNumber 2 w16 n b → Small b → n < 2 ^ 16
low_2 n b h all = rw h.is at (number_16 b all)

fits_4 : (z : ℤ) (n : ℕ) (b : List ℕ) → IsNumber 4 w32 n b → z ≡ signed n → Small b → FitsSigned w32 z
fits_4 z n b h is all = let lt : n < 2 ^ 32 = rw h.is at (number_32 b all) in subst (FitsSigned w32) (sym is) (sfits_to_z {w = w32} (Fits-of_lt lt))

fits_8 : (z : ℤ) (n : ℕ) (b : List ℕ) → IsNumber 8 w64 n b → z ≡ cast_signed w64 n → Small b → FitsSigned w64 z
fits_8 z n b h is all = let lt : n < 2 ^ 64 = rw h.is at (number_64 b all) in subst (FitsSigned w64) (sym is) (sfits_to_z {w = w64} (Fits-of_lt lt))

low_counted : (c b : List ℕ) → Counted 2 w16 c b → Small b → length c < 2 ^ 16
low_counted c b s all = low_2 (length c) s.head s.counts (small_front b s.head c s.parts all)

port_fits : (a b : List ℕ) (z : ℤ) (port : ℕ) → IsInet a b port → z ≡ signed port → Small b → FitsSigned w32 z
port_fits a b z port s is all = fits_4 z port s.tail s.ends is (small_back b (s.head ++ a) s.tail s.parts all)

abbrev pub Fits : Notation → FieldValue → Type 0
Fits n v = IsInRange n v × (counts_no_more n v ≡ true) × (is_short_enough n v ≡ true)

pub field_fits : (n : Notation) (v : FieldValue) (b : List ℕ) → Spells n v b → Small b → Fits n v
unfolding Spells
field_fits notation.Byte (Byte n) b s all = (rw s.is at (number_8 b all), refl, refl)
field_fits notation.Short (Short n) b s all = (low_2 n b s all, refl, refl)
field_fits notation.Int (Int z) b s all = (fits_4 z s.0 b s.1 s.2 all, refl, refl)
field_fits notation.Long (Long z) b s all = (fits_8 z s.0 b s.1 s.2 all, refl, refl)
field_fits notation.Uuid (Uuid c) b s all = (ap length (sym s.1) ∙ s.0, refl, refl)
field_fits notation.Count16 (Count n) b s all = (tt, lt-ltb n (2 ^ 16) (low_2 n b s all), refl)
field_fits notation.Count32 (Count n) b s all = (tt, lt-ltb n (2 ^ 31) s.1, refl)
field_fits notation.Text16 (Text t) b s all = (s.1, refl, lt-ltb (length t) (2 ^ 16) (low_counted t b s.0 all))
field_fits notation.Text32 (Text t) b s all = (s.2, refl, lt-ltb (length t) (2 ^ 31) s.1)
field_fits notation.Bytes16 (Bytes (Some c)) b s all = (tt, refl, lt-ltb (length c) (2 ^ 16) (low_counted c b s all))
field_fits notation.Bytes32 (Bytes None) b s all = (tt, refl, refl)
field_fits notation.Bytes32 (Bytes (Some c)) b s all = (tt, refl, lt-ltb (length c) (2 ^ 31) s.1)
field_fits notation.Bound (Bound Null) b s all = (tt, refl, refl)
field_fits notation.Bound (Bound Unset) b s all = (tt, refl, refl)
field_fits notation.Bound (Bound (Known c)) b s all = (tt, refl, lt-ltb (length c) (2 ^ 31) s.1)
field_fits notation.Inet (Inet (address.V4 a) z) b s all = ((s.2, port_fits a b z s.0 s.1 s.3 all), refl, refl)
field_fits notation.Inet (Inet (address.V6 a) z) b s all = ((s.2, port_fits a b z s.0 s.1 s.3 all), refl, refl)
field_fits (notation.Content n) (Bytes (Some c)) b s all = (ap length (sym s.1) ∙ s.0, refl, refl)
field_fits n v b s all = absurd s
