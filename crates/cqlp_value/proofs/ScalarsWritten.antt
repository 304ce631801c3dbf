-- A scalar that fits is what is read of the content that is written of it, and what is read of bytes fits.
use Rattle.std.proofs.Common.{◌≡◌, ◌≢◌, ℕ, zero, suc, ◌<◌, ◌^◌, ◌&&◌, ℤ, Bool, true, false, ltb, List, [], ◌∷◌, length, take, get_or, refl, sym, ap, ◌∙◌, subst, arith, lit<, of_z}
use Rattle.std.specs.Prelude.{Some, is_some, ◌==◌, ◌||◌, FitsSigned}
use Rattle.std.specs.List.{All, list_all}
use Rattle.std.specs.Int.{w8, w16, w32, w64, from_be_bytes, to_be_bytes, cast_signed, cast_unsigned}
use Rattle.std.specs.Str.{is_utf8}
use Rattle.std.proofs.Math.Facts.{to_z-of_z, of_z-to_z, Fits-of_z, Fits-of_lt, sfits_to_z}
use Rattle.std.proofs.lemmas.Bool.{ltb-true, eqb-true, lt-ltb}
use Rattle.std.proofs.lemmas.List.Elements.{All-take}
use Rattle.std.proofs.lemmas.Nat.{from_be_bytes-to_be_bytes_2, from_be_bytes-to_be_bytes_4, from_be_bytes-to_be_bytes_8}
use Rattle.std.proofs.lemmas.Str.{IsUtf8-from_ascii, is_utf8-from_IsUtf8}
use Rattle.cqlp_note.specs.declared.prim.Address.TheVariants as address
use Rattle.cqlp_note.specs.Field.{address_of}
use Rattle.cqlp_note.specs.Spelling.{HasItsLength}
use Rattle.cqlp_note.proofs.Small.{each_byte, number_16, number_32, number_64}
use Rattle.cqlp_kind.specs.declared.kind.Kind.{Kind}
use Rattle.cqlp_kind.specs.declared.kind.Kind.TheVariants as kind
use Rattle.cqlp_kind.specs.Scalars.{ScalarValue, Custom, Blob, Raw, Varint, Double, Float, Uuid, Timeuuid, Ascii, Varchar, Bigint, Counter, Timestamp, Time, Int, Smallint, Tinyint, Date, Boolean, Decimal, Inet, is_time, is_version_1, only_if, allows_size, scalar_of, kind_of, content_of, scalar_fits, IsInRange}
use Rattle.cqlp_value.specs.Values.{IsScalar}
use Rattle.cqlp_value.proofs.ScalarItems.{is_own}

pub both_true : (a b : Bool) → (a && b) ≡ true → (a ≡ true) × (b ≡ true)
both_true true b e = (refl, e)
both_true false b e = absurd cc

-- ---- numbers

again_16 : (z : ℤ) → FitsSigned w16 z → cast_signed w16 (from_be_bytes w16 (to_be_bytes w16 (cast_unsigned w16 z))) ≡ z
again_16 z f = ap (cast_signed w16) (from_be_bytes-to_be_bytes_2 (of_z w16 z) (omega (arith, Fits-of_z {w = w16} f))) ∙ to_z-of_z {w = w16} f

again_32 : (z : ℤ) → FitsSigned w32 z → cast_signed w32 (from_be_bytes w32 (to_be_bytes w32 (cast_unsigned w32 z))) ≡ z
again_32 z f = ap (cast_signed w32) (from_be_bytes-to_be_bytes_4 (of_z w32 z) (omega (arith, Fits-of_z {w = w32} f))) ∙ to_z-of_z {w = w32} f

again_64 : (z : ℤ) → FitsSigned w64 z → cast_signed w64 (from_be_bytes w64 (to_be_bytes w64 (cast_unsigned w64 z))) ≡ z
again_64 z f = ap (cast_signed w64) (from_be_bytes-to_be_bytes_8 (of_z w64 z) (omega (arith, Fits-of_z {w = w64} f))) ∙ to_z-of_z {w = w64} f

each_ascii : (c : List ℕ) → list_all (λ b. ltb b 128) c ≡ true → (i : ℕ) → get_or c i 0 < 128
each_ascii [] all i = lit< tt
each_ascii (x ∷ c) all zero = ltb-true x 128 (both_true (ltb x 128) (list_all (λ b. ltb b 128) c) all).0
each_ascii (x ∷ c) all (suc i) = each_ascii c (both_true (ltb x 128) (list_all (λ b. ltb b 128) c) all).1 i

fits_16 : (c : List ℕ) → All (λ b. b < 256) c → FitsSigned w16 (cast_signed w16 (from_be_bytes w16 c))
fits_16 c all = sfits_to_z (Fits-of_lt (number_16 c all))

fits_32 : (c : List ℕ) → All (λ b. b < 256) c → FitsSigned w32 (cast_signed w32 (from_be_bytes w32 c))
fits_32 c all = sfits_to_z (Fits-of_lt (number_32 c all))

fits_64 : (c : List ℕ) → All (λ b. b < 256) c → FitsSigned w64 (cast_signed w64 (from_be_bytes w64 c))
fits_64 c all = sfits_to_z (Fits-of_lt (number_64 c all))

-- ---- what is written is read

some_only : (t : Bool) (v : ScalarValue) → is_some (only_if t v) ≡ true → only_if t v ≡ Some v
some_only true v e = refl
some_only false v e = absurd cc

scalar_again : (v : ScalarValue) → IsInRange v → is_some (scalar_of (kind_of v) (content_of v)) ≡ true → scalar_of (kind_of v) (content_of v) ≡ Some v
unfolding scalar_of
scalar_again (Custom c) r s = refl
scalar_again (Ascii c) r s = some_only _ _ s
scalar_again (Bigint z) r s = ap (λ (x : ℤ). Some (Bigint x)) (again_64 z r)
scalar_again (Blob c) r s = refl
scalar_again (Boolean true) r s = refl
scalar_again (Boolean false) r s = refl
scalar_again (Counter z) r s = ap (λ (x : ℤ). Some (Counter x)) (again_64 z r)
scalar_again (Decimal z c) r s = ap (λ (x : ℤ). Some (Decimal x c)) (again_32 z r)
scalar_again (Double c) r s = refl
scalar_again (Float c) r s = refl
scalar_again (Int z) r s = ap (λ (x : ℤ). Some (Int x)) (again_32 z r)
scalar_again (Timestamp z) r s = ap (λ (x : ℤ). Some (Timestamp x)) (again_64 z r)
scalar_again (Uuid c) r s = refl
scalar_again (Varchar c) r s = some_only _ _ s
scalar_again (Varint c) r s = refl
scalar_again (Timeuuid c) r s = some_only _ _ s
scalar_again (Inet (address.V4 a)) r s = rw r refl
scalar_again (Inet (address.V6 a)) r s = rw r refl
scalar_again (Date n) r s = ap (λ (x : ℕ). Some (Date x)) (from_be_bytes-to_be_bytes_4 n r)
scalar_again (Time z) r s = some_only _ _ s ∙ ap (λ (x : ℤ). Some (Time x)) (again_64 z r)
scalar_again (Smallint z) r s = ap (λ (x : ℤ). Some (Smallint x)) (again_16 z r)
scalar_again (Tinyint z) r s = ap (λ (x : ℤ). Some (Tinyint x)) (to_z-of_z {w = w8} r)
scalar_again (Raw c) r s = refl

some_bytes : (c : List ℕ) → ltb 0 (length c) ≡ true → c ≢ []
some_bytes c t e = omega (arith, ltb-true 0 (length c) t, ap length e)

pub scalar_written : (v : ScalarValue) → IsInRange v → scalar_fits v ≡ true → IsScalar (kind_of v) v (content_of v)
scalar_written v r fits =
    let c = content_of v in
    let a = both_true (ltb 0 (length c) && allows_size (kind_of v) (length c)) (is_some (scalar_of (kind_of v) c)) fits in
    let b = both_true (ltb 0 (length c)) (allows_size (kind_of v) (length c)) a.0 in
    record { some = some_bytes c b.0; size = b.1; is = scalar_again v r a.1 }

-- ---- what is read can be written

abbrev Good : ScalarValue → Type 0
Good v = IsInRange v × (is_some (scalar_of (kind_of v) (content_of v)) ≡ true)

known : (w v : ScalarValue) → Good w → Some w ≡ Some v → Good v
known w v good e = let same : w ≡ v = cc in subst Good same good

allowed : (t : Bool) (w v : ScalarValue) → (t ≡ true → Good w) → only_if t w ≡ Some v → Good v
allowed true w v good e = known w v (good refl) e
allowed false w v good e = absurd cc

address_fits : (four : Bool) (c : List ℕ) → (length c == 4) ≡ four → ((length c == 4) || (length c == 16)) ≡ true → HasItsLength (address_of (length c) c)
address_fits true c e a = rw e (eqb-true (length c) 4 e)
address_fits false c e a = rw e (eqb-true (length c) 16 (rw e at a))

time_again : (n : ℕ) → is_time n ≡ true → is_time (from_be_bytes w64 (to_be_bytes w64 (cast_unsigned w64 (cast_signed w64 n)))) ≡ true
time_again n t =
    let low : n < 2 ^ 64 = omega (arith, ltb-true n 86400000000000 t) in
    ap (λ (m : ℕ). is_time (from_be_bytes w64 (to_be_bytes w64 m))) (of_z-to_z {w = w64} (Fits-of_lt low)) ∙ ap is_time (from_be_bytes-to_be_bytes_8 n low) ∙ t

good : (k : Kind) (c : List ℕ) (v : ScalarValue) → All (λ b. b < 256) c → allows_size k (length c) ≡ true → scalar_of k c ≡ Some v → Good v
unfolding scalar_of
good kind.Custom c v all a e = known _ v (tt, refl) e
good kind.Ascii c v all a e = allowed (list_all (λ b. ltb b 128) c) (Ascii c) v (λ t. (is_utf8-from_IsUtf8 c (IsUtf8-from_ascii c (each_ascii c t)), rw t refl)) e
good kind.Bigint c v all a e = known _ v (fits_64 c all, refl) e
good kind.Blob c v all a e = known _ v (tt, refl) e
good kind.Boolean c v all a e = known _ v (tt, refl) e
good kind.Counter c v all a e = known _ v (fits_64 c all, refl) e
good kind.Decimal c v all a e = known _ v (fits_32 (take 4 c) (All-take (λ b. b < 256) 4 c all), refl) e
good kind.Double c v all a e = known _ v (eqb-true (length c) 8 a, refl) e
good kind.Float c v all a e = known _ v (eqb-true (length c) 4 a, refl) e
good kind.Int c v all a e = known _ v (fits_32 c all, refl) e
good kind.Timestamp c v all a e = known _ v (fits_64 c all, refl) e
good kind.Uuid c v all a e = known _ v (eqb-true (length c) 16 a, refl) e
good kind.Varchar c v all a e = allowed (is_utf8 c) (Varchar c) v (λ t. (t, rw t refl)) e
good kind.Varint c v all a e = known _ v (tt, refl) e
good kind.Timeuuid c v all a e = allowed (is_version_1 c) (Timeuuid c) v (λ t. (eqb-true (length c) 16 a, rw t refl)) e
good kind.Inet c v all a e = known _ v (address_fits (length c == 4) c refl a, refl) e
good kind.Date c v all a e = known _ v (number_32 c all, refl) e
good kind.Time c v all a e = allowed (is_time (from_be_bytes w64 c)) (Time (cast_signed w64 (from_be_bytes w64 c))) v (λ t. (fits_64 c all, rw (time_again (from_be_bytes w64 c) t) refl)) e
good kind.Smallint c v all a e = known _ v (fits_16 c all, refl) e
good kind.Tinyint c v all a e = known _ v (sfits_to_z {w = w8} (Fits-of_lt (each_byte c all 0)), refl) e
good kind.Raw c v all a e = known _ v (tt, refl) e
good kind.List c v all a e = absurd cc
good kind.Map c v all a e = absurd cc
good kind.Set c v all a e = absurd cc
good kind.Udt c v all a e = absurd cc
good kind.Tuple c v all a e = absurd cc

some_length : (c : List ℕ) → c ≢ [] → 0 < length c
some_length [] ne = absurd (ne refl)
some_length (x ∷ c) ne = omega arith

pub scalar_read_fits : (k : Kind) (v : ScalarValue) (c : List ℕ) → All (λ b. b < 256) c → IsScalar k v c → (kind_of v ≡ k) × (scalar_fits v ≡ true) × IsInRange v
scalar_read_fits k v c all s =
    let own = is_own k v c s in
    let g = good k c v all s.size s.is in
    let long : 0 < length (content_of v) = omega (arith, own.1, some_length c s.some) in
    let size : allows_size (kind_of v) (length (content_of v)) ≡ true = rw (own.0, sym own.1) s.size in
    (own.0, rw (lt-ltb 0 (length (content_of v)) long, size) g.1, g.0)
