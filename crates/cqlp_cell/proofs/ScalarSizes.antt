-- The kind of a scalar, and how many bytes its content has, are those of the bytes that it is.
use Rattle.std.proofs.Common.{◌≡◌, ℕ, ◌≤◌, Bool, true, false, List, length, refl, subst, arith}
use Rattle.std.specs.Prelude.{Some, ◌==◌}
use Rattle.std.proofs.lemmas.Bool.{eqb-true, leb-true}
use Rattle.std.proofs.lemmas.List.{length-drop}
use Rattle.cqlp_note.specs.Field.{address_of}
use Rattle.cqlp_note.specs.Spelling.{address_bytes}
use Rattle.cqlp_kind.specs.declared.kind.Kind.{Kind}
use Rattle.cqlp_kind.specs.declared.kind.Kind.TheVariants as kind
use Rattle.cqlp_kind.specs.Scalars.{ScalarValue, Blob, Custom, Raw, only_if, allows_size, scalar_of, kind_of, content_of, content_size}
use Rattle.cqlp_kind.specs.CellStep.{is_opaque}

-- these bytes have the kind and the size of this scalar
abbrev pub Own : Kind → List ℕ → ScalarValue → Type 0
Own k c v = (kind_of v ≡ k) × (length c ≡ content_size v)

known : (k : Kind) (c : List ℕ) (w v : ScalarValue) → Own k c w → Some w ≡ Some v → Own k c v
known k c w v own e = let same : w ≡ v = cc in subst (Own k c) same own

allowed : (b : Bool) (k : Kind) (c : List ℕ) (w v : ScalarValue) → Own k c w → only_if b w ≡ Some v → Own k c v
allowed true k c w v own e = known k c w v own e
allowed false k c w v own e = absurd cc

address_sized : (four : Bool) (n : ℕ) (c : List ℕ) → (n == 4) ≡ four → length c ≡ length (address_bytes (address_of n c))
address_sized true n c e = rw e refl
address_sized false n c e = rw e refl

-- A content of an allowed length has the kind and the size of its scalar.
pub scalar_own : (k : Kind) (c : List ℕ) (v : ScalarValue) → allows_size k (length c) ≡ true → scalar_of k c ≡ Some v → Own k c v
unfolding scalar_of
scalar_own kind.Custom c v a e = known _ c _ v (refl, refl) e
scalar_own kind.Ascii c v a e = allowed _ _ c _ v (refl, refl) e
scalar_own kind.Bigint c v a e = known _ c _ v (refl, eqb-true (length c) 8 a) e
scalar_own kind.Blob c v a e = known _ c _ v (refl, refl) e
scalar_own kind.Boolean c v a e = known _ c _ v (refl, eqb-true (length c) 1 a) e
scalar_own kind.Counter c v a e = known _ c _ v (refl, eqb-true (length c) 8 a) e
scalar_own kind.Decimal c v a e =
    let some : 5 ≤ length c = leb-true 5 (length c) a in
    known _ c _ v (refl, omega (arith, length-drop 4 c)) e
scalar_own kind.Double c v a e = known _ c _ v (refl, refl) e
scalar_own kind.Float c v a e = known _ c _ v (refl, refl) e
scalar_own kind.Int c v a e = known _ c _ v (refl, eqb-true (length c) 4 a) e
scalar_own kind.Timestamp c v a e = known _ c _ v (refl, eqb-true (length c) 8 a) e
scalar_own kind.Uuid c v a e = known _ c _ v (refl, refl) e
scalar_own kind.Varchar c v a e = allowed _ _ c _ v (refl, refl) e
scalar_own kind.Varint c v a e = known _ c _ v (refl, refl) e
scalar_own kind.Timeuuid c v a e = allowed _ _ c _ v (refl, refl) e
scalar_own kind.Inet c v a e = known _ c _ v (refl, address_sized (length c == 4) (length c) c refl) e
scalar_own kind.Date c v a e = known _ c _ v (refl, eqb-true (length c) 4 a) e
scalar_own kind.Time c v a e = allowed _ _ c _ v (refl, eqb-true (length c) 8 a) e
scalar_own kind.Smallint c v a e = known _ c _ v (refl, eqb-true (length c) 2 a) e
scalar_own kind.Tinyint c v a e = known _ c _ v (refl, eqb-true (length c) 1 a) e
scalar_own kind.Raw c v a e = known _ c _ v (refl, refl) e
scalar_own kind.List c v a e = absurd cc
scalar_own kind.Map c v a e = absurd cc
scalar_own kind.Set c v a e = absurd cc
scalar_own kind.Udt c v a e = absurd cc
scalar_own kind.Tuple c v a e = absurd cc

pub scalar_sized : (k : Kind) (c : List ℕ) (v : ScalarValue) → allows_size k (length c) ≡ true → scalar_of k c ≡ Some v → length c ≡ content_size v
scalar_sized k c v a e = (scalar_own k c v a e).1

-- ---- scalars that come in parts where they are long

-- such a content is a scalar, whatever its bytes are
pub opaque_scalar : (k : Kind) (c : List ℕ) → is_opaque k ≡ true → (v : ScalarValue) × (scalar_of k c ≡ Some v)
unfolding scalar_of
opaque_scalar kind.Blob c t = (Blob c, refl)
opaque_scalar kind.Custom c t = (Custom c, refl)
opaque_scalar kind.Raw c t = (Raw c, refl)
opaque_scalar k c t = absurd cc

holds : (w v : ScalarValue) (c : List ℕ) → content_of w ≡ c → Some w ≡ Some v → content_of v ≡ c
holds w v c h e = let same : w ≡ v = cc in rw (← same) h

-- and holds them
pub opaque_content : (k : Kind) (v : ScalarValue) (c : List ℕ) → is_opaque k ≡ true → scalar_of k c ≡ Some v → content_of v ≡ c
unfolding scalar_of
opaque_content kind.Blob v c t e = holds _ v c refl e
opaque_content kind.Custom v c t e = holds _ v c refl e
opaque_content kind.Raw v c t e = holds _ v c refl e
opaque_content k v c t e = absurd cc
