-- The items of a scalar.
use Rattle.std.proofs.Common.{◌≡◌, ℕ, ◌+◌, ◌&&◌, true, false, ltb, List, [], ◌∷◌, length, refl, sym}
use Rattle.cqlp_note.specs.Limits.{Rules}
use Rattle.cqlp_kind.specs.declared.kind.Kind.{Kind}
use Rattle.cqlp_kind.specs.Scalars.{ScalarValue, kind_of, content_of}
use Rattle.cqlp_kind.specs.CellStep.{Leaf, is_opaque}
use Rattle.cqlp_value.specs.Values.{IsScalar, part_items, scalar_items}
use Rattle.cqlp_cell.proofs.ScalarSizes.{Own, scalar_own}

pub is_own : (k : Kind) (v : ScalarValue) (c : List ℕ) → IsScalar k v c → Own k c v
is_own k v c s = scalar_own k c v s.size s.is

module _ (l : Rules) (level at : ℕ) (k : Kind) (v : ScalarValue) (c : List ℕ) where
  pub whole_items : Own k c v → (l.parts && is_opaque k && ltb l.part (length c)) ≡ false → scalar_items l level at v ≡ (at, Leaf level v) ∷ []
  whole_items own f = rw (own.0, sym own.1, f) refl

  pub parted_items : kind_of v ≡ k → content_of v ≡ c → (l.parts && is_opaque k && ltb l.part (length c)) ≡ true → scalar_items l level at v ≡ part_items l (length c) level (at + 4) 0 c
  parted_items is holds t = rw (is, holds, t) refl
