-- As which kind a content is read.
use Rattle.std.specs.Prelude.{◌≡◌, ℕ, Bool, true, List, length, Option, Some, None, is_some}
use Rattle.cqlp_kind.specs.declared.kind.Kind.{Kind}
use Rattle.cqlp_kind.specs.Scalars.{allows_size, scalar_of, scalar_or_lenient}

-- A content of a type is read as of this kind: it is a scalar of the kind, and that scalar is what is read. Or the type
-- refuses it.
abbrev pub IsReadAs : (lenient : Bool) → Kind → List ℕ → Option Kind → Type 0
IsReadAs lenient k c None = scalar_or_lenient lenient k c ≡ None
IsReadAs lenient k c (Some j) =
    (allows_size j (length c) ≡ true) × (is_some (scalar_of j c) ≡ true) × (scalar_of j c ≡ scalar_or_lenient lenient k c)
