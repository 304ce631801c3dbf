-- As which kind a content is read.
use Rattle.std.proofs.Common.{◌≡◌, ℕ, Bool, true, false, ◌&&◌, cond, List, length, is_some, refl, ◌∙◌}
use Rattle.std.specs.Prelude.{Option, Some, None}
use Rattle.cqlp_kind.specs.declared.kind.Kind.{Kind}
use Rattle.cqlp_kind.specs.declared.kind.Kind.TheVariants as kind
use Rattle.cqlp_kind.specs.Scalars.{ScalarValue, Raw, allows_size, scalar_of, size_or_lenient, or_raw, scalar_or_lenient}
use Rattle.cqlp_cell.specs.Contents.{IsReadAs}

-- what the type has, each caller takes
pub allowed_taken : (lenient : Bool) (k : Kind) (n : ℕ) → allows_size k n ≡ true → size_or_lenient lenient k n ≡ true
allowed_taken true k n t = refl
allowed_taken false k n t = t

some_kept : (o : Option ScalarValue) (c : List ℕ) → is_some o ≡ true → o ≡ Some (or_raw o c)
some_kept None c t = absurd cc
some_kept (Some v) c t = refl

pub taken_is : (lenient : Bool) (k : Kind) (c : List ℕ) → allows_size k (length c) ≡ true → is_some (scalar_of k c) ≡ true → scalar_of k c ≡ scalar_or_lenient lenient k c
taken_is false k c a t = refl
taken_is true k c a t = rw a (some_kept (scalar_of k c) c t)

both_true : (a b : Bool) → (a && b) ≡ true → (a ≡ true) × (b ≡ true)
both_true true true t = (refl, refl)
both_true true false t = absurd cc
both_true false b t = absurd cc

pub spelled_taken : (lenient : Bool) (k : Kind) (c : List ℕ) (v : ScalarValue) → allows_size k (length c) ≡ true → scalar_of k c ≡ Some v → scalar_or_lenient lenient k c ≡ Some v
spelled_taken false k c v a e = e
spelled_taken true k c v a e = rw (a, e) refl

pub as_its_kind : (lenient : Bool) (k : Kind) (c : List ℕ) → (allows_size k (length c) && is_some (scalar_of k c)) ≡ true → IsReadAs lenient k c (Some k)
as_its_kind lenient k c t =
    let both = both_true (allows_size k (length c)) (is_some (scalar_of k c)) t in
    (both.0, both.1, taken_is lenient k c both.0 both.1)

raw_known : (c : List ℕ) → scalar_of kind.Raw c ≡ Some (Raw c)
unfolding scalar_of
raw_known c = refl

raw_when : (b : Bool) (o : Option ScalarValue) (c : List ℕ) → (b && is_some o) ≡ false → cond b (or_raw o c) (Raw c) ≡ Raw c
raw_when true None c t = refl
raw_when true (Some v) c t = absurd cc
raw_when false o c t = refl

raw_for : (k : Kind) (c : List ℕ) → (allows_size k (length c) && is_some (scalar_of k c)) ≡ false → IsReadAs true k c (Some kind.Raw)
raw_for k c t = (refl, rw (raw_known c) refl, rw (raw_known c, raw_when (allows_size k (length c)) (scalar_of k c) c t) refl)

-- what the type does not have, a lenient caller takes as its bytes
pub as_raw : (lenient : Bool) (k : Kind) (c : List ℕ) → lenient ≡ true → (allows_size k (length c) && is_some (scalar_of k c)) ≡ false → IsReadAs lenient k c (Some kind.Raw)
as_raw lenient k c e t = rw e (raw_for k c t)

none_when : (b : Bool) (o : Option ScalarValue) → b ≡ true → (b && is_some o) ≡ false → o ≡ None
none_when true None e t = refl
none_when true (Some v) e t = absurd cc
none_when false o e t = absurd cc

none_for : (k : Kind) (c : List ℕ) → allows_size k (length c) ≡ true → (allows_size k (length c) && is_some (scalar_of k c)) ≡ false → IsReadAs false k c None
none_for k c a t = none_when (allows_size k (length c)) (scalar_of k c) a t

pub as_none : (lenient : Bool) (k : Kind) (c : List ℕ) → lenient ≡ false → size_or_lenient lenient k (length c) ≡ true → (allows_size k (length c) && is_some (scalar_of k c)) ≡ false → IsReadAs lenient k c None
as_none lenient k c e a t = rw e (none_for k c (rw e at a) t)

-- Whatever is read is a scalar of some kind that has these bytes: of its type, or of one that is not known.
abbrev pub HasKind : List ℕ → ScalarValue → Type 0
HasKind c v = (j : Kind) × (allows_size j (length c) ≡ true) × (scalar_of j c ≡ Some v)

kind_when : (b : Bool) (o : Option ScalarValue) (k : Kind) (c : List ℕ) (v : ScalarValue) → allows_size k (length c) ≡ b → scalar_of k c ≡ o → ◌≡◌ {A = Option ScalarValue} (Some (cond b (or_raw o c) (Raw c))) (Some v) → HasKind c v
kind_when true (Some w) k c v a s e = (k, a, s ∙ e)
kind_when true None k c v a s e = (kind.Raw, refl, raw_known c ∙ e)
kind_when false o k c v a s e = (kind.Raw, refl, raw_known c ∙ e)

pub kind_taken : (lenient : Bool) (k : Kind) (c : List ℕ) (v : ScalarValue) → size_or_lenient lenient k (length c) ≡ true → scalar_or_lenient lenient k c ≡ Some v → HasKind c v
kind_taken false k c v t e = (k, t, e)
kind_taken true k c v t e = kind_when (allows_size k (length c)) (scalar_of k c) k c v refl refl e
