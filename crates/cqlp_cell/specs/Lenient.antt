-- What a lenient reading of a cell says, beside one that is not.
use Rattle.std.specs.Prelude.{◌≡◌, ℕ, Bool, true, false, ◌&&◌, List, length, Some, is_some, ◌⊎◌}
use Rattle.cqlp_note.specs.declared.refusal.Reason.{Reason}
use Rattle.cqlp_note.specs.declared.refusal.Reason.TheVariants.{BadSize, BadScalar, BadUtf8, ExtraInValue}
use Rattle.cqlp_note.specs.Reader.{Said, Bad, says}
use Rattle.cqlp_note.specs.Limits.{Rules, with_lenient}
use Rattle.cqlp_kind.specs.declared.kind.Kind.{Kind}
use Rattle.cqlp_kind.specs.Types.{has_id}
use Rattle.cqlp_kind.specs.Scalars.{Raw, allows_size, scalar_of, scalar_or_lenient}
use Rattle.cqlp_kind.specs.CellStep.{CellPlace, cell_step}

-- why a content is refused that its type does not have, or further bytes in a value than its fields
abbrev pub IsOfContent : Reason → Type 0
IsOfContent BadSize = Unit {0}
IsOfContent BadScalar = Unit {0}
IsOfContent BadUtf8 = Unit {0}
IsOfContent ExtraInValue = Unit {0}
IsOfContent why = ⊥

-- Both say the same; or the first refuses for such a reason.
abbrev pub GoesOnWhere : {A : Type 0} → (Reason → Type 0) → Said A (ℕ × Reason) → Said A (ℕ × Reason) → Type 0
GoesOnWhere Is d e = (e ≡ d) ⊎ ((at : ℕ) × (why : Reason) × (d ≡ Bad (at, why)) × Is why)

abbrev pub GoesOn : {A : Type 0} → Said A (ℕ × Reason) → Said A (ℕ × Reason) → Type 0
GoesOn d e = GoesOnWhere IsOfContent d e

-- A lenient step says what one says that is not, and goes on only where that refuses a content that its type does not
-- have, or further bytes in a value than its fields.
abbrev pub LenientGoesOn : Type 0
LenientGoesOn =
    (l : Rules) (p : CellPlace) (bytes : List ℕ)
    → GoesOn (says (cell_step (with_lenient false l) p) 0 bytes) (says (cell_step (with_lenient true l) p) 0 bytes)

-- Of a type that has an id, raw bytes are read by a lenient caller alone: they are all of a content, and that is no scalar of
-- the type, by its length or by its bytes.
abbrev pub RawIsNoneOfItsType : Type 0
RawIsNoneOfItsType =
    (lenient : Bool) (k : Kind) (c raw : List ℕ) → has_id k ≡ true → scalar_or_lenient lenient k c ≡ Some (Raw raw)
    → (lenient ≡ true) × (raw ≡ c) × ((allows_size k (length c) && is_some (scalar_of k c)) ≡ false)
