-- One answer of `front_scalar`.
use Rattle.std.proofs.Common.{◌≡◌, ℕ, false, List, [], sym, ap, ◌∙◌}
use Rattle.std.specs.Prelude.{Option, Some, None}
use Rattle.cqlp_note.specs.Step.{Emitted}
use Rattle.cqlp_note.specs.Limits.{Rules, with_lenient}
use Rattle.cqlp_kind.specs.declared.kind.Kind.{Kind}
use Rattle.cqlp_kind.specs.Types.{NoMore}
use Rattle.cqlp_kind.specs.Scalars.{ScalarValue}
use Rattle.cqlp_kind.specs.CellStep.{CellEvent, Leaf, CellPlace}
use Rattle.cqlp_kind.specs.Contents.{value_of}
use Rattle.cqlp_cell.specs.declared.front.FrontScalar.{FrontScalar}
use Rattle.cqlp_cell.specs.Fronts.{SaysScalar, IsFront}
use Rattle.cqlp_value.specs.Laws.{AreSameFront}
use Rattle.cqlp_note.proofs.Runs.{same_got}

same_scalar : (l : Rules) (k : Kind) (room : ℕ) (input : List ℕ) (j n : ℕ) (v w : ScalarValue) → SaysScalar l k room input j v → SaysScalar l k room input n w → (j ≡ n) × (v ≡ w)
same_scalar l k room input j n v w h g =
    let start : CellPlace = record { offset = 0; symbols = [] } in
    let same = same_got _ _ j n (sym (h.is start [] NoMore 0) ∙ g.is start [] NoMore 0) in
    let events : Leaf 0 v ≡ Leaf 0 w = ap (λ (x : Emitted CellEvent CellPlace). x.event) same.0 in
    (same.1, cc)

pub one_front : (l : Rules) (k : Kind) (room : ℕ) (input : List ℕ) (a b : Option FrontScalar) → IsFront l k room input a → IsFront l k room input b → AreSameFront a b
one_front l k room input None None h g = tt
one_front l k room input None (Some y) h g = h y.used (value_of y.scalar) g.1
one_front l k room input (Some x) None h g = g x.used (value_of x.scalar) h.1
one_front l k room input (Some x) (Some y) h g = same_scalar (with_lenient false l) k room input x.used y.used (value_of x.scalar) (value_of y.scalar) h.1 g.1
