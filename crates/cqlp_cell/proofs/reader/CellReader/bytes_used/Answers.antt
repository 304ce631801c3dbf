use Rattle.std.proofs.Common.{inl, inr, arith}
use Rattle.cqlp_cell.proofs.Leavings.{used_below}
use Rattle.cqlp_cell.proofs.reader.CellReader.bytes_used.Goals as goal

pub overflow_add-result : goal.overflow_add-result
overflow_add-result g c =
    let r = c.requires in
    let below = rw (← c.self.view_is) at (used_below r.0 c.args.self.now c.args.partial.now r.1 r.2) in
    elim c.in-Length.is [
      | inl e ↦ omega (arith, rw e at below, c.came.ensures.is)
      | inr e ↦ omega (arith, rw e at below, c.came.ensures.is)
    ]

pub overflow_add-result-in-Scalar : goal.overflow_add-result-in-Scalar
overflow_add-result-in-Scalar g c =
    let r = c.requires in
    let below = rw (← c.self.view_is) at (used_below r.0 c.args.self.now c.args.partial.now r.1 r.2) in
    elim c.in-Scalar.is [
      | inl e ↦ omega (arith, rw e.1 at below)
      | inr (inl e) ↦ omega (arith, rw e.1 at below)
      | inr (inr e) ↦ omega (arith, rw e.1 at below)
    ]

pub overflow_add-result-in-Scalar-2 : goal.overflow_add-result-in-Scalar-2
overflow_add-result-in-Scalar-2 g c =
    let r = c.requires in
    let below = rw (← c.self.view_is) at (used_below r.0 c.args.self.now c.args.partial.now r.1 r.2) in
    elim c.in-Scalar.is [
      | inl e ↦ omega (arith, rw e.1 at below, c.came-in-Scalar.ensures.is)
      | inr (inl e) ↦ omega (arith, rw e.1 at below, c.came-in-Scalar.ensures.is)
      | inr (inr e) ↦ omega (arith, rw e.1 at below, c.came-in-Scalar.ensures.is)
    ]
