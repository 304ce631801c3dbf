use Rattle.std.proofs.Common.{arith, refl, subst, sym}
use Rattle.cqlp_kind.specs.declared.kind.Kind.{Kind}
use Rattle.cqlp_compose.specs.Bare.{IsKindAt}
use Rattle.cqlp_compose.proofs.Refusals.{kind_there, no_kind_at, no_kind_past}
use Rattle.cqlp_compose.proofs.bare.BarePage.kind_at.Goals as goal

pub returns-then-cells-cells_wanted-clause-none : goal.returns-then-cells-cells_wanted-clause-none
returns-then-cells-cells_wanted-clause-none c =
    no_kind_past c.args.self.now.frame c.args.cells c.args.row c.args.column (omega (arith, c.if-cells-cells_wanted.true, c.cells_wanted.ensures))

pub returns-then-not-is_at-clause-none : goal.returns-then-not-is_at-clause-none
returns-then-not-is_at-clause-none c =
    no_kind_at c.args.self.now.frame c.args.cells c.args.row c.args.column c.columns.result (omega (arith, c.if-cells-cells_wanted.false, c.cells_wanted.ensures)) c.columns.ensures c.if-not-is_at.ensures.all

pub returns-clause-some : goal.returns-clause-some
returns-clause-some c = λ are.
    let at = c.if-not-is_at.ensures.is refl in
    subst (λ (k : Kind). IsKindAt c.args.self.now.frame c.args.cells c.args.row c.args.column k) (sym c.kind_in.ensures)
    (kind_there c.args.self.now.frame c.args.kinds.now c.args.cells c.args.row c.args.column c.columns.result (omega (arith, c.if-cells-cells_wanted.false, c.cells_wanted.ensures)) (omega (arith, c.if-cells-cells_wanted.false, c.cells_wanted.type_inv)) c.columns.ensures at.0 at.1 are)
