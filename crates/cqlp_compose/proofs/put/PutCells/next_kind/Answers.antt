use Rattle.std.proofs.Common.{arith}
use Rattle.cqlp_compose.proofs.Refusals.{not_at}
use Rattle.cqlp_compose.proofs.put.PutCells.next_kind.Goals as goal

pub returns-then-not-is_at-clause-none : goal.returns-then-not-is_at-clause-none
returns-then-not-is_at-clause-none c =
    not_at c.args.self.now c.args.row c.args.column c.columns.result (omega (arith, c.if-self-cells_wanted.false, c.cells_wanted.ensures)) c.columns.ensures c.if-not-is_at.ensures.all
