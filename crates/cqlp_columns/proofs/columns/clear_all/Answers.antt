use Rattle.std.proofs.Common.{add-one, arith}
use Rattle.cqlp_columns.proofs.Taking.{clear_more}
use Rattle.cqlp_columns.proofs.columns.clear_all.Goals as goal

pub loop-column-preserved : goal.loop-column-preserved
loop-column-preserved g c =
    rw (c.clear.ensures, c.loop-column.invariant, add-one) (clear_more c.args.columns.now c.loop-column.column-index c.column-item.result (omega (arith, c.loop-column-test.true)))
