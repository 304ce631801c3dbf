use Rattle.std.proofs.Common.{arith}
use Rattle.cqlp_text.proofs.Writing.{writes_text}
use Rattle.cqlp_text.proofs.cells.cell_text.Goals as goal

pub returns : goal.returns
returns g c = writes_text g.W.Target.contents g.W.Target.failures c.args.w.now c.into_target.result.now _ _ c.put_whole_cell-written.new.self _ _ c.put_whole_cell-written.result c.over-writer.ensures c.into_target.ensures.given c.put_whole_cell-written.ensures.passed c.put_whole_cell-written.ensures.text (λ e. grind arith)
