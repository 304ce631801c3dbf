use Rattle.std.proofs.Common.{arith}
use Rattle.cqlp_text.proofs.Writing.{writes_text}
use Rattle.cqlp_text.proofs.ending.cannot_open_line.Goals as goal

pub returns : goal.returns
returns g c = writes_text g.W.Target.contents g.W.Target.failures c.args.w.now c.into_target.result.now _ _ c.put_cannot_open-written.new.self _ _ c.put_cannot_open-written.result c.over-writer.ensures c.into_target.ensures.given c.put_cannot_open-written.ensures.passed c.put_cannot_open-written.ensures.line (λ e. grind arith)
