use Rattle.std.proofs.Common.{arith}
use Rattle.cqlp_encode.proofs.PageSteps.{finished}
use Rattle.cqlp_encode.proofs.page_writer.PageWriter.finish.Goals as goal

pub returns : goal.returns
returns c = rw (← c.self.view_is) (finished _ c.if-self.false (omega (arith, c.if-self-gt0.false)) (omega (arith, c.if-self-gt0-2.false)))
