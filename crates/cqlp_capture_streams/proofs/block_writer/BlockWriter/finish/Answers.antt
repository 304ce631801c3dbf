use Rattle.cqlp_capture_streams.proofs.Blocks.{handed}
use Rattle.cqlp_capture_streams.proofs.block_writer.BlockWriter.finish.Goals as goal

pub returns : goal.returns
returns g c = λ known. handed c.args.self c.pass_on-answer.new.self c.pass_on-answer.result _ known c.pass_on-answer.ensures c.into_inner.ensures.short c.into_inner.ensures.target
