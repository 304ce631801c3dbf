use Rattle.cqlp_message.specs.Owned.{frame_of}
use Rattle.cqlp_laws.proofs.WrittenFrames.{written_is_read, written_with_gifts}
use Rattle.cqlp_laws.proofs.frames.written_is_read.Goals as goal

pub returns-clause-stream : goal.returns-clause-stream
returns-clause-stream c = λ l fits. written_is_read (frame_of c.args.frame.now) (c.unfit.ensures.range fits) l fits

pub returns-clause-with_gifts : goal.returns-clause-with_gifts
returns-clause-with_gifts c = λ l gifts s before w le fits. written_with_gifts (frame_of c.args.frame.now) (c.unfit.ensures.range fits) l gifts s before w le fits
