use Rattle.std.proofs.Common.{sym, ◌∙◌}
use Rattle.cqlp_message.specs.Frames.{FrameIsInRange}
use Rattle.cqlp_message.specs.Owned.{frame_of}
use Rattle.cqlp_message.proofs.FramesWritten.{frame_written}
use Rattle.cqlp_message.proofs.Tallies.{size_where_measured}
use Rattle.cqlp_message.proofs.frame.Frame.len.Goals as goal

pub returns-clause-bytes : goal.returns-clause-bytes
returns-clause-bytes c =
    let measured = sym c.measure.ensures.is ∙ c.in-Ok.is in
    let range : FrameIsInRange (frame_of c.args.self.now) = rw c.in-Ok.is at c.measure.ensures.range in
    size_where_measured _ _ _ measured ∙ sym (frame_written (frame_of c.args.self.now) range c.requires).1
