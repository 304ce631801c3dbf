use Rattle.std.proofs.Common.{sym, ◌∙◌}
use Rattle.cqlp_text.specs.Outputs.{written}
use Rattle.cqlp_capture_streams.specs.Blocks.{whole_of}
use Rattle.cqlp_capture_streams.proofs.Blocks.{lacks_end}
use Rattle.cqlp_capture_streams.proofs.Finished.{failed_before, finished}
use Rattle.cqlp_capture_streams.proofs.buffering.finish_blocks.Goals as goal

pub returns-then-has_failed : goal.returns-then-has_failed
returns-then-has_failed g c known =
    failed_before c.args.read (whole_of c.args.blocks) (written g.O.Target c.into_inner.result) (sym c.has_failed.ensures ∙ c.if-has_failed.true)
    (lacks_end c.args.blocks (written g.O.Target c.into_inner.result) c.into_inner.ensures.short c.into_inner.ensures.target)

pub returns : goal.returns
returns g c known =
    finished c.args.read c.ended_with.result (whole_of c.args.blocks) (written g.O.Target c.finish-answer.result.1) c.finish-answer.result.0
    (sym c.has_failed.ensures ∙ c.if-has_failed.false) (c.finish-answer.ensures known) c.ended_with.ensures
