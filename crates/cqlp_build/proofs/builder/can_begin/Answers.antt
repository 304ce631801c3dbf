use Rattle.cqlp_message.specs.Frames.{measure_of}
use Rattle.cqlp_message.specs.Owned.{frame_of}
use Rattle.cqlp_build.proofs.Closing.{can_be, cannot_be}
use Rattle.cqlp_build.proofs.PageLens.{measured_ok, not_measured}
use Rattle.cqlp_build.proofs.builder.can_begin.Goals as goal

pub returns-in-Some : goal.returns-in-Some
returns-in-Some c = record {
  is = λ b.
      let f = frame_of c.args.frame.now in
      can_be f c.args.header.now _ c.is_directed.result (measured_ok (measure_of f) _ (c.in-Some.ensures.len b.cells)) c.is_directed.ensures;
  same = c.in-Some.ensures.same;
}

pub returns-in-None : goal.returns-in-None
returns-in-None c = record {
  is = λ b.
      let f = frame_of c.args.frame.now in
      let r = not_measured (measure_of f) (c.in-None.ensures.len b.cells) in
      cannot_be f c.args.header.now r.0 r.1;
  same = c.in-None.ensures.same;
}
