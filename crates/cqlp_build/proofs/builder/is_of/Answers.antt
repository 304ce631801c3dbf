use Rattle.std.proofs.Common.{false, refl, sym, ◌∙◌}
use Rattle.cqlp_message.specs.Frames.{measure_of}
use Rattle.cqlp_message.specs.Owned.{frame_of}
use Rattle.cqlp_build.proofs.Finishing.{decided, directed_by, header_by, not_directed, not_measured}
use Rattle.cqlp_build.proofs.PageLens as len
use Rattle.cqlp_build.proofs.builder.is_of.Goals as goal

pub returns-then-is_directed : goal.returns-then-is_directed
returns-then-is_directed c = record {
  is = λ b.
      let f = frame_of c.args.frame.now in
      decided f c.args.header.now c.args.extra c.in-Some.len c.is_length.result c.is_length.ensures (len.measured_ok (measure_of f) _ (c.in-Some.ensures.len b.cells))
      (header_by f c.args.header.now b (sym c.is_directed.ensures ∙ c.if-is_directed.true));
  same = c.in-Some.ensures.same;
}

pub returns-else-is_directed : goal.returns-else-is_directed
returns-else-is_directed c = record {
  is = λ b.
      not_directed (frame_of c.args.frame.now) c.args.header.now c.args.extra c.is_directed.result c.if-is_directed.false
      (λ i. c.is_directed.ensures ∙ directed_by (frame_of c.args.frame.now) c.args.header.now c.args.extra b i);
  same = c.in-Some.ensures.same;
}

pub returns-in_default : goal.returns-in_default
returns-in_default c = record {
  is = λ b.
      let f = frame_of c.args.frame.now in
      let r = len.not_measured (measure_of f) (c.in_default.ensures.len b.cells) in
      not_directed f c.args.header.now c.args.extra false refl (λ i. absurd (not_measured f c.args.header.now c.args.extra r.0 r.1 i));
  same = c.in_default.ensures.same;
}
