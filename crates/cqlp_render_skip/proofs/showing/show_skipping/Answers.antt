use Rattle.cqlp_text.specs.Outputs.{written}
use Rattle.cqlp_render_skip.proofs.Turning.{ends_known}
use Rattle.cqlp_render_skip.proofs.showing.show_skipping.Goals as goal

pub returns-clause-shows : goal.returns-clause-shows
returns-clause-shows g c = λ xs left known err.
    let shown = c.show_stream.result in
    let reads = c.show_stream.ensures xs left known err in
    let ends = ends_known c.args.form _ xs _ (known, err) shown.passed_over _ _ shown.ending reads.shows in (
      shown.ending,
      shown.passed_over,
      record { out = written g.O.Target shown.out; err = written g.E.Target shown.err },
      reads,
      c.report.ensures.out,
      c.report.ensures.concludes ends.1,
    )
