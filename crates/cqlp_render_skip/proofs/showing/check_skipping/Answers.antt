use Rattle.cqlp_text.specs.Outputs.{written}
use Rattle.cqlp_render.specs.declared.text_form.TextForm.TheVariants as forms
use Rattle.cqlp_render.proofs.Shows.{checks_failed, checks_fault, checks_verdict}
use Rattle.cqlp_render_skip.proofs.Turning.{ends_known}
use Rattle.cqlp_render_skip.proofs.showing.check_skipping.Goals as goal

pub returns-in_default : goal.returns-in_default
returns-in_default g c = record {
  status = c.status_after.ensures.task;
  checks = λ xs left known err.
      let shown = c.show_stream-shown.result in
      let reads = c.show_stream-shown.ensures xs left known err in
      let ends = ends_known forms.Nothing _ xs _ (known, err) shown.passed_over _ _ shown.ending reads.shows in (
        shown.ending,
        shown.passed_over,
        record { out = written g.O.Target shown.out; err = written g.E.Target shown.err },
        reads,
        c.conclude-status.result.0,
        checks_fault shown.ending c.in_default.not-Finished _ _ _ _ (c.conclude-status.ensures.concludes ends.1),
        c.status_after.ensures.value,
      );
}

pub returns-in_default-ending_line-clause-checks : goal.returns-in_default-ending_line-clause-checks
returns-in_default-ending_line-clause-checks g c = λ xs left known err.
    let shown = c.show_stream-shown.result in
    let reads = c.show_stream-shown.ensures xs left known err in
    let ends = ends_known forms.Nothing _ xs _ (known, err) shown.passed_over _ _ shown.ending reads.shows in (
      shown.ending,
      shown.passed_over,
      record { out = written g.O.Target shown.out; err = written g.E.Target shown.err },
      reads,
      c.status.result,
      checks_verdict shown.ending c.in-Finished.field-0 c.in-Finished.is _ _ _ _ c.status.ensures.value (c.in_default-ending_line.ensures ends.0),
      c.status_after-in_default-ending_line.ensures.value,
    )

pub returns-clause-checks : goal.returns-clause-checks
returns-clause-checks g c = λ xs left known err.
    let shown = c.show_stream-shown.result in
    let reads = c.show_stream-shown.ensures xs left known err in
    let ends = ends_known forms.Nothing _ xs _ (known, err) shown.passed_over _ _ shown.ending reads.shows in (
      shown.ending,
      shown.passed_over,
      record { out = written g.O.Target shown.out; err = written g.E.Target shown.err },
      reads,
      c.conclude-status-2.result.0,
      checks_failed shown.ending c.in-Finished.field-0 c.in-Finished.is _ _ _ _ _ (c.in-Err.ensures ends.0) (c.conclude-status-2.ensures.concludes ends.1),
      c.status_after-2.ensures.value,
    )
