use Rattle.cqlp_text.specs.Outputs.{output}
use Rattle.cqlp_render.proofs.Shows.{reports_read, checks_verdict, checks_failed, checks_fault}
use Rattle.cqlp_render.proofs.showing.check.Goals as goal

pub returns-in_default-clause-checks : goal.returns-in_default-clause-checks
returns-in_default-clause-checks g c = λ xs left known err_known. (
  c.read_through-ending.result.0,
  output (g.O.Target.contents c.read_through-ending.result.1) (g.O.Target.failures c.read_through-ending.result.1),
  c.read_through-ending.ensures.shows xs left known,
  c.read_through-ending.ensures.failures,
  checks_fault c.read_through-ending.result.0 c.in_default.not-Finished _ _ _ _ (c.conclude-status.ensures.concludes err_known),
  c.read_through-ending.ensures.reads,
  c.read_through-ending.ensures.in_time xs left known,
)

pub returns-in_default-ending_line-clause-checks : goal.returns-in_default-ending_line-clause-checks
returns-in_default-ending_line-clause-checks g c = λ xs left known err_known.
    let shows = c.read_through-ending.ensures.shows xs left known in
    let reported = reports_read _ _ _ _ xs _ _ _ known (rw c.in-Finished.is at shows) in (
      c.read_through-ending.result.0,
      output (g.O.Target.contents c.read_through-ending.result.1) (g.O.Target.failures c.read_through-ending.result.1),
      shows,
      c.read_through-ending.ensures.failures,
      checks_verdict c.read_through-ending.result.0 c.in-Finished.field-0 c.in-Finished.is _ _ _ _ c.status.ensures.value (c.in_default-ending_line.ensures reported),
      c.read_through-ending.ensures.reads,
      c.read_through-ending.ensures.in_time xs left known,
    )

pub returns-clause-checks : goal.returns-clause-checks
returns-clause-checks g c = λ xs left known err_known.
    let shows = c.read_through-ending.ensures.shows xs left known in
    let reported = reports_read _ _ _ _ xs _ _ _ known (rw c.in-Finished.is at shows) in (
      c.read_through-ending.result.0,
      output (g.O.Target.contents c.read_through-ending.result.1) (g.O.Target.failures c.read_through-ending.result.1),
      shows,
      c.read_through-ending.ensures.failures,
      checks_failed c.read_through-ending.result.0 c.in-Finished.field-0 c.in-Finished.is _ _ _ _ _ (c.in-Err.ensures reported) (c.conclude-status-2.ensures.concludes err_known),
      c.read_through-ending.ensures.reads,
      c.read_through-ending.ensures.in_time xs left known,
    )
