use Rattle.std.proofs.Common.{[], append-nil, sym, subst}
use Rattle.cqlp_text.specs.Written.{Writes}
use Rattle.cqlp_text.proofs.Writing.{progress_starts, progress_goes_on, progress_writes}
use Rattle.cqlp_render_skip.specs.Reporting.{Reporting}
use Rattle.cqlp_render_skip.specs.Texts.{break_of}
use Rattle.cqlp_render_skip.proofs.report.Report.end_text.Goals as goal

pub returns-clause-writes : goal.returns-clause-writes
returns-clause-writes g c =
    let text = break_of c.self.inside.form in
    let ends = progress_goes_on [] (progress_starts _ text) (sym (append-nil text)) c.in_ok-break_off.ensures.text in
    subst (λ (z : Reporting). Writes z.text.written (break_of z.text.form) c.flush.result c.flush.new.self.text.written) c.self.view_is (progress_writes _ c.flush.result ends c.flush.ensures.writes)
