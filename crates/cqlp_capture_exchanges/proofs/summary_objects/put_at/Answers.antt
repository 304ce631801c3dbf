use Rattle.std.proofs.Common.{Some, ap, append-nil, sym, ◌∙◌}
use Rattle.cqlp_text.proofs.Writing.{progress_starts}
use Rattle.cqlp_capture_exchanges.specs.SummaryObjects.{object}
use Rattle.cqlp_capture_exchanges.proofs.SummaryObjects.{row_object}
use Rattle.cqlp_capture_exchanges.proofs.Texts.{said_last}
use Rattle.cqlp_capture_exchanges.proofs.summary_objects.put_at.Goals as goal

pub returns : goal.returns
returns g c =
    let row = c.in-Some.row in
    let same = ap (λ t. object c.args.by.now (Some t) row.is_whole_name row.missing row.figures row.buckets.now) c.text.ensures ∙ row_object c.args.by.now c.args.summary.now c.args.place row c.in-Some.ensures.row in
    said_last _ _ c.put_object.result (progress_starts _ _) (sym (append-nil _)) same c.put_object.ensures
