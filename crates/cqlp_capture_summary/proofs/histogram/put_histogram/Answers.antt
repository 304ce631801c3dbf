use Rattle.std.proofs.Common.{ap, refl}
use Rattle.cqlp_capture_summary.specs.Histograms.{unanswered_text}
use Rattle.cqlp_text.proofs.Writing.{progress_starts}
use Rattle.cqlp_capture_summary.proofs.Texts.{said_last, said_next, said_stops}
use Rattle.cqlp_capture_summary.proofs.histogram.put_histogram.Goals as goal

pub returns-in_err-put_header : goal.returns-in_err-put_header
returns-in_err-put_header g c =
    said_stops _ c.from_residual.result c.from_residual.ensures.0 (progress_starts _ _) refl refl c.in_err-put_header.ensures

pub returns-in_err-put_ranges : goal.returns-in_err-put_ranges
returns-in_err-put_ranges g c =
    let s1 = said_next _ (progress_starts _ _) refl refl c.in_ok-put_header.ensures in
    said_stops _ c.from_residual-in_err-put_ranges.result c.from_residual-in_err-put_ranges.ensures.0 s1 refl refl c.in_err-put_ranges.ensures

pub returns : goal.returns
returns g c =
    let s1 = said_next _ (progress_starts _ _) refl refl c.in_ok-put_header.ensures in
    let s2 = said_next _ s1 refl refl c.in_ok-put_ranges.ensures in
    said_last _ _ c.put_unanswered.result s2 refl (ap unanswered_text c.unanswered.ensures) c.put_unanswered.ensures
