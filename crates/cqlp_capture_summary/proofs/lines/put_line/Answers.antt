use Rattle.std.proofs.Common.{ap, refl}
use Rattle.cqlp_capture_summary.specs.Columns.{share_text}
use Rattle.cqlp_text.proofs.Writing.{progress_starts}
use Rattle.cqlp_capture_summary.proofs.Texts.{said_last, said_next, said_stops}
use Rattle.cqlp_capture_summary.proofs.lines.put_line.Goals as goal

pub returns-in_err-put_share : goal.returns-in_err-put_share
returns-in_err-put_share g c =
    said_stops _ c.from_residual.result c.from_residual.ensures.0 (progress_starts _ _) refl (ap share_text c.share_of.ensures.share) c.in_err-put_share.ensures

pub returns-in_err-put_counts : goal.returns-in_err-put_counts
returns-in_err-put_counts g c =
    let s1 = said_next _ (progress_starts _ _) refl (ap share_text c.share_of.ensures.share) c.in_ok-put_share.ensures in
    said_stops _ c.from_residual-in_err-put_counts.result c.from_residual-in_err-put_counts.ensures.0 s1 refl refl c.in_err-put_counts.ensures

pub returns-in_err-put_times : goal.returns-in_err-put_times
returns-in_err-put_times g c =
    let s1 = said_next _ (progress_starts _ _) refl (ap share_text c.share_of.ensures.share) c.in_ok-put_share.ensures in
    let s2 = said_next _ s1 refl refl c.in_ok-put_counts.ensures in
    said_stops _ c.from_residual-in_err-put_times.result c.from_residual-in_err-put_times.ensures.0 s2 refl refl c.in_err-put_times.ensures

pub returns-in_err-put_missing : goal.returns-in_err-put_missing
returns-in_err-put_missing g c =
    let s1 = said_next _ (progress_starts _ _) refl (ap share_text c.share_of.ensures.share) c.in_ok-put_share.ensures in
    let s2 = said_next _ s1 refl refl c.in_ok-put_counts.ensures in
    let s3 = said_next _ s2 refl refl c.in_ok-put_times.ensures in
    said_stops _ c.from_residual-in_err-put_missing.result c.from_residual-in_err-put_missing.ensures.0 s3 refl refl c.in_err-put_missing.ensures

pub returns : goal.returns
returns g c =
    let s1 = said_next _ (progress_starts _ _) refl (ap share_text c.share_of.ensures.share) c.in_ok-put_share.ensures in
    let s2 = said_next _ s1 refl refl c.in_ok-put_counts.ensures in
    let s3 = said_next _ s2 refl refl c.in_ok-put_times.ensures in
    let s4 = said_next _ s3 refl refl c.in_ok-put_missing.ensures in
    said_last _ _ c.put_name.result s4 refl refl c.put_name.ensures
