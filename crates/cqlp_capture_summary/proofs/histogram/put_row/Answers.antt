use Rattle.std.proofs.Common.{ap, refl, ◌∙◌}
use Rattle.cqlp_capture_summary.specs.Columns.{number_column, share_of, share_text}
use Rattle.cqlp_capture_summary.specs.Histograms.{bar_of, bar_text}
use Rattle.cqlp_text.proofs.Writing.{progress_starts}
use Rattle.cqlp_capture_summary.proofs.Texts.{said_last, said_next, said_stops}
use Rattle.cqlp_capture_summary.proofs.histogram.put_row.Goals as goal

pub returns-in_err-put_bound : goal.returns-in_err-put_bound
returns-in_err-put_bound g c =
    said_stops _ c.from_residual.result c.from_residual.ensures.0 (progress_starts _ _) refl refl c.in_err-put_bound.ensures

pub returns-in_err-put_number_column : goal.returns-in_err-put_number_column
returns-in_err-put_number_column g c =
    let s1 = said_next _ (progress_starts _ _) refl refl c.in_ok-put_bound.ensures in
    said_stops _ c.from_residual-in_err-put_number_column.result c.from_residual-in_err-put_number_column.ensures.0 s1 refl (ap (number_column 8) c.count_in-count.ensures) c.in_err-put_number_column.ensures

pub returns-in_err-put_share : goal.returns-in_err-put_share
returns-in_err-put_share g c =
    let s1 = said_next _ (progress_starts _ _) refl refl c.in_ok-put_bound.ensures in
    let s2 = said_next _ s1 refl (ap (number_column 8) c.count_in-count.ensures) c.in_ok-put_number_column.ensures in
    said_stops _ c.from_residual-in_err-put_share.result c.from_residual-in_err-put_share.ensures.0 s2 refl (ap share_text (c.share_of.ensures.share ∙ ap (λ n. share_of n c.args.timed) c.count_in-count.ensures)) c.in_err-put_share.ensures

pub returns-in_err-put_bar : goal.returns-in_err-put_bar
returns-in_err-put_bar g c =
    let s1 = said_next _ (progress_starts _ _) refl refl c.in_ok-put_bound.ensures in
    let s2 = said_next _ s1 refl (ap (number_column 8) c.count_in-count.ensures) c.in_ok-put_number_column.ensures in
    let s3 = said_next _ s2 refl (ap share_text (c.share_of.ensures.share ∙ ap (λ n. share_of n c.args.timed) c.count_in-count.ensures)) c.in_ok-put_share.ensures in
    said_stops _ c.from_residual-in_err-put_bar.result c.from_residual-in_err-put_bar.ensures.0 s3 refl (ap bar_text (c.bar_of.ensures.bar ∙ ap (λ n. bar_of n c.args.most) c.count_in-count.ensures)) c.in_err-put_bar.ensures

pub returns : goal.returns
returns g c =
    let s1 = said_next _ (progress_starts _ _) refl refl c.in_ok-put_bound.ensures in
    let s2 = said_next _ s1 refl (ap (number_column 8) c.count_in-count.ensures) c.in_ok-put_number_column.ensures in
    let s3 = said_next _ s2 refl (ap share_text (c.share_of.ensures.share ∙ ap (λ n. share_of n c.args.timed) c.count_in-count.ensures)) c.in_ok-put_share.ensures in
    let s4 = said_next _ s3 refl (ap bar_text (c.bar_of.ensures.bar ∙ ap (λ n. bar_of n c.args.most) c.count_in-count.ensures)) c.in_ok-put_bar.ensures in
    said_last _ _ c.put.result s4 refl refl c.put.ensures
