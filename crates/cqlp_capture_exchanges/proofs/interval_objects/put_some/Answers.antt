use Rattle.std.proofs.Common.{refl}
use Rattle.cqlp_text.proofs.Writing.{progress_starts}
use Rattle.cqlp_capture_exchanges.proofs.Texts.{said_last, said_next, said_stops}
use Rattle.cqlp_capture_exchanges.proofs.interval_objects.put_some.Goals as goal

pub returns-in_err-put_begin : goal.returns-in_err-put_begin
returns-in_err-put_begin g c =
    said_stops _ c.from_residual.result c.from_residual.ensures.0 (progress_starts _ _) refl refl c.in_err-put_begin.ensures

pub returns-in_err-put_rate : goal.returns-in_err-put_rate
returns-in_err-put_rate g c =
    let s1 = said_next _ (progress_starts _ _) refl refl c.in_ok-put_begin.ensures in
    said_stops _ c.from_residual-in_err-put_rate.result c.from_residual-in_err-put_rate.ensures.0 s1 refl refl c.in_err-put_rate.ensures

pub returns-in_err-put_counts : goal.returns-in_err-put_counts
returns-in_err-put_counts g c =
    let s1 = said_next _ (progress_starts _ _) refl refl c.in_ok-put_begin.ensures in
    let s2 = said_next _ s1 refl refl c.in_ok-put_rate.ensures in
    said_stops _ c.from_residual-in_err-put_counts.result c.from_residual-in_err-put_counts.ensures.0 s2 refl refl c.in_err-put_counts.ensures

pub returns-in_err-put_times : goal.returns-in_err-put_times
returns-in_err-put_times g c =
    let s1 = said_next _ (progress_starts _ _) refl refl c.in_ok-put_begin.ensures in
    let s2 = said_next _ s1 refl refl c.in_ok-put_rate.ensures in
    let s3 = said_next _ s2 refl refl c.in_ok-put_counts.ensures in
    said_stops _ c.from_residual-in_err-put_times.result c.from_residual-in_err-put_times.ensures.0 s3 refl refl c.in_err-put_times.ensures

pub returns : goal.returns
returns g c =
    let s1 = said_next _ (progress_starts _ _) refl refl c.in_ok-put_begin.ensures in
    let s2 = said_next _ s1 refl refl c.in_ok-put_rate.ensures in
    let s3 = said_next _ s2 refl refl c.in_ok-put_counts.ensures in
    let s4 = said_next _ s3 refl refl c.in_ok-put_times.ensures in
    said_last _ _ c.put.result s4 refl refl c.put.ensures
