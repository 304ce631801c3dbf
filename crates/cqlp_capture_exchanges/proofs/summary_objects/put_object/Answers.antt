use Rattle.std.proofs.Common.{refl}
use Rattle.cqlp_text.proofs.Writing.{progress_starts}
use Rattle.cqlp_capture_exchanges.proofs.Texts.{said_last, said_next, said_stops}
use Rattle.cqlp_capture_exchanges.proofs.summary_objects.put_object.Goals as goal

pub returns-in_err-put_counts : goal.returns-in_err-put_counts
returns-in_err-put_counts g c =
    said_stops _ c.from_residual.result c.from_residual.ensures.0 (progress_starts _ _) refl refl c.in_err-put_counts.ensures

pub returns-in_err-put_time_sums : goal.returns-in_err-put_time_sums
returns-in_err-put_time_sums g c =
    let s1 = said_next _ (progress_starts _ _) refl refl c.in_ok-put_counts.ensures in
    said_stops _ c.from_residual-in_err-put_time_sums.result c.from_residual-in_err-put_time_sums.ensures.0 s1 refl refl c.in_err-put_time_sums.ensures

pub returns-in_err-put_times : goal.returns-in_err-put_times
returns-in_err-put_times g c =
    let s1 = said_next _ (progress_starts _ _) refl refl c.in_ok-put_counts.ensures in
    let s2 = said_next _ s1 refl refl c.in_ok-put_time_sums.ensures in
    said_stops _ c.from_residual-in_err-put_times.result c.from_residual-in_err-put_times.ensures.0 s2 refl refl c.in_err-put_times.ensures

pub returns-in_err-put : goal.returns-in_err-put
returns-in_err-put g c =
    let s1 = said_next _ (progress_starts _ _) refl refl c.in_ok-put_counts.ensures in
    let s2 = said_next _ s1 refl refl c.in_ok-put_time_sums.ensures in
    let s3 = said_next _ s2 refl refl c.in_ok-put_times.ensures in
    said_stops _ c.from_residual-in_err-put.result c.from_residual-in_err-put.ensures.0 s3 refl refl c.in_err-put.ensures

pub returns-in_err-put_buckets : goal.returns-in_err-put_buckets
returns-in_err-put_buckets g c =
    let s1 = said_next _ (progress_starts _ _) refl refl c.in_ok-put_counts.ensures in
    let s2 = said_next _ s1 refl refl c.in_ok-put_time_sums.ensures in
    let s3 = said_next _ s2 refl refl c.in_ok-put_times.ensures in
    let s4 = said_next _ s3 refl refl c.in_ok-put.ensures in
    said_stops _ c.from_residual-in_err-put_buckets.result c.from_residual-in_err-put_buckets.ensures.0 s4 refl refl c.in_err-put_buckets.ensures

pub returns : goal.returns
returns g c =
    let s1 = said_next _ (progress_starts _ _) refl refl c.in_ok-put_counts.ensures in
    let s2 = said_next _ s1 refl refl c.in_ok-put_time_sums.ensures in
    let s3 = said_next _ s2 refl refl c.in_ok-put_times.ensures in
    let s4 = said_next _ s3 refl refl c.in_ok-put.ensures in
    let s5 = said_next _ s4 refl refl c.in_ok-put_buckets.ensures in
    said_last _ _ c.put-2.result s5 refl refl c.put-2.ensures
