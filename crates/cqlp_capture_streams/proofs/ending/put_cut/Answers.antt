use Rattle.std.proofs.Common.{refl}
use Rattle.cqlp_text.proofs.Writing.{progress_starts}
use Rattle.cqlp_capture_streams.proofs.Parts.{part_last, part_stops, part_taken}
use Rattle.cqlp_capture_streams.proofs.ending.put_cut.Goals as goal

pub returns-in_err-put : goal.returns-in_err-put
returns-in_err-put g c =
    part_stops _ c.from_residual.result c.from_residual.ensures.0 (progress_starts _ _) refl refl c.in_err-put.ensures

pub returns-in_err-put_number : goal.returns-in_err-put_number
returns-in_err-put_number g c =
    let s1 = part_taken _ (progress_starts _ _) refl refl c.in_ok-put.ensures in
    part_stops _ c.from_residual-in_err-put_number.result c.from_residual-in_err-put_number.ensures.0 s1 refl refl c.in_err-put_number.ensures

pub returns-in_err-put-2 : goal.returns-in_err-put-2
returns-in_err-put-2 g c =
    let s1 = part_taken _ (progress_starts _ _) refl refl c.in_ok-put.ensures in
    let s2 = part_taken _ s1 refl refl c.in_ok-put_number.ensures in
    part_stops _ c.from_residual-in_err-put-2.result c.from_residual-in_err-put-2.ensures.0 s2 refl refl c.in_err-put-2.ensures

pub returns : goal.returns
returns g c =
    let s1 = part_taken _ (progress_starts _ _) refl refl c.in_ok-put.ensures in
    let s2 = part_taken _ s1 refl refl c.in_ok-put_number.ensures in
    let s3 = part_taken _ s2 refl refl c.in_ok-put-2.ensures in
    part_last _ _ c.put_number-2.result s3 refl refl c.put_number-2.ensures
