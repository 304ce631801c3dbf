use Rattle.std.proofs.Common.{refl}
use Rattle.cqlp_text.proofs.Writing.{progress_starts, progress_goes_on, progress_stops, progress_last}
use Rattle.cqlp_json.proofs.line.put_json_line.Goals as goal

pub returns-in_err-put : goal.returns-in_err-put
returns-in_err-put g c =
    progress_stops _ c.from_residual.result c.from_residual.ensures.0 (progress_starts _ _) refl c.in_err-put.ensures

pub returns-in_err-put_number : goal.returns-in_err-put_number
returns-in_err-put_number g c =
    let s1 = progress_goes_on _ (progress_starts _ _) refl c.in_ok-put.ensures in
    progress_stops _ c.from_residual-in_err-put_number.result c.from_residual-in_err-put_number.ensures.0 s1 refl c.in_err-put_number.ensures

pub returns-in_err-put_event : goal.returns-in_err-put_event
returns-in_err-put_event g c =
    let s1 = progress_goes_on _ (progress_starts _ _) refl c.in_ok-put.ensures in
    let s2 = progress_goes_on _ s1 refl c.in_ok-put_number.ensures in
    progress_stops _ c.from_residual-in_err-put_event.result c.from_residual-in_err-put_event.ensures.0 s2 refl c.in_err-put_event.ensures

pub returns : goal.returns
returns g c =
    let s1 = progress_goes_on _ (progress_starts _ _) refl c.in_ok-put.ensures in
    let s2 = progress_goes_on _ s1 refl c.in_ok-put_number.ensures in
    let s3 = progress_goes_on _ s2 refl c.in_ok-put_event.ensures in
    progress_last _ _ c.put-2.result s3 refl c.put-2.ensures
