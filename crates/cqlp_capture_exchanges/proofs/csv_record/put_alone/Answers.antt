use Rattle.std.proofs.Common.{refl}
use Rattle.cqlp_text.proofs.Writing.{progress_starts}
use Rattle.cqlp_capture_exchanges.proofs.Texts.{said_last, said_next, said_stops}
use Rattle.cqlp_capture_exchanges.proofs.csv_record.put_alone.Goals as goal

pub returns-in_err-put_place : goal.returns-in_err-put_place
returns-in_err-put_place g c =
    said_stops _ c.from_residual.result c.from_residual.ensures.0 (progress_starts _ _) refl refl c.in_err-put_place.ensures

pub returns-in_err-put : goal.returns-in_err-put
returns-in_err-put g c =
    let s1 = said_next _ (progress_starts _ _) refl refl c.in_ok-put_place.ensures in
    said_stops _ c.from_residual-in_err-put.result c.from_residual-in_err-put.ensures.0 s1 refl refl c.in_err-put.ensures

pub returns-in_err-put_response : goal.returns-in_err-put_response
returns-in_err-put_response g c =
    let s1 = said_next _ (progress_starts _ _) refl refl c.in_ok-put_place.ensures in
    let s2 = said_next _ s1 refl refl c.in_ok-put.ensures in
    said_stops _ c.from_residual-in_err-put_response.result c.from_residual-in_err-put_response.ensures.0 s2 refl refl c.in_err-put_response.ensures

pub returns : goal.returns
returns g c =
    let s1 = said_next _ (progress_starts _ _) refl refl c.in_ok-put_place.ensures in
    let s2 = said_next _ s1 refl refl c.in_ok-put.ensures in
    let s3 = said_next _ s2 refl refl c.in_ok-put_response.ensures in
    said_last _ _ c.put_last.result s3 refl refl c.put_last.ensures
