use Rattle.std.proofs.Common.{ap, None, Option, refl}
use Rattle.cqlp_capture_exchanges.specs.declared.span.Span.{Span}
use Rattle.cqlp_capture_exchanges.specs.CsvRecords.{last_text}
use Rattle.cqlp_text.proofs.Writing.{progress_starts}
use Rattle.cqlp_capture_exchanges.proofs.Texts.{said_last, said_next, said_stops}
use Rattle.cqlp_capture_exchanges.proofs.csv_record.put_exchange.Goals as goal

pub returns-in_err-put_place : goal.returns-in_err-put_place
returns-in_err-put_place g c =
    said_stops _ c.from_residual.result c.from_residual.ensures.0 (progress_starts _ _) refl refl c.in_err-put_place.ensures

pub returns-in_err-put_request : goal.returns-in_err-put_request
returns-in_err-put_request g c =
    let s1 = said_next _ (progress_starts _ _) refl refl c.in_ok-put_place.ensures in
    said_stops _ c.from_residual-in_err-put_request.result c.from_residual-in_err-put_request.ensures.0 s1 refl refl c.in_err-put_request.ensures

pub returns-in_err-put_response : goal.returns-in_err-put_response
returns-in_err-put_response g c =
    let s1 = said_next _ (progress_starts _ _) refl refl c.in_ok-put_place.ensures in
    let s2 = said_next _ s1 refl refl c.in_ok-put_request.ensures in
    said_stops _ c.from_residual-in_err-put_response.result c.from_residual-in_err-put_response.ensures.0 s2 refl refl c.in_err-put_response.ensures

pub returns : goal.returns
returns g c =
    let s1 = said_next _ (progress_starts _ _) refl refl c.in_ok-put_place.ensures in
    let s2 = said_next _ s1 refl refl c.in_ok-put_request.ensures in
    let s3 = said_next _ s2 refl refl c.in_ok-put_response.ensures in
    said_last _ _ c.put_last.result s3 refl (ap (λ (t : Option Span). last_text t None) c.took-took.ensures) c.put_last.ensures
