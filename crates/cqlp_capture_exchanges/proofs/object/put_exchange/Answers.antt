use Rattle.std.proofs.Common.{ap, None, Option, refl}
use Rattle.cqlp_json.specs.Lines.{texts}
use Rattle.cqlp_capture_exchanges.specs.declared.span.Span.{Span}
use Rattle.cqlp_capture_exchanges.specs.Objects.{last_members}
use Rattle.cqlp_text.proofs.Writing.{progress_starts}
use Rattle.cqlp_capture_exchanges.proofs.Texts.{said_last, said_next, said_stops}
use Rattle.cqlp_capture_exchanges.proofs.object.put_exchange.Goals as goal

pub returns-in_err-put_place : goal.returns-in_err-put_place
returns-in_err-put_place g c =
    said_stops _ c.from_residual.result c.from_residual.ensures.0 (progress_starts _ _) refl refl c.in_err-put_place.ensures

pub returns-in_err-put_request : goal.returns-in_err-put_request
returns-in_err-put_request g c =
    let s1 = said_next _ (progress_starts _ _) refl refl c.in_ok-put_place.ensures in
    said_stops _ c.from_residual-in_err-put_request.result c.from_residual-in_err-put_request.ensures.0 s1 refl refl c.in_err-put_request.ensures

pub returns-in_err-put_response : goal.returns-in_err-put_response
returns-in_err-put_response g c =
    let s1 = said_next _ (progress_starts _ _) refl refl c.in_ok-put_place.ensures in
    let s2 = said_next _ s1 refl refl c.in_ok-put_request.ensures in
    said_stops _ c.from_residual-in_err-put_response.result c.from_residual-in_err-put_response.ensures.0 s2 refl refl c.in_err-put_response.ensures

pub returns-in_err-put_last : goal.returns-in_err-put_last
returns-in_err-put_last g c =
    let s1 = said_next _ (progress_starts _ _) refl refl c.in_ok-put_place.ensures in
    let s2 = said_next _ s1 refl refl c.in_ok-put_request.ensures in
    let s3 = said_next _ s2 refl refl c.in_ok-put_response.ensures in
    said_stops _ c.from_residual-in_err-put_last.result c.from_residual-in_err-put_last.ensures.0 s3 refl (ap (λ (t : Option Span). texts (last_members t None)) c.took.ensures) c.in_err-put_last.ensures

pub returns : goal.returns
returns g c =
    let s1 = said_next _ (progress_starts _ _) refl refl c.in_ok-put_place.ensures in
    let s2 = said_next _ s1 refl refl c.in_ok-put_request.ensures in
    let s3 = said_next _ s2 refl refl c.in_ok-put_response.ensures in
    let s4 = said_next _ s3 refl (ap (λ (t : Option Span). texts (last_members t None)) c.took.ensures) c.in_ok-put_last.ensures in
    said_last _ _ c.put.result s4 refl refl c.put.ensures
