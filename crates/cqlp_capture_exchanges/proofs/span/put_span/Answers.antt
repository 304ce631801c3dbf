use Rattle.std.proofs.Common.{◌/◌, ◌%◌, ap, decimal, refl}
use Rattle.cqlp_capture_exchanges.specs.Times.{fraction}
use Rattle.cqlp_text.proofs.Writing.{progress_starts}
use Rattle.cqlp_capture_exchanges.proofs.Texts.{said_last, said_next, said_stops}
use Rattle.cqlp_capture_exchanges.proofs.span.put_span.Goals as goal

pub returns-in_err-put_str : goal.returns-in_err-put_str
returns-in_err-put_str g c =
    said_stops _ c.from_residual.result c.from_residual.ensures.0 (progress_starts _ _) refl c.sign.ensures c.in_err-put_str.ensures

pub returns-in_err-put_number : goal.returns-in_err-put_number
returns-in_err-put_number g c =
    let s1 = said_next _ (progress_starts _ _) refl c.sign.ensures c.in_ok-put_str.ensures in
    said_stops _ c.from_residual-in_err-put_number.result c.from_residual-in_err-put_number.ensures.0 s1 refl (ap (λ z. decimal (c.args.span.nanoseconds / z)) c.nanoseconds.ensures) c.in_err-put_number.ensures

pub returns-in_err-put : goal.returns-in_err-put
returns-in_err-put g c =
    let s1 = said_next _ (progress_starts _ _) refl c.sign.ensures c.in_ok-put_str.ensures in
    let s2 = said_next _ s1 refl (ap (λ z. decimal (c.args.span.nanoseconds / z)) c.nanoseconds.ensures) c.in_ok-put_number.ensures in
    said_stops _ c.from_residual-in_err-put.result c.from_residual-in_err-put.ensures.0 s2 refl refl c.in_err-put.ensures

pub returns : goal.returns
returns g c =
    let s1 = said_next _ (progress_starts _ _) refl c.sign.ensures c.in_ok-put_str.ensures in
    let s2 = said_next _ s1 refl (ap (λ z. decimal (c.args.span.nanoseconds / z)) c.nanoseconds.ensures) c.in_ok-put_number.ensures in
    let s3 = said_next _ s2 refl refl c.in_ok-put.ensures in
    said_last _ _ c.put_fraction.result s3 refl (λ i. fraction (c.places.ensures.is i) (c.args.span.nanoseconds % c.nanoseconds-2.ensures i)) c.put_fraction.ensures
