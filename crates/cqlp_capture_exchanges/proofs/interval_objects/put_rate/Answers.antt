use Rattle.std.proofs.Common.{◌*◌, ◌/◌, ◌%◌, ap, decimal, refl}
use Rattle.cqlp_text.specs.CellText.{digits}
use Rattle.cqlp_text.proofs.Writing.{progress_starts}
use Rattle.cqlp_capture_exchanges.proofs.Texts.{said_last, said_next, said_stops}
use Rattle.cqlp_capture_exchanges.proofs.interval_objects.put_rate.Goals as goal

pub returns-in_err-put : goal.returns-in_err-put
returns-in_err-put g c =
    said_stops _ c.from_residual.result c.from_residual.ensures.0 (progress_starts _ _) refl refl c.in_err-put.ensures

pub returns-in_err-put_number : goal.returns-in_err-put_number
returns-in_err-put_number g c =
    let s1 = said_next _ (progress_starts _ _) refl refl c.in_ok-put.ensures in
    said_stops _ c.from_residual-in_err-put_number.result c.from_residual-in_err-put_number.ensures.0 s1 refl (ap (λ w. decimal (c.args.count / w)) c.width_of-width.ensures.width) c.in_err-put_number.ensures

pub returns-in_err-put-2 : goal.returns-in_err-put-2
returns-in_err-put-2 g c =
    let s1 = said_next _ (progress_starts _ _) refl refl c.in_ok-put.ensures in
    let s2 = said_next _ s1 refl (ap (λ w. decimal (c.args.count / w)) c.width_of-width.ensures.width) c.in_ok-put_number.ensures in
    said_stops _ c.from_residual-in_err-put-2.result c.from_residual-in_err-put-2.ensures.0 s2 refl refl c.in_err-put-2.ensures

pub returns : goal.returns
returns g c =
    let s1 = said_next _ (progress_starts _ _) refl refl c.in_ok-put.ensures in
    let s2 = said_next _ s1 refl (ap (λ w. decimal (c.args.count / w)) c.width_of-width.ensures.width) c.in_ok-put_number.ensures in
    let s3 = said_next _ s2 refl refl c.in_ok-put-2.ensures in
    said_last _ _ c.put_digits.result s3 refl (ap (λ w. digits 3 (c.args.count % w * 1_000 / w)) c.width_of-width.ensures.width) c.put_digits.ensures
