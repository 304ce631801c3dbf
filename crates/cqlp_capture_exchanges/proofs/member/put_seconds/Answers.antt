use Rattle.std.proofs.Common.{refl}
use Rattle.cqlp_text.proofs.Writing.{progress_starts}
use Rattle.cqlp_capture_exchanges.proofs.Texts.{said_last, said_next, said_stops}
use Rattle.cqlp_capture_exchanges.proofs.member.put_seconds.Goals as goal

pub returns-in_err-put_str : goal.returns-in_err-put_str
returns-in_err-put_str g c =
    said_stops _ c.from_residual.result c.from_residual.ensures.0 (progress_starts _ _) refl c.quote.ensures c.in_err-put_str.ensures

pub returns-in_err-put_str-2 : goal.returns-in_err-put_str-2
returns-in_err-put_str-2 g c =
    let s1 = said_next _ (progress_starts _ _) refl c.quote.ensures c.in_ok-put_str.ensures in
    said_stops _ c.from_residual-in_err-put_str-2.result c.from_residual-in_err-put_str-2.ensures.0 s1 refl c.sign.ensures c.in_err-put_str-2.ensures

pub returns-in_err-put_number : goal.returns-in_err-put_number
returns-in_err-put_number g c =
    let s1 = said_next _ (progress_starts _ _) refl c.quote.ensures c.in_ok-put_str.ensures in
    let s2 = said_next _ s1 refl c.sign.ensures c.in_ok-put_str-2.ensures in
    said_stops _ c.from_residual-in_err-put_number.result c.from_residual-in_err-put_number.ensures.0 s2 refl refl c.in_err-put_number.ensures

pub returns-in_err-put : goal.returns-in_err-put
returns-in_err-put g c =
    let s1 = said_next _ (progress_starts _ _) refl c.quote.ensures c.in_ok-put_str.ensures in
    let s2 = said_next _ s1 refl c.sign.ensures c.in_ok-put_str-2.ensures in
    let s3 = said_next _ s2 refl refl c.in_ok-put_number.ensures in
    said_stops _ c.from_residual-in_err-put.result c.from_residual-in_err-put.ensures.0 s3 refl refl c.in_err-put.ensures

pub returns-in_err-put_digits : goal.returns-in_err-put_digits
returns-in_err-put_digits g c =
    let s1 = said_next _ (progress_starts _ _) refl c.quote.ensures c.in_ok-put_str.ensures in
    let s2 = said_next _ s1 refl c.sign.ensures c.in_ok-put_str-2.ensures in
    let s3 = said_next _ s2 refl refl c.in_ok-put_number.ensures in
    let s4 = said_next _ s3 refl refl c.in_ok-put.ensures in
    said_stops _ c.from_residual-in_err-put_digits.result c.from_residual-in_err-put_digits.ensures.0 s4 refl refl c.in_err-put_digits.ensures

pub returns : goal.returns
returns g c =
    let s1 = said_next _ (progress_starts _ _) refl c.quote.ensures c.in_ok-put_str.ensures in
    let s2 = said_next _ s1 refl c.sign.ensures c.in_ok-put_str-2.ensures in
    let s3 = said_next _ s2 refl refl c.in_ok-put_number.ensures in
    let s4 = said_next _ s3 refl refl c.in_ok-put.ensures in
    let s5 = said_next _ s4 refl refl c.in_ok-put_digits.ensures in
    said_last _ _ c.put_str-3.result s5 refl c.quote-2.ensures c.put_str-3.ensures
