use Rattle.std.proofs.Common.{refl}
use Rattle.cqlp_text.proofs.Writing.{progress_starts}
use Rattle.cqlp_capture_exchanges.proofs.Texts.{said_last, said_next, said_stops}
use Rattle.cqlp_capture_exchanges.proofs.capturing.put_sums.Goals as goal

pub returns-in_err-put : goal.returns-in_err-put
returns-in_err-put g c =
    said_stops _ c.from_residual.result c.from_residual.ensures.0 (progress_starts _ _) refl refl c.in_err-put.ensures

pub returns-in_err-put_number : goal.returns-in_err-put_number
returns-in_err-put_number g c =
    let s1 = said_next _ (progress_starts _ _) refl refl c.in_ok-put.ensures in
    said_stops _ c.from_residual-in_err-put_number.result c.from_residual-in_err-put_number.ensures.0 s1 refl refl c.in_err-put_number.ensures

pub returns-in_err-put-2 : goal.returns-in_err-put-2
returns-in_err-put-2 g c =
    let s1 = said_next _ (progress_starts _ _) refl refl c.in_ok-put.ensures in
    let s2 = said_next _ s1 refl refl c.in_ok-put_number.ensures in
    said_stops _ c.from_residual-in_err-put-2.result c.from_residual-in_err-put-2.ensures.0 s2 refl refl c.in_err-put-2.ensures

pub returns-in_err-put_number-2 : goal.returns-in_err-put_number-2
returns-in_err-put_number-2 g c =
    let s1 = said_next _ (progress_starts _ _) refl refl c.in_ok-put.ensures in
    let s2 = said_next _ s1 refl refl c.in_ok-put_number.ensures in
    let s3 = said_next _ s2 refl refl c.in_ok-put-2.ensures in
    said_stops _ c.from_residual-in_err-put_number-2.result c.from_residual-in_err-put_number-2.ensures.0 s3 refl refl c.in_err-put_number-2.ensures

pub returns-in_err-put-3 : goal.returns-in_err-put-3
returns-in_err-put-3 g c =
    let s1 = said_next _ (progress_starts _ _) refl refl c.in_ok-put.ensures in
    let s2 = said_next _ s1 refl refl c.in_ok-put_number.ensures in
    let s3 = said_next _ s2 refl refl c.in_ok-put-2.ensures in
    let s4 = said_next _ s3 refl refl c.in_ok-put_number-2.ensures in
    said_stops _ c.from_residual-in_err-put-3.result c.from_residual-in_err-put-3.ensures.0 s4 refl refl c.in_err-put-3.ensures

pub returns-in_err-put_number-3 : goal.returns-in_err-put_number-3
returns-in_err-put_number-3 g c =
    let s1 = said_next _ (progress_starts _ _) refl refl c.in_ok-put.ensures in
    let s2 = said_next _ s1 refl refl c.in_ok-put_number.ensures in
    let s3 = said_next _ s2 refl refl c.in_ok-put-2.ensures in
    let s4 = said_next _ s3 refl refl c.in_ok-put_number-2.ensures in
    let s5 = said_next _ s4 refl refl c.in_ok-put-3.ensures in
    said_stops _ c.from_residual-in_err-put_number-3.result c.from_residual-in_err-put_number-3.ensures.0 s5 refl refl c.in_err-put_number-3.ensures

pub returns-in_err-put-4 : goal.returns-in_err-put-4
returns-in_err-put-4 g c =
    let s1 = said_next _ (progress_starts _ _) refl refl c.in_ok-put.ensures in
    let s2 = said_next _ s1 refl refl c.in_ok-put_number.ensures in
    let s3 = said_next _ s2 refl refl c.in_ok-put-2.ensures in
    let s4 = said_next _ s3 refl refl c.in_ok-put_number-2.ensures in
    let s5 = said_next _ s4 refl refl c.in_ok-put-3.ensures in
    let s6 = said_next _ s5 refl refl c.in_ok-put_number-3.ensures in
    said_stops _ c.from_residual-in_err-put-4.result c.from_residual-in_err-put-4.ensures.0 s6 refl refl c.in_err-put-4.ensures

pub returns-in_err-put_number-4 : goal.returns-in_err-put_number-4
returns-in_err-put_number-4 g c =
    let s1 = said_next _ (progress_starts _ _) refl refl c.in_ok-put.ensures in
    let s2 = said_next _ s1 refl refl c.in_ok-put_number.ensures in
    let s3 = said_next _ s2 refl refl c.in_ok-put-2.ensures in
    let s4 = said_next _ s3 refl refl c.in_ok-put_number-2.ensures in
    let s5 = said_next _ s4 refl refl c.in_ok-put-3.ensures in
    let s6 = said_next _ s5 refl refl c.in_ok-put_number-3.ensures in
    let s7 = said_next _ s6 refl refl c.in_ok-put-4.ensures in
    said_stops _ c.from_residual-in_err-put_number-4.result c.from_residual-in_err-put_number-4.ensures.0 s7 refl refl c.in_err-put_number-4.ensures

pub returns-in_err-put-5 : goal.returns-in_err-put-5
returns-in_err-put-5 g c =
    let s1 = said_next _ (progress_starts _ _) refl refl c.in_ok-put.ensures in
    let s2 = said_next _ s1 refl refl c.in_ok-put_number.ensures in
    let s3 = said_next _ s2 refl refl c.in_ok-put-2.ensures in
    let s4 = said_next _ s3 refl refl c.in_ok-put_number-2.ensures in
    let s5 = said_next _ s4 refl refl c.in_ok-put-3.ensures in
    let s6 = said_next _ s5 refl refl c.in_ok-put_number-3.ensures in
    let s7 = said_next _ s6 refl refl c.in_ok-put-4.ensures in
    let s8 = said_next _ s7 refl refl c.in_ok-put_number-4.ensures in
    said_stops _ c.from_residual-in_err-put-5.result c.from_residual-in_err-put-5.ensures.0 s8 refl refl c.in_err-put-5.ensures

pub returns : goal.returns
returns g c =
    let s1 = said_next _ (progress_starts _ _) refl refl c.in_ok-put.ensures in
    let s2 = said_next _ s1 refl refl c.in_ok-put_number.ensures in
    let s3 = said_next _ s2 refl refl c.in_ok-put-2.ensures in
    let s4 = said_next _ s3 refl refl c.in_ok-put_number-2.ensures in
    let s5 = said_next _ s4 refl refl c.in_ok-put-3.ensures in
    let s6 = said_next _ s5 refl refl c.in_ok-put_number-3.ensures in
    let s7 = said_next _ s6 refl refl c.in_ok-put-4.ensures in
    let s8 = said_next _ s7 refl refl c.in_ok-put_number-4.ensures in
    let s9 = said_next _ s8 refl refl c.in_ok-put-5.ensures in
    said_last _ _ c.put_number-5.result s9 refl refl c.put_number-5.ensures
