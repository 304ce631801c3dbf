use Rattle.std.proofs.Common.{refl}
use Rattle.cqlp_text.proofs.Writing.{progress_starts}
use Rattle.cqlp_capture_exchanges.proofs.Texts.{said_last, said_next, said_stops}
use Rattle.cqlp_capture_exchanges.proofs.utc.put_date_and_time.Goals as goal

pub returns-in_err-put_date : goal.returns-in_err-put_date
returns-in_err-put_date g c =
    said_stops _ c.from_residual.result c.from_residual.ensures.0 (progress_starts _ _) refl refl c.in_err-put_date.ensures

pub returns-in_err-put : goal.returns-in_err-put
returns-in_err-put g c =
    let s1 = said_next _ (progress_starts _ _) refl refl c.in_ok-put_date.ensures in
    said_stops _ c.from_residual-in_err-put.result c.from_residual-in_err-put.ensures.0 s1 refl refl c.in_err-put.ensures

pub returns-in_err-put_clock : goal.returns-in_err-put_clock
returns-in_err-put_clock g c =
    let s1 = said_next _ (progress_starts _ _) refl refl c.in_ok-put_date.ensures in
    let s2 = said_next _ s1 refl refl c.in_ok-put.ensures in
    said_stops _ c.from_residual-in_err-put_clock.result c.from_residual-in_err-put_clock.ensures.0 s2 refl refl c.in_err-put_clock.ensures

pub returns-in_err-put-2 : goal.returns-in_err-put-2
returns-in_err-put-2 g c =
    let s1 = said_next _ (progress_starts _ _) refl refl c.in_ok-put_date.ensures in
    let s2 = said_next _ s1 refl refl c.in_ok-put.ensures in
    let s3 = said_next _ s2 refl refl c.in_ok-put_clock.ensures in
    said_stops _ c.from_residual-in_err-put-2.result c.from_residual-in_err-put-2.ensures.0 s3 refl refl c.in_err-put-2.ensures

pub returns-in_err-put_fraction : goal.returns-in_err-put_fraction
returns-in_err-put_fraction g c =
    let s1 = said_next _ (progress_starts _ _) refl refl c.in_ok-put_date.ensures in
    let s2 = said_next _ s1 refl refl c.in_ok-put.ensures in
    let s3 = said_next _ s2 refl refl c.in_ok-put_clock.ensures in
    let s4 = said_next _ s3 refl refl c.in_ok-put-2.ensures in
    said_stops _ c.from_residual-in_err-put_fraction.result c.from_residual-in_err-put_fraction.ensures.0 s4 refl refl c.in_err-put_fraction.ensures

pub returns : goal.returns
returns g c =
    let s1 = said_next _ (progress_starts _ _) refl refl c.in_ok-put_date.ensures in
    let s2 = said_next _ s1 refl refl c.in_ok-put.ensures in
    let s3 = said_next _ s2 refl refl c.in_ok-put_clock.ensures in
    let s4 = said_next _ s3 refl refl c.in_ok-put-2.ensures in
    let s5 = said_next _ s4 refl refl c.in_ok-put_fraction.ensures in
    said_last _ _ c.put-3.result s5 refl refl c.put-3.ensures
