use Rattle.std.proofs.Common.{refl}
use Rattle.cqlp_text.proofs.Writing.{progress_starts}
use Rattle.cqlp_capture_exchanges.proofs.Texts.{said_last, said_next, said_stops}
use Rattle.cqlp_capture_exchanges.proofs.losses.put_losses.Goals as goal

pub returns-in_err-put_count : goal.returns-in_err-put_count
returns-in_err-put_count g c =
    said_stops _ c.from_residual.result c.from_residual.ensures.0 (progress_starts _ _) refl refl c.in_err-put_count.ensures

pub returns-in_err-put_count-2 : goal.returns-in_err-put_count-2
returns-in_err-put_count-2 g c =
    let s1 = said_next _ (progress_starts _ _) refl refl c.in_ok-put_count.ensures in
    said_stops _ c.from_residual-in_err-put_count-2.result c.from_residual-in_err-put_count-2.ensures.0 s1 refl refl c.in_err-put_count-2.ensures

pub returns-in_err-put_count-3 : goal.returns-in_err-put_count-3
returns-in_err-put_count-3 g c =
    let s1 = said_next _ (progress_starts _ _) refl refl c.in_ok-put_count.ensures in
    let s2 = said_next _ s1 refl refl c.in_ok-put_count-2.ensures in
    said_stops _ c.from_residual-in_err-put_count-3.result c.from_residual-in_err-put_count-3.ensures.0 s2 refl refl c.in_err-put_count-3.ensures

pub returns-in_err-put_count-4 : goal.returns-in_err-put_count-4
returns-in_err-put_count-4 g c =
    let s1 = said_next _ (progress_starts _ _) refl refl c.in_ok-put_count.ensures in
    let s2 = said_next _ s1 refl refl c.in_ok-put_count-2.ensures in
    let s3 = said_next _ s2 refl refl c.in_ok-put_count-3.ensures in
    said_stops _ c.from_residual-in_err-put_count-4.result c.from_residual-in_err-put_count-4.ensures.0 s3 refl refl c.in_err-put_count-4.ensures

pub returns-in_err-put_count-5 : goal.returns-in_err-put_count-5
returns-in_err-put_count-5 g c =
    let s1 = said_next _ (progress_starts _ _) refl refl c.in_ok-put_count.ensures in
    let s2 = said_next _ s1 refl refl c.in_ok-put_count-2.ensures in
    let s3 = said_next _ s2 refl refl c.in_ok-put_count-3.ensures in
    let s4 = said_next _ s3 refl refl c.in_ok-put_count-4.ensures in
    said_stops _ c.from_residual-in_err-put_count-5.result c.from_residual-in_err-put_count-5.ensures.0 s4 refl refl c.in_err-put_count-5.ensures

pub returns : goal.returns
returns g c =
    let s1 = said_next _ (progress_starts _ _) refl refl c.in_ok-put_count.ensures in
    let s2 = said_next _ s1 refl refl c.in_ok-put_count-2.ensures in
    let s3 = said_next _ s2 refl refl c.in_ok-put_count-3.ensures in
    let s4 = said_next _ s3 refl refl c.in_ok-put_count-4.ensures in
    let s5 = said_next _ s4 refl refl c.in_ok-put_count-5.ensures in
    said_last _ _ c.put_count-6.result s5 refl refl c.put_count-6.ensures
