use Rattle.std.proofs.Common.{refl}
use Rattle.cqlp_text.proofs.Writing.{progress_starts}
use Rattle.cqlp_capture_exchanges.proofs.Texts.{said_last, said_next, said_stops}
use Rattle.cqlp_capture_exchanges.proofs.lines.put_unread.Goals as goal

pub returns-in_err-put_begun : goal.returns-in_err-put_begun
returns-in_err-put_begun g c =
    said_stops _ c.from_residual.result c.from_residual.ensures.0 (progress_starts _ _) refl refl c.in_err-put_begun.ensures

pub returns-in_err-put : goal.returns-in_err-put
returns-in_err-put g c =
    let s1 = said_next _ (progress_starts _ _) refl refl c.in_ok-put_begun.ensures in
    said_stops _ c.from_residual-in_err-put.result c.from_residual-in_err-put.ensures.0 s1 refl refl c.in_err-put.ensures

pub returns-in_err-put_number : goal.returns-in_err-put_number
returns-in_err-put_number g c =
    let s1 = said_next _ (progress_starts _ _) refl refl c.in_ok-put_begun.ensures in
    let s2 = said_next _ s1 refl refl c.in_ok-put.ensures in
    said_stops _ c.from_residual-in_err-put_number.result c.from_residual-in_err-put_number.ensures.0 s2 refl refl c.in_err-put_number.ensures

pub returns-in_err-put_ends : goal.returns-in_err-put_ends
returns-in_err-put_ends g c =
    let s1 = said_next _ (progress_starts _ _) refl refl c.in_ok-put_begun.ensures in
    let s2 = said_next _ s1 refl refl c.in_ok-put.ensures in
    let s3 = said_next _ s2 refl refl c.in_ok-put_number.ensures in
    said_stops _ c.from_residual-in_err-put_ends.result c.from_residual-in_err-put_ends.ensures.0 s3 refl refl c.in_err-put_ends.ensures

pub returns-in_err-put-2 : goal.returns-in_err-put-2
returns-in_err-put-2 g c =
    let s1 = said_next _ (progress_starts _ _) refl refl c.in_ok-put_begun.ensures in
    let s2 = said_next _ s1 refl refl c.in_ok-put.ensures in
    let s3 = said_next _ s2 refl refl c.in_ok-put_number.ensures in
    let s4 = said_next _ s3 refl refl c.in_ok-put_ends.ensures in
    said_stops _ c.from_residual-in_err-put-2.result c.from_residual-in_err-put-2.ensures.0 s4 refl refl c.in_err-put-2.ensures

pub returns-in_err-put_opening : goal.returns-in_err-put_opening
returns-in_err-put_opening g c =
    let s1 = said_next _ (progress_starts _ _) refl refl c.in_ok-put_begun.ensures in
    let s2 = said_next _ s1 refl refl c.in_ok-put.ensures in
    let s3 = said_next _ s2 refl refl c.in_ok-put_number.ensures in
    let s4 = said_next _ s3 refl refl c.in_ok-put_ends.ensures in
    let s5 = said_next _ s4 refl refl c.in_ok-put-2.ensures in
    said_stops _ c.from_residual-in_err-put_opening.result c.from_residual-in_err-put_opening.ensures.0 s5 refl refl c.in_err-put_opening.ensures

pub returns : goal.returns
returns g c =
    let s1 = said_next _ (progress_starts _ _) refl refl c.in_ok-put_begun.ensures in
    let s2 = said_next _ s1 refl refl c.in_ok-put.ensures in
    let s3 = said_next _ s2 refl refl c.in_ok-put_number.ensures in
    let s4 = said_next _ s3 refl refl c.in_ok-put_ends.ensures in
    let s5 = said_next _ s4 refl refl c.in_ok-put-2.ensures in
    let s6 = said_next _ s5 refl refl c.in_ok-put_opening.ensures in
    said_last _ _ c.put-3.result s6 refl refl c.put-3.ensures
