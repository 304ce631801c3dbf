use Rattle.std.proofs.Common.{◌%◌, ap, refl, w64, arith}
use Rattle.std.proofs.lemmas.Int.{to_z_pos}
use Rattle.cqlp_text.specs.CellText.{time_text}
use Rattle.cqlp_text.proofs.Writing.{progress_starts}
use Rattle.cqlp_capture_exchanges.proofs.Texts.{said_last, said_next, said_stops}
use Rattle.cqlp_capture_exchanges.proofs.member.put_utc.Goals as goal

pub returns-in_err-put : goal.returns-in_err-put
returns-in_err-put g c =
    said_stops _ c.from_residual.result c.from_residual.ensures.0 (progress_starts _ _) refl refl c.in_err-put.ensures

pub returns-in_err-put_date : goal.returns-in_err-put_date
returns-in_err-put_date g c =
    let s1 = said_next _ (progress_starts _ _) refl refl c.in_ok-put.ensures in
    said_stops _ c.from_residual-in_err-put_date.result c.from_residual-in_err-put_date.ensures.0 s1 refl refl c.in_err-put_date.ensures

pub returns-in_err-put-2 : goal.returns-in_err-put-2
returns-in_err-put-2 g c =
    let s1 = said_next _ (progress_starts _ _) refl refl c.in_ok-put.ensures in
    let s2 = said_next _ s1 refl refl c.in_ok-put_date.ensures in
    said_stops _ c.from_residual-in_err-put-2.result c.from_residual-in_err-put-2.ensures.0 s2 refl refl c.in_err-put-2.ensures

pub returns-in_err-put_time : goal.returns-in_err-put_time
returns-in_err-put_time g c =
    let s1 = said_next _ (progress_starts _ _) refl refl c.in_ok-put.ensures in
    let s2 = said_next _ s1 refl refl c.in_ok-put_date.ensures in
    let s3 = said_next _ s2 refl refl c.in_ok-put-2.ensures in
    said_stops _ c.from_residual-in_err-put_time.result c.from_residual-in_err-put_time.ensures.0 s3 refl (ap time_text (to_z_pos w64 (c.args.time % 86_400_000_000_000) (omega arith))) c.in_err-put_time.ensures

pub returns : goal.returns
returns g c =
    let s1 = said_next _ (progress_starts _ _) refl refl c.in_ok-put.ensures in
    let s2 = said_next _ s1 refl refl c.in_ok-put_date.ensures in
    let s3 = said_next _ s2 refl refl c.in_ok-put-2.ensures in
    let s4 = said_next _ s3 refl (ap time_text (to_z_pos w64 (c.args.time % 86_400_000_000_000) (omega arith))) c.in_ok-put_time.ensures in
    said_last _ _ c.put-3.result s4 refl refl c.put-3.ensures
