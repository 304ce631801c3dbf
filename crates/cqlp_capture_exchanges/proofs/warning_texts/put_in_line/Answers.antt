use Rattle.std.proofs.Common.{refl}
use Rattle.cqlp_text.proofs.Writing.{progress_starts}
use Rattle.cqlp_capture_exchanges.proofs.Texts.{said_last, said_next, said_stops}
use Rattle.cqlp_capture_exchanges.proofs.warning_texts.put_in_line.Goals as goal

pub returns-in_err-put : goal.returns-in_err-put
returns-in_err-put g c =
    said_stops _ c.from_residual.result c.from_residual.ensures.0 (progress_starts _ _) refl refl c.in_err-put.ensures

pub returns-in_err-put_shown_text : goal.returns-in_err-put_shown_text
returns-in_err-put_shown_text g c =
    let s1 = said_next _ (progress_starts _ _) refl refl c.in_ok-put.ensures in
    said_stops _ c.from_residual-in_err-put_shown_text.result c.from_residual-in_err-put_shown_text.ensures.0 s1 refl refl c.in_err-put_shown_text.ensures

pub returns : goal.returns
returns g c =
    let s1 = said_next _ (progress_starts _ _) refl refl c.in_ok-put.ensures in
    let s2 = said_next _ s1 refl refl c.in_ok-put_shown_text.ensures in
    said_last _ _ c.put_str.result s2 refl c.closing.ensures c.put_str.ensures
