use Rattle.std.proofs.Common.{refl}
use Rattle.cqlp_text.proofs.Writing.{progress_starts}
use Rattle.cqlp_capture_summary.proofs.Texts.{said_last, said_next, said_stops}
use Rattle.cqlp_capture_summary.proofs.lines.put_header.Goals as goal

pub returns-in_err-put_str : goal.returns-in_err-put_str
returns-in_err-put_str g c =
    said_stops _ c.from_residual.result c.from_residual.ensures.0 (progress_starts _ _) refl refl c.in_err-put_str.ensures

pub returns-in_err-put_str-2 : goal.returns-in_err-put_str-2
returns-in_err-put_str-2 g c =
    let s1 = said_next _ (progress_starts _ _) refl refl c.in_ok-put_str.ensures in
    said_stops _ c.from_residual-in_err-put_str-2.result c.from_residual-in_err-put_str-2.ensures.0 s1 refl refl c.in_err-put_str-2.ensures

pub returns : goal.returns
returns g c =
    let s1 = said_next _ (progress_starts _ _) refl refl c.in_ok-put_str.ensures in
    let s2 = said_next _ s1 refl refl c.in_ok-put_str-2.ensures in
    said_last _ _ c.put.result s2 refl refl c.put.ensures
