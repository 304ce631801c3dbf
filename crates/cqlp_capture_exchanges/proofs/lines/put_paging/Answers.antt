use Rattle.std.proofs.Common.{refl}
use Rattle.cqlp_text.proofs.Writing.{progress_starts}
use Rattle.cqlp_capture_exchanges.proofs.Texts.{said_last, said_next, said_stops}
use Rattle.cqlp_capture_exchanges.proofs.lines.put_paging.Goals as goal

pub returns-in_err-put_page_size : goal.returns-in_err-put_page_size
returns-in_err-put_page_size g c =
    said_stops _ c.from_residual.result c.from_residual.ensures.0 (progress_starts _ _) refl refl c.in_err-put_page_size.ensures

pub returns : goal.returns
returns g c =
    let s1 = said_next _ (progress_starts _ _) refl refl c.in_ok-put_page_size.ensures in
    said_last _ _ c.put_str.result s1 refl c.next_mark.ensures c.put_str.ensures
