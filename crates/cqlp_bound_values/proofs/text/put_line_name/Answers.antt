use Rattle.std.proofs.Common.{refl}
use Rattle.cqlp_text.proofs.Writing.{progress_starts}
use Rattle.cqlp_bound_values.proofs.Texts.{said_last, said_next, said_stops}
use Rattle.cqlp_bound_values.proofs.text.put_line_name.Goals as goal

pub returns-in_err-put_shown_text : goal.returns-in_err-put_shown_text
returns-in_err-put_shown_text g c =
    said_stops _ c.from_residual.result c.from_residual.ensures.0 (progress_starts _ _) refl refl c.in_err-put_shown_text.ensures

pub returns : goal.returns
returns g c =
    let s1 = said_next _ (progress_starts _ _) refl refl c.in_ok-put_shown_text.ensures in
    said_last _ _ c.put.result s1 refl refl c.put.ensures
