use Rattle.std.proofs.Common.{ap, refl}
use Rattle.cqlp_bound_values.specs.Texts.{line_scalar}
use Rattle.cqlp_text.proofs.Writing.{progress_starts}
use Rattle.cqlp_bound_values.proofs.Texts.{said_last, said_next, said_stops}
use Rattle.cqlp_bound_values.proofs.text.put_content.Goals as goal

pub returns-in_err-put_line_scalar : goal.returns-in_err-put_line_scalar
returns-in_err-put_line_scalar g c =
    said_stops _ c.from_residual.result c.from_residual.ensures.0 (progress_starts _ _) refl (ap line_scalar c.shown_scalar.ensures) c.in_err-put_line_scalar.ensures

pub returns : goal.returns
returns g c =
    let s1 = said_next _ (progress_starts _ _) refl (ap line_scalar c.shown_scalar.ensures) c.in_ok-put_line_scalar.ensures in
    said_last _ _ c.put_str.result s1 refl c.more.ensures c.put_str.ensures
