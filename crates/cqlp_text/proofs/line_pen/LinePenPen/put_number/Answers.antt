use Rattle.std.proofs.Common.{refl}
use Rattle.cqlp_text.proofs.Writing.{keeps_then, progress_starts, progress_stops}
use Rattle.cqlp_text.proofs.line_pen.LinePenPen.put_number.Goals as goal

pub returns-in_err-make_room : goal.returns-in_err-make_room
returns-in_err-make_room g c = progress_stops _ c.from_residual.result c.from_residual.ensures.0 (progress_starts _ _) refl c.in_err-make_room.ensures.writes

pub returns : goal.returns
returns g c = keeps_then _ _ _ _ c.in_ok-make_room.ensures.writes c.keep_number.ensures
