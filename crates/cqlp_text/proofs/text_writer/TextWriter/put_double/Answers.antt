use Rattle.std.proofs.Common.{refl}
use Rattle.cqlp_text.proofs.Writing.{progress_starts, progress_stops}
use Rattle.cqlp_text.proofs.text_writer.TextWriter.put_double.Goals as goal

pub returns-in_err-put : goal.returns-in_err-put
returns-in_err-put g c = progress_stops _ c.from_residual.result c.from_residual.ensures.0 (progress_starts _ _) refl c.in_err-put.ensures
