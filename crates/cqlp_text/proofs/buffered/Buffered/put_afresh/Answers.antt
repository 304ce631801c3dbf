use Rattle.std.proofs.Common.{refl}
use Rattle.cqlp_text.proofs.Writing.{progress_starts, progress_goes_on, progress_stops, progress_writes}
use Rattle.cqlp_text.proofs.buffered.Buffered.put_afresh.Goals as goal

pub returns-in_err-flush : goal.returns-in_err-flush
returns-in_err-flush g c = progress_stops _ c.from_residual.result c.from_residual.ensures.0 (progress_starts _ _) refl c.in_err-flush.ensures.writes

pub returns : goal.returns
returns g c = progress_writes _ c.restart.result (progress_goes_on _ (progress_starts _ _) refl c.in_ok-flush.ensures.writes) c.restart.ensures
