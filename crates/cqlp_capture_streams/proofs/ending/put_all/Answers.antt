use Rattle.std.proofs.Common.{refl}
use Rattle.cqlp_text.proofs.Writing.{progress_starts, progress_writes}
use Rattle.cqlp_capture_streams.proofs.Parts.{part_stops, part_taken}
use Rattle.cqlp_capture_streams.proofs.ending.put_all.Goals as goal

pub returns-in_err-put_busiest : goal.returns-in_err-put_busiest
returns-in_err-put_busiest g c =
    part_stops _ c.from_residual.result c.from_residual.ensures.0 (progress_starts _ _) refl refl c.in_err-put_busiest.ensures

pub returns : goal.returns
returns g c =
    let s1 = part_taken _ (progress_starts _ _) refl refl c.in_ok-put_busiest.ensures in
    progress_writes _ c.put_noted.result s1 c.put_noted.ensures
