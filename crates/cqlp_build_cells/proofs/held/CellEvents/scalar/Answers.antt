use Rattle.std.proofs.Common.{◌≡◌, Bool, true}
use Rattle.cqlp_build_cells.proofs.Steps.{with_flag}
use Rattle.cqlp_build_cells.proofs.held.CellEvents.scalar.Goals as goal

pub returns-clause-is : goal.returns-clause-is
returns-clause-is c = with_flag (λ (b : Bool) (u : Unit {0}). b ≡ true) c.fits.ensures c.check.ensures.is
