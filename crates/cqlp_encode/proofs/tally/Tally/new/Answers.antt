use Rattle.std.proofs.Common.{refl}
use Rattle.cqlp_encode.proofs.Measured.{counts_none}
use Rattle.cqlp_encode.proofs.tally.Tally.new.Goals as goal

pub returns : goal.returns
returns c = counts_none _ _ refl refl refl refl refl
