use Rattle.cqlp_session.proofs.PairedValues.{values_paired}
use Rattle.cqlp_session.proofs.laws.pairing_of_values.Goals as goal

pub returns : goal.returns
returns g c = values_paired _ _
