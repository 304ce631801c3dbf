use Rattle.cqlp_c.proofs.HandedBack.{handed_back}
use Rattle.cqlp_c.proofs.from_c_laws.handed_back_is_read.Goals as goal

pub returns : goal.returns
returns c = λ h fields extra cs bytes i can are x. handed_back h fields extra cs bytes i can are x
