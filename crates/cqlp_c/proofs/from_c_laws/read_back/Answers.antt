use Rattle.cqlp_c.proofs.ReadBack.{read_back}
use Rattle.cqlp_c.proofs.from_c_laws.read_back.Goals as goal

pub returns : goal.returns
returns c = λ e r w. read_back e r w
