use Rattle.cqlp_c.proofs.ReadBackAll.{all_back}
use Rattle.cqlp_c.proofs.from_c_laws.all_read_back.Goals as goal

pub returns : goal.returns
returns c = λ es cs n s others can are. all_back es cs n s others can are
