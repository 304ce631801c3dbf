use Rattle.cqlp_build_cells.proofs.OneAnswers.{value_is_built}
use Rattle.cqlp_build_cells.proofs.laws.value_is_built.Goals as goal

pub returns : goal.returns
returns c = λ es t v r formed fits are h. value_is_built es t v r formed fits are h
