use Rattle.cqlp_build.proofs.Bounds.{bounds_refuse}
use Rattle.cqlp_build.proofs.laws.only_bounds_refuse.Goals as goal

pub returns : goal.returns
returns c = λ limits l at fs before after rs e new p b a n. bounds_refuse limits l at fs before after rs e new p b a n
