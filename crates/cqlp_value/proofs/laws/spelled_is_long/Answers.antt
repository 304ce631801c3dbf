use Rattle.cqlp_kind.specs.Types.{NoMore, Type_and}
use Rattle.cqlp_value.proofs.ReadBack.{spelled_size}
use Rattle.cqlp_value.proofs.laws.spelled_is_long.Goals as goal

pub returns : goal.returns
returns c = λ k inner v b. spelled_size (Type_and k inner NoMore) v b
