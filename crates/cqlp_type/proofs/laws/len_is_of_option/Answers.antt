use Rattle.cqlp_type.proofs.OptionLengths.{len_of_option}
use Rattle.cqlp_type.proofs.laws.len_is_of_option.Goals as goal

pub returns : goal.returns
returns c = len_of_option
