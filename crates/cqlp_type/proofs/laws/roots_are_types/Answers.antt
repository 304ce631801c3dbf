use Rattle.cqlp_type.proofs.TableLaws.{roots_begin, roots_count}
use Rattle.cqlp_type.proofs.laws.roots_are_types.Goals as goal

pub returns-clause-whole : goal.returns-clause-whole
returns-clause-whole c = λ ts number ns. (roots_begin ts number ns, roots_count ts number)
