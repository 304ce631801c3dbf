use Rattle.cqlp_type.proofs.TableLaws.{whole_children, open_children}
use Rattle.cqlp_type.proofs.laws.children_are_inner_types.Goals as goal

pub returns-clause-whole : goal.returns-clause-whole
returns-clause-whole c = whole_children

pub returns-clause-under_way : goal.returns-clause-under_way
returns-clause-under_way c = open_children
