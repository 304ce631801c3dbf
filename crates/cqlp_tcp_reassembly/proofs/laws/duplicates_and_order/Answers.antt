use Rattle.cqlp_tcp_reassembly.proofs.Alike.{either_order, hands_same, in_parts, with_duplicates}
use Rattle.cqlp_tcp_reassembly.proofs.laws.duplicates_and_order.Goals as goal

pub returns-clause-duplicates : goal.returns-clause-duplicates
returns-clause-duplicates c = with_duplicates

pub returns-clause-order : goal.returns-clause-order
returns-clause-order c = either_order

pub returns-clause-parts : goal.returns-clause-parts
returns-clause-parts c = in_parts

pub returns-clause-hands : goal.returns-clause-hands
returns-clause-hands c = hands_same
