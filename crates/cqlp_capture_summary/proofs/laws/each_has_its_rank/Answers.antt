use Rattle.cqlp_capture_summary.proofs.Orders.{dearer_comes_first, each_has_its_rank, first_comes_first}
use Rattle.cqlp_capture_summary.proofs.laws.each_has_its_rank.Goals as goal

pub returns-clause-within : goal.returns-clause-within
returns-clause-within c = each_has_its_rank

pub returns-clause-dearer : goal.returns-clause-dearer
returns-clause-dearer c = dearer_comes_first

pub returns-clause-first : goal.returns-clause-first
returns-clause-first c = first_comes_first
