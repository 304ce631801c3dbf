use Rattle.cqlp_compose.proofs.Composed.{batches_are_composed, page_is_composed}
use Rattle.cqlp_compose.proofs.laws.page_is_composed.Goals as goal

pub returns-clause-pieces : goal.returns-clause-pieces
returns-clause-pieces c = page_is_composed

pub returns-clause-batches : goal.returns-clause-batches
returns-clause-batches c = batches_are_composed
