use Rattle.cqlp_observer_facts.proofs.Pieces.{reads_pieces}
use Rattle.cqlp_observer_facts.proofs.laws.pieces.Goals as goal

pub returns : goal.returns
returns c = reads_pieces
