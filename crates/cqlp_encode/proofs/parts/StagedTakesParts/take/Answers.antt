use Rattle.cqlp_encode.proofs.PartsTaken.{part_taken}
use Rattle.cqlp_encode.proofs.parts.StagedTakesParts.take.Goals as goal

pub returns : goal.returns
returns g c = part_taken _ _ _ c.put_part.ensures.size c.put_part.ensures.puts
