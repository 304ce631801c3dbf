use Rattle.std.proofs.Common.{refl}
use Rattle.cqlp_build.proofs.Optional.{all_true}
use Rattle.cqlp_build.proofs.ResponseParts.{asked}
use Rattle.cqlp_build.proofs.held.FrameEvents.batch_values.Goals as goal

pub returns : goal.returns
returns c = asked (λ x p. refl) (λ x q. all_true x) c.counted.ensures
