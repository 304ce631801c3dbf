use Rattle.std.proofs.Common.{refl}
use Rattle.cqlp_build.proofs.Steps.{made_of, ◌then◌}
use Rattle.cqlp_build.proofs.ResponseParts.{named_view}
use Rattle.cqlp_message.specs.FrameValues.{Named}
use Rattle.cqlp_build.proofs.held.FrameEvents.named.Goals as goal

pub returns : goal.returns
returns c = made_of (c.text-keyspace.ensures.is then c.text-name.ensures.is) _ _ (λ a. Named a.0 a.1) (λ a p. refl) (λ a p. refl) named_view
