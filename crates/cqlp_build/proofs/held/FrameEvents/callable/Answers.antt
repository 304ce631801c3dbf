use Rattle.std.proofs.Common.{refl}
use Rattle.cqlp_build.proofs.Steps.{made_of, ◌then◌}
use Rattle.cqlp_build.proofs.ResponseParts.{callable_view}
use Rattle.cqlp_message.specs.FrameValues.{Callable}
use Rattle.cqlp_build.proofs.held.FrameEvents.callable.Goals as goal

pub returns : goal.returns
returns c = made_of (c.text-keyspace.ensures.is then c.text-name.ensures.is then c.texts-arguments.ensures) _ _ (λ a. Callable a.0.0 a.0.1 a.1) (λ a p. refl) (λ a p. refl) callable_view
