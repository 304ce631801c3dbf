use Rattle.std.proofs.Common.{refl}
use Rattle.cqlp_build.proofs.Steps.{made_of, ◌then◌}
use Rattle.cqlp_build.proofs.ResponseParts.{function_failure_view}
use Rattle.cqlp_message.specs.FrameValues.{FunctionFailure}
use Rattle.cqlp_build.proofs.held.FrameEvents.function_failure.Goals as goal

pub returns : goal.returns
returns c = made_of (c.text-keyspace.ensures.is then c.text-name.ensures.is then c.texts-arguments.ensures) _ _ (λ a. FunctionFailure a.0.0 a.0.1 a.1) (λ a p. refl) (λ a p. refl) function_failure_view
