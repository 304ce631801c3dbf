use Rattle.std.proofs.Common.{refl}
use Rattle.cqlp_build.proofs.Steps.{made_of, ◌then◌}
use Rattle.cqlp_build.proofs.MessageParts.{execute_view}
use Rattle.cqlp_message.specs.FrameValues.{Execute}
use Rattle.cqlp_build.proofs.held.FrameEvents.execute.Goals as goal

pub returns : goal.returns
returns c = made_of (c.statement-id.ensures then c.params-params.ensures) _ _ (λ a. Execute a.0 a.1) (λ a p. refl) (λ a p. record { opcode = refl; agrees = p.1; built = refl; cells = refl }) execute_view
