use Rattle.std.proofs.Common.{refl}
use Rattle.cqlp_build.proofs.Steps.{made_of, ◌then◌}
use Rattle.cqlp_build.proofs.MessageParts.{query_view}
use Rattle.cqlp_message.specs.FrameValues.{Query}
use Rattle.cqlp_build.proofs.held.FrameEvents.query.Goals as goal

pub returns : goal.returns
returns c = made_of (c.text-text.ensures.is then c.params-params.ensures) _ _ (λ a. Query a.0 a.1) (λ a p. refl) (λ a p. record { opcode = refl; agrees = p.1; built = refl; cells = refl }) query_view
