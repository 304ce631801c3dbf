use Rattle.std.proofs.Common.{refl}
use Rattle.cqlp_build.proofs.Steps.{made_of}
use Rattle.cqlp_build.proofs.MessageParts.{prepare_view}
use Rattle.cqlp_message.specs.FrameValues.{Prepare}
use Rattle.cqlp_build.proofs.held.FrameEvents.prepare.Goals as goal

pub returns : goal.returns
returns c = made_of c.text.ensures.is _ _ (λ a. Prepare a) (λ a p. refl) (λ a p. record { opcode = refl; agrees = refl; built = refl; cells = refl }) prepare_view
