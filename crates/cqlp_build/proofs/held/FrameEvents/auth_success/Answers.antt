use Rattle.std.proofs.Common.{refl}
use Rattle.cqlp_build.proofs.Steps.{made_of}
use Rattle.cqlp_build.proofs.MessageParts.{auth_success_view}
use Rattle.cqlp_message.specs.FrameValues.{AuthSuccess}
use Rattle.cqlp_build.proofs.held.FrameEvents.auth_success.Goals as goal

pub returns : goal.returns
returns c = made_of c.bytes.ensures _ _ (λ a. AuthSuccess a) (λ a p. refl) (λ a p. record { opcode = refl; agrees = refl; built = refl; cells = refl }) auth_success_view
