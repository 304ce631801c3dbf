use Rattle.std.proofs.Common.{refl}
use Rattle.cqlp_build.proofs.Steps.{made_of}
use Rattle.cqlp_build.proofs.MessageParts.{auth_response_view}
use Rattle.cqlp_message.specs.FrameValues.{AuthResponse}
use Rattle.cqlp_build.proofs.held.FrameEvents.auth_response.Goals as goal

pub returns : goal.returns
returns c = made_of c.bytes.ensures _ _ (λ a. AuthResponse a) (λ a p. refl) (λ a p. record { opcode = refl; agrees = refl; built = refl; cells = refl }) auth_response_view
