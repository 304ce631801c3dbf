use Rattle.std.proofs.Common.{refl}
use Rattle.cqlp_build.proofs.Steps.{made_of}
use Rattle.cqlp_build.proofs.MessageParts.{supported_view}
use Rattle.cqlp_message.specs.FrameValues.{Supported}
use Rattle.cqlp_build.proofs.held.FrameEvents.supported.Goals as goal

pub returns : goal.returns
returns c = made_of c.counted.ensures _ _ (λ a. Supported a) (λ a p. refl) (λ a p. record { opcode = refl; agrees = refl; built = refl; cells = refl }) supported_view
