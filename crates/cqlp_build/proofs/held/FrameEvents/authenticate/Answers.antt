use Rattle.std.proofs.Common.{refl}
use Rattle.cqlp_build.proofs.Steps.{made_of}
use Rattle.cqlp_build.proofs.MessageParts.{authenticate_view}
use Rattle.cqlp_message.specs.FrameValues.{Authenticate}
use Rattle.cqlp_build.proofs.held.FrameEvents.authenticate.Goals as goal

pub returns : goal.returns
returns c = made_of c.text.ensures.is _ _ (λ a. Authenticate a) (λ a p. refl) (λ a p. record { opcode = refl; agrees = refl; built = refl; cells = refl }) authenticate_view
