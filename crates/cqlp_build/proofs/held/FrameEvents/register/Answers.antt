use Rattle.std.proofs.Common.{refl}
use Rattle.cqlp_build.proofs.Steps.{made_of}
use Rattle.cqlp_build.proofs.MessageParts.{register_view}
use Rattle.cqlp_message.specs.FrameValues.{Register}
use Rattle.cqlp_build.proofs.held.FrameEvents.register.Goals as goal

pub returns : goal.returns
returns c = made_of c.texts.ensures _ _ (λ a. Register a) (λ a p. refl) (λ a p. record { opcode = refl; agrees = refl; built = refl; cells = refl }) register_view
