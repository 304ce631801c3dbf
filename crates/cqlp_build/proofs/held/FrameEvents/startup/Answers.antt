use Rattle.std.proofs.Common.{refl}
use Rattle.cqlp_build.proofs.Steps.{made_of}
use Rattle.cqlp_build.proofs.MessageParts.{startup_view}
use Rattle.cqlp_message.specs.FrameValues.{Startup}
use Rattle.cqlp_build.proofs.held.FrameEvents.startup.Goals as goal

pub returns : goal.returns
returns c = made_of c.counted.ensures _ _ (λ a. Startup a) (λ a p. refl) (λ a p. record { opcode = refl; agrees = refl; built = refl; cells = refl }) startup_view
