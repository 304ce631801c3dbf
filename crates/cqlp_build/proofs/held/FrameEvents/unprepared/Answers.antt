use Rattle.std.proofs.Common.{refl}
use Rattle.cqlp_build.proofs.Steps.{made_of}
use Rattle.cqlp_build.proofs.ResponseParts.{unprepared_view}
use Rattle.cqlp_message.specs.FrameValues.{Unprepared}
use Rattle.cqlp_build.proofs.held.FrameEvents.unprepared.Goals as goal

pub returns : goal.returns
returns c = made_of c.statement-id.ensures _ _ (λ a. Unprepared a) (λ a p. refl) (λ a p. refl) unprepared_view
