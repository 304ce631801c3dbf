use Rattle.std.proofs.Common.{◌≡◌, true, refl}
use Rattle.cqlp_message.specs.Agreement.{event_agrees}
use Rattle.cqlp_message.specs.FrameValues.{Event}
use Rattle.cqlp_build.proofs.Steps.{made_of, pair_builds}
use Rattle.cqlp_build.proofs.MessageParts.{event_view}
use Rattle.cqlp_build.proofs.held.FrameEvents.event.Goals as goal

pub returns : goal.returns
returns c =
    made_of (pair_builds (λ e d. event_agrees e d ≡ true) c.text-event.ensures.is (rw c.deref.ensures at c.detail-detail.ensures)) _ _
    (λ a. Event a.0 a.1) (λ a p. refl) (λ a p. record { opcode = refl; agrees = p.1; built = refl; cells = refl }) event_view
