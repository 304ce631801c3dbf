use Rattle.std.proofs.Common.{◌≡◌, true, refl}
use Rattle.cqlp_message.specs.Agreement.{options_agree}
use Rattle.cqlp_build.proofs.Steps.{made_of, pair_builds}
use Rattle.cqlp_build.proofs.ResponseParts.{change_from, change_view}
use Rattle.cqlp_build.proofs.held.FrameEvents.change.Goals as goal

pub returns : goal.returns
returns c =
    made_of (pair_builds (λ k r. (true ≡ true) × (options_agree r.0 r.1 ≡ true)) c.text-change.ensures.is (pair_builds (λ t o. options_agree t o ≡ true) c.text-target.ensures.is (rw c.deref.ensures at c.options-options.ensures))) _ _
    change_from (λ a p. refl) (λ a p. p.1.1) change_view
