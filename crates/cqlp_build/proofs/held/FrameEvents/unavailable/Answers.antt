use Rattle.std.proofs.Common.{refl, rules, w32}
use Rattle.std.proofs.lemmas.Int.{to_z-of_z}
use Rattle.cqlp_build.proofs.Steps.{made_of, ◌then◌}
use Rattle.cqlp_build.proofs.ResponseParts.{unavailable_view}
use Rattle.cqlp_message.specs.FrameValues.{Unavailable}
use Rattle.cqlp_build.proofs.held.FrameEvents.unavailable.Goals as goal

pub returns : goal.returns
returns c =
    rw (to_z-of_z w32 c.int-required.result (search rules), to_z-of_z w32 c.int-alive.result (search rules))
    (made_of (c.short-consistency.ensures then c.int-required.ensures then c.int-alive.ensures) _ _ (λ a. Unavailable a.0.0 a.0.1 a.1) (λ a p. refl) (λ a p. refl) unavailable_view)
