use Rattle.std.proofs.Common.{refl, rules, w32}
use Rattle.std.proofs.lemmas.Int.{to_z-of_z}
use Rattle.cqlp_build.proofs.Steps.{made_of, ◌then◌}
use Rattle.cqlp_build.proofs.ResponseParts.{node_view}
use Rattle.cqlp_message.specs.FrameValues.{Node}
use Rattle.cqlp_build.proofs.held.FrameEvents.node.Goals as goal

pub returns : goal.returns
returns c =
    rw (to_z-of_z w32 c.inet-address.result.1 (search rules))
    (made_of (c.text-change.ensures.is then c.inet-address.ensures) _ _ (λ a. Node a.0 a.1.0 a.1.1) (λ a p. refl) (λ a p. refl) node_view)
