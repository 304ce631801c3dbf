use Rattle.std.proofs.Common.{refl}
use Rattle.cqlp_build.proofs.Steps.{made_of, ◌then◌}
use Rattle.cqlp_build.proofs.ResponseParts.{already_exists_view}
use Rattle.cqlp_message.specs.FrameValues.{AlreadyExists}
use Rattle.cqlp_build.proofs.held.FrameEvents.already_exists.Goals as goal

pub returns : goal.returns
returns c = made_of (c.text-keyspace.ensures.is then c.text-table.ensures.is) _ _ (λ a. AlreadyExists a.0 a.1) (λ a p. refl) (λ a p. refl) already_exists_view
