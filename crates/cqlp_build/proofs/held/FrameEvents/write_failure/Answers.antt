use Rattle.std.proofs.Common.{refl, rules, w32}
use Rattle.std.proofs.lemmas.Int.{to_z-of_z}
use Rattle.cqlp_build.proofs.Steps.{made_of, ◌then◌}
use Rattle.cqlp_build.proofs.ResponseParts.{write_failure_view}
use Rattle.cqlp_message.specs.FrameValues.{WriteFailure}
use Rattle.cqlp_build.proofs.held.FrameEvents.write_failure.Goals as goal

pub returns : goal.returns
returns c =
    rw (to_z-of_z w32 c.int-received.result (search rules), to_z-of_z w32 c.int-block_for.result (search rules), to_z-of_z w32 c.int-failures.result (search rules))
    (made_of (c.short-consistency.ensures then c.int-received.ensures then c.int-block_for.ensures then c.int-failures.ensures then c.text-write_type.ensures.is) _ _ (λ a. WriteFailure a.0.0.0.0 a.0.0.0.1 a.0.0.1 a.0.1 a.1) (λ a p. refl) (λ a p. refl) write_failure_view)
