use Rattle.std.proofs.Common.{refl, rules, w32}
use Rattle.std.proofs.lemmas.Int.{to_z-of_z}
use Rattle.cqlp_build.proofs.Steps.{made_of, ◌then◌}
use Rattle.cqlp_build.proofs.ResponseParts.{read_failure_view}
use Rattle.cqlp_message.specs.FrameValues.{ReadFailure}
use Rattle.cqlp_build.proofs.held.FrameEvents.read_failure.Goals as goal

pub returns : goal.returns
returns c =
    rw (to_z-of_z w32 c.int-received.result (search rules), to_z-of_z w32 c.int-block_for.result (search rules), to_z-of_z w32 c.int-failures.result (search rules))
    (made_of (c.short-consistency.ensures then c.int-received.ensures then c.int-block_for.ensures then c.int-failures.ensures then c.byte-data_present.ensures) _ _ (λ a. ReadFailure a.0.0.0.0 a.0.0.0.1 a.0.0.1 a.0.1 a.1) (λ a p. refl) (λ a p. refl) read_failure_view)
