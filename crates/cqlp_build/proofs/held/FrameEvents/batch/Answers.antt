use Rattle.std.proofs.Common.{◌≡◌, true}
use Rattle.std.specs.Prelude.{not}
use Rattle.cqlp_message.specs.Agreement.{there_if}
use Rattle.cqlp_build.proofs.MessageParts.{batch_builds}
use Rattle.cqlp_build.proofs.Steps.{with_flag}
use Rattle.cqlp_build.proofs.held.FrameEvents.batch.Goals as goal

pub returns : goal.returns
returns c =
    batch_builds c.byte-kind.ensures c.counted-entries.ensures c.short-consistency.ensures c.byte-flags.ensures
    (with_flag (λ t u. not t ≡ true) c.has_flag.ensures c.check.ensures.is)
    (with_flag (λ t o. there_if t o ≡ true) c.has_flag-2.ensures c.serial_if-serial.ensures)
    (with_flag (λ t o. there_if t o ≡ true) c.has_flag-3.ensures c.timestamp_if-timestamp.ensures)
