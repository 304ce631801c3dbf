use Rattle.std.proofs.Common.{◌≡◌, ◌&&◌, true}
use Rattle.cqlp_note.specs.Heading.{has}
use Rattle.cqlp_message.specs.Agreement.{are_named, there_if}
use Rattle.cqlp_build.proofs.RequestParts.{params_builds}
use Rattle.cqlp_build.proofs.Steps.{with_flag}
use Rattle.cqlp_build.proofs.held.FrameEvents.params.Goals as goal

pub returns : goal.returns
returns c =
    params_builds c.short-consistency.ensures c.byte-flags.ensures
    (with_flag (λ t o. (there_if (has c.byte-flags.result 0x01) o && are_named t o) ≡ true) c.has_flag-2.ensures (with_flag (λ t o. (there_if t o && are_named c.has_flag-2.result o) ≡ true) c.has_flag.ensures c.values_if-values.ensures))
    (with_flag (λ t o. there_if t o ≡ true) c.has_flag-3.ensures c.page_size_if-page_size.ensures)
    (with_flag (λ t o. there_if t o ≡ true) c.has_flag-4.ensures c.paging_if-paging.ensures)
    (with_flag (λ t o. there_if t o ≡ true) c.has_flag-5.ensures c.serial_if-serial.ensures)
    (with_flag (λ t o. there_if t o ≡ true) c.has_flag-6.ensures c.timestamp_if-timestamp.ensures)
