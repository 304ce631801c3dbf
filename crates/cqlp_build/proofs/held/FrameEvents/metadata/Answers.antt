use Rattle.std.proofs.Common.{◌≡◌, true, ap, ◌∙◌, rules, w32}
use Rattle.std.proofs.lemmas.Int.{to_z-of_z}
use Rattle.cqlp_note.specs.Heading.{has}
use Rattle.cqlp_message.specs.Agreement.{bits, there_if}
use Rattle.cqlp_build.proofs.MetadataParts.{metadata_builds}
use Rattle.cqlp_build.proofs.Steps.{with_flag}
use Rattle.cqlp_build.proofs.held.FrameEvents.metadata.Goals as goal

pub returns : goal.returns
returns c =
    let code : c.cast_unsigned-bits.result ≡ bits c.int-flags.result = c.cast_unsigned-bits.ensures ∙ ap (λ y. bits y) (to_z-of_z w32 c.int-flags.result (search rules)) in
    rw (to_z-of_z w32 c.int-flags.result (search rules))
    (metadata_builds c.int-flags.ensures c.count-columns.ensures.is
    (with_flag (λ t o. there_if t o ≡ true) (c.has.ensures ∙ ap (λ n. has n 0x02) code) c.paging_if-paging.ensures)
    (rw code at c.columns_if-table.ensures))
