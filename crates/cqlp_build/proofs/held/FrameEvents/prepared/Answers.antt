use Rattle.std.proofs.Common.{◌≡◌, ap, ◌∙◌, rules, w32}
use Rattle.std.proofs.lemmas.Int.{to_z-of_z}
use Rattle.cqlp_message.specs.Agreement.{bits}
use Rattle.cqlp_build.proofs.MetadataParts.{statement_builds}
use Rattle.cqlp_build.proofs.held.FrameEvents.prepared.Goals as goal

pub returns : goal.returns
returns c =
    let code : c.cast_unsigned.result ≡ bits c.int-flags.result = c.cast_unsigned.ensures ∙ ap (λ y. bits y) (to_z-of_z w32 c.int-flags.result (search rules)) in
    rw (to_z-of_z w32 c.int-flags.result (search rules))
    (statement_builds c.statement-id.ensures c.int-flags.ensures c.count-columns.ensures.is c.keys-keys.ensures (rw code at c.columns-table.ensures) c.metadata-result.ensures)
