use Rattle.std.proofs.Common.{◌≡◌, ◌&&◌, false, true}
use Rattle.std.specs.Prelude.{not}
use Rattle.cqlp_message.specs.Agreement.{spec_agrees, there_if}
use Rattle.cqlp_build.specs.FrameEvents.{Many}
use Rattle.cqlp_build.specs.Types.{names_count}
use Rattle.cqlp_build.proofs.MetadataParts.{columns_builds}
use Rattle.cqlp_build.proofs.Steps.{with_flag}
use Rattle.cqlp_build.proofs.held.FrameEvents.columns.Goals as goal

pub returns : goal.returns
returns c =
    columns_builds c.args.flags c.args.count
    (with_flag (λ t o. there_if t o ≡ true) c.has-global.ensures c.table_if-table.ensures)
    (with_flag (λ t cs. Many (λ s. spec_agrees (not t) s && names_count false s.tree) c.args.count cs) c.has-global.ensures c.many-specs.ensures)
