use Rattle.cqlp_build.proofs.MetadataParts.{spec_builds}
use Rattle.cqlp_build.proofs.metadata.SpecFromEvents.build.Goals as goal

pub returns : goal.returns
returns c = spec_builds c.args.wanted.named c.table_if-table.ensures c.text-name.ensures.is c.tree-tree.ensures.is
