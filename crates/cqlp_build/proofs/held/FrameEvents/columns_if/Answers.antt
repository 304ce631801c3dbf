use Rattle.std.proofs.Common.{sym, ◌∙◌}
use Rattle.cqlp_build.proofs.MetadataParts.{described_builds, undescribed_builds}
use Rattle.cqlp_build.proofs.held.FrameEvents.columns_if.Goals as goal

pub returns-then-has : goal.returns-then-has
returns-then-has c = undescribed_builds c.args.flags c.args.count (sym c.has.ensures ∙ c.if-has.true) c.args.self.now

pub returns : goal.returns
returns c = described_builds c.args.flags c.args.count (sym c.has.ensures ∙ c.if-has.false) c.columns-table.ensures
