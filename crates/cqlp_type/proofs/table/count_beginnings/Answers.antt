use Rattle.std.proofs.Common.{◌∙◌, arith}
use Rattle.cqlp_kind.specs.declared.node.Node.{Node}
use Rattle.cqlp_kind.specs.declared.kind.Kind.TheVariants.{Custom}
use Rattle.cqlp_type.proofs.Beginnings.{more_counted}
use Rattle.cqlp_type.proofs.table.count_beginnings.Goals as goal

abbrev none : Node
none = record { kind = Custom; arity = 0; span = 0 }

pub loop-at-preserved : goal.loop-at-preserved
loop-at-preserved c = record {
  counted = more_counted c.loop-at.count c.loop-at.at c.args.nodes.now none c.loop-at-test.true c.if-span-eq0.false ∙ c.loop-at.invariant.counted;
  few = omega arith;
}
