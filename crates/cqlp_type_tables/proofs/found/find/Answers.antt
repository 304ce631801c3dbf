use Rattle.std.proofs.Common.{map, ◌∙◌, arith}
use Rattle.cqlp_type.proofs.TreeChecks.{both_same, types_next as checks_next}
use Rattle.cqlp_type.proofs.TreeSizes.{types_size_next}
use Rattle.cqlp_type_tables.proofs.Counts.{types_next}
use Rattle.cqlp_type_tables.proofs.ItemTypes.{is_there, before_end}
use Rattle.cqlp_type_tables.proofs.found.find.Goals as goal

pub loop-item-preserved : goal.loop-item-preserved
loop-item-preserved g c =
    let f = g.T.HasType.type_of in
    let items = c.args.items.now in
    let i = c.loop-item.item-index in
    let tree = c.tree-tree.result.now in
    let here = is_there f items i c.item-item.result tree c.item-item.is c.loop-item-test.true c.tree-tree.ensures in
    let lt = before_end f items i c.loop-item-test.true in
    let before = c.loop-item.invariant in
    let check = before.0 in
    let size = before.1 in
    let nodes = before.2 in
    let next_size = types_size_next (map f items) i tree here lt in
    let next_nodes = types_next (map f items) i tree here lt in (
      c.both-check.ensures ∙ both_same check c.check_type.ensures ∙ checks_next (map f items) i tree here lt,
      omega arith,
      omega arith,
    )
