use Rattle.cqlp_type_tables.proofs.Filling.{read_next, filled_next}
use Rattle.cqlp_type_tables.proofs.ItemTypes.{is_there, before_end}
use Rattle.cqlp_type_tables.proofs.making.read_types.Goals as goal

pub add_type-requires-clause-read : goal.add_type-requires-clause-read
add_type-requires-clause-read g c =
    let f = g.T.HasType.type_of in
    let items = c.args.items.now in
    let i = c.loop-item.item-index in
    let tree = c.tree.result.now in
    let here = is_there f items i c.item-item.result tree c.item-item.is c.loop-item-test.true c.tree.ensures in
    let lt = before_end f items i c.loop-item-test.true in
    read_next _ _ _ _ _ _ c.loop-item.invariant tree here lt c.requires.writable c.requires.size

pub loop-item-preserved : goal.loop-item-preserved
loop-item-preserved g c =
    let f = g.T.HasType.type_of in
    let items = c.args.items.now in
    let i = c.loop-item.item-index in
    let tree = c.tree.result.now in
    let here = is_there f items i c.item-item.result tree c.item-item.is c.loop-item-test.true c.tree.ensures in
    let lt = before_end f items i c.loop-item-test.true in
    let added = c.in_ok-add_type.ensures in
    filled_next _ _ _ _ _ _ c.loop-item.invariant tree _ _ _ here lt added.table added.types added.idle added.rules
