use Rattle.std.proofs.lemmas.List.Folds.{flat_map-map}
use Rattle.cqlp_message.proofs.Walks.{takes_nil, takes_item, takes_all}
use Rattle.cqlp_message.proofs.walk.walk_each.Goals as goal

pub loop-item-init : goal.loop-item-init
loop-item-init g c = takes_nil _

pub loop-item-preserved : goal.loop-item-preserved
loop-item-preserved g c = takes_item (λ x. g.T.HasParts.parts (g.T.HasParts.value x)) _ _ _ c.item-item.is c.loop-item-test.true c.loop-item.invariant c.walk.ensures

pub returns : goal.returns
returns g c = rw flat_map-map (takes_all (λ x. g.T.HasParts.parts (g.T.HasParts.value x)) _ _ c.loop-item-test.false c.loop-item.invariant)
