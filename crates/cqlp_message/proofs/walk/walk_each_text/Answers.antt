use Rattle.std.proofs.Common.{[], ◌∷◌}
use Rattle.std.proofs.lemmas.List.Folds.{flat_map-map}
use Rattle.std.specs.Prelude.{string_bytes}
use Rattle.cqlp_message.specs.Bodies.{text}
use Rattle.cqlp_message.proofs.Walks.{takes_nil, takes_item, takes_all}
use Rattle.cqlp_message.proofs.walk.walk_each_text.Goals as goal

pub loop-text-init : goal.loop-text-init
loop-text-init g c = takes_nil _

pub loop-text-preserved : goal.loop-text-preserved
loop-text-preserved g c = takes_item (λ t. text c.args.field (string_bytes t) ∷ []) _ _ _ c.text-item.is c.loop-text-test.true c.loop-text.invariant c.walk_text.ensures

pub returns : goal.returns
returns g c = rw flat_map-map (takes_all (λ t. text c.args.field (string_bytes t) ∷ []) _ _ c.loop-text-test.false c.loop-text.invariant)
