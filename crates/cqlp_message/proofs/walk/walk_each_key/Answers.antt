use Rattle.std.proofs.Common.{[], ◌∷◌}
use Rattle.std.proofs.lemmas.List.{get_or_default}
use Rattle.cqlp_note.specs.declared.field.Field.TheVariants as field
use Rattle.cqlp_message.specs.Bodies.{short}
use Rattle.cqlp_message.proofs.Walks.{takes_nil, takes_item, takes_all}
use Rattle.cqlp_message.proofs.walk.walk_each_key.Goals as goal

pub loop-key-init : goal.loop-key-init
loop-key-init g c = takes_nil _

pub loop-key-preserved : goal.loop-key-preserved
loop-key-preserved g c = takes_item (λ k. short field.KeyIndex k ∷ []) _ _ _ (get_or_default c.args.keys.now c.loop-key.key-index 0 _ c.loop-key-test.true) c.loop-key-test.true c.loop-key.invariant c.take.ensures

pub returns : goal.returns
returns g c = takes_all (λ k. short field.KeyIndex k ∷ []) _ _ c.loop-key-test.false c.loop-key.invariant
