use Rattle.std.specs.Prelude.{length}
use Rattle.cqlp_note.specs.Limits.{rules_asked}
use Rattle.cqlp_decode.specs.declared.page_loop.Handed.TheVariants as handed
use Rattle.cqlp_decode.specs.Reading.{Event}
use Rattle.cqlp_decode.proofs.PageLoop.{hands_leaf}
use Rattle.cqlp_decode.proofs.page_loop.hand_cell.Goals as goal

pub returns-in-Left-clause-hands : goal.returns-in-Left-clause-hands
returns-in-Left-clause-hands g c = let same = c.hand_leaf.ensures.left c.in-Left.is in rw same at (c.hand_bare.ensures.hands (rules_asked c.args.limits.now) c.args.kind)

pub returns-in-Taken-clause-hands : goal.returns-in-Taken-clause-hands
returns-in-Taken-clause-hands g c =
    hands_leaf (rules_asked c.args.limits.now) c.args.kind (length c.args.input.now) c.args.input.now c.args.page.row c.args.page.column _ (λ (e : Event). ⊥) (handed.Taken c.in-Taken.used) c.in-Taken.ensures.hands

pub returns-in-Fault-clause-hands : goal.returns-in-Fault-clause-hands
returns-in-Fault-clause-hands g c =
    hands_leaf (rules_asked c.args.limits.now) c.args.kind (length c.args.input.now) c.args.input.now c.args.page.row c.args.page.column (λ (e : Event). ⊥) _ (handed.Fault c.in-Fault.used) c.in-Fault.ensures.hands
