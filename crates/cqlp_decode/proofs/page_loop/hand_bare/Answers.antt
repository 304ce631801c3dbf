use Rattle.cqlp_kind.specs.CellStep.{Null, Empty}
use Rattle.cqlp_decode.proofs.PageLoop.{hands_said}
use Rattle.cqlp_decode.proofs.page_loop.hand_bare.Goals as goal

pub returns-in-Some-Null-clause-hands : goal.returns-in-Some-Null-clause-hands
returns-in-Some-Null-clause-hands g c = λ l k.
    hands_said l k c.args.room c.args.input.now c.args.page.row c.args.page.column 4 (Null 0) (rw c.in-Some-Null.field-0-is at c.in-Some-Null.ensures l k) _ _ c.hand.result c.hand.ensures

pub returns-in-Some-Empty-clause-hands : goal.returns-in-Some-Empty-clause-hands
returns-in-Some-Empty-clause-hands g c = λ l k.
    hands_said l k c.args.room c.args.input.now c.args.page.row c.args.page.column 4 (Empty 0) (rw c.in-Some-Empty.field-0-is at c.in-Some-Empty.ensures l k) _ _ c.hand-in-Some-Empty.result c.hand-in-Some-Empty.ensures
