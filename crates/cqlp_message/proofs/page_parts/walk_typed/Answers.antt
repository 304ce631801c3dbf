use Rattle.std.proofs.Common.{◌≡◌, ◌∷◌, refl}
use Rattle.cqlp_message.proofs.Walks.{remains_all, remains_more, remains_none}
use Rattle.cqlp_message.proofs.PageWalks.{typed_rest, typed_more, typed_cut}
use Rattle.cqlp_message.proofs.page_parts.walk_typed.Goals as goal

pub loop-column-init : goal.loop-column-init
loop-column-init g c = remains_all (typed_rest c.args.row 0 c.args.specs.now c.args.cells.now) refl

pub loop-column-preserved : goal.loop-column-preserved
loop-column-preserved g c =
    let column = c.loop-column.column in
    let rest = c.loop-column.rest.now in
    let split : rest ≡ c.in-Some.spec.now ∷ c.in-Some.others.now = (rw c.in-Some.is at c.split_first.ensures.cases).0 in
    let more = typed_more c.args.row column rest c.in-Some.others.now c.args.cells.now c.in-Some.spec.now c.index-cells-column.result split c.index-cells-column.is c.loop-column-test.true in
    remains_more _ _ (rw more at c.loop-column.invariant) c.take.ensures

pub returns : goal.returns
returns g c =
    remains_none (rw (typed_cut c.args.row c.loop-column.column c.loop-column.rest.now c.args.cells.now c.loop-column-test.false) at c.loop-column.invariant)
