use Rattle.cqlp_message.proofs.Walks.{remains_all, remains_more, remains_none}
use Rattle.cqlp_message.proofs.PageWalks.{raw_rest, raw_start, raw_more, raw_all, raw_cut}
use Rattle.cqlp_message.proofs.page_parts.walk_raw.Goals as goal

pub loop-column-init : goal.loop-column-init
loop-column-init g c = remains_all (raw_rest c.args.row 0 c.args.columns c.args.cells.now) (raw_start c.args.row c.args.columns c.args.cells.now)

pub loop-column-preserved : goal.loop-column-preserved
loop-column-preserved g c =
    let more = raw_more c.args.row c.loop-column.column c.args.columns c.args.cells.now c.index-cells-column.result c.index-cells-column.is c.if-column-columns.false c.loop-column-test.true in
    remains_more _ _ (rw more at c.loop-column.invariant) c.take.ensures

pub returns-then-column-columns : goal.returns-then-column-columns
returns-then-column-columns g c =
    remains_none (rw (raw_all c.args.row c.loop-column.column c.args.columns c.args.cells.now c.if-column-columns.true) at c.loop-column.invariant)

pub returns : goal.returns
returns g c =
    remains_none (rw (raw_cut c.args.row c.loop-column.column c.args.columns c.args.cells.now c.loop-column-test.false) at c.loop-column.invariant)
