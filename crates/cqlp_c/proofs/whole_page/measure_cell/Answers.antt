use Rattle.std.proofs.Common.{refl}
use Rattle.cqlp_c.proofs.CellWriting.{empty_next, null_next}
use Rattle.cqlp_c.proofs.whole_page.measure_cell.Goals as goal

pub returns-then-is_null : goal.returns-then-is_null
returns-then-is_null c = null_next c.args.page.now.frame c.args.cells c.args.c_event.now c.args.contents.now c.in-Some.kind (c.in-Some.ensures.some c.requires) (c.if-is_null.ensures.0 refl)

pub returns-then-is_empty : goal.returns-then-is_empty
returns-then-is_empty c = empty_next c.args.page.now.frame c.args.cells c.args.c_event.now c.args.contents.now c.in-Some.kind (c.in-Some.ensures.some c.requires) (c.if-is_empty.ensures.0 refl)
