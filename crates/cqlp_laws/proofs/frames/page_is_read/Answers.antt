use Rattle.std.proofs.Common.{map, subst}
use Rattle.std.proofs.lemmas.List.{take_all}
use Rattle.std.proofs.lemmas.List.Elements.{All-nil, All-more}
use Rattle.cqlp_value.specs.declared.value.Value.{Value}
use Rattle.cqlp_value.specs.Owned.{value_of}
use Rattle.cqlp_value.specs.Values.{AreInRange}
use Rattle.cqlp_message.specs.Owned.{frame_of}
use Rattle.cqlp_laws.proofs.WrittenFrames.{owned_range, page_is_read, page_with_gifts}
use Rattle.cqlp_laws.proofs.frames.page_is_read.Goals as goal

pub loop-cell-init : goal.loop-cell-init
loop-cell-init c = All-nil (λ (v : Value). AreInRange (value_of v))

pub loop-cell-preserved : goal.loop-cell-preserved
loop-cell-preserved c =
    All-more (λ (v : Value). AreInRange (value_of v)) c.args.cells.now c.loop-cell.cell-index c.cell-item.result c.loop-cell-test.true c.loop-cell.invariant
    (subst (λ (v : Value). AreInRange (value_of v)) c.cell-item.is c.value_size.ensures.range)

pub returns-clause-stream : goal.returns-clause-stream
returns-clause-stream c =
    let each = rw (take_all, c.loop-cell-test.false) at c.loop-cell.invariant in
    page_is_read (frame_of c.args.frame.now) c.args.cells_len (map value_of c.args.cells.now) c.page_unfit.ensures.range (owned_range c.args.cells.now each)

pub returns-clause-with_gifts : goal.returns-clause-with_gifts
returns-clause-with_gifts c =
    let each = rw (take_all, c.loop-cell-test.false) at c.loop-cell.invariant in
    page_with_gifts (frame_of c.args.frame.now) c.args.cells_len (map value_of c.args.cells.now) c.page_unfit.ensures.range (owned_range c.args.cells.now each)
