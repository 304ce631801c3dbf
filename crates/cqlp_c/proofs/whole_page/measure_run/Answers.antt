use Rattle.std.proofs.Common.{arith, refl}
use Rattle.cqlp_c.proofs.CellWriting.{all_measured, one_measured}
use Rattle.cqlp_c.proofs.whole_page.measure_run.Goals as goal

pub loop-at-preserved : goal.loop-at-preserved
loop-at-preserved c =
    one_measured c.args.page.now.frame c.args.cells c.args.contents.now c.args.events.now c.loop-at.at c.loop-at.size c.loop-at.rest.now c.loop-at.invariant _ c.in-Some.len c.in-Some.behind.now c.loop-at-test.true (omega (arith, c.if-size-from.false, c.from.ensures)) c.in-Some.ensures

pub returns : goal.returns
returns c = record {
  events = refl;
  contents_are = refl;
  are = all_measured c.args.page.now.frame c.args.cells c.args.contents.now c.args.events.now c.loop-at.at c.loop-at.size c.loop-at.rest.now c.loop-at.invariant c.loop-at-test.false;
  small = omega (arith, c.loop-at.invariant.small);
}
