use Rattle.std.proofs.Common.{arith, refl}
use Rattle.cqlp_c.proofs.whole_page.open_whole.Goals as goal

pub returns-in-Ok : goal.returns-in-Ok
returns-in-Ok c = record {
  frame = c.in-Some.opened.page.frame;
  rows = c.in-Some.ensures.0;
  state = c.in-Some.ensures.1;
  rest = c.in-Some.opened.contents.now;
  opens = c.in-Some.ensures.2;
  cells = c.in-Some-measure_cells.ensures;
  size = refl;
  room = omega (arith, c.if-size-room.false, c.in-Some.ensures.3);
  begun = c.in-Ok.begun;
  begins = c.in-Ok.ensures;
  bytes = refl;
}
