use Rattle.std.proofs.Common.{inr, refl, sym}
use Rattle.cqlp_compose.specs.Composing.{composed}
use Rattle.cqlp_c.proofs.page.read_head.Goals as goal

pub returns-in-Err-rows_from_c : goal.returns-in-Err-rows_from_c
returns-in-Err-rows_from_c c =
    inr (c.in-Some.front.now, c.in-Some.last.now, c.in-Some.ensures.cases.0, inr ((composed c.take_all.new.composer, c.in-Ok.rest.now), c.in-Ok.ensures, refl, sym c.in-Err-rows_from_c.ensures))
