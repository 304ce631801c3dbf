use Rattle.std.proofs.Common.{arith}
use Rattle.cqlp_c.proofs.Made.{is_empty}
use Rattle.cqlp_c.proofs.PagesPut.{anew}
use Rattle.cqlp_c.proofs.page.cqlp_page_begin.Goals as goal

pub returns : goal.returns
returns c =
    anew c.args.events.now c.args.contents.now c.or_none.result.now c.args.size c.args.page.now.place.value c.begin_anew.result c.args.bytes.now c.begin_anew.new.bytes c.begin_anew.new.page.place.value c.args.begun.now
    c.begin_anew.new.begun (is_empty c.args.page.now.place.value c.args.page.now.live c.args.page.now.agrees (omega (arith, c.if-page-ne0.false))) c.or_none.ensures.bytes c.begin_anew.ensures
