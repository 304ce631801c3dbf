use Rattle.cqlp_compose.specs.Put.{putter}
use Rattle.cqlp_c.specs.Pages.{seen_put}
use Rattle.cqlp_c.proofs.PagesPut.{any_put}
use Rattle.cqlp_c.proofs.page.put_from_c.Goals as goal

pub returns-in-None : goal.returns-in-None
returns-in-None c =
    any_put (putter c.args.cells.now) (putter c.put_whole.new.cells) (putter c.put_any.new.cells) c.args.c_event.now c.args.contents.now c.args.room.now c.put_whole.new.room c.put_any.new.room
    (seen_put c.put_any.result) c.in-None.ensures.puts.0 c.in-None.ensures.puts.1 c.put_any.ensures

pub returns-in-Some : goal.returns-in-Some
returns-in-Some c = c.in-Some.ensures.puts
