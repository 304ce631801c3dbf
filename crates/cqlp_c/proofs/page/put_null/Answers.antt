use Rattle.cqlp_c.proofs.PagesPut.{null_put}
use Rattle.cqlp_c.proofs.page.put_null.Goals as goal

pub put_null-requires : goal.put_null-requires
put_null-requires c = (c.in-Some._kind, (c.args.c_event.now.row, c.args.c_event.now.column, c.in-Some.ensures.some.0))

pub returns-in-Some-put_null-clause-puts : goal.returns-in-Some-put_null-clause-puts
returns-in-Some-put_null-clause-puts c =
    null_put c.args.cells.now c.put_null.new.self c.args.c_event.now c.args.contents c.args.room.now c.put_null.new.room c.in-Some._kind c.in-Some-put_null.len c.in-Some.ensures.some.0 c.requires c.in-Some-put_null.ensures
