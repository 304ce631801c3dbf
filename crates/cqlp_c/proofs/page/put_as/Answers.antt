use Rattle.cqlp_kind.specs.Contents.{value_of}
use Rattle.cqlp_c.proofs.PagesPut.{leaf_put}
use Rattle.cqlp_c.proofs.page.put_as.Goals as goal

pub put_scalar-requires : goal.put_scalar-requires
put_scalar-requires c = (c.args.c_event.now.row, c.args.c_event.now.column, c.requires)

pub returns-in-Some-put_scalar-clause-puts : goal.returns-in-Some-put_scalar-clause-puts
returns-in-Some-put_scalar-clause-puts c =
    leaf_put c.args.cells.now c.put_scalar.new.self c.args.c_event.now c.args.contents.now c.args.room.now c.put_scalar.new.room c.args.kind (value_of c.in-Some.scalar)
    c.in-Some-put_scalar.len c.in-Some.rest c.requires c.in-Some.ensures.leaf c.in-Some.ensures.rest c.in-Some-put_scalar.ensures
