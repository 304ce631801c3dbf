use Rattle.cqlp_kind.specs.Contents.{value_of}
use Rattle.cqlp_compose.specs.Single.{cell_bytes}
use Rattle.cqlp_compose.proofs.WholeCells.{scalar_put}
use Rattle.cqlp_compose.proofs.put.PutCells.put_scalar.Goals as goal

pub returns-in-Ok : goal.returns-in-Ok
returns-in-Ok c =
    let g = c.in-Ok.ensures in
    scalar_put c.args.self.now c.put_cell.new.self c.args.kind (value_of c.args.scalar.now) (cell_bytes c.in-Some.cell) g.0 c.args.room.now c.put_cell.new.room c.in-Some.ensures.some g.2 c.in-Ok.len g.1
