use Rattle.cqlp_compose.proofs.WholeCells.{null_put}
use Rattle.cqlp_compose.proofs.put.PutCells.put_null.Goals as goal

pub returns : goal.returns
returns c =
    let g = c.in-Ok.ensures in
    null_put c.args.self.now c.put_cell.new.self g.0 c.args.room.now c.put_cell.new.room g.2 c.in-Ok.len g.1
