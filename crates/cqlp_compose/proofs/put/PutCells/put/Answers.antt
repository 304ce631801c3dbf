use Rattle.std.proofs.Common.{rules}
use Rattle.cqlp_compose.proofs.Putting.{none_under_way}
use Rattle.cqlp_compose.proofs.put.PutCells.put.Goals as goal

pub returns : goal.returns
returns c =
    let g = c.in-Ok.ensures in
    let s = c.args.self.now in (
      c.in-Ok.written.bytes.items,
      (
        g.2,
        search rules,
        search rules,
        none_under_way s.frame.now s.limits c.in-Ok.written.place c.args.cells.place s.cells c.requires.none g.1,
        (c.in-Ok.written, g),
      ),
      search rules,
    )
