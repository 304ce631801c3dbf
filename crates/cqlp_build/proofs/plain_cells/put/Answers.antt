use Rattle.cqlp_build.proofs.Sized.{sized_more}
use Rattle.cqlp_build.proofs.plain_cells.put.Goals as goal

pub returns : goal.returns
returns c = record {
  is = c.push_reserved.ensures.items;
  sized = sized_more c.args.size.now c.value_size.result c.saturating_add.result c.args.cells.now.items c.push_reserved.new.self.items c.args.cell c.push_reserved.ensures.items
      c.value_size.ensures.size c.saturating_add.ensures;
}
