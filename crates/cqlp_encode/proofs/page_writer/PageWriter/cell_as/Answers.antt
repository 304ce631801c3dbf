use Rattle.std.proofs.Common.{ℕ, List, is_some}
use Rattle.cqlp_value.specs.Owned.{value_of}
use Rattle.cqlp_value.specs.Values.{Values}
use Rattle.cqlp_encode.specs.PagePlaces.{Represents}
use Rattle.cqlp_encode.specs.PageWriting.{After, page}
use Rattle.cqlp_encode.specs.UndescribedPages.{cell_of}
use Rattle.cqlp_encode.proofs.PageSteps.{after_adds}
use Rattle.cqlp_encode.proofs.UndescribedCells.{fits_undescribed_place}
use Rattle.cqlp_encode.proofs.page_writer.PageWriter.cell_as.Goals as goal

pub returns-clause-adds : goal.returns-clause-adds
returns-clause-adds g c n cells a =
    let v = c.args.value.now in
    let t = c.args.of.now in
    let s : (n : ℕ) (cells : List Values) → After c.args.self.now n cells → Represents c.args.self.now cells (is_some c.undescribed_size-size.result) (value_of v) (cell_of (page c.args.self.now) v t) = rw (← c.self.view_is) (fits_undescribed_place _ c.self.inside.column v t _ c.self.invariant.0 c.undescribed_size-size.ensures.fits) in
    c.put.ensures.adds cells (cell_of (page c.args.self.now) v t) (s n cells a)

pub returns-clause-after : goal.returns-clause-after
returns-clause-after g c n cells a = after_adds c.args.self.now n cells _ _ _ _ _ a (returns-clause-adds g c n cells a)
