use Rattle.cqlp_message.specs.Agreement.{metadata_agrees}
use Rattle.cqlp_message.specs.Owned.{metadata_of}
use Rattle.cqlp_build.specs.Types.{is_built_metadata}
use Rattle.cqlp_build.proofs.Columns.{readable}
use Rattle.cqlp_build.proofs.PageParts.{page_made}
use Rattle.cqlp_build.proofs.Several.{both}
use Rattle.cqlp_build.proofs.held.FrameEvents.page.Goals as goal

pub cells-cells-requires : goal.cells-cells-requires
cells-cells-requires c = λ s.
    let m = metadata_of c.metadata-meta.result in
    let before = (c.count-rows.ensures.is.made s).0 in
    readable m (both (metadata_agrees m) (is_built_metadata m) (c.metadata-meta.ensures.made before).2).0

pub returns : goal.returns
returns c = record { is = page_made c.metadata-meta.ensures c.count-rows.ensures.is c.cells-cells.ensures.is; sized = c.cells-cells.ensures.sized }
