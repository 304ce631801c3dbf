use Rattle.cqlp_message.specs.Owned.{frame_of}
use Rattle.cqlp_message.specs.Pages.{page_unfit_of}
use Rattle.cqlp_compose.proofs.Beginning.{no_place}
use Rattle.cqlp_compose.proofs.page.begun.Goals as goal

pub returns-in-Err : goal.returns-in-Err
returns-in-Err c = no_place (page_unfit_of (frame_of c.args.frame) c.args.cells_len) c.args.cells_len c.in-Err.why c.in-Err.ensures.is
