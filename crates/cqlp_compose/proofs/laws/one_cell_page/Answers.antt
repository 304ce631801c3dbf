use Rattle.cqlp_compose.proofs.CellPages.{one_page, page_composed}
use Rattle.cqlp_compose.proofs.laws.one_cell_page.Goals as goal

pub returns-clause-page : goal.returns-clause-page
returns-clause-page c = λ es one other p q. one_page es one other p q

pub returns-clause-composed : goal.returns-clause-composed
returns-clause-composed c = λ es bytes p. page_composed es bytes p.frame
