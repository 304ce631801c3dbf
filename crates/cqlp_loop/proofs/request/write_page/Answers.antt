use Rattle.std.proofs.Common.{◌≡◌, rules, []}
use Rattle.std.specs.Prelude.{Err}
use Rattle.cqlp_loop.proofs.Paged.{begin_fails, cell_fails, page_done}
use Rattle.cqlp_loop.proofs.request.write_page.Goals as goal

pub returns-in_err-page : goal.returns-in_err-page
returns-in_err-page g c =
    let is : c.from_residual.result ≡ Err c.in_err-page.field-0.0 = search rules in
    rw is (begin_fails c.args.frame.now c.requires c.in_err-page.field-0.0 _ _ c.in_err-page.ensures.begins)

pub returns-in_err-cell : goal.returns-in_err-cell
returns-in_err-cell g c =
    let is : c.from_residual-in_err-cell.result ≡ Err c.in_err-cell.field-0.0 = search rules in
    rw is (cell_fails c.args.frame.now c.requires c.in_err-cell.field-0.0 c.in_ok-page.page c.cell.new.self _ _ _ c.in_ok-page.ensures.begins (c.in_err-cell.ensures.adds 8 [] c.in_ok-page.ensures.begins.2))

pub returns : goal.returns
returns g c = page_done c.args.frame.now c.requires c.in_ok-page.page c.cell.new.self _ _ _ c.finish.result c.in_ok-page.ensures.begins (c.in_ok-cell.ensures.adds 8 [] c.in_ok-page.ensures.begins.2) (c.finish.ensures 8 _ (c.in_ok-cell.ensures.after 8 [] c.in_ok-page.ensures.begins.2))
