use Rattle.std.proofs.Common.{◌≡◌, map, ap, ◌∙◌, true}
use Rattle.cqlp_value.specs.Owned.{value_of}
use Rattle.cqlp_message.specs.FrameValues.{FrameValue}
use Rattle.cqlp_message.specs.Frames.{measure_of}
use Rattle.cqlp_message.specs.Owned.{frame_of, message_of}
use Rattle.cqlp_message.specs.Pages.{cells_size, filled}
use Rattle.cqlp_build.specs.Building.{has_fit_cells}
use Rattle.cqlp_build.specs.CellSizes.{measured}
use Rattle.cqlp_build.proofs.PageLens.{counted, page_measured, refilled, taken_out}
use Rattle.cqlp_build.proofs.frame_len.page_len.Goals as goal

pub returns-clause-len : goal.returns-clause-len
returns-clause-len c = λ fit.
    let f = frame_of c.args.frame.now in
    let m = message_of c.take_cells.new.message in
    let t = c.in-Some.ensures in
    let cells = map value_of c.in-Some.cells.items in
    let whole = refilled f t.0 m cells t.3 t.1 t.2 in
    let fits : has_fit_cells (filled m cells) ≡ true = ap (λ (g : FrameValue). has_fit_cells g.message) whole ∙ fit in
    let size : cells_size cells ≡ c.args.cells_len = ap cells_size t.2 ∙ counted c.args.cells_len t.0 f.message t.1 c.requires in
    c.measure_page-len.ensures ∙ page_measured (record f { message = m }) c.args.cells_len cells (taken_out t.0 m t.3) fits size ∙ ap (λ g. measured (measure_of g)) whole
