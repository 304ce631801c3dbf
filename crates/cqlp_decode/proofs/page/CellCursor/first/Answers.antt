use Rattle.std.proofs.Common.{◌≡◌, Bool, true, false, sym, ◌∙◌}
use Rattle.cqlp_decode.proofs.Columns.{first_of_none, first_without, first_some}
use Rattle.cqlp_decode.proofs.page.CellCursor.first.Goals.{then-rows-eq0-via-then-rows-eq0, then-rows-eq0-via-else-rows-eq0+then-are_none}
use Rattle.cqlp_decode.proofs.page.CellCursor.first.Goals as goal

pub returns-then-rows-eq0 : goal.returns-then-rows-eq0
returns-then-rows-eq0 g c = λ depth f. elim c.then-rows-eq0.branch [
  | then-rows-eq0-via-then-rows-eq0 w ↦ first_of_none c.args.table.now.nodes depth c.args.columns c.args.rows w.if-rows-eq0.true
  | then-rows-eq0-via-else-rows-eq0+then-are_none w ↦ first_without c.args.table.now.nodes depth c.args.columns c.args.rows (w.are_none.ensures.0 w.if-are_none.true)
]

pub returns : goal.returns
returns g c = λ depth f. first_some c.args.table.now.nodes depth c.args.columns c.args.rows f c.if-rows-eq0.false c.ranges.rows.fits (λ none. let shut : ◌≡◌ {A = Bool} false true = sym c.if-are_none.false ∙ c.are_none.ensures.1 none in cc)
