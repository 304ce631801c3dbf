use Rattle.std.proofs.Common.{◌<◌, ◌^◌, List, map, sym, ◌∙◌, subst, arith}
use Rattle.cqlp_value.specs.Owned.{value_of}
use Rattle.cqlp_message.specs.Owned.{metadata_of}
use Rattle.cqlp_build.specs.declared.item.Item.{Item}
use Rattle.cqlp_build.specs.Emitted.{emitted}
use Rattle.cqlp_build.specs.FrameEvents.{Builds}
use Rattle.cqlp_build.specs.Productions.{AreCells, cells_parts}
use Rattle.cqlp_build.proofs.Columns.{column_count}
use Rattle.cqlp_build.proofs.Runs.{at, page_built}
use Rattle.cqlp_build.proofs.Several.{none_of}
use Rattle.cqlp_build.proofs.held.FrameEvents.sized_cells.Goals as goal

pub returns-in-Some : goal.returns-in-Some
returns-in-Some c =
    let low : c.args.rows < 2 ^ 32 = omega arith in
    let readable = c.requires (none_of c.args.self.now.fault (sym c.is_some.ensures ∙ c.if-is_some.false)) in
    let taken = c.in-Some.ensures.taken in
    let is = page_built (metadata_of c.args.meta.now) c.args.rows c.in-Some.cells.items c.args.self.now c.take_page.new.self low (column_count c.args.meta.now readable) taken.0 taken.1 in
    record { is = is; sized = c.in-Some.ensures.sized }

pub rows-requires-in-None : goal.rows-requires-in-None
rows-requires-in-None c = c.requires

pub returns-in-None : goal.returns-in-None
returns-in-None c =
    let m = metadata_of c.args.meta.now in
    let is = subst (λ (xs : List Item). Builds (λ vs. emitted (cells_parts m c.args.rows vs)) (AreCells m c.args.rows) (map value_of c.rows-in-None.result.items) (at c.args.self.now xs) c.rows-in-None.new.self)
    c.in-None.ensures.taken c.rows-in-None.ensures in
    record { is = is; sized = tt }
