use Rattle.std.proofs.Common.{◌≡◌, ◌++◌, ◌∷◌, [], ◌<◌, ◌≤◌, Some, map, sym, ap, ◌∙◌, arith}
use Rattle.std.proofs.lemmas.List.{map-append}
use Rattle.std.proofs.lemmas.Grind.{common_steps}
use Rattle.cqlp_kind.specs.Types.{how_many}
use Rattle.cqlp_value.specs.Owned.{value_of}
use Rattle.cqlp_message.specs.Bodies.{cell_types}
use Rattle.cqlp_message.specs.Owned.{metadata_of}
use Rattle.cqlp_build.specs.declared.held.Fault.TheVariants as fault
use Rattle.cqlp_build.specs.declared.held.FrameEvents.{FrameEvents}
use Rattle.cqlp_build.specs.FrameEvents.{first_fault}
use Rattle.cqlp_build.proofs.Columns.{column_count}
use Rattle.cqlp_build.proofs.Rows.{row_begins, row_ends, row_goes, row_stops}
use Rattle.cqlp_build.proofs.Several.{none_of, some_of}
use Rattle.cqlp_build.proofs.Steps.{no_memory}
use Rattle.cqlp_build.proofs.held.FrameEvents.row.Goals as goal

pub loop-column-init : goal.loop-column-init
loop-column-init c = row_begins c.args.row (cell_types (metadata_of c.args.meta.now)) (map value_of c.args.cells.now.items) c.args.self.now c.requires.sound

pub returns-then-is_some : goal.returns-then-is_some
returns-then-is_some c =
    let ts = cell_types (metadata_of c.args.meta.now) in
    let f = some_of c.cell_of-cell.new.self.fault (sym c.is_some.ensures ∙ c.if-is_some.true) in
    let within : c.loop-column.column < how_many ts = omega (arith, c.loop-column-test.true, column_count c.args.meta.now c.requires.readable) in
    row_stops c.args.row ts (map value_of c.args.cells.now.items) c.args.self.now c.loop-column.self c.cell_of-cell.new.self c.loop-column.column
    (map value_of c.loop-column.cells.items) (value_of c.cell_of-cell.result) within c.loop-column.invariant c.cell_of-cell.ensures f.0 f.1

pub returns-then-is_err : goal.returns-then-is_err
returns-then-is_err c =
    let same : c.push.new.self.items ≡ c.loop-column.cells.items = grind (arith, common_steps, c.push.ensures.items, c.is_err.ensures, c.if-is_err.true) in
    let none = none_of c.cell_of-cell.new.self.fault (sym c.is_some.ensures ∙ c.if-is_some.false) in
    let now : c.refuse.new.self.fault ≡ Some fault.NoMemory = ap (λ (h : FrameEvents). h.fault) c.refuse.ensures ∙ ap (λ f. first_fault f fault.NoMemory) none in
    (c.loop-column.invariant.made, ap (λ xs. map value_of xs) same ∙ c.loop-column.invariant.same, no_memory c.loop-column.invariant.made now)

pub loop-column-preserved : goal.loop-column-preserved
loop-column-preserved c =
    let ts = cell_types (metadata_of c.args.meta.now) in
    let same : c.push.new.self.items ≡ c.loop-column.cells.items ++ c.cell_of-cell.result ∷ [] = grind (arith, common_steps, c.push.ensures.items, c.is_err.ensures, c.if-is_err.false) in
    let within : c.loop-column.column < how_many ts = omega (arith, c.loop-column-test.true, column_count c.args.meta.now c.requires.readable) in
    row_goes c.args.row ts (map value_of c.args.cells.now.items) c.args.self.now c.loop-column.self c.cell_of-cell.new.self c.loop-column.column
    (map value_of c.loop-column.cells.items) (value_of c.cell_of-cell.result) within c.loop-column.invariant c.cell_of-cell.ensures (map value_of c.push.new.self.items)
    (ap (λ xs. map value_of xs) same ∙ map-append value_of c.loop-column.cells.items (c.cell_of-cell.result ∷ []))
    (none_of c.cell_of-cell.new.self.fault (sym c.is_some.ensures ∙ c.if-is_some.false))

pub returns : goal.returns
returns c =
    let ts = cell_types (metadata_of c.args.meta.now) in
    let over : how_many ts ≤ c.loop-column.column = omega (arith, c.loop-column-test.false, column_count c.args.meta.now c.requires.readable) in
    row_ends c.args.row ts (map value_of c.args.cells.now.items) c.args.self.now c.loop-column.self c.loop-column.column (map value_of c.loop-column.cells.items) over
    c.loop-column.invariant
