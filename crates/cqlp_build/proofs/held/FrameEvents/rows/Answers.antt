use Rattle.std.proofs.Common.{◌+◌, ◌++◌, ◌≤◌, List, [], map, sym, ◌∙◌, subst, arith}
use Rattle.cqlp_value.specs.Owned.{value_of}
use Rattle.cqlp_value.specs.Values.{Values}
use Rattle.cqlp_message.specs.Bodies.{cell_types}
use Rattle.cqlp_message.specs.Owned.{metadata_of}
use Rattle.cqlp_build.proofs.Columns.{column_count}
use Rattle.cqlp_build.proofs.PageParts.{cells_made, no_cells}
use Rattle.cqlp_build.proofs.Rows.{RowsRemain, rows_begin, rows_end, rows_go, rows_stuck}
use Rattle.cqlp_build.proofs.Several.{none_of, some_of}
use Rattle.cqlp_build.proofs.Steps.{stuck}
use Rattle.cqlp_build.proofs.held.FrameEvents.rows.Goals as goal

pub returns-then-is_some : goal.returns-then-is_some
returns-then-is_some c =
    let f = some_of c.args.self.now.fault (sym c.is_some.ensures ∙ c.if-is_some.true) in
    rw c.new-cells.ensures.items (stuck [] f.0 f.1)

pub returns-then-meta-eq0 : goal.returns-then-meta-eq0
returns-then-meta-eq0 c = rw c.new-cells.ensures.items (no_cells (metadata_of c.args.meta.now) c.args.rows c.args.self.now c.if-meta-eq0.true)

pub loop-row-init : goal.loop-row-init
loop-row-init c = record {
  remain = rw c.new-cells.ensures.items (rows_begin (cell_types (metadata_of c.args.meta.now)) c.args.rows c.args.self.now);
  sound = none_of c.args.self.now.fault (sym c.is_some.ensures ∙ c.if-is_some.false);
}

pub row-requires : goal.row-requires
row-requires c = record {
  sound = c.loop-row.invariant.sound;
  readable = c.requires (none_of c.args.self.now.fault (sym c.is_some.ensures ∙ c.if-is_some.false));
}

pub returns-then-is_some-2 : goal.returns-then-is_some-2
returns-then-is_some-2 c =
    let m = metadata_of c.args.meta.now in
    let ts = cell_types m in
    let readable = c.requires (none_of c.args.self.now.fault (sym c.is_some.ensures ∙ c.if-is_some.false)) in
    let f = some_of c.row.new.self.fault (sym c.is_some-in-loop-row.ensures ∙ c.if-is_some-2.true) in
    let xs = map value_of c.loop-row.cells.items in
    let within : c.loop-row.row + 1 ≤ c.args.rows = omega (arith, c.loop-row-test.true) in
    cells_made m c.args.rows (map value_of c.row.new.cells.items) c.args.self.now c.row.new.self (column_count c.args.meta.now readable)
    (rows_stuck ts c.args.rows c.args.self.now c.row.new.self (c.loop-row.row + 1) (xs ++ c.row.ensures.0) (map value_of c.row.new.cells.items) f.0 within f.1
    (rows_go ts c.args.rows c.args.self.now c.loop-row.self c.row.new.self c.loop-row.row xs c.row.ensures.0 c.loop-row.invariant.remain c.row.ensures.2))

pub loop-row-preserved : goal.loop-row-preserved
loop-row-preserved c =
    let ts = cell_types (metadata_of c.args.meta.now) in
    record {
      remain = subst (λ (xs : List Values). RowsRemain ts c.args.rows c.args.self.now c.row.new.self (c.loop-row.row + 1) xs) (sym c.row.ensures.1)
          (rows_go ts c.args.rows c.args.self.now c.loop-row.self c.row.new.self c.loop-row.row (map value_of c.loop-row.cells.items) c.row.ensures.0 c.loop-row.invariant.remain c.row.ensures.2);
      sound = none_of c.row.new.self.fault (sym c.is_some-in-loop-row.ensures ∙ c.if-is_some-2.false);
    }

pub returns : goal.returns
returns c =
    let m = metadata_of c.args.meta.now in
    let readable = c.requires (none_of c.args.self.now.fault (sym c.is_some.ensures ∙ c.if-is_some.false)) in
    cells_made m c.args.rows (map value_of c.loop-row.cells.items) c.args.self.now c.loop-row.self (column_count c.args.meta.now readable)
    (rows_end (cell_types m) c.args.rows c.args.self.now c.loop-row.self c.loop-row.row (map value_of c.loop-row.cells.items) c.loop-row.auto.row-end c.loop-row-test.false c.loop-row.invariant.remain)
