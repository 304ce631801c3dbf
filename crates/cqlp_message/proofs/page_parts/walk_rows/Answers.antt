use Rattle.std.proofs.Common.{◌≡◌, ℕ, min, length, drop, sym, ap, ◌∙◌, rules}
use Rattle.std.proofs.lemmas.List.{nil_from_length, drop_min}
use Rattle.cqlp_kind.specs.Types.{how_many}
use Rattle.cqlp_message.specs.Bodies.{cell_types}
use Rattle.cqlp_message.specs.Owned.{metadata_of}
use Rattle.cqlp_message.proofs.Walks.{remains_all, remains_more, remains_none}
use Rattle.cqlp_message.proofs.PageWalks.{rows_rest, rows_start, rows_more, rows_all, rows_no_columns, rows_no_cells}
use Rattle.cqlp_message.proofs.page_parts.walk_rows.Goals as goal
use Rattle.cqlp_message.proofs.page_parts.walk_rows.Goals.{then-columns-eq0-via-then-columns-eq0, then-columns-eq0-via-else-columns-eq0+then-is_empty}

pub loop-row-init : goal.loop-row-init
loop-row-init g c = remains_all (rows_rest 0 c.args.rows (cell_types (metadata_of c.args.meta.now)) c.args.cells.now) (rows_start c.args.rows (cell_types (metadata_of c.args.meta.now)) c.args.cells.now)

pub loop-row-preserved : goal.loop-row-preserved
loop-row-preserved g c =
    let ts = cell_types (metadata_of c.args.meta.now) in
    let rest = c.loop-row.rest.now in
    let many = ap (λ (n : ℕ). drop (min n (length rest)) rest) c.columns_described-columns.ensures in
    let back : c.split_at.result.1.now ≡ drop (how_many ts) rest = c.split_at.ensures.back ∙ ap (λ (n : ℕ). drop n rest) c.min.ensures ∙ many ∙ drop_min (how_many ts) rest in
    let more = rows_more c.loop-row.row c.args.rows ts rest c.loop-row-test.true in
    rw back (remains_more _ _ (rw more at c.loop-row.invariant) c.walk_row.ensures)

pub returns-then-columns-eq0 : goal.returns-then-columns-eq0
returns-then-columns-eq0 g c =
    let ts = cell_types (metadata_of c.args.meta.now) in
    let rest = c.loop-row.rest.now in
    elim c.then-columns-eq0.branch [
      | then-columns-eq0-via-then-columns-eq0 w ↦
          remains_none (rw (rows_no_columns c.loop-row.row c.args.rows ts rest (sym c.columns_described-columns.ensures ∙ w.if-columns-eq0.true)) at c.loop-row.invariant)
      | then-columns-eq0-via-else-columns-eq0+then-is_empty w ↦
          let none : length rest ≡ 0 = search rules in
          remains_none (rw (rows_no_cells c.loop-row.row c.args.rows ts rest (nil_from_length rest none)) at c.loop-row.invariant)
    ]

pub returns : goal.returns
returns g c = remains_none (rw (rows_all c.loop-row.row c.args.rows (cell_types (metadata_of c.args.meta.now)) c.loop-row.rest.now c.loop-row-test.false) at c.loop-row.invariant)
