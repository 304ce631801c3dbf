use Rattle.std.proofs.Common.{sym}
use Rattle.cqlp_note.specs.Head.{value_of}
use Rattle.cqlp_decode.proofs.Columns.{page_there, page_table_forest}
use Rattle.cqlp_decode.proofs.page.find_page.Goals as goal

pub returns : goal.returns
returns g c = λ u served depth f h.
    let nodes = c.args.table.now.nodes in
    let given = c.args.given.now in
    let begins = rw c.page_table.ensures at (c.first.ensures depth (rw c.page_table.ensures (page_table_forest c.columns_of-columns.result nodes given depth f h))) in
    rw c.in-PageRows.is (page_there nodes given u depth c.args.limits.now.types c.in-PageRows.flags c.in-PageRows.columns c.number.result (value_of c.args.value) c.args.served (sym c.number.ensures) (rw c.in-PageRows.is at served) c.columns_of-columns.result c.first.result c.columns_of-columns.ensures begins)
