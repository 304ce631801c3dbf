use Rattle.std.proofs.Common.{None, refl, ap, ◌∙◌}
use Rattle.cqlp_type.specs.Table.{Table}
use Rattle.cqlp_type.specs.Progress as type
use Rattle.cqlp_cell.specs.Progress as value
use Rattle.cqlp_decode.specs.Progress.{IsFresh, parts}
use Rattle.cqlp_decode.proofs.decoder.Decoder.with_room.Goals as goal

pub invariant_of-result : goal.invariant_of-result
invariant_of-result g c =
    let field = c.in_ok-partial.ensures in
    let types = c.in_ok-types.ensures in
    let cells = c.in_ok-cells.ensures in
    let table = c.in_ok-table.ensures in
    let limits = c.new-progress.ensures.limits in
    let q = parts c.in_ok-partial.partial c.in_ok-types.types c.in_ok-cells.cells c.in_ok-table.table None in
    let fresh : IsFresh q = record {
      idle = record { field = field.idle; types = rw types refl; cells = rw cells refl };
      quiet = record { types = λ _. rw types refl; cells = λ _. rw cells refl };
      types = ap (λ (t : Table). t.nodes) table;
      given = refl;
    } in
    c.new-progress.ensures.lawful q fresh
    (rw limits (record { room = field.room ∙ c.max.ensures; rules = ap (λ (r : type.TypeState). r.rules) types; cells = ap (λ (z : value.CellState). z.rules) cells; table = ap (λ (t : Table). t.room) table; few = c.requires.entries }))
