use Rattle.std.proofs.Common.{ℕ, ap}
use Rattle.cqlp_type.specs.Table.{Table}
use Rattle.cqlp_decode.proofs.decoder.Decoder.table.Goals as goal

pub returns : goal.returns
returns g c =
    let table : Table = c.self.inside.parts.table in
    rw (← c.self.view_is) (ap (λ (n : ℕ). record { nodes = table.nodes; room = n }) c.self.invariant.parts.table)
