use Rattle.std.proofs.Common.{◌≡◌, length, vec_len, ap, List, arith}
use Rattle.cqlp_cell.specs.declared.open_values.OpenValue.{OpenValue}
use Rattle.cqlp_cell.proofs.Nesting.{front_is}
use Rattle.cqlp_cell.proofs.open_values.OpenValues.pop.Goals as goal

pub returns : goal.returns
returns g c =
    let inside = c.self.inside in
    let size : vec_len inside.values ≡ length inside.values.items = omega arith in
    rw (← c.self.view_is, c.pop.ensures.rest, size) (ap (λ (x : List OpenValue). record { open_values = x; room = inside.room }) (front_is inside.values.items))
