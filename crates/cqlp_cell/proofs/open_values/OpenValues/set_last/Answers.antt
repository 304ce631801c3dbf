use Rattle.std.proofs.Common.{◌≡◌, length, ap, List, arith}
use Rattle.cqlp_cell.specs.declared.open_values.OpenValue.{OpenValue}
use Rattle.cqlp_cell.proofs.Nesting.{last_set}
use Rattle.cqlp_cell.proofs.open_values.OpenValues.set_last.Goals as goal

pub returns-then-len-gt0 : goal.returns-then-len-gt0
returns-then-len-gt0 g c =
    let inside = c.self.inside in
    let items = inside.values.items in
    let size : c.len-len.result ≡ length items = omega arith in
    rw (← c.self.view_is, size) (ap (λ (x : List OpenValue). record { open_values = x; room = inside.room }) (last_set items c.args.value))
