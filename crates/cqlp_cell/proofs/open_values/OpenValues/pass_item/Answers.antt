use Rattle.std.proofs.Common.{◌≡◌, ◌<◌, length, ap, List, Some, arith}
use Rattle.cqlp_cell.specs.declared.open_values.OpenValue.{OpenValue}
use Rattle.cqlp_cell.specs.OpenValues.{last_open}
use Rattle.cqlp_cell.proofs.Nesting.{last_item, passed_is}
use Rattle.cqlp_cell.proofs.open_values.OpenValues.pass_item.Goals as goal

pub pass_item-requires : goal.pass_item-requires
pass_item-requires g c =
    let items = c.self.inside.values.items in
    let size : c.len-len.result ≡ length items = omega arith in
    let some : 0 < length items = omega (arith, c.if-len-gt0.true) in
    let last : last_open items ≡ Some c.index_mut.result.now = last_item items c.index_mut.result.now some (rw size at c.index_mut.ensures.value) in
    let here : last_open c.args.self.now.open_values ≡ Some c.index_mut.result.now = rw (← c.self.view_is) last in
    rw here at c.requires

pub returns-then-len-gt0 : goal.returns-then-len-gt0
returns-then-len-gt0 g c =
    let inside = c.self.inside in
    let items = inside.values.items in
    let size : c.len-len.result ≡ length items = omega arith in
    let some : 0 < length items = omega (arith, c.if-len-gt0.true) in
    let last : last_open items ≡ Some c.index_mut.result.now = last_item items c.index_mut.result.now some (rw size at c.index_mut.ensures.value) in
    rw (← c.self.view_is, size) (ap (λ (x : List OpenValue). record { open_values = x; room = inside.room }) (passed_is c.args.table.now.nodes items c.index_mut.result.now c.pass_item.new.self last c.pass_item.ensures))
