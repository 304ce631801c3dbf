use Rattle.std.proofs.Common.{sym, ◌∙◌, refl, arith}
use Rattle.cqlp_cell.proofs.Entering.{key_there, key_read}
use Rattle.cqlp_cell.proofs.reading.inner_order.Goals as goal

pub unwrap-requires : goal.unwrap-requires
unwrap-requires g c =
    let s = c.requires c.in-Map.is in
    rw c.node.ensures.is (key_there c.args.table.now.nodes c.args.value s.0 s.1)

pub overflow_add-result : goal.overflow_add-result
overflow_add-result g c =
    let s = c.requires c.in-Map.is in
    let read = key_read c.args.table.now.nodes c.args.value s.0 s.1 c.unwrap.result (sym c.node.ensures.is ∙ c.unwrap.ensures) in
    omega (arith, read.1)

pub returns-in-Map : goal.returns-in-Map
returns-in-Map g c =
    let s = c.requires c.in-Map.is in
    let read = key_read c.args.table.now.nodes c.args.value s.0 s.1 c.unwrap.result (sym c.node.ensures.is ∙ c.unwrap.ensures) in
    rw (c.in-Map.is, read.0) refl
