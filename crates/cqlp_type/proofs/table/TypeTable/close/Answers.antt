use Rattle.std.proofs.Common.{◌≡◌, ◌≤◌, ◌<◌, List, length, sym, ap, arith}
use Rattle.cqlp_kind.specs.declared.node.Node.{Node}
use Rattle.cqlp_type.specs.Table.{Table}
use Rattle.cqlp_type.proofs.Nodes.{length_with_span, span_set, span_past}
use Rattle.cqlp_type.proofs.table.TypeTable.close.Goals as goal

pub returns-then-first-len : goal.returns-then-first-len
returns-then-first-len g c =
    let items = c.self.inside.nodes.items in
    let size : c.len-then-first-len.result ≡ length items = omega arith in
    let within : c.args.i < length items = omega arith in
    let table : List Node → Table = λ m. record { nodes = m; room = c.self.inside.room } in
    rw (← c.self.view_is, size) (ap table (span_set items c.args.i c.index_mut.result.now c.index_mut.ensures.value within))

pub returns-else-first-len : goal.returns-else-first-len
returns-else-first-len g c =
    let past : length c.self.inside.nodes.items ≤ c.args.i = omega arith in
    let table : List Node → Table = λ m. record { nodes = m; room = c.self.inside.room } in
    rw (← c.self.view_is) (ap table (sym (span_past c.self.inside.nodes.items c.args.i past)))

pub invariant_of-self : goal.invariant_of-self
invariant_of-self g c =
    let items = c.self.inside.nodes.items in
    let size : c.len-then-first-len.result ≡ length items = omega arith in
    let within : c.args.i < length items = omega arith in
    let is = span_set items c.args.i c.index_mut.result.now c.index_mut.ensures.value within in
    rw (size, is) (c.self.invariant.0, c.self.invariant.1, (rw length_with_span c.self.invariant.2.0, rw (← c.self.view_is) at c.requires))
