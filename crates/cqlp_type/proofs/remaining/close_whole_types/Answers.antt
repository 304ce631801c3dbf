use Rattle.std.proofs.Common.{◌≡◌, ◌∙◌, List, ap, sym, arith}
use Rattle.cqlp_kind.specs.TypeStep.{TypeSymbol, settled, with_span}
use Rattle.cqlp_type.specs.Table.{Table}
use Rattle.cqlp_type.proofs.Nodes.{length_with_span}
use Rattle.cqlp_type.proofs.remaining.close_whole_types.Goals as goal

pub loop-node-preserved : goal.loop-node-preserved
loop-node-preserved g c =
    let i = c.loop-node.invariant in
    let n = c.in-Whole.ensures in
    let before = c.loop-node.table.nodes in
    let nodes : c.close.new.self.nodes ≡ with_span c.in-Whole.node before = ap (λ (t : Table). t.nodes) c.close.ensures in
    let room : c.close.new.self.room ≡ c.loop-node.table.room = ap (λ (t : Table). t.room) c.close.ensures in
    record {
      settled = rw nodes (sym (ap (λ (x : List TypeSymbol). settled x before) n.0) ∙ i.settled);
      height = omega (arith, n.1, i.height);
      around = n.2 ∙ i.around;
      table = room ∙ i.table;
      types = rw nodes (rw n.0 at i.types).1;
      same = rw nodes (length_with_span c.in-Whole.node before ∙ i.same);
    }
