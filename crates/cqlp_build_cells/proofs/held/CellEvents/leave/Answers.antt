use Rattle.std.proofs.Common.{ap, sym, ◌∙◌}
use Rattle.cqlp_build_cells.specs.declared.held.CellEvents.{CellEvents}
use Rattle.cqlp_build_cells.proofs.Built.{fewer_any, leave_built, leave_refused, refused_fewer}
use Rattle.cqlp_build_cells.proofs.held.CellEvents.leave.Goals as goal

pub returns-then-leaves : goal.returns-then-leaves
returns-then-leaves c = record {
  is = leave_built c.args.level c.args.count c.next-next.result c.args.self.now c.next-next.new.self c.next-next.ensures.is (sym c.leaves.ensures ∙ c.if-leaves.true);
  fewer = fewer_any c.next-next.result c.args.self.now c.next-next.new.self c.next-next.ensures.fewer;
}

pub returns : goal.returns
returns c = record {
  is = leave_refused c.args.level c.args.count c.next-next.result c.args.self.now c.next-next.new.self c.refuse.new.self c.next-next.ensures.is (sym c.leaves.ensures ∙ c.if-leaves.false) (ap (λ (h : CellEvents). h.fault) c.refuse.ensures);
  fewer = refused_fewer c.next-next.result c.args.self.now c.next-next.new.self c.refuse.new.self c.next-next.ensures.fewer c.refuse.ensures;
}
