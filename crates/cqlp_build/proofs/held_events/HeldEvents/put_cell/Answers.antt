use Rattle.std.proofs.Common.{ap}
use Rattle.cqlp_kind.specs.Contents.{value_of}
use Rattle.cqlp_build.proofs.PutCells.{put_event, put_fits}
use Rattle.cqlp_build.proofs.held_events.HeldEvents.put_cell.Goals as goal

pub invariant_of-self : goal.invariant_of-self
invariant_of-self c = λ t.
    let h = c.self.inside in
    let next = c.is_next.ensures c.if-not-is_next.false in
    let before = c.self.invariant t in
    let fits = put_fits c.put_scalar.result c.kind_at-kind.result (value_of c.args.scalar.now) h.last c.args.column h.kinds.items h.cells.items c.put_scalar.new.cells.items c.put_scalar.ensures.put
    c.kind_at-kind.ensures next.3 before.0 in
    (fits, c.put_scalar.ensures.sized before.1)

pub returns : goal.returns
returns c =
    let h = c.self.inside in
    let next = c.is_next.ensures c.if-not-is_next.false in
    put_event c.put_scalar.result c.kind_at-kind.result (value_of c.args.scalar.now) h c.args.self.now c.args.row c.args.column c.put_scalar.new.cells.items c.put_scalar.ensures.put
    (ap (λ x. x.items) c.self.view_is) next.0 next.1 next.2 next.3
