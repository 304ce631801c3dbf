use Rattle.std.proofs.Common.{rules, [], length, Ok, Err, ap, subst}
use Rattle.cqlp_grammar.specs.Events.{event_of}
use Rattle.cqlp_build_cells.specs.Building.{ends_cell}
use Rattle.cqlp_compose.specs.declared.put.PutCells.{PutCells}
use Rattle.cqlp_compose.specs.Cells.{CellsState, Takes, state}
use Rattle.cqlp_compose.specs.Put.{GoesOn, PutterState, putter, within}
use Rattle.cqlp_compose.proofs.Putting.{is_whole, refused, taken_puts}
use Rattle.cqlp_compose.proofs.put.PutCells.take_next.Goals as goal

pub pass_event-requires-clause-whole : goal.pass_event-requires-clause-whole
pass_event-requires-clause-whole c last = is_whole (state c.take_cells-cells.result) (state c.take.new.self) (event_of c.args.event.now) last c.in-Ok.ensures

pub returns-in-Ok : goal.returns-in-Ok
returns-in-Ok c =
    let e = event_of c.args.event.now in
    let mid = state c.take.new.self in
    let old = putter c.args.self.now in
    let takes = subst (λ (s : CellsState). Takes s e (Ok tt) mid) c.take_cells-cells.ensures.is c.in-Ok.ensures in
    let g = c.pass_event.ensures in
    let same = ap (λ (x : PutCells). within (putter x) mid) c.take_cells-cells.ensures.none in
    let goes = subst (λ (s : PutterState). GoesOn (ends_cell e) s (length c.args.room.now) c.pass_event.result g.0 (putter c.pass_event.new.self)) same g.1 in
    (g.0, taken_puts old e (length c.args.room.now) mid c.pass_event.result g.0 (putter c.pass_event.new.self) takes goes, g.2)

pub returns-in-Err : goal.returns-in-Err
returns-in-Err c =
    let e = event_of c.args.event.now in
    let mid = state c.take.new.self in
    let takes = subst (λ (s : CellsState). Takes s e (Err c.in-Err.why) mid) c.take_cells-cells.ensures.is c.in-Err.ensures in (
      [],
      refused (putter c.args.self.now) e (length c.args.room.now) mid c.in-Err.why (putter c.take_cells-cells.new.self) takes (ap (λ (x : PutCells). putter x) c.take_cells-cells.ensures.none),
      search rules,
    )
