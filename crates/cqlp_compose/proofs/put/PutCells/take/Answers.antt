use Rattle.std.proofs.Common.{◌≡◌, rules, length, None, refl, sym, subst}
use Rattle.cqlp_grammar.specs.Events.{event_of}
use Rattle.cqlp_compose.specs.Put.{PutterState, Puts, putter}
use Rattle.cqlp_compose.specs.Single.{PutsCell, cell_bytes}
use Rattle.cqlp_compose.proofs.Putting.{none_under_way}
use Rattle.cqlp_compose.proofs.WholeCells.{puts_cell}
use Rattle.cqlp_compose.proofs.put.PutCells.take.Goals as goal

pub returns-in-Some : goal.returns-in-Some
returns-in-Some c =
    let s = c.args.self.now in
    let e = event_of c.args.event.now in
    let n = length c.args.room.now in
    let cell = cell_bytes c.in-Some.cell in
    let new = putter c.put_cell.new.self in
    let none : s.cells ≡ None = search rules in
    let same = none_under_way s.frame.now s.limits s.place s.place s.cells none refl in
    let g = c.put_cell.ensures in
    let put = subst (λ (t : PutterState). PutsCell t cell n c.put_cell.result g.0 new) same g.1 in
    let puts = puts_cell s.alloc s.frame.now s.place s.limits e cell n c.put_cell.result g.0 new c.in-Some.ensures put in
    (g.0, subst (λ (t : PutterState). Puts t e n c.put_cell.result g.0 new) (sym same) puts, g.2)
