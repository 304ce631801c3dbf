use Rattle.std.proofs.Common.{◌≡◌, ◌+◌, ◌^◌, ◌<◌, ◌++◌, ◌∷◌, [], length, List, ap, sym, subst, ◌∙◌, refl, arith}
use Rattle.cqlp_cell.specs.declared.open_values.OpenValue.{OpenValue}
use Rattle.cqlp_cell.specs.Progress.{CellState, state_of, due_value, state_after, Conforms}
use Rattle.cqlp_cell.specs.Reading.{fields_open, entered}
use Rattle.cqlp_cell.proofs.Entering.{fields_deep, fields_conforms}
use Rattle.cqlp_cell.proofs.progress.CellProgress.enter_fields.Goals as goal

pub push-requires : goal.push-requires
push-requires g c =
    let r = c.requires in
    let low : (due_value c.args.table.now.nodes (state_of c.args.self.now)).arity < 2 ^ 16 = rw (← r.value) (omega arith) in
    let deep = fields_deep c.args.table.now.nodes (state_of c.args.self.now) c.args.len r.conforms r.due r.decided low in
    let same = ap (λ (d : CellState). length d.open_values) c.pass.ensures.state in
    omega (arith, deep, same, c.pass.ensures.room, r.levels)

pub returns-clause-enters : goal.returns-clause-enters
returns-clause-enters g c =
    let r = c.requires in
    let nodes = c.args.table.now.nodes in
    let old = state_of c.args.self.now in
    let low : (due_value nodes old).arity < 2 ^ 16 = rw (← r.value) (omega arith) in
    let mid = state_of c.pass.new.self in
    let stop = c.args.self.now.offset + 4 + c.args.len in
    let inside = fields_open (due_value nodes old) stop in
    let opened : c.push.new.self.open_values ≡ mid.open_values ++ inside ∷ [] = ap (λ n. n.open_values) c.push.ensures ∙ rw (c.from.ensures, c.from-arity.ensures, r.value) refl in
    let is : record mid { open_values = c.push.new.self.open_values } ≡ entered (state_after nodes old 4) inside = ap (λ (os : List OpenValue). record mid { open_values = os }) opened ∙ ap (λ (d : CellState). entered d inside) c.pass.ensures.state in
    let conforms = fields_conforms nodes old c.args.len r.conforms r.due r.decided low in
    (is, subst (Conforms nodes) (sym is) conforms)
