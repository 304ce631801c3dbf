use Rattle.std.proofs.Common.{◌≡◌, ◌+◌, ◌++◌, ◌∷◌, [], length, List, ap, sym, subst, ◌∙◌, refl, arith}
use Rattle.cqlp_cell.specs.declared.open_values.OpenValue.{OpenValue}
use Rattle.cqlp_cell.specs.Progress.{CellState, state_of, due_value, state_after, Conforms}
use Rattle.cqlp_cell.specs.Reading.{counted_open, entered}
use Rattle.cqlp_cell.proofs.Entering.{counted_keys, counted_deep, counted_conforms}
use Rattle.std.proofs.lemmas.List.{length-append}
use Rattle.cqlp_cell.proofs.Levels.{level_entered}
use Rattle.cqlp_cell.specs.Levels.{level_of}
use Rattle.cqlp_cell.proofs.progress.CellProgress.open_counted.Goals as goal

pub inner_order-order-requires : goal.inner_order-order-requires
inner_order-order-requires g c =
    let r = c.requires in
    rw r.value (counted_keys c.args.table.now.nodes (state_of c.args.self.now) c.args.len c.args.count r.conforms r.due r.decided)

pub push-requires : goal.push-requires
push-requires g c =
    let r = c.requires in
    let deep = counted_deep c.args.table.now.nodes (state_of c.args.self.now) c.args.len c.args.count r.conforms r.due r.decided in
    let same = ap (λ (d : CellState). length d.open_values) c.pass.ensures.state in
    omega (arith, deep, same, c.pass.ensures.room, r.levels)

pub returns-clause-enters : goal.returns-clause-enters
returns-clause-enters g c =
    let r = c.requires in
    let nodes = c.args.table.now.nodes in
    let old = state_of c.args.self.now in
    let mid = state_of c.pass.new.self in
    let stop = c.args.self.now.offset + 4 + c.args.len in
    let inside = counted_open nodes (due_value nodes old) stop c.args.count in
    let opened : c.push.new.self.open_values ≡ mid.open_values ++ inside ∷ [] = ap (λ n. n.open_values) c.push.ensures ∙ rw (c.inner_order-order.ensures, c.from.ensures, r.value) refl in
    let is : record mid { open_values = c.push.new.self.open_values } ≡ entered (state_after nodes old 8) inside = ap (λ (os : List OpenValue). record mid { open_values = os }) opened ∙ ap (λ (d : CellState). entered d inside) c.pass.ensures.state in
    let conforms = counted_conforms nodes old c.args.len c.args.count r.conforms r.due r.decided r.count in
    (is, subst (Conforms nodes) (sym is) conforms)

pub returns-clause-level : goal.returns-clause-level
returns-clause-level g c =
    let r = c.requires in
    let nodes = c.args.table.now.nodes in
    let old = state_of c.args.self.now in
    let mid = state_of c.pass.new.self in
    let stop = c.args.self.now.offset + 4 + c.args.len in
    let inside = counted_open nodes (due_value nodes old) stop c.args.count in
    let opened : c.push.new.self.open_values ≡ mid.open_values ++ inside ∷ [] = ap (λ n. n.open_values) c.push.ensures ∙ rw (c.inner_order-order.ensures, c.from.ensures, r.value) refl in
    let is : record mid { open_values = c.push.new.self.open_values } ≡ entered (state_after nodes old 8) inside = ap (λ (os : List OpenValue). record mid { open_values = os }) opened ∙ ap (λ (d : CellState). entered d inside) c.pass.ensures.state in
    let long : length c.push.new.self.open_values ≡ length (state_after nodes old 8).open_values + 1 = ap (λ (d : CellState). length d.open_values) is ∙ length-append (state_after nodes old 8).open_values (inside ∷ []) in
    let offset : c.pass.new.self.offset ≡ old.offset + 8 = ap (λ (d : CellState). d.offset) c.pass.ensures.state in
    rw (c.inner_order-order.ensures, c.from.ensures, r.value, c.len-level.ensures.is, long, offset) (ap level_of is ∙ level_entered (state_after nodes old 8) inside refl refl)
