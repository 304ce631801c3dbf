use Rattle.std.proofs.Common.{◌≡◌, List, sym, ap, subst, ◌∙◌, refl}
use Rattle.cqlp_kind.specs.declared.node.Node.{Node}
use Rattle.cqlp_cell.specs.Levels.{passed}
use Rattle.cqlp_cell.specs.Progress.{HasNext}
use Rattle.cqlp_decode.specs.Progress.{nodes_of, parts_state}
use Rattle.cqlp_decode.specs.Sinks.{Gets, Fails}
use Rattle.cqlp_decode.proofs.Gets.{rest_is}
use Rattle.cqlp_decode.proofs.ItemLoop.{level_fits}
use Rattle.cqlp_decode.proofs.Rests.{before_first, due_is, next_place, next_fails, next_conforms}
use Rattle.cqlp_decode.proofs.progress.StreamProgress.hand_scalars.Goals as goal

pub due_item-requires : goal.due_item-requires
due_item-requires g c =
    let q = parts_state c.args.parts.now in
    rw c.page_table-table.ensures
    (level_fits c.args.self.now q c.args.page c.requires.ready.here c.args.level.now c.requires.ready.inside c.requires.ready.lawful)

pub scalars-init : goal.scalars-init
scalars-init g c =
    let s = c.args.self.now in
    let q = parts_state c.args.parts.now in
    let l = c.args.level.now in
    let nodes = nodes_of q c.args.page.columns in
    let is = due_is nodes l c.in-Some.first (sym (rw c.page_table-table.ensures at c.in-Some.ensures)) in
    let fits = level_fits s q c.args.page c.requires.ready.here l c.requires.ready.inside c.requires.ready.lawful is.1 in
    let front = rw is.0 at c.front_of-within.ensures.is in
    let few = rw is.0 at c.front_of-within.ensures.bound in
    before_first (Gets g.S.Sink) s q l c.args.input.now c.args.sink.now _ front few fits.inside c.requires.ready

pub due_item-requires-in-scalars : goal.due_item-requires-in-scalars
due_item-requires-in-scalars g c =
    let q = parts_state c.args.parts.now in
    let i = c.scalars.invariant in
    rw c.page_table-table.ensures
    (level_fits c.args.self.now q c.args.page c.requires.ready.here c.scalars.here i.conforms.inside i.conforms.lawful)

pub pass-requires-clause-next : goal.pass-requires-clause-next
pass-requires-clause-next g c =
    let q = parts_state c.args.parts.now in
    let i = c.scalars.invariant in
    let l = c.scalars.here in
    let nodes = nodes_of q c.args.page.columns in
    let is = due_is nodes l c.in-Some-due_item.due (sym (rw c.page_table-table.ensures at c.in-Some-due_item.ensures)) in
    let next = (level_fits c.args.self.now q c.args.page c.requires.ready.here l i.conforms.inside i.conforms.lawful is.1).next in
    subst (λ (z : List Node). HasNext z l.value l.value.order) (sym c.page_table-table.ensures) next

pub pass-requires-clause-place : goal.pass-requires-clause-place
pass-requires-clause-place g c =
    let nodes = nodes_of (parts_state c.args.parts.now) c.args.page.columns in
    let is = due_is nodes c.scalars.here c.in-Some-due_item.due (sym (rw c.page_table-table.ensures at c.in-Some-due_item.ensures)) in
    let one = rw (c.due_in.ensures, is.0) at c.in-Taken.ensures.hands in
    next_place c.requires.ready c.scalars.invariant refl is.1 one

pub scalars-preserved : goal.scalars-preserved
scalars-preserved g c =
    let l = c.scalars.here in
    let n = c.in-Taken.taken in
    let nodes = nodes_of (parts_state c.args.parts.now) c.args.page.columns in
    let is = due_is nodes l c.in-Some-due_item.due (sym (rw c.page_table-table.ensures at c.in-Some-due_item.ensures)) in
    let one = rw (c.due_in.ensures, is.0) at c.in-Taken.ensures.hands in
    let goes : c.pass.new.self ≡ passed nodes l n = c.pass.ensures ∙ ap (λ (z : List Node). passed z l n) c.page_table-table.ensures in
    let left = rest_is n c.scalars.rest.now in
    next_conforms c.requires.ready c.scalars.invariant refl is.1 one goes left one.holds

pub pass-requires-in-Fault-clause-next : goal.pass-requires-in-Fault-clause-next
pass-requires-in-Fault-clause-next g c =
    let q = parts_state c.args.parts.now in
    let i = c.scalars.invariant in
    let l = c.scalars.here in
    let nodes = nodes_of q c.args.page.columns in
    let is = due_is nodes l c.in-Some-due_item.due (sym (rw c.page_table-table.ensures at c.in-Some-due_item.ensures)) in
    let next = (level_fits c.args.self.now q c.args.page c.requires.ready.here l i.conforms.inside i.conforms.lawful is.1).next in
    subst (λ (z : List Node). HasNext z l.value l.value.order) (sym c.page_table-table.ensures) next

pub pass-requires-in-Fault-clause-place : goal.pass-requires-in-Fault-clause-place
pass-requires-in-Fault-clause-place g c =
    let nodes = nodes_of (parts_state c.args.parts.now) c.args.page.columns in
    let is = due_is nodes c.scalars.here c.in-Some-due_item.due (sym (rw c.page_table-table.ensures at c.in-Some-due_item.ensures)) in
    let one = rw (c.due_in.ensures, is.0) at c.in-Fault.ensures.hands in
    next_place c.requires.ready c.scalars.invariant refl is.1 one

pub returns-in-Fault : goal.returns-in-Fault
returns-in-Fault g c =
    let l = c.scalars.here in
    let n = c.in-Fault.taken in
    let nodes = nodes_of (parts_state c.args.parts.now) c.args.page.columns in
    let is = due_is nodes l c.in-Some-due_item.due (sym (rw c.page_table-table.ensures at c.in-Some-due_item.ensures)) in
    let one = rw (c.due_in.ensures, is.0) at c.in-Fault.ensures.hands in
    let goes : c.pass-in-Fault.new.self ≡ passed nodes l n = c.pass-in-Fault.ensures ∙ ap (λ (z : List Node). passed z l n) c.page_table-table.ensures in
    let stop = c.stop_at-in-Fault.ensures.level ∙ goes in
    let left = rest_is n c.scalars.rest.now in
    record {
      handed =
          rw c.stop_at-in-Fault.ensures.handed
          (next_fails c.requires.ready c.scalars.invariant refl is.1 one stop left (Fails g.S.Sink) one.holds);
    }
