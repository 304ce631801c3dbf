use Rattle.std.proofs.Common.{◌≡◌, refl, sym, ap, ◌∙◌}
use Rattle.cqlp_type.specs.Forests.{node_at}
use Rattle.cqlp_cell.specs.declared.level.Level.{Level}
use Rattle.cqlp_cell.specs.Progress.{over_by}
use Rattle.cqlp_cell.specs.Levels.{passed}
use Rattle.cqlp_cell.proofs.Levels.{element_passed}
use Rattle.cqlp_decode.specs.Progress.{nodes_of, parts_state}
use Rattle.cqlp_decode.specs.Sinks.{Gets, Fails}
use Rattle.cqlp_decode.proofs.Gets.{rest_is}
use Rattle.cqlp_decode.proofs.ItemLoop.{some_left, level_fits}
use Rattle.cqlp_decode.proofs.Rests.{before_first, element_is, next_place, next_fails, next_conforms}
use Rattle.cqlp_decode.proofs.progress.StreamProgress.hand_elements.Goals as goal

pub due_element-requires-clause-inside : goal.due_element-requires-clause-inside
due_element-requires-clause-inside g c = λ some.
    let l = c.args.level.now in
    let more = ap (over_by l.value l.offset) c.requires.list ∙ some_left l.value.left some in
    (level_fits c.args.self.now (parts_state c.args.parts.now) c.args.page c.requires.ready.here l c.requires.ready.inside c.requires.ready.lawful more).inside

pub elements-init : goal.elements-init
elements-init g c =
    let s = c.args.self.now in
    let q = parts_state c.args.parts.now in
    let l = c.args.level.now in
    let is = element_is l c.args.kind c.in-Some.first c.requires.list (sym c.in-Some.ensures) in
    let fits = level_fits s q c.args.page c.requires.ready.here l c.requires.ready.inside c.requires.ready.lawful is.1 in
    let front = rw is.0 at c.front_of-within.ensures.is in
    let few = rw is.0 at c.front_of-within.ensures.bound in
    record {
      list = c.requires.list;
      node = refl;
      conforms = before_first (Gets g.S.Sink) s q l c.args.input.now c.args.sink.now _ front few fits.inside c.requires.ready;
    }

pub pass_element-requires-clause-place : goal.pass_element-requires-clause-place
pass_element-requires-clause-place g c =
    let i = c.elements.invariant in
    let l = c.elements.here in
    let nodes = nodes_of (parts_state c.args.parts.now) c.args.page.columns in
    let kind : c.args.kind ≡ (node_at nodes l.value.node).kind = rw i.node c.requires.kind in
    let is = element_is l c.args.kind c.in-Some-due_element.due i.list (sym c.in-Some-due_element.ensures) in
    let one = rw (c.due_in.ensures, is.0) at c.in-Taken.ensures.hands in
    next_place c.requires.ready i.conforms kind is.1 one

pub elements-preserved : goal.elements-preserved
elements-preserved g c =
    let i = c.elements.invariant in
    let l = c.elements.here in
    let n = c.in-Taken.taken in
    let nodes = nodes_of (parts_state c.args.parts.now) c.args.page.columns in
    let kind : c.args.kind ≡ (node_at nodes l.value.node).kind = rw i.node c.requires.kind in
    let is = element_is l c.args.kind c.in-Some-due_element.due i.list (sym c.in-Some-due_element.ensures) in
    let one = rw (c.due_in.ensures, is.0) at c.in-Taken.ensures.hands in
    let goes : c.pass_element.new.self ≡ passed nodes l n = c.pass_element.ensures ∙ element_passed nodes l n i.list in
    let left = rest_is n c.elements.rest.now in
    record {
      list = ap (λ (z : Level). z.value.order) c.pass_element.ensures ∙ i.list;
      node = ap (λ (z : Level). z.value.node) c.pass_element.ensures ∙ i.node;
      conforms = next_conforms c.requires.ready i.conforms kind is.1 one goes left one.holds;
    }

pub pass_element-requires-in-Fault-clause-place : goal.pass_element-requires-in-Fault-clause-place
pass_element-requires-in-Fault-clause-place g c =
    let i = c.elements.invariant in
    let l = c.elements.here in
    let nodes = nodes_of (parts_state c.args.parts.now) c.args.page.columns in
    let kind : c.args.kind ≡ (node_at nodes l.value.node).kind = rw i.node c.requires.kind in
    let is = element_is l c.args.kind c.in-Some-due_element.due i.list (sym c.in-Some-due_element.ensures) in
    let one = rw (c.due_in.ensures, is.0) at c.in-Fault.ensures.hands in
    next_place c.requires.ready i.conforms kind is.1 one

pub returns-in-Fault : goal.returns-in-Fault
returns-in-Fault g c =
    let i = c.elements.invariant in
    let l = c.elements.here in
    let n = c.in-Fault.taken in
    let nodes = nodes_of (parts_state c.args.parts.now) c.args.page.columns in
    let kind : c.args.kind ≡ (node_at nodes l.value.node).kind = rw i.node c.requires.kind in
    let is = element_is l c.args.kind c.in-Some-due_element.due i.list (sym c.in-Some-due_element.ensures) in
    let one = rw (c.due_in.ensures, is.0) at c.in-Fault.ensures.hands in
    let goes : c.pass_element-in-Fault.new.self ≡ passed nodes l n = c.pass_element-in-Fault.ensures ∙ element_passed nodes l n i.list in
    let left = rest_is n c.elements.rest.now in
    record {
      handed =
          rw c.stop_at-in-Fault.ensures.handed
          (next_fails c.requires.ready i.conforms kind is.1 one (c.stop_at-in-Fault.ensures.level ∙ goes) left (Fails g.S.Sink) one.holds);
    }
