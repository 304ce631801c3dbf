use Rattle.std.proofs.Common.{◌∙◌, arith}
use Rattle.std.proofs.lemmas.List.{length-drop}
use Rattle.cqlp_decode.specs.Progress.{state_with}
use Rattle.cqlp_decode.specs.Sinks.{Gets, Fails}
use Rattle.cqlp_decode.proofs.Gets.{rest_is}
use Rattle.cqlp_decode.proofs.Taken.{item_drains, item_fails}
use Rattle.cqlp_decode.proofs.field_loop.take_fields.Goals as goal

pub fields-preserved : goal.fields-preserved
fields-preserved g c =
    let i = c.fields.invariant in
    let old = state_with c.fields.progress c.fields.parts in
    let new = state_with c.hand_due.new.self c.hand_due.new.parts in
    let input = c.args.input.now in
    let one = rw rest_is at c.in-Taken.ensures.hands in
    let h = one.takes in
    record {
      within = omega (arith, i.within, h.3.within, length-drop c.fields.used input);
      lawful = c.in-Taken.ensures.lawful;
      unrefused = h.0 ∙ i.unrefused;
      rules = h.1 ∙ i.rules;
      given = h.2 ∙ i.given;
      pays = omega (arith, h.3.pays, i.pays);
      drained = item_drains (Gets g.S.Sink) (state_with c.args.progress.now c.args.parts.now) old new input c.fields.used _ _ i.drained i.unrefused one.at c.in-Taken.taken one.event h _ one.holds;
    }

pub returns-in-Fault-clause-drains : goal.returns-in-Fault-clause-drains
returns-in-Fault-clause-drains g c =
    let i = c.fields.invariant in
    let old = state_with c.fields.progress c.fields.parts in
    let new = state_with c.hand_due.new.self c.hand_due.new.parts in
    let input = c.args.input.now in
    let one = rw rest_is at c.in-Fault.ensures.hands in
    item_fails (Gets g.S.Sink) (state_with c.args.progress.now c.args.parts.now) old new input c.fields.used _ _ i.drained i.unrefused one.at c.in-Fault.taken one.event one.takes (Fails g.S.Sink) _ one.holds
