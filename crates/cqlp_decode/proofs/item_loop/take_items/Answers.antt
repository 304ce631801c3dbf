use Rattle.std.proofs.Common.{◌≡◌, ◌+◌, drop, sym, ap, subst, ◌∙◌, arith}
use Rattle.std.proofs.lemmas.List.{length-drop}
use Rattle.cqlp_decode.specs.Progress.{StreamState, state_with}
use Rattle.cqlp_decode.specs.Items.{TakesItem, part_emitted}
use Rattle.cqlp_decode.specs.Sinks.{Gets, Fails}
use Rattle.cqlp_decode.proofs.Gets.{rest_is}
use Rattle.cqlp_decode.proofs.Taken.{fails_then, hands_then, item_drains, item_fails}
use Rattle.cqlp_decode.proofs.item_loop.take_items.Goals as goal

pub returns-then-handed-clause-drains : goal.returns-then-handed-clause-drains
returns-then-handed-clause-drains g c =
    let i = c.items.invariant in
    let u = c.items.used in
    let m = c.hand_items-handed in
    let n = m.result.used in
    let input = c.args.input.now in
    let old = state_with c.items.progress c.items.parts in
    let mid = state_with c.items.progress m.new.parts in
    fails_then (Gets g.S.Sink) (Fails g.S.Sink) (state_with c.args.progress.now c.args.parts.now) old mid input u n _ _ _ i.drained (rw (rest_is, c.if-handed.true) at m.ensures.drains)

pub returns-in_default-take_part-clause-drains : goal.returns-in_default-take_part-clause-drains
returns-in_default-take_part-clause-drains g c =
    let i = c.items.invariant in
    let u = c.items.used in
    let m = c.hand_items-handed in
    let n = m.result.used in
    let input = c.args.input.now in
    let old = state_with c.items.progress c.items.parts in
    let mid = state_with c.items.progress m.new.parts in
    rw c.in_default-take_part.ensures.takes (hands_then (Gets g.S.Sink) (state_with c.args.progress.now c.args.parts.now) old mid input u n _ _ _ i.drained (rw (rest_is, c.if-handed.false) at m.ensures.drains))

pub returns-in-Err-clause-drains : goal.returns-in-Err-clause-drains
returns-in-Err-clause-drains g c =
    let i = c.items.invariant in
    let u = c.items.used in
    let m = c.hand_items-handed in
    let n = m.result.used in
    let input = c.args.input.now in
    let old = state_with c.items.progress c.items.parts in
    let mid = state_with c.items.progress m.new.parts in
    let t = c.in-Some-take_part.taken.item in
    let p = c.items.page in
    let emitted = part_emitted p.row p.column t.part in
    let new = state_with c.take_part.new.self c.take_part.new.parts in
    let h : TakesItem mid (drop (u + n) input) t.at t.used emitted new = rw rest_is at c.in-Some-take_part.ensures.takes in
    item_fails (Gets g.S.Sink) (state_with c.args.progress.now c.args.parts.now) mid new input (u + n) _ _ (hands_then (Gets g.S.Sink) (state_with c.args.progress.now c.args.parts.now) old mid input u n _ _ _ i.drained (rw (rest_is, c.if-handed.false) at m.ensures.drains)) i.unrefused t.at t.used emitted h (Fails g.S.Sink) _ c.in-Err.ensures.err

pub returns-in_default-enter_cell-clause-drains : goal.returns-in_default-enter_cell-clause-drains
returns-in_default-enter_cell-clause-drains g c =
    let i = c.items.invariant in
    let u = c.items.used in
    let m = c.hand_items-handed in
    let n = m.result.used in
    let input = c.args.input.now in
    let old = state_with c.items.progress c.items.parts in
    let mid = state_with c.items.progress m.new.parts in
    let t = c.in-Some-take_part.taken.item in
    let p = c.items.page in
    let emitted = part_emitted p.row p.column t.part in
    let over = state_with c.take_part.new.self c.take_part.new.parts in
    let new = state_with c.enter_cell-then-taken.new.self c.enter_cell-then-taken.new.parts in
    let same : new ≡ over = c.in_default-enter_cell.ensures.same in
    let taken : TakesItem mid (drop (u + n) input) t.at t.used emitted over = rw rest_is at c.in-Some-take_part.ensures.takes in
    let h : TakesItem mid (drop (u + n) input) t.at t.used emitted new = subst (λ (z : StreamState). TakesItem mid (drop (u + n) input) t.at t.used emitted z) (sym same) taken in
    item_drains (Gets g.S.Sink) (state_with c.args.progress.now c.args.parts.now) mid new input (u + n) _ _ (hands_then (Gets g.S.Sink) (state_with c.args.progress.now c.args.parts.now) old mid input u n _ _ _ i.drained (rw (rest_is, c.if-handed.false) at m.ensures.drains)) i.unrefused t.at t.used emitted h _ c.in-Ok.ensures.ok

pub items-preserved-then-taken : goal.items-preserved-then-taken
items-preserved-then-taken g c =
    let i = c.items.invariant in
    let u = c.items.used in
    let m = c.hand_items-handed in
    let n = m.result.used in
    let input = c.args.input.now in
    let old = state_with c.items.progress c.items.parts in
    let mid = state_with c.items.progress m.new.parts in
    let t = c.in-Some-take_part.taken.item in
    let p = c.items.page in
    let emitted = part_emitted p.row p.column t.part in
    let over = state_with c.take_part.new.self c.take_part.new.parts in
    let new = state_with c.enter_cell-then-taken.new.self c.enter_cell-then-taken.new.parts in
    let same : new ≡ over = c.in-Some-enter_cell.ensures.same in
    let taken : TakesItem mid (drop (u + n) input) t.at t.used emitted over = rw rest_is at c.in-Some-take_part.ensures.takes in
    let h : TakesItem mid (drop (u + n) input) t.at t.used emitted new = subst (λ (z : StreamState). TakesItem mid (drop (u + n) input) t.at t.used emitted z) (sym same) taken in
    let w = rw rest_is at m.ensures.within in
    record {
      within = omega (arith, i.within, w.0, h.3.within, length-drop u input, length-drop (u + n) input);
      lawful = c.in-Some-enter_cell.ensures.lawful;
      here = c.in-Some-enter_cell.ensures.here;
      unrefused = h.0 ∙ i.unrefused;
      empty = ap (λ (z : StreamState). z.held) same ∙ c.in-Some-take_part.ensures.empty;
      rules = h.1 ∙ i.rules;
      given = h.2 ∙ m.ensures.given ∙ i.given;
      pays = omega (arith, h.3.pays, w.1, i.pays);
      drained =
          item_drains (Gets g.S.Sink) (state_with c.args.progress.now c.args.parts.now) mid new input (u + n) _ _ (hands_then (Gets g.S.Sink) (state_with c.args.progress.now c.args.parts.now) old mid input u n _ _ _ i.drained (rw (rest_is, c.if-handed.false) at m.ensures.drains)) i.unrefused t.at t.used emitted h _ c.in-Ok.ensures.ok;
    }

pub items-preserved : goal.items-preserved
items-preserved g c =
    let i = c.items.invariant in
    let u = c.items.used in
    let m = c.hand_items-handed in
    let n = m.result.used in
    let input = c.args.input.now in
    let old = state_with c.items.progress c.items.parts in
    let mid = state_with c.items.progress m.new.parts in
    let t = c.in-Some-take_part.taken.item in
    let p = c.items.page in
    let emitted = part_emitted p.row p.column t.part in
    let new = state_with c.take_part.new.self c.take_part.new.parts in
    let h : TakesItem mid (drop (u + n) input) t.at t.used emitted new = rw rest_is at c.in-Some-take_part.ensures.takes in
    let w = rw rest_is at m.ensures.within in
    record {
      within = omega (arith, i.within, w.0, h.3.within, length-drop u input, length-drop (u + n) input);
      lawful = c.in-Some-take_part.ensures.lawful;
      here = c.in-Some-take_part.ensures.here c.if-taken.false;
      unrefused = h.0 ∙ i.unrefused;
      empty = c.in-Some-take_part.ensures.empty;
      rules = h.1 ∙ i.rules;
      given = h.2 ∙ m.ensures.given ∙ i.given;
      pays = omega (arith, h.3.pays, w.1, i.pays);
      drained =
          item_drains (Gets g.S.Sink) (state_with c.args.progress.now c.args.parts.now) mid new input (u + n) _ _ (hands_then (Gets g.S.Sink) (state_with c.args.progress.now c.args.parts.now) old mid input u n _ _ _ i.drained (rw (rest_is, c.if-handed.false) at m.ensures.drains)) i.unrefused t.at t.used emitted h _ c.in-Ok.ensures.ok;
    }
