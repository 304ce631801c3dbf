use Rattle.std.proofs.Common.{◌≡◌, ◌+◌, ◌∙◌, drop, sym, ap, subst}
use Rattle.std.specs.Prelude.{Ok}
use Rattle.cqlp_cell.proofs.Levels.{level_own}
use Rattle.cqlp_decode.specs.Cells.{StaysWithin}
use Rattle.cqlp_decode.specs.Progress.{IsConsistent, PartsState, StreamState, parts_state, state_of, state_with}
use Rattle.cqlp_decode.specs.Items.{TakesItem, at_level, part_emitted}
use Rattle.cqlp_decode.specs.Sinks.{Gets, Fails}
use Rattle.cqlp_decode.proofs.Gets.{rest_is}
use Rattle.cqlp_decode.proofs.Taken.{fails_then}
use Rattle.cqlp_decode.proofs.Lists.{back_level, entered_at, entry_faults, not_some, conformed_entered, conformed_items, conformed_stays}
use Rattle.cqlp_decode.proofs.list_loop.take_lists.Goals as goal

pub hand_lists-requires : goal.hand_lists-requires
hand_lists-requires g c =
    let q = parts_state c.enter_list.new.parts in
    let l = c.in-Some-enter_list.entered.level in
    let within = c.in-Some-enter_list.ensures.inside in
    record {
      ready = record {
        lawful = subst (λ (z : PartsState). IsConsistent c.begin_list.new.self z) (back_level q l within) c.in-Some-enter_list.ensures.lawful;
        inside = (level_own q.cells l within).0;
        here = c.in-Some.ensures.here;
        unrefused = ap (λ (z : StreamState). z.refusal) c.in-Some.ensures.same ∙ not_some _ (sym c.is_some.ensures ∙ c.if-is_some.false);
        empty = c.in-Some-enter_list.ensures.empty;
      };
    }

pub returns-in-Err-clause-drains : goal.returns-in-Err-clause-drains
returns-in-Err-clause-drains g c =
    let input = c.args.input.now in
    let sink = c.args.sink.now in
    let old = state_with c.args.progress.now c.args.parts.now in
    let none = not_some _ (sym c.is_some.ensures ∙ c.if-is_some.false) in
    let s = c.begin_list.new.self in
    let q = parts_state c.enter_list.new.parts in
    let p = c.in-Some.page in
    let t = c.in-Some-enter_list.entered in
    let emitted = part_emitted p.row p.column t.item.part in
    let same : state_with s c.begin_list.new.parts ≡ old = c.in-Some.ensures.same in
    let enters : TakesItem old input t.item.at t.item.used emitted (state_of s q) = subst (λ (z : StreamState). TakesItem z input t.item.at t.item.used emitted (state_of s q)) same c.in-Some-enter_list.ensures.takes in
    entry_faults (Gets g.S.Sink) old input sink none (state_of s q) t.item.at t.item.used emitted enters (Fails g.S.Sink) _ c.in-Err.ensures.err

pub returns-in-Ok-hand_lists-clause-stays : goal.returns-in-Ok-hand_lists-clause-stays
returns-in-Ok-hand_lists-clause-stays g c =
    let input = c.args.input.now in
    let sink = c.args.sink.now in
    let old = state_with c.args.progress.now c.args.parts.now in
    let none = not_some _ (sym c.is_some.ensures ∙ c.if-is_some.false) in
    let s = c.begin_list.new.self in
    let q = parts_state c.enter_list.new.parts in
    let p = c.in-Some.page in
    let t = c.in-Some-enter_list.entered in
    let emitted = part_emitted p.row p.column t.item.part in
    let enters = entered_at old (state_with s c.begin_list.new.parts) c.in-Some.ensures.same s q t.level c.in-Some-enter_list.ensures.inside input t.item.at t.item.used emitted c.in-Some-enter_list.ensures.takes in
    let inside = state_of s (at_level q t.level) in
    let entered = conformed_entered (Gets g.S.Sink) old input sink none inside t.item.at t.item.used emitted enters _ c.in-Ok.ensures.ok in
    let new = state_with c.hand_lists.new.self c.hand_lists.new.parts in
    let m = c.in-Ok-hand_lists in
    let w : StaysWithin inside (drop t.item.used input) (Ok m.more) new = rw rest_is at m.ensures.stays in
    let handed = conformed_items (Gets g.S.Sink) old input sink inside t.item.used _ entered new m.more w.0 w.1 w.2 w.3 _ (rw rest_is at m.ensures.drains) in
    conformed_stays (Gets g.S.Sink) old input sink new (t.item.used + m.more) _ handed

pub returns-in-Ok-hand_lists-clause-drains : goal.returns-in-Ok-hand_lists-clause-drains
returns-in-Ok-hand_lists-clause-drains g c =
    let input = c.args.input.now in
    let sink = c.args.sink.now in
    let old = state_with c.args.progress.now c.args.parts.now in
    let none = not_some _ (sym c.is_some.ensures ∙ c.if-is_some.false) in
    let s = c.begin_list.new.self in
    let q = parts_state c.enter_list.new.parts in
    let p = c.in-Some.page in
    let t = c.in-Some-enter_list.entered in
    let emitted = part_emitted p.row p.column t.item.part in
    let enters = entered_at old (state_with s c.begin_list.new.parts) c.in-Some.ensures.same s q t.level c.in-Some-enter_list.ensures.inside input t.item.at t.item.used emitted c.in-Some-enter_list.ensures.takes in
    let inside = state_of s (at_level q t.level) in
    let entered = conformed_entered (Gets g.S.Sink) old input sink none inside t.item.at t.item.used emitted enters _ c.in-Ok.ensures.ok in
    let new = state_with c.hand_lists.new.self c.hand_lists.new.parts in
    let m = c.in-Ok-hand_lists in
    let w : StaysWithin inside (drop t.item.used input) (Ok m.more) new = rw rest_is at m.ensures.stays in
    let handed = conformed_items (Gets g.S.Sink) old input sink inside t.item.used _ entered new m.more w.0 w.1 w.2 w.3 _ (rw rest_is at m.ensures.drains) in
    handed.drained

pub returns-in-Err-hand_lists-clause-drains : goal.returns-in-Err-hand_lists-clause-drains
returns-in-Err-hand_lists-clause-drains g c =
    let input = c.args.input.now in
    let sink = c.args.sink.now in
    let old = state_with c.args.progress.now c.args.parts.now in
    let none = not_some _ (sym c.is_some.ensures ∙ c.if-is_some.false) in
    let s = c.begin_list.new.self in
    let q = parts_state c.enter_list.new.parts in
    let p = c.in-Some.page in
    let t = c.in-Some-enter_list.entered in
    let emitted = part_emitted p.row p.column t.item.part in
    let enters = entered_at old (state_with s c.begin_list.new.parts) c.in-Some.ensures.same s q t.level c.in-Some-enter_list.ensures.inside input t.item.at t.item.used emitted c.in-Some-enter_list.ensures.takes in
    let inside = state_of s (at_level q t.level) in
    let entered = conformed_entered (Gets g.S.Sink) old input sink none inside t.item.at t.item.used emitted enters _ c.in-Ok.ensures.ok in
    let new = state_with c.hand_lists.new.self c.hand_lists.new.parts in
    fails_then (Gets g.S.Sink) (Fails g.S.Sink) old inside new input t.item.used c.in-Err-hand_lists.fault.used sink _ _ entered.drained (rw rest_is at c.in-Err-hand_lists.ensures.drains)
