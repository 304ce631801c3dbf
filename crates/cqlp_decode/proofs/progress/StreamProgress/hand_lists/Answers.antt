use Rattle.std.proofs.Common.{◌+◌, ◌∙◌, drop, refl, arith}
use Rattle.std.proofs.lemmas.List.{length-drop}
use Rattle.cqlp_decode.specs.Progress.{nodes_of, parts_state, state_of, state_with}
use Rattle.cqlp_decode.specs.Items.{TakesItem, at_level, part_emitted}
use Rattle.cqlp_decode.specs.Sinks.{Gets, Fails}
use Rattle.cqlp_decode.proofs.Gets.{rest_is}
use Rattle.cqlp_decode.proofs.Lists.{still_at, item_faults, item_stays, items_fault, items_stay, level_conforms, conformed_item, conformed_items, conformed_stays}
use Rattle.cqlp_decode.proofs.progress.StreamProgress.hand_lists.Goals as goal

pub returns-then-handed-clause-lawful : goal.returns-then-handed-clause-lawful
returns-then-handed-clause-lawful g c =
    rw c.set_level.ensures c.hand_counted-handed.ensures.handed.lawful

pub returns-then-handed-clause-stays : goal.returns-then-handed-clause-stays
returns-then-handed-clause-stays g c =
    let i = c.lists.invariant in
    let u = c.lists.used in
    let input = c.args.input.now in
    let sink = c.args.sink.now in
    let old = state_of c.args.self.now (at_level (parts_state c.args.parts.now) c.args.start) in
    let s = c.lists.self in
    let q = parts_state c.lists.parts in
    let p = c.lists.page in
    let here = state_of s (at_level q c.lists.level) in
    let m = c.hand_counted-handed in
    let behind = state_of s (at_level q m.new.level) in
    items_stay (Gets g.S.Sink) old input sink here u _ i.conformed behind m.result.used (rw rest_is at m.ensures.handed.within) refl refl refl

pub returns-then-handed-clause-drains : goal.returns-then-handed-clause-drains
returns-then-handed-clause-drains g c =
    let i = c.lists.invariant in
    let u = c.lists.used in
    let input = c.args.input.now in
    let sink = c.args.sink.now in
    let old = state_of c.args.self.now (at_level (parts_state c.args.parts.now) c.args.start) in
    let s = c.lists.self in
    let q = parts_state c.lists.parts in
    let p = c.lists.page in
    let here = state_of s (at_level q c.lists.level) in
    let m = c.hand_counted-handed in
    let behind = state_of s (at_level q m.new.level) in
    rw c.set_level.ensures (items_fault (Gets g.S.Sink) old input sink here u _ i.conformed behind m.result.used (rw rest_is at m.ensures.handed.within) refl refl refl (Fails g.S.Sink) _ (rw (rest_is, c.if-handed.true) at m.ensures.handed.drains))

pub returns-in_default-clause-lawful : goal.returns-in_default-clause-lawful
returns-in_default-clause-lawful g c =
    rw c.set_level-in_default.ensures c.hand_counted-handed.ensures.handed.lawful

pub returns-in_default-clause-stays : goal.returns-in_default-clause-stays
returns-in_default-clause-stays g c =
    let i = c.lists.invariant in
    let u = c.lists.used in
    let input = c.args.input.now in
    let sink = c.args.sink.now in
    let old = state_of c.args.self.now (at_level (parts_state c.args.parts.now) c.args.start) in
    let s = c.lists.self in
    let q = parts_state c.lists.parts in
    let p = c.lists.page in
    let here = state_of s (at_level q c.lists.level) in
    let m = c.hand_counted-handed in
    let behind = state_of s (at_level q m.new.level) in
    let k = u + m.result.used in
    let handed = conformed_items (Gets g.S.Sink) old input sink here u _ i.conformed behind m.result.used (rw rest_is at m.ensures.handed.within) refl refl refl _ (rw (rest_is, c.if-handed.false) at m.ensures.handed.drains) in
    rw c.set_level-in_default.ensures (conformed_stays (Gets g.S.Sink) old input sink behind k _ handed)

pub returns-in_default-clause-drains : goal.returns-in_default-clause-drains
returns-in_default-clause-drains g c =
    let i = c.lists.invariant in
    let u = c.lists.used in
    let input = c.args.input.now in
    let sink = c.args.sink.now in
    let old = state_of c.args.self.now (at_level (parts_state c.args.parts.now) c.args.start) in
    let s = c.lists.self in
    let q = parts_state c.lists.parts in
    let p = c.lists.page in
    let here = state_of s (at_level q c.lists.level) in
    let m = c.hand_counted-handed in
    let behind = state_of s (at_level q m.new.level) in
    let k = u + m.result.used in
    let handed = conformed_items (Gets g.S.Sink) old input sink here u _ i.conformed behind m.result.used (rw rest_is at m.ensures.handed.within) refl refl refl _ (rw (rest_is, c.if-handed.false) at m.ensures.handed.drains) in
    rw c.set_level-in_default.ensures handed.drained

pub end_list-requires-clause-ready : goal.end_list-requires-clause-ready
end_list-requires-clause-ready g c = still_at c.lists.invariant.ready c.hand_counted-handed.ensures.handed

pub end_list-requires-clause-ends : goal.end_list-requires-clause-ends
end_list-requires-clause-ends g c =
    let m = c.hand_counted-handed in
    let q = parts_state c.lists.parts in
    c.in-Some.ensures.is (nodes_of q c.lists.page.columns) q.cells m.ensures.handed.inside (level_conforms c.lists.self q c.lists.page c.lists.invariant.ready.here m.new.level m.ensures.handed.lawful)

pub end_list-requires-in_default-next_list-clause-ready : goal.end_list-requires-in_default-next_list-clause-ready
end_list-requires-in_default-next_list-clause-ready g c =
    rw c.in_default-next_list.ensures.goes (still_at c.lists.invariant.ready c.hand_counted-handed.ensures.handed)

pub end_list-requires-in_default-next_list-clause-ends : goal.end_list-requires-in_default-next_list-clause-ends
end_list-requires-in_default-next_list-clause-ends g c =
    let m = c.hand_counted-handed in
    let q = parts_state c.lists.parts in
    c.in-Some.ensures.is (nodes_of q c.lists.page.columns) q.cells m.ensures.handed.inside (level_conforms c.lists.self q c.lists.page c.lists.invariant.ready.here m.new.level m.ensures.handed.lawful)

pub next_list-requires-clause-ready : goal.next_list-requires-clause-ready
next_list-requires-clause-ready g c = still_at c.lists.invariant.ready c.hand_counted-handed.ensures.handed

pub next_list-requires-clause-ends : goal.next_list-requires-clause-ends
next_list-requires-clause-ends g c =
    let m = c.hand_counted-handed in
    let q = parts_state c.lists.parts in
    c.in-Some.ensures.is (nodes_of q c.lists.page.columns) q.cells m.ensures.handed.inside (level_conforms c.lists.self q c.lists.page c.lists.invariant.ready.here m.new.level m.ensures.handed.lawful)

pub returns-in-Err-clause-stays : goal.returns-in-Err-clause-stays
returns-in-Err-clause-stays g c =
    let i = c.lists.invariant in
    let u = c.lists.used in
    let input = c.args.input.now in
    let sink = c.args.sink.now in
    let old = state_of c.args.self.now (at_level (parts_state c.args.parts.now) c.args.start) in
    let s = c.lists.self in
    let q = parts_state c.lists.parts in
    let p = c.lists.page in
    let here = state_of s (at_level q c.lists.level) in
    let m = c.hand_counted-handed in
    let behind = state_of s (at_level q m.new.level) in
    let k = u + m.result.used in
    let handed = conformed_items (Gets g.S.Sink) old input sink here u _ i.conformed behind m.result.used (rw rest_is at m.ensures.handed.within) refl refl refl _ (rw (rest_is, c.if-handed.false) at m.ensures.handed.drains) in
    let e = c.in-Some.end in
    let emitted = part_emitted p.row p.column e.part in
    let leaves = c.end_list.ensures.leaves (drop k input) in
    let new = state_with c.end_list.new.self c.end_list.new.parts in
    item_stays (Gets g.S.Sink) old input sink behind k _ handed new e.used e.at emitted leaves

pub returns-in-Err-clause-drains : goal.returns-in-Err-clause-drains
returns-in-Err-clause-drains g c =
    let i = c.lists.invariant in
    let u = c.lists.used in
    let input = c.args.input.now in
    let sink = c.args.sink.now in
    let old = state_of c.args.self.now (at_level (parts_state c.args.parts.now) c.args.start) in
    let s = c.lists.self in
    let q = parts_state c.lists.parts in
    let p = c.lists.page in
    let here = state_of s (at_level q c.lists.level) in
    let m = c.hand_counted-handed in
    let behind = state_of s (at_level q m.new.level) in
    let k = u + m.result.used in
    let handed = conformed_items (Gets g.S.Sink) old input sink here u _ i.conformed behind m.result.used (rw rest_is at m.ensures.handed.within) refl refl refl _ (rw (rest_is, c.if-handed.false) at m.ensures.handed.drains) in
    let e = c.in-Some.end in
    let emitted = part_emitted p.row p.column e.part in
    let leaves = c.end_list.ensures.leaves (drop k input) in
    let new = state_with c.end_list.new.self c.end_list.new.parts in
    item_faults (Gets g.S.Sink) old input sink behind k _ handed new e.used e.at emitted leaves (Fails g.S.Sink) _ c.in-Err.ensures.err

pub returns-in_default-next_list-clause-stays : goal.returns-in_default-next_list-clause-stays
returns-in_default-next_list-clause-stays g c =
    let i = c.lists.invariant in
    let u = c.lists.used in
    let input = c.args.input.now in
    let sink = c.args.sink.now in
    let old = state_of c.args.self.now (at_level (parts_state c.args.parts.now) c.args.start) in
    let s = c.lists.self in
    let q = parts_state c.lists.parts in
    let p = c.lists.page in
    let here = state_of s (at_level q c.lists.level) in
    let m = c.hand_counted-handed in
    let behind = state_of s (at_level q m.new.level) in
    let k = u + m.result.used in
    let handed = conformed_items (Gets g.S.Sink) old input sink here u _ i.conformed behind m.result.used (rw rest_is at m.ensures.handed.within) refl refl refl _ (rw (rest_is, c.if-handed.false) at m.ensures.handed.drains) in
    let e = c.in-Some.end in
    let emitted = part_emitted p.row p.column e.part in
    let leaves = rw c.in_default-next_list.ensures.goes at (c.end_list-in_default-next_list.ensures.leaves (drop k input)) in
    let new = state_with c.end_list-in_default-next_list.new.self c.end_list-in_default-next_list.new.parts in
    conformed_stays (Gets g.S.Sink) old input sink new (k + e.used) _ (conformed_item (Gets g.S.Sink) old input sink behind k _ handed new e.used e.at emitted leaves _ c.in-Ok.ensures.ok)

pub returns-in_default-next_list-clause-drains : goal.returns-in_default-next_list-clause-drains
returns-in_default-next_list-clause-drains g c =
    let i = c.lists.invariant in
    let u = c.lists.used in
    let input = c.args.input.now in
    let sink = c.args.sink.now in
    let old = state_of c.args.self.now (at_level (parts_state c.args.parts.now) c.args.start) in
    let s = c.lists.self in
    let q = parts_state c.lists.parts in
    let p = c.lists.page in
    let here = state_of s (at_level q c.lists.level) in
    let m = c.hand_counted-handed in
    let behind = state_of s (at_level q m.new.level) in
    let k = u + m.result.used in
    let handed = conformed_items (Gets g.S.Sink) old input sink here u _ i.conformed behind m.result.used (rw rest_is at m.ensures.handed.within) refl refl refl _ (rw (rest_is, c.if-handed.false) at m.ensures.handed.drains) in
    let e = c.in-Some.end in
    let emitted = part_emitted p.row p.column e.part in
    let leaves = rw c.in_default-next_list.ensures.goes at (c.end_list-in_default-next_list.ensures.leaves (drop k input)) in
    let new = state_with c.end_list-in_default-next_list.new.self c.end_list-in_default-next_list.new.parts in
    (conformed_item (Gets g.S.Sink) old input sink behind k _ handed new e.used e.at emitted leaves _ c.in-Ok.ensures.ok).drained

pub returns-in-Err-hand_part-clause-lawful : goal.returns-in-Err-hand_part-clause-lawful
returns-in-Err-hand_part-clause-lawful g c =
    rw c.set_level-in-Err-hand_part.ensures c.in-Some-next_list.ensures.goes.3

pub returns-in-Err-hand_part-clause-stays : goal.returns-in-Err-hand_part-clause-stays
returns-in-Err-hand_part-clause-stays g c =
    let i = c.lists.invariant in
    let u = c.lists.used in
    let input = c.args.input.now in
    let sink = c.args.sink.now in
    let old = state_of c.args.self.now (at_level (parts_state c.args.parts.now) c.args.start) in
    let s = c.lists.self in
    let q = parts_state c.lists.parts in
    let p = c.lists.page in
    let here = state_of s (at_level q c.lists.level) in
    let m = c.hand_counted-handed in
    let behind = state_of s (at_level q m.new.level) in
    let k = u + m.result.used in
    let handed = conformed_items (Gets g.S.Sink) old input sink here u _ i.conformed behind m.result.used (rw rest_is at m.ensures.handed.within) refl refl refl _ (rw (rest_is, c.if-handed.false) at m.ensures.handed.drains) in
    let e = c.in-Some.end in
    let emitted = part_emitted p.row p.column e.part in
    let n = c.in-Some-next_list.next in
    let goes = c.in-Some-next_list.ensures.goes in
    let left = conformed_item (Gets g.S.Sink) old input sink behind k _ handed goes.0 e.used e.at emitted (goes.1 (drop k input)) _ c.in-Ok.ensures.ok in
    let on = state_of c.next_list.new.self (at_level q n.entered.level) in
    let begins = part_emitted n.page.row n.page.column n.entered.item.part in
    let takes : TakesItem goes.0 (drop (k + e.used) input) n.entered.item.at n.entered.item.used begins on = rw rest_is at goes.2 in
    item_stays (Gets g.S.Sink) old input sink goes.0 (k + e.used) _ left on n.entered.item.used n.entered.item.at begins takes

pub returns-in-Err-hand_part-clause-drains : goal.returns-in-Err-hand_part-clause-drains
returns-in-Err-hand_part-clause-drains g c =
    let i = c.lists.invariant in
    let u = c.lists.used in
    let input = c.args.input.now in
    let sink = c.args.sink.now in
    let old = state_of c.args.self.now (at_level (parts_state c.args.parts.now) c.args.start) in
    let s = c.lists.self in
    let q = parts_state c.lists.parts in
    let p = c.lists.page in
    let here = state_of s (at_level q c.lists.level) in
    let m = c.hand_counted-handed in
    let behind = state_of s (at_level q m.new.level) in
    let k = u + m.result.used in
    let handed = conformed_items (Gets g.S.Sink) old input sink here u _ i.conformed behind m.result.used (rw rest_is at m.ensures.handed.within) refl refl refl _ (rw (rest_is, c.if-handed.false) at m.ensures.handed.drains) in
    let e = c.in-Some.end in
    let emitted = part_emitted p.row p.column e.part in
    let n = c.in-Some-next_list.next in
    let goes = c.in-Some-next_list.ensures.goes in
    let left = conformed_item (Gets g.S.Sink) old input sink behind k _ handed goes.0 e.used e.at emitted (goes.1 (drop k input)) _ c.in-Ok.ensures.ok in
    let on = state_of c.next_list.new.self (at_level q n.entered.level) in
    let begins = part_emitted n.page.row n.page.column n.entered.item.part in
    let takes : TakesItem goes.0 (drop (k + e.used) input) n.entered.item.at n.entered.item.used begins on = rw rest_is at goes.2 in
    rw c.set_level-in-Err-hand_part.ensures (item_faults (Gets g.S.Sink) old input sink goes.0 (k + e.used) _ left on n.entered.item.used n.entered.item.at begins takes (Fails g.S.Sink) _ c.in-Err-hand_part.ensures.err)

pub lists-preserved : goal.lists-preserved
lists-preserved g c =
    let i = c.lists.invariant in
    let u = c.lists.used in
    let input = c.args.input.now in
    let sink = c.args.sink.now in
    let old = state_of c.args.self.now (at_level (parts_state c.args.parts.now) c.args.start) in
    let s = c.lists.self in
    let q = parts_state c.lists.parts in
    let p = c.lists.page in
    let here = state_of s (at_level q c.lists.level) in
    let m = c.hand_counted-handed in
    let behind = state_of s (at_level q m.new.level) in
    let k = u + m.result.used in
    let handed = conformed_items (Gets g.S.Sink) old input sink here u _ i.conformed behind m.result.used (rw rest_is at m.ensures.handed.within) refl refl refl _ (rw (rest_is, c.if-handed.false) at m.ensures.handed.drains) in
    let e = c.in-Some.end in
    let emitted = part_emitted p.row p.column e.part in
    let n = c.in-Some-next_list.next in
    let goes = c.in-Some-next_list.ensures.goes in
    let left = conformed_item (Gets g.S.Sink) old input sink behind k _ handed goes.0 e.used e.at emitted (goes.1 (drop k input)) _ c.in-Ok.ensures.ok in
    let on = state_of c.next_list.new.self (at_level q n.entered.level) in
    let begins = part_emitted n.page.row n.page.column n.entered.item.part in
    let takes : TakesItem goes.0 (drop (k + e.used) input) n.entered.item.at n.entered.item.used begins on = rw rest_is at goes.2 in
    record {
      ready = record { lawful = goes.3; inside = goes.4; here = goes.5; unrefused = goes.6 ∙ i.ready.unrefused; empty = i.ready.empty };
      conformed = conformed_item (Gets g.S.Sink) old input sink goes.0 (k + e.used) _ left on n.entered.item.used n.entered.item.at begins takes _ c.in-Ok-hand_part.ensures.ok;
    }

pub lists-smaller : goal.lists-smaller
lists-smaller g c =
    let i = c.lists.invariant in
    let u = c.lists.used in
    let input = c.args.input.now in
    let sink = c.args.sink.now in
    let old = state_of c.args.self.now (at_level (parts_state c.args.parts.now) c.args.start) in
    let s = c.lists.self in
    let q = parts_state c.lists.parts in
    let p = c.lists.page in
    let here = state_of s (at_level q c.lists.level) in
    let m = c.hand_counted-handed in
    let behind = state_of s (at_level q m.new.level) in
    let k = u + m.result.used in
    let handed = conformed_items (Gets g.S.Sink) old input sink here u _ i.conformed behind m.result.used (rw rest_is at m.ensures.handed.within) refl refl refl _ (rw (rest_is, c.if-handed.false) at m.ensures.handed.drains) in
    let e = c.in-Some.end in
    let emitted = part_emitted p.row p.column e.part in
    let n = c.in-Some-next_list.next in
    let goes = c.in-Some-next_list.ensures.goes in
    let left = conformed_item (Gets g.S.Sink) old input sink behind k _ handed goes.0 e.used e.at emitted (goes.1 (drop k input)) _ c.in-Ok.ensures.ok in
    let on = state_of c.next_list.new.self (at_level q n.entered.level) in
    let begins = part_emitted n.page.row n.page.column n.entered.item.part in
    let takes : TakesItem goes.0 (drop (k + e.used) input) n.entered.item.at n.entered.item.used begins on = rw rest_is at goes.2 in
    let w = rw rest_is at m.ensures.handed.within in
    let leaves = goes.1 (drop k input) in
    omega (arith, i.conformed.within, w.0, leaves.3.within, takes.3.within, w.1, leaves.3.pays, takes.3.pays, length-drop u input, length-drop k input, length-drop (k + e.used) input)
