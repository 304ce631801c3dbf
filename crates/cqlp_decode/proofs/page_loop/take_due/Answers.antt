use Rattle.std.proofs.Common.{◌≡◌, ◌+◌, ◌-◌, ◌*◌, ◌≤◌, List, ℕ, length, take, drop, refl, sym, ap, subst, ◌∙◌, arith}
use Rattle.std.proofs.lemmas.List.{length-drop}
use Rattle.cqlp_note.specs.Limits.{rules_asked}
use Rattle.cqlp_decode.specs.Cells.{HandsOut}
use Rattle.cqlp_decode.specs.Progress.{Continues, IsConsistent, ends_due, nodes_of, parts_state, state_of}
use Rattle.cqlp_decode.specs.declared.page.Columns.{Columns}
use Rattle.cqlp_decode.specs.declared.progress.StreamProgress.{StreamProgress}
use Rattle.cqlp_decode.specs.Sinks.{Gets, Fails}
use Rattle.cqlp_decode.specs.Pages.{cells_after}
use Rattle.cqlp_decode.proofs.Steps.{starts_bare}
use Rattle.cqlp_decode.proofs.Gets.{rest_is}
use Rattle.cqlp_decode.proofs.Rooms.{hands_on, front_is}
use Rattle.cqlp_decode.proofs.PageLoop.{at_cell, cell_lawful, cell_drains, last_lawful, last_drains, last_fails, hands_within}
use Rattle.cqlp_decode.proofs.page_loop.take_due.Goals as goal

pub cells-preserved : goal.cells-preserved
cells-preserved g c =
    let s = c.args.progress.now in
    let q = parts_state c.args.parts.now in
    let input = c.args.input.now in
    let room = s.stop - s.offset in
    let i = c.cells.invariant in
    let p = c.cells.page in
    let next = c.advance.new.self in
    let used = c.cells.used in
    let offset = s.offset + used in
    let front = c.front_of-within.ensures.is in
    let nodes = c.page_table-table.ensures ∙ ap (λ (z : Columns). nodes_of q z) (sym i.columns) in
    let kind = (rw nodes at c.head-head.ensures.kind) s.limits.depth i.lawful.stage.0 in
    let turned = (rw nodes at c.advance.ensures) s.limits.depth i.lawful.stage.0 in
    let turns = rw c.if-not-advance.false at turned in
    let within : used ≤ length (take room input) = rw (← front) i.within in
    let small : length (drop used (take room input)) ≤ s.stop - offset = let n = c.front_of-within.ensures.bound in omega (arith, length-drop used (take room input), rw front at n) in
    let place : offset + c.in-Taken.taken ≡ s.offset + (used + c.in-Taken.taken) = omega arith in
    let short = rw (rest_is, front) at c.in-Taken.ensures.hands in
    let hands = rw (front_is room used input within) at (hands_on (rules_asked s.limits) c.head-head.result.kind (drop used (take room input)) (drop room input) (s.stop - offset) small p.row p.column c.in-Taken.taken _ short) in
    record {
      within = omega (arith, i.within, short.says.within, length-drop used (take room input), ap (λ (z : List ℕ). length z) front);
      progress = i.progress;
      columns = turns.2 ∙ i.columns;
      lawful = subst (λ (z : ℕ). IsConsistent (at_cell s next z) q) place (cell_lawful s q p next offset i.lawful c.requires.unrefused c.requires.empty c.head-head.result.kind kind turns input used c.in-Taken.taken _ hands);
      drained =
          subst (λ (z : ℕ). HandsOut (Gets g.S.Sink) (state_of s q) (state_of (at_cell s next z) q) input (used + c.in-Taken.taken) c.args.sink.now c.hand_cell.new.sink) place
          (cell_drains s q p next offset i.lawful c.requires.unrefused c.requires.empty c.head-head.result.kind kind turns input used c.in-Taken.taken _ hands (Gets g.S.Sink) (state_of s q) _ _ _ i.drained hands.holds);
    }

pub returns-then-not-advance-clause-drains : goal.returns-then-not-advance-clause-drains
returns-then-not-advance-clause-drains g c =
    let s = c.args.progress.now in
    let q = parts_state c.args.parts.now in
    let input = c.args.input.now in
    let room = s.stop - s.offset in
    let i = c.cells.invariant in
    let p = c.cells.page in
    let used = c.cells.used in
    let offset = s.offset + used in
    let front = c.front_of-within.ensures.is in
    let nodes = c.page_table-table.ensures ∙ ap (λ (z : Columns). nodes_of q z) (sym i.columns) in
    let kind = (rw nodes at c.head-head.ensures.kind) s.limits.depth i.lawful.stage.0 in
    let within : used ≤ length (take room input) = rw (← front) i.within in
    let small : length (drop used (take room input)) ≤ s.stop - offset = let n = c.front_of-within.ensures.bound in omega (arith, length-drop used (take room input), rw front at n) in
    let turned = (rw nodes at c.advance.ensures) s.limits.depth i.lawful.stage.0 in
    let none = rw c.if-not-advance.true at turned in
    let taken = c.in-Taken.taken in
    let place : s.offset + (used + taken) ≡ offset + taken = omega arith in
    let short = rw (rest_is, front) at c.in-Taken.ensures.hands in
    let hands = rw (front_is room used input within) at (hands_on (rules_asked s.limits) c.head-head.result.kind (drop used (take room input)) (drop room input) (s.stop - offset) small p.row p.column taken _ short) in
    let e = c.expect_next.new.self in
    let symbols = rw i.progress at (c.expect_next.ensures.symbols q) in
    let rest = rw i.progress at c.expect_next.ensures.rest in
    let goes : Continues s e q (cells_after (nodes_of q p.columns) p) = (rw none symbols, starts_bare e q e.stage c.expect_next.ensures.room) in
    last_drains s q p offset i.lawful c.requires.unrefused c.requires.empty c.head-head.result.kind kind input used taken _ hands e (s.offset + (used + taken)) place goes rest (Gets g.S.Sink) (state_of s q) _ _ _ i.drained hands.holds

pub returns-in-Fault-clause-lawful : goal.returns-in-Fault-clause-lawful
returns-in-Fault-clause-lawful g c =
    let s = c.args.progress.now in
    let q = parts_state c.args.parts.now in
    let input = c.args.input.now in
    let room = s.stop - s.offset in
    let i = c.cells.invariant in
    let p = c.cells.page in
    let used = c.cells.used in
    let offset = s.offset + used in
    let front = c.front_of-within.ensures.is in
    let nodes = c.page_table-table.ensures ∙ ap (λ (z : Columns). nodes_of q z) (sym i.columns) in
    let kind = (rw nodes at c.head-head.ensures.kind) s.limits.depth i.lawful.stage.0 in
    let within : used ≤ length (take room input) = rw (← front) i.within in
    let small : length (drop used (take room input)) ≤ s.stop - offset = let n = c.front_of-within.ensures.bound in omega (arith, length-drop used (take room input), rw front at n) in
    let taken = c.in-Fault.taken in
    let place : s.offset + (used + taken) ≡ offset + taken = omega arith in
    let short = rw (rest_is, front) at c.in-Fault.ensures.hands in
    let hands = rw (front_is room used input within) at (hands_on (rules_asked s.limits) c.head-head.result.kind (drop used (take room input)) (drop room input) (s.stop - offset) small p.row p.column taken _ short) in
    let e = c.after_cell.new.self in
    let rest = rw i.progress at c.after_cell.ensures.rest in
    let goes = (rw (nodes, i.progress) at c.after_cell.ensures.goes_on) q refl i.lawful.uses in
    last_lawful s q p offset i.lawful c.requires.unrefused c.requires.empty c.head-head.result.kind kind input used taken _ hands e (s.offset + (used + taken)) place goes rest

pub returns-in-Fault-clause-drains : goal.returns-in-Fault-clause-drains
returns-in-Fault-clause-drains g c =
    let s = c.args.progress.now in
    let q = parts_state c.args.parts.now in
    let input = c.args.input.now in
    let room = s.stop - s.offset in
    let i = c.cells.invariant in
    let p = c.cells.page in
    let used = c.cells.used in
    let offset = s.offset + used in
    let front = c.front_of-within.ensures.is in
    let nodes = c.page_table-table.ensures ∙ ap (λ (z : Columns). nodes_of q z) (sym i.columns) in
    let kind = (rw nodes at c.head-head.ensures.kind) s.limits.depth i.lawful.stage.0 in
    let within : used ≤ length (take room input) = rw (← front) i.within in
    let small : length (drop used (take room input)) ≤ s.stop - offset = let n = c.front_of-within.ensures.bound in omega (arith, length-drop used (take room input), rw front at n) in
    let taken = c.in-Fault.taken in
    let place : s.offset + (used + taken) ≡ offset + taken = omega arith in
    let short = rw (rest_is, front) at c.in-Fault.ensures.hands in
    let hands = rw (front_is room used input within) at (hands_on (rules_asked s.limits) c.head-head.result.kind (drop used (take room input)) (drop room input) (s.stop - offset) small p.row p.column taken _ short) in
    let e = c.after_cell.new.self in
    let rest = rw i.progress at c.after_cell.ensures.rest in
    let goes = (rw (nodes, i.progress) at c.after_cell.ensures.goes_on) q refl i.lawful.uses in
    last_fails s q p offset i.lawful c.requires.unrefused c.requires.empty c.head-head.result.kind kind input used taken _ hands e (s.offset + (used + taken)) place goes rest (Gets g.S.Sink) (state_of s q) _ _ _ i.drained (Fails g.S.Sink) hands.holds

pub returns-clause-stays : goal.returns-clause-stays
returns-clause-stays g c =
    let i = c.cells.invariant in
    let s = c.args.progress.now in
    let q = parts_state c.args.parts.now in (
      subst (λ (z : StreamProgress). (c.cells.used ≤ length c.args.input.now) × (ends_due (state_of (at_cell z c.cells.page (s.offset + c.cells.used)) q).place.symbols + length q.cells.open_values ≤ ends_due (state_of s q).place.symbols + length q.cells.open_values + 2 * c.cells.used)) (sym i.progress)
          (hands_within (Gets g.S.Sink) (state_of s q) (state_of (at_cell s c.cells.page (s.offset + c.cells.used)) q) c.args.input.now c.cells.used _ _ i.drained),
      ap (λ (z : StreamProgress). z.refusal) i.progress,
      ap (λ (z : StreamProgress). rules_asked z.limits) i.progress,
      refl,
    )
