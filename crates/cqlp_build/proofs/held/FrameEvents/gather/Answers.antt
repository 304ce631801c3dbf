use Rattle.std.proofs.Common.{◌≡◌, ◌++◌, ◌∷◌, [], refl, sym, ap, ◌∙◌}
use Rattle.cqlp_build_cells.specs.CellEvents.{left, emitted_at}
use Rattle.cqlp_build.proofs.Cells.{comes_not, comes_on, comes_whole, on_ok}
use Rattle.cqlp_build.proofs.held.FrameEvents.gather.Goals as goal

pub returns-then-ended : goal.returns-then-ended
returns-then-ended c =
    let held : left c.push.new.self ≡ left c.loop-level.self.cell ++ emitted_at c.in-Some.level c.in-Some.step ∷ [] =
    on_ok c.push.result (sym c.if-is_err.ensures.value) c.push.ensures.is ∙ ap (λ h. left h ++ emitted_at c.in-Some.level c.in-Some.step ∷ []) c.next_step.ensures.cell in
    comes_whole c.args.row c.args.column c.args.self.now c.loop-level.self c.next_step.new.self (record c.next_step.new.self { cell = c.push.new.self })
    c.loop-level.invariant (c.in-Some.level, c.in-Some.step) c.in-Some.ensures.is refl refl held (sym c.if-ended.ensures)

pub loop-level-preserved : goal.loop-level-preserved
loop-level-preserved c =
    let held : left c.push.new.self ≡ left c.loop-level.self.cell ++ emitted_at c.in-Some.level c.in-Some.step ∷ [] =
    on_ok c.push.result (sym c.if-is_err.ensures.value) c.push.ensures.is ∙ ap (λ h. left h ++ emitted_at c.in-Some.level c.in-Some.step ∷ []) c.next_step.ensures.cell in
    comes_on c.args.row c.args.column c.args.self.now c.loop-level.self c.next_step.new.self (record c.next_step.new.self { cell = c.push.new.self })
    c.loop-level.invariant (c.in-Some.level, c.in-Some.step) c.in-Some.ensures.is refl refl held (sym c.if-ended.ensures)

pub returns : goal.returns
returns c =
    comes_not c.args.row c.args.column c.args.self.now c.loop-level.self c.next_step.new.self c.loop-level.invariant c.in_default.ensures.is
