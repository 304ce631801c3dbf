use Rattle.std.proofs.Common.{◌-◌, refl, ap, ◌∙◌, arith}
use Rattle.cqlp_note.specs.Limits.{rules_asked}
use Rattle.cqlp_kind.specs.Contents.{value_of}
use Rattle.cqlp_kind.specs.CellStep as cell
use Rattle.cqlp_decode.specs.declared.progress.StreamProgress.{StreamProgress}
use Rattle.cqlp_decode.specs.Progress.{parts_state}
use Rattle.cqlp_decode.proofs.CellSteps.{nothing_held, says_leaf, one_hands, one_lawful}
use Rattle.cqlp_decode.proofs.progress.StreamProgress.take_scalar.Goals as goal

pub returns-clause-takes : goal.returns-clause-takes
returns-clause-takes g c =
    let q = parts_state c.args.parts.now in
    let law = c.requires.lawful in
    let page = c.in-BeforeCell.page in
    let stage = rw c.in-BeforeCell.is at law.stage in
    let kind = (rw c.page_table-table.ensures at c.kind-kind.ensures) c.args.self.now.limits.depth stage.0 in
    let rest = c.after_cell.ensures.rest in
    let goes_on = (rw c.page_table-table.ensures at c.after_cell.ensures.goes_on) q refl (rw c.in-BeforeCell.is at law.uses) in
    let v = value_of c.in-Some-front_scalar.front.scalar in
    let front = says_leaf (rules_asked c.args.self.now.limits) c.kind-kind.result (c.args.self.now.stop - c.args.self.now.offset) c.args.input.now c.in-Some-front_scalar.front.used v c.in-Some-front_scalar.ensures.0 in
    let empty = nothing_held c.args.parts.now.partial.content (omega (arith, c.if-held-gt0.false, c.held.ensures.is)) in (
      c.in_default-refusal.is,
      ap (λ (z : StreamProgress). z.refusal) rest ∙ c.in_default-refusal.is,
      ap (λ (z : StreamProgress). rules_asked z.limits) rest,
      refl,
      one_hands c.args.self.now q page c.in-BeforeCell.is law c.in_default-refusal.is c.args.input.now c.in-Some-front_scalar.front.used c.kind-kind.result kind.0 kind.1 (cell.Leaf 0 v) kind.2 front empty
          c.after_cell.new.self goes_on.0 goes_on.1 (ap (λ (z : StreamProgress). z.given_use) rest) (ap (λ (z : StreamProgress). z.offset) rest) (ap (λ (z : StreamProgress). z.stop) rest) (ap (λ (z : StreamProgress). z.frame) rest) (ap (λ (z : StreamProgress). z.came) rest),
    )

pub returns-clause-lawful : goal.returns-clause-lawful
returns-clause-lawful g c =
    let q = parts_state c.args.parts.now in
    let law = c.requires.lawful in
    let page = c.in-BeforeCell.page in
    let stage = rw c.in-BeforeCell.is at law.stage in
    let kind = (rw c.page_table-table.ensures at c.kind-kind.ensures) c.args.self.now.limits.depth stage.0 in
    let rest = c.after_cell.ensures.rest in
    let goes_on = (rw c.page_table-table.ensures at c.after_cell.ensures.goes_on) q refl (rw c.in-BeforeCell.is at law.uses) in
    let v = value_of c.in-Some-front_scalar.front.scalar in
    let front = says_leaf (rules_asked c.args.self.now.limits) c.kind-kind.result (c.args.self.now.stop - c.args.self.now.offset) c.args.input.now c.in-Some-front_scalar.front.used v c.in-Some-front_scalar.ensures.0 in
    let empty = nothing_held c.args.parts.now.partial.content (omega (arith, c.if-held-gt0.false, c.held.ensures.is)) in
    one_lawful c.args.self.now q page c.in-BeforeCell.is law c.in_default-refusal.is c.args.input.now c.in-Some-front_scalar.front.used c.kind-kind.result kind.0 kind.1 (cell.Leaf 0 v) kind.2 front empty
    c.after_cell.new.self goes_on.0 goes_on.1 (ap (λ (z : StreamProgress). z.given_use) rest) (ap (λ (z : StreamProgress). z.offset) rest) (ap (λ (z : StreamProgress). z.stop) rest) (ap (λ (z : StreamProgress). z.frame) rest) (ap (λ (z : StreamProgress). z.came) rest) (ap (λ (z : StreamProgress). z.limits) rest) (ap (λ (z : StreamProgress). z.header) rest)
