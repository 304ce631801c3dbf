use Rattle.std.proofs.Common.{◌≡◌, ◌∙◌, ◌-◌, [], sym, ap, arith}
use Rattle.std.proofs.lemmas.Grind.{common_steps}
use Rattle.cqlp_bound_values.specs.Columns.{behind_kind, behind_option, kind_at}
use Rattle.cqlp_bound_values.proofs.Levels.{behind_at, behind_none, fields_end}
use Rattle.cqlp_bound_values.proofs.column_types.+behind_option.Goals as goal

pub behind_option-returns-then-depth-eq0 : goal.behind_option-returns-then-depth-eq0
behind_option-returns-then-depth-eq0 t c =
    let none : c.behind.result.now ≡ [] = grind (c.behind.ensures, arith, common_steps) in
    none ∙ sym (behind_none c.args.depth c.args.option.now c.if-depth-eq0.true)

pub behind_option-returns : goal.behind_option-returns
behind_option-returns t c =
    let d = c.args.depth in
    let o = c.args.option.now in
    c.behind_kind.ensures ∙ ap (λ k. behind_kind (behind_option (d - 1)) k c.behind-2.result.now) c.kind_at.ensures
    ∙ ap (behind_kind (behind_option (d - 1)) (kind_at o)) c.behind-2.ensures ∙ sym (behind_at d (d - 1) o (omega (arith, c.if-depth-eq0.false)))

pub behind_fields-returns-then-is_end : goal.behind_fields-returns-then-is_end
behind_fields-returns-then-is_end t c =
    fields_end c.args.depth c.args.are_named c.loop-left.left c.loop-left.rest.now (sym c.is_end.ensures ∙ c.if-is_end.true) ∙ c.loop-left.invariant
