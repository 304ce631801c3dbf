use Rattle.std.proofs.Common.{◌∙◌, ◌-◌, sym, ap, arith, refl}
use Rattle.cqlp_bound_values.specs.Columns.{behind_option, kind_at}
use Rattle.cqlp_bound_values.specs.Nested.{all_conform, conforms, item_conforms, items_as, kind_conforms, other_items}
use Rattle.cqlp_bound_values.proofs.Items.{one_more}
use Rattle.cqlp_bound_values.proofs.Levels.{conforms_at, conforms_none, next_conform}
use Rattle.cqlp_bound_values.proofs.nested.+conforms.Goals as goal

pub conforms-returns-then-depth-eq0 : goal.conforms-returns-then-depth-eq0
conforms-returns-then-depth-eq0 t c = sym (conforms_none c.args.depth c.args.option.now c.args.content.now c.if-depth-eq0.true)

pub conforms-returns : goal.conforms-returns
conforms-returns t c =
    let d = c.args.depth in
    let o = c.args.option.now in
    let b = c.args.content.now in
    c.kind_conforms.ensures ∙ ap (λ k. kind_conforms (conforms (d - 1)) (behind_option (d - 1)) k c.behind.result.now b) c.kind_at.ensures
    ∙ ap (λ x. kind_conforms (conforms (d - 1)) (behind_option (d - 1)) (kind_at o) x b) c.behind.ensures
    ∙ sym (conforms_at d (d - 1) o b (omega (arith, c.if-depth-eq0.false)))

pub items_conform-loop-rest-preserved : goal.items_conform-loop-rest-preserved
items_conform-loop-rest-preserved t c =
    let i = items_as c.loop-rest.rest in
    let fits = conforms c.args.depth in
    let behind = behind_option c.args.depth in
    let goes_on = sym c.have_ended.ensures ∙ c.if-have_ended.false in
    let is = ap (item_conforms fits i.option) (sym c.first.ensures) ∙ sym c.item_conforms.ensures ∙ c.if-not-item_conforms.false in
    ap (all_conform fits behind) c.others-rest.ensures
    ∙ sym (next_conform behind i.left (other_items behind i).left i (one_more _ _ refl c.loop-rest-test.true) fits goes_on is) ∙ c.loop-rest.invariant
