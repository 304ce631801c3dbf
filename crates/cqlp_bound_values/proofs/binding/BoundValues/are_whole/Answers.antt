use Rattle.std.proofs.Common.{◌∙◌, ◌&&◌, Bool, refl, sym, ap}
use Rattle.cqlp_bound_values.specs.Bindings.{Values, are_whole, is_whole, others, values_of}
use Rattle.cqlp_bound_values.proofs.Items.{one_more, whole_at}
use Rattle.cqlp_bound_values.proofs.binding.BoundValues.are_whole.Goals as goal

pub loop-rest-init : goal.loop-rest-init
loop-rest-init c = refl

pub returns-then-not-is_whole : goal.returns-then-not-is_whole
returns-then-not-is_whole c =
    let v = values_of c.loop-rest.rest in
    let first = whole_at c.loop-rest.rest.count (others v).count v (one_more _ _ refl c.loop-rest-test.true) in
    let is = sym (ap is_whole c.item.ensures) ∙ sym c.is_whole.ensures ∙ c.if-not-is_whole.true in
    sym (sym c.loop-rest.invariant ∙ first ∙ ap (λ (b : Bool). b && are_whole (others v).count (others v)) is)

pub loop-rest-preserved : goal.loop-rest-preserved
loop-rest-preserved c =
    let v = values_of c.loop-rest.rest in
    let first = whole_at c.loop-rest.rest.count (others v).count v (one_more _ _ refl c.loop-rest-test.true) in
    let is = sym (ap is_whole c.item.ensures) ∙ sym c.is_whole.ensures ∙ c.if-not-is_whole.false in
    ap (λ (w : Values). are_whole w.count w) c.others-rest.ensures ∙ sym (first ∙ ap (λ (b : Bool). b && are_whole (others v).count (others v)) is) ∙ c.loop-rest.invariant
