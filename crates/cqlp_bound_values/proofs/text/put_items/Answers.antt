use Rattle.std.proofs.Common.{◌∙◌, Bool, false, [], ◌++◌, sym, ap, if◌then◌else◌}
use Rattle.cqlp_text.proofs.Writing.{progress_ends, progress_goes_on, progress_stops}
use Rattle.cqlp_bound_values.specs.Bindings.{Values, is_missing, others, values_of}
use Rattle.cqlp_bound_values.specs.Texts.{item_text, items_text}
use Rattle.cqlp_bound_values.proofs.Items.{items_at, one_more}
use Rattle.cqlp_bound_values.proofs.text.put_items.Goals as goal

pub returns-in_err-put_item : goal.returns-in_err-put_item
returns-in_err-put_item g c =
    let n = c.loop-rest.rest.count in
    progress_stops _ c.from_residual.result c.from_residual.ensures.0 c.loop-rest.invariant (items_at n _ c.args.form c.loop-rest.is_first (values_of c.loop-rest.rest) (one_more n _ c.count.ensures c.loop-rest-test.true)) c.in_err-put_item.ensures

pub returns-then-is_missing : goal.returns-then-is_missing
returns-then-is_missing g c =
    let n = c.loop-rest.rest.count in
    let v = values_of c.loop-rest.rest in
    let none = sym (ap is_missing c.item.ensures) ∙ sym c.is_missing.ensures ∙ c.if-is_missing.true in
    progress_ends (progress_goes_on _ c.loop-rest.invariant (items_at n _ c.args.form c.loop-rest.is_first v (one_more n _ c.count.ensures c.loop-rest-test.true)) c.in_ok-put_item.ensures) (ap (λ (b : Bool). if b then [] else items_text (others v).count c.args.form false (others v)) none)

pub loop-rest-preserved : goal.loop-rest-preserved
loop-rest-preserved g c =
    let n = c.loop-rest.rest.count in
    let v = values_of c.loop-rest.rest in
    let some = sym (ap is_missing c.item.ensures) ∙ sym c.is_missing.ensures ∙ c.if-is_missing.false in
    let later = ap (λ (b : Bool). if b then [] else items_text (others v).count c.args.form false (others v)) some ∙ ap (λ (w : Values). items_text w.count c.args.form false w) (sym c.others-rest.ensures) in
    progress_goes_on _ c.loop-rest.invariant (items_at n _ c.args.form c.loop-rest.is_first v (one_more n _ c.count.ensures c.loop-rest-test.true) ∙ ap (λ z. item_text c.args.form c.loop-rest.is_first v ++ z) later) c.in_ok-put_item.ensures
