use Rattle.std.proofs.Common.{◌∙◌, ◌-◌, ◌++◌, List, ℕ, sym, subst, ap, arith, refl}
use Rattle.cqlp_kind.specs.Types.{has_no_items}
use Rattle.cqlp_text.specs.PageText.{turn_after}
use Rattle.cqlp_text.specs.Written.{Writes}
use Rattle.cqlp_text.proofs.Writing.{progress_goes_on, progress_starts, progress_stops}
use Rattle.cqlp_bound_values.specs.Columns.{behind_option, kind_at}
use Rattle.cqlp_bound_values.specs.Nested.{Items, items_as, items_of, other_items}
use Rattle.cqlp_bound_values.specs.Texts.{first_text, inner_items, inner_text, nested_text, scalar_as, typed_text, whole_scalar}
use Rattle.cqlp_bound_values.proofs.Items.{one_more}
use Rattle.cqlp_bound_values.proofs.Levels.{first_of_items, typed_nested, typed_none, typed_scalar}
use Rattle.cqlp_bound_values.proofs.Texts.{said_last, said_next, said_stops}
use Rattle.cqlp_bound_values.proofs.nested_text.+put_typed.Goals as goal

pub put_first-returns-in_err-put_str : goal.put_first-returns-in_err-put_str
put_first-returns-in_err-put_str g t c =
    said_stops _ c.from_residual.result c.from_residual.ensures.0 (progress_starts _ _) refl c.before_text.ensures c.in_err-put_str.ensures

pub put_first-returns-in_err-put_inner : goal.put_first-returns-in_err-put_inner
put_first-returns-in_err-put_inner g t c =
    let s1 = said_next _ (progress_starts _ _) refl c.before_text.ensures c.in_ok-put_str.ensures in
    said_stops _ c.from_residual-in_err-put_inner.result c.from_residual-in_err-put_inner.ensures.0 s1 refl (ap (inner_text (typed_text c.args.depth c.args.form) c.args.form c.args.items.now.option.now) c.first.ensures) c.in_err-put_inner.ensures

pub put_first-returns : goal.put_first-returns
put_first-returns g t c =
    let s1 = said_next _ (progress_starts _ _) refl c.before_text.ensures c.in_ok-put_str.ensures in
    let s2 = said_next _ s1 refl (ap (inner_text (typed_text c.args.depth c.args.form) c.args.form c.args.items.now.option.now) c.first.ensures) c.in_ok-put_inner.ensures in
    said_last _ _ c.put_str-2.result s2 refl c.after_text.ensures c.put_str-2.ensures

pub put_items-returns-in_err-put_first : goal.put_items-returns-in_err-put_first
put_items-returns-in_err-put_first g t c =
    let i = items_as c.loop-rest.rest in
    let behind = behind_option c.args.depth in
    let goes_on = sym c.is_end.ensures ∙ c.if-is_end.false in
    let first = first_of_items behind i.left (other_items behind i).left i (one_more _ _ refl c.loop-rest-test.true) (typed_text c.args.depth c.args.form) c.args.form c.loop-rest.turn goes_on in
    progress_stops _ c.from_residual.result c.from_residual.ensures.0 c.loop-rest.invariant first c.in_err-put_first.ensures

pub put_items-loop-rest-preserved : goal.put_items-loop-rest-preserved
put_items-loop-rest-preserved g t c =
    let i = items_as c.loop-rest.rest in
    let behind = behind_option c.args.depth in
    let typed = typed_text c.args.depth c.args.form in
    let goes_on = sym c.is_end.ensures ∙ c.if-is_end.false in
    let first = first_of_items behind i.left (other_items behind i).left i (one_more _ _ refl c.loop-rest-test.true) typed c.args.form c.loop-rest.turn goes_on in
    let others = items_as c.others-rest.result in
    let later = ap (λ (j : Items). inner_items typed behind c.args.form j.left (turn_after i.kind c.loop-rest.turn) j) (sym c.others-rest.ensures)
    ∙ ap (λ u. inner_items typed behind c.args.form others.left u others) (sym c.turn_after-turn.ensures) in
    progress_goes_on _ c.loop-rest.invariant (first ∙ ap (λ z. first_text typed c.args.form c.loop-rest.turn i ++ z) later) c.in_ok-put_first.ensures

pub put_nested-returns-in_err-put_str : goal.put_nested-returns-in_err-put_str
put_nested-returns-in_err-put_str g t c =
    said_stops _ c.from_residual.result c.from_residual.ensures.0 (progress_starts _ _) refl c.opening_text.ensures c.in_err-put_str.ensures

pub put_nested-returns-in_err-put_items : goal.put_nested-returns-in_err-put_items
put_nested-returns-in_err-put_items g t c =
    let s1 = said_next _ (progress_starts _ _) refl c.opening_text.ensures c.in_ok-put_str.ensures in
    said_stops _ c.from_residual-in_err-put_items.result c.from_residual-in_err-put_items.ensures.0 s1 refl refl c.in_err-put_items.ensures

pub put_nested-returns : goal.put_nested-returns
put_nested-returns g t c =
    let s1 = said_next _ (progress_starts _ _) refl c.opening_text.ensures c.in_ok-put_str.ensures in
    let s2 = said_next _ s1 refl refl c.in_ok-put_items.ensures in
    said_last _ _ c.put_str-2.result s2 refl c.closing_text.ensures c.put_str-2.ensures

pub put_typed-returns-then-depth-eq0 : goal.put_typed-returns-then-depth-eq0
put_typed-returns-then-depth-eq0 g t c =
    subst (λ (x : List ℕ). Writes c.args.writer.now x c.put.result c.put.new.self) (sym (typed_none c.args.depth c.args.form c.args.option.now c.args.content.now c.if-depth-eq0.true)) c.put.ensures

pub put_typed-returns-then-is_scalar : goal.put_typed-returns-then-is_scalar
put_typed-returns-then-is_scalar g t c =
    let d = c.args.depth in
    let o = c.args.option.now in
    let b = c.args.content.now in
    let is = sym (ap has_no_items c.kind_at-kind.ensures) ∙ sym c.is_scalar.ensures ∙ c.if-is_scalar.true in
    let same = ap (scalar_as c.args.form) (c.shown_scalar.ensures ∙ ap (λ k. whole_scalar k b) c.kind_at-kind.ensures) ∙ sym (typed_scalar d (d - 1) c.args.form o b (omega (arith, c.if-depth-eq0.false)) is) in
    subst (λ (x : List ℕ). Writes c.args.writer.now x c.put_scalar_as.result c.put_scalar_as.new.writer) same c.put_scalar_as.ensures

pub put_typed-returns : goal.put_typed-returns
put_typed-returns g t c =
    let d = c.args.depth in
    let o = c.args.option.now in
    let b = c.args.content.now in
    let behind = behind_option (d - 1) in
    let is = sym (ap has_no_items c.kind_at-kind.ensures) ∙ sym c.is_scalar.ensures ∙ c.if-is_scalar.false in
    let items = c.of.ensures ∙ ap (λ k. items_of behind k c.behind-inner.result.now b) c.kind_at-kind.ensures ∙ ap (λ x. items_of behind (kind_at o) x b) c.behind-inner.ensures in
    let same = ap (λ k. nested_text (typed_text (d - 1) c.args.form) behind c.args.form k (items_as c.of.result)) c.kind_at-kind.ensures
    ∙ ap (nested_text (typed_text (d - 1) c.args.form) behind c.args.form (kind_at o)) items
    ∙ sym (typed_nested d (d - 1) c.args.form o b (omega (arith, c.if-depth-eq0.false)) is) in
    subst (λ (x : List ℕ). Writes c.args.writer.now x c.put_nested.result c.put_nested.new.writer) same c.put_nested.ensures
