use Rattle.std.proofs.Common.{rules, ◌≡◌, ◌∙◌, ◌<◌, ℕ, List, length, ap, slice_index_or, slice_set}
use Rattle.std.proofs.lemmas.List.{get_or_default, length-set, with_items_is}
use Rattle.std.specs.Vec.{with_items}
use Rattle.cqlp_capture_summary.specs.Adding.{raised, with_counts_at}
use Rattle.cqlp_capture_summary.specs.Counts.{Tally}
use Rattle.cqlp_capture_summary.specs.Merging.{merged}
use Rattle.cqlp_capture_summary.specs.Tallies.{none_counted}
use Rattle.cqlp_capture_summary.specs.Summaries.{Summary, padded, summary}
use Rattle.cqlp_capture_summary.proofs.Padded.{counts_padded}
use Rattle.cqlp_capture_summary.proofs.summary.Summary.add_counts_at.Goals as goal

pub returns : goal.returns
returns g c =
    let own = c.self.inside in
    let at = c.args.place in
    let ts = own.tallies.items in
    let others = slice_index_or own.others.items 0 none_counted in
    let inside : at < length ts = search rules in
    let heavier = slice_set own.weights.items at (raised c.args.before c.args.most (slice_index_or own.weights.items at 0)) in
    let written : c.raise_weight_at.new.weights ≡ heavier = search rules in
    let long : length c.raise_weight_at.new.weights ≡ own.weights.len = ap (λ (ws : List ℕ). length ws) written ∙ length-set own.weights.items at _ ∙ search rules in
    let weighed : (with_items own.weights c.raise_weight_at.new.weights).items ≡ heavier = with_items_is own.weights c.raise_weight_at.new.weights long ∙ written in
    let tallied : c.merge.new.self ≡ merged c.args.counts.now (slice_index_or ts at none_counted) =
    c.merge.ensures ∙ ap (merged c.args.counts.now) (c.index_mut.ensures.value ∙ get_or_default ts at c.index_mut.result.now none_counted inside) in
    ap (λ (ws : List ℕ). summary own.statements own.names.items ws (padded own.statements (slice_set ts at c.merge.new.self)) others) weighed
    ∙ ap (λ (t : Tally). summary own.statements own.names.items heavier (padded own.statements (slice_set ts at t)) others) tallied
    ∙ counts_padded own.statements at own.names.items own.weights.items ts others c.args.counts.now c.args.most c.args.before inside
    ∙ ap (λ (s : Summary). with_counts_at at c.args.counts.now c.args.most c.args.before s) c.self.view_is
