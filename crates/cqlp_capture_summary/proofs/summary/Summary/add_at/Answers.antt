use Rattle.std.proofs.Common.{rules, ◌≡◌, ◌∙◌, ◌<◌, ℕ, List, length, ap, slice_index_or, slice_set}
use Rattle.std.proofs.lemmas.List.{get_or_default, length-set, with_items_is}
use Rattle.std.specs.Vec.{with_items}
use Rattle.cqlp_capture_summary.specs.Counts.{Tally, request_of}
use Rattle.cqlp_capture_summary.specs.Tallies.{counted, none_counted, tallied_request, time_of}
use Rattle.cqlp_capture_summary.specs.Summaries.{padded, summary, with_request_at}
use Rattle.cqlp_capture_summary.proofs.Padded.{request_padded}
use Rattle.cqlp_capture_summary.proofs.summary.Summary.add_at.Goals as goal

pub returns : goal.returns
returns g c =
    let r = request_of c.args.occurrence.now c.args.is_answered c.args.at in
    let own = c.self.inside in
    let at = c.args.place in
    let ts = own.tallies.items in
    let others = slice_index_or own.others.items 0 none_counted in
    let inside : at < length ts = search rules in
    let heavier = slice_set own.weights.items at (counted (slice_index_or own.weights.items at 0) (time_of r.entry.took)) in
    let written : c.add_weight_at.new.weights ≡ heavier = search rules in
    let long : length c.add_weight_at.new.weights ≡ own.weights.len = ap (λ (ws : List ℕ). length ws) written ∙ length-set own.weights.items at _ ∙ search rules in
    let weighed : (with_items own.weights c.add_weight_at.new.weights).items ≡ heavier = with_items_is own.weights c.add_weight_at.new.weights long ∙ written in
    let tallied : c.add_request.new.self ≡ tallied_request r (slice_index_or ts at none_counted) =
    c.add_request.ensures ∙ ap (tallied_request r) (c.index_mut.ensures.value ∙ get_or_default ts at c.index_mut.result.now none_counted inside) in
    ap (λ (ws : List ℕ). summary own.statements own.names.items ws (padded own.statements (slice_set ts at c.add_request.new.self)) others) weighed
    ∙ ap (λ (t : Tally). summary own.statements own.names.items heavier (padded own.statements (slice_set ts at t)) others) tallied
    ∙ request_padded own.statements at own.names.items own.weights.items ts others r inside
    ∙ ap (with_request_at at r) c.self.view_is
