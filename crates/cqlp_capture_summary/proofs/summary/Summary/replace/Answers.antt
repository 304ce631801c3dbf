use Rattle.std.proofs.Common.{◌≡◌, ◌∙◌, ◌<◌, length, None, ap, rules, slice_index_or, slice_set}
use Rattle.std.proofs.lemmas.List.{get_or-set_same, get_or_default}
use Rattle.std.specs.List.{position}
use Rattle.cqlp_capture_summary.specs.Names.{is_same}
use Rattle.cqlp_capture_summary.specs.Counts.{Tally}
use Rattle.cqlp_capture_summary.specs.Merging.{merged}
use Rattle.cqlp_capture_summary.specs.Summaries.{Summary, padded, summary, with_in_place_of}
use Rattle.cqlp_capture_summary.specs.Tallies.{none_counted}
use Rattle.cqlp_capture_summary.proofs.Apart.{apart_set}
use Rattle.cqlp_capture_summary.proofs.Padded.{place_padded}
use Rattle.cqlp_capture_summary.proofs.summary.Summary.replace.Goals as goal

pub invariant_of-self : goal.invariant_of-self
invariant_of-self g c =
    let absent : position (is_same c.args.name) c.self.inside.names.items ≡ None = ap (λ v. position (is_same c.args.name) v.names) c.self.view_is ∙ c.requires.absent in
    let inside : c.args.at < length c.self.inside.names.items = search rules in (
      search rules,
      search rules,
      search rules,
      search rules,
      search rules,
      search rules,
      search rules,
      search rules,
      search rules,
      apart_set c.args.name c.self.inside.names.items c.args.at inside absent c.self.invariant.9,
    )

pub returns : goal.returns
returns g c =
    let own = c.self.inside in
    let at = c.args.at in
    let ts = own.tallies.items in
    let names = slice_set own.names.items at c.args.name in
    let others = slice_index_or own.others.items 0 none_counted in
    let inside : at < length ts = search rules in
    let one : 0 < length own.others.items = search rules in
    let given : c.merge.new.self ≡ merged (slice_index_or ts at none_counted) others =
    c.merge.ensures
    ∙ ap (λ (t : Tally). merged t c.index_mut.result.now) (c.index.ensures ∙ get_or_default ts at c.index.result.now none_counted inside)
    ∙ ap (merged (slice_index_or ts at none_counted)) (c.index_mut.ensures.value ∙ get_or_default own.others.items 0 c.index_mut.result.now none_counted one) in
    ap (λ (o : Tally). summary own.statements names own.weights.items (padded own.statements (slice_set ts at c.clear.new.self)) o)
    (get_or-set_same own.others.items 0 c.merge.new.self none_counted one)
    ∙ ap (λ (t : Tally). summary own.statements names own.weights.items (padded own.statements (slice_set ts at t)) c.merge.new.self) c.clear.ensures
    ∙ ap (λ (o : Tally). summary own.statements names own.weights.items (padded own.statements (slice_set ts at none_counted)) o) given
    ∙ place_padded own.statements at c.args.name own.names.items own.weights.items ts others inside
    ∙ ap (λ (s : Summary). with_in_place_of at c.args.name s) c.self.view_is
