use Rattle.std.proofs.Common.{◌≡◌, ◌∙◌, ◌<◌, true, [], length, sym, ap, arith, rules, slice_index_or}
use Rattle.std.proofs.lemmas.Grind.{common_steps}
use Rattle.std.specs.List.{position}
use Rattle.cqlp_capture_summary.specs.Names.{is_same, name}
use Rattle.cqlp_capture_summary.proofs.Apart.{seen_at}
use Rattle.cqlp_capture_summary.proofs.summary.Summary.find.Goals as goal

pub returns-then-is-clause-position : goal.returns-then-is-clause-position
returns-then-is-clause-position g c =
    let inside : c.index-seen.result.now < length c.self.inside.names.items = omega arith in
    let same : is_same c.args.name.now (slice_index_or c.self.inside.names.items c.index-seen.result.now (name [] true)) ≡ true = first_of (search rules, grind (arith, common_steps)) in
    sym (seen_at c.args.name.now c.self.inside.names.items c.index-seen.result.now c.self.invariant.9 inside same) ∙ ap (λ v. position (is_same c.args.name.now) v.names) c.self.view_is
