use Rattle.std.proofs.Common.{◌≡◌, ◌+◌, ◌-◌, ◌≤◌, ◌^◌, ℕ, length, drop, min, sym, ap, ◌∙◌, subst, arith}
use Rattle.std.proofs.lemmas.List.{length-drop}
use Rattle.cqlp_decode.proofs.Gets.{rest_is}
use Rattle.cqlp_decode.specs.declared.feeding.Fed.{Fed}
use Rattle.cqlp_skip.specs.declared.shifting.Shifting.{Shifting}
use Rattle.cqlp_decode.specs.Draining.{used_of}
use Rattle.cqlp_skip.specs.Pieces.{fed_from}
use Rattle.cqlp_skip.specs.Skipping.{Skipping, AfterSkips, FeedsTo}
use Rattle.cqlp_skip.proofs.Feeding.{feeds, skipping}
use Rattle.cqlp_skip.proofs.Folding.{passes_moved}
use Rattle.cqlp_skip.proofs.skipping.SkippingDecoder.feed.Goals as goal

pub returns-clause-feeds : goal.returns-clause-feeds
returns-clause-feeds g c = λ reports xs s stretches gifts events later is after.
    let d = c.self.inside in
    let input = c.args.input.now in
    let p = c.passed_of-passed.result in
    let x = c.feed-fed.result in
    let sink = c.feed-fed.new.sink in
    let a = subst (λ (z : Skipping). AfterSkips xs z s stretches gifts events) (sym c.self.view_is) after in
    let passed : p ≡ min (d.base - d.used) (length input) = c.passed_of-passed.ensures in
    let within : used_of (length (drop p input)) x ≤ length (drop p input) = rw rest_is at c.feed-fed.ensures.within in
    let few : p + used_of (length (drop p input)) x ≤ length input = omega (arith, within, length-drop p input, passed) in
    let used : c.used_of.result ≡ used_of (length input) (fed_from d.base p x) = c.used_of.ensures ∙ ap (λ (z : Fed). used_of (length input) z) c.fed_from-fed.ensures in
    let count : c.saturating_add-self-inside.result ≡ min (d.used + used_of (length input) (fed_from d.base p x)) (2 ^ 64 - 1) = c.saturating_add-self-inside.ensures ∙ ap (λ (n : ℕ). min (d.used + n) (2 ^ 64 - 1)) used in
    let drains = rw rest_is at (c.feed-fed.ensures.drains reports) in
    let new = skipping c.feed-fed.new.self d.base c.saturating_add-self-inside.result sink.frame d.last in
    let v = g.S.Sink.view c.args.sink in
    let w = g.S.Sink.view sink.sink in
    let there : p ≡ min (c.args.self.now.base - c.args.self.now.used) (length input) = passed ∙ ap (λ (z : Skipping). min (z.base - z.used) (length input)) c.self.view_is in
    rw c.fed_from-fed.ensures
    (subst (λ (n : ℕ). FeedsTo g.S.Sink.after g.S.Sink.faulted xs n new s stretches gifts events input (fed_from d.base p x) v w) there
    (feeds d.decoder c.feed-fed.new.self d.base d.used c.saturating_add-self-inside.result d.last d.frame sink.frame xs s input later stretches gifts events p a is passed c.feed-fed.ensures.rules g.S.Sink.after g.S.Sink.faulted v w sink.base x few c.feed-fed.ensures.refusal
    (λ r was. let e = c.feed-fed.ensures.refused r was in (e.0, e.1, ap (λ (z : Shifting g.row.S.Denot). g.S.Sink.view z.sink) e.2, ap (λ (z : Shifting g.row.S.Denot). z.frame) e.2)) drains count))

pub returns-clause-also : goal.returns-clause-also
returns-clause-also g c = passes_moved g.S.Sink.also _ _ c.feed-fed.ensures.also
