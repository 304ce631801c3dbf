use Rattle.std.proofs.Common.{arith}
use Rattle.std.proofs.Common.{◌≡◌, ◌≤◌, ◌+◌, ◌-◌, length, take, drop, subst, sym, ◌∙◌, ap, Bool, List, ℕ}
use Rattle.std.proofs.lemmas.Grind.{common_steps}
use Rattle.std.specs.Io.KnownBytes.{Appends}
use Rattle.cqlp_note.specs.Streams.{counted}
use Rattle.cqlp_note.proofs.Appended.{appends_then, some_left, take_more, takes_none, takes_rest, took_some}
use Rattle.cqlp_note.proofs.offering.offer.Goals as goal

pub loop-sent-preserved : goal.loop-sent-preserved
loop-sent-preserved g c =
    let before = c.loop-sent.invariant in
    let reported = c.in-Ok.ensures in
    let within : c.loop-sent.sent + c.in-Ok.count ≤ length c.args.bytes.now = grind (arith, common_steps, reported.bound) in (
      within,
      subst (λ (t : List ℕ). Appends (g.W.Target.contents c.args.target.now) (g.W.Target.contents c.write.new.self) t) (sym (take_more _ _ _ before.0)) (appends_then _ _ _ _ _ before.1 reported.bytes),
      took_some _ _ _ _ c.if-count-eq0.false reported.failures ∙ before.2,
      let rest : length (take (length c.args.bytes.now - c.loop-sent.sent) (drop c.loop-sent.sent c.args.bytes.now)) ≡ length c.args.bytes.now - c.loop-sent.sent = grind (arith, common_steps) in
          let all = takes_rest c.loop-sent.sent c.in-Ok.count (length c.args.bytes.now) _ c.loop-sent-test.true rest in
          let none = some_left c.loop-sent.sent (length c.args.bytes.now) c.loop-sent-test.true in
          reported.writes ∙ ap (λ (t : Bool). counted t (g.W.Target.writes c.loop-sent.target)) all
          ∙ ap (counted _) (before.3 ∙ ap (λ (t : Bool). counted t (g.W.Target.writes c.args.target.now)) none),
    )

pub returns-after-loop-sent-clause-writes : goal.returns-after-loop-sent-clause-writes
returns-after-loop-sent-clause-writes g c = c.loop-sent.invariant.3

pub returns-in_default-clause-writes : goal.returns-in_default-clause-writes
returns-in_default-clause-writes g c = c.in_default.ensures.writes ∙ c.loop-sent.invariant.3

pub returns-then-count-eq0-clause-writes : goal.returns-then-count-eq0-clause-writes
returns-then-count-eq0-clause-writes g c =
    let rest : length (take (length c.args.bytes.now - c.loop-sent.sent) (drop c.loop-sent.sent c.args.bytes.now)) ≡ length c.args.bytes.now - c.loop-sent.sent = grind (arith, common_steps) in
    let none = takes_none c.loop-sent.sent c.in-Ok.count (length c.args.bytes.now) _ c.loop-sent-test.true rest c.if-count-eq0.true in
    c.in-Ok.ensures.writes ∙ ap (λ (t : Bool). counted t (g.W.Target.writes c.loop-sent.target)) none ∙ c.loop-sent.invariant.3
