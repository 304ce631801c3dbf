use Rattle.std.proofs.Common.{◌≡◌, ◌+◌, [], ◌∷◌, ◌++◌, arith, sym, ◌∙◌}
use Rattle.std.proofs.lemmas.List.{map-append}
use Rattle.std.proofs.lemmas.Grind.{common_steps}
use Rattle.cqlp_build.specs.Emitted.{emitted}
use Rattle.cqlp_build.proofs.Several.{remains_all, remains_more, remains_none, remains_stuck, some_of}
use Rattle.cqlp_build.proofs.held.FrameEvents.many.Goals as goal

pub loop-init : goal.loop-init
loop-init g c =
    rw c.new-items.ensures.items (remains_all (λ v. emitted (g.T.FromEvents.parts c.args.wanted v)) (g.T.FromEvents.is_wanted c.args.wanted) c.args.count c.args.self.now)

pub returns-then-is_some : goal.returns-then-is_some
returns-then-is_some g c =
    let f = some_of c.build-item.new.held.fault (sym c.is_some.ensures ∙ c.if-is_some.true) in
    remains_stuck _ _ c.args.count c.args.self.now c.build-item.new.held (c.loop.counter + 1) _ _ f.0 (omega arith) f.1
    (remains_more (λ v. emitted (g.T.FromEvents.parts c.args.wanted v)) (g.T.FromEvents.is_wanted c.args.wanted) c.args.count c.args.self.now c.loop.self c.build-item.new.held c.loop.counter _ (g.T.FromEvents.value c.build-item.result) c.loop.invariant c.build-item.ensures)

pub loop-preserved : goal.loop-preserved
loop-preserved g c =
    let e : c.push.new.self.items ≡ c.loop.items.items ++ c.build-item.result ∷ [] = grind (arith, common_steps, c.push.ensures.items, c.is_err.ensures) in
    rw (e, map-append) (remains_more (λ v. emitted (g.T.FromEvents.parts c.args.wanted v)) (g.T.FromEvents.is_wanted c.args.wanted) c.args.count c.args.self.now c.loop.self c.build-item.new.held c.loop.counter _ (g.T.FromEvents.value c.build-item.result) c.loop.invariant c.build-item.ensures)

pub returns : goal.returns
returns g c =
    remains_none (λ v. emitted (g.T.FromEvents.parts c.args.wanted v)) (g.T.FromEvents.is_wanted c.args.wanted) c.args.count c.args.self.now c.loop.self c.loop.counter _ (omega arith) (omega arith) c.loop.invariant
