use Rattle.std.proofs.Common.{map}
use Rattle.cqlp_build.specs.Emitted.{emitted}
use Rattle.cqlp_build.proofs.Several.{Remains}
use Rattle.cqlp_build.proofs.held.FrameEvents.many.Given as goal

-- the items that are there are the first
abbrev pub invariant-loop : goal.invariant-loop
invariant-loop g l =
    Remains (λ v. emitted (g.T.FromEvents.parts l.wanted v)) (g.T.FromEvents.is_wanted l.wanted) l.count l.fn.self l.self l.counter (map g.T.FromEvents.value l.items.items)
