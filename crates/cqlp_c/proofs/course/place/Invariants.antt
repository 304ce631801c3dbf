use Rattle.std.proofs.Common.{◌≡◌}
use Rattle.cqlp_c.proofs.Placing.{placed_front}
use Rattle.cqlp_c.proofs.course.place.Given as goal

-- the first are placed
abbrev pub invariant-loop-event : goal.invariant-loop-event
invariant-loop-event l = l.events ≡ placed_front l.base l.event-index l.fn.events
