use Rattle.std.proofs.Common.{◌≡◌, drop}
use Rattle.cqlp_c.specs.Pages.{measured}
use Rattle.cqlp_c.proofs.page.measure_all.Given as goal

-- the events before this one are added up
abbrev pub invariant-loop-event : goal.invariant-loop-event
invariant-loop-event l = measured 0 l.size l.contents l.events ≡ measured l.event l.sum l.rest (drop l.event l.events)
