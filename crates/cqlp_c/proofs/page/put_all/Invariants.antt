use Rattle.cqlp_compose.specs.Put.{putter}
use Rattle.cqlp_c.proofs.PagesPut.{PutSoFar}
use Rattle.cqlp_c.proofs.page.put_all.Given as goal

-- the events before this one were taken
abbrev pub invariant-loop-event : goal.invariant-loop-event
invariant-loop-event l = PutSoFar (putter l.fn.cells) (putter l.cells) l.events l.contents l.fn.room l.room l.event l.put l.rest
