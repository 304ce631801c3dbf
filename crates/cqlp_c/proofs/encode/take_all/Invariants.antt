use Rattle.std.proofs.Common.{◌≡◌, take, Ok}
use Rattle.cqlp_compose.specs.Composing.{composed}
use Rattle.cqlp_c.specs.Encoding.{after_all}
use Rattle.cqlp_c.proofs.encode.take_all.Given as goal

-- the events before this one are taken
abbrev pub invariant-loop-event : goal.invariant-loop-event
invariant-loop-event l = after_all 0 (composed l.fn.composer, l.contents) (take l.event l.events) ≡ Ok (composed l.composer, l.rest)
