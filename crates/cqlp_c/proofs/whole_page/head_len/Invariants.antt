use Rattle.std.proofs.Common.{◌≤◌, length}
use Rattle.cqlp_c.proofs.whole_page.head_len.Given as goal

-- the place is within the events
abbrev pub invariant-loop-at : goal.invariant-loop-at
invariant-loop-at l = l.at ≤ length l.events
