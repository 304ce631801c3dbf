use Rattle.std.proofs.Common.{length}
use Rattle.cqlp_decode.specs.Sinks.{Gets}
use Rattle.cqlp_decode.specs.Progress.{parts_state}
use Rattle.cqlp_decode.proofs.Rests.{LiesBefore}
use Rattle.cqlp_decode.proofs.progress.StreamProgress.hand_scalars.Given as goal

-- the level is where the reading is before what is left
abbrev pub invariant-scalars : goal.invariant-scalars
invariant-scalars g l = LiesBefore (Gets g.S.Sink) l.fn.self (parts_state l.fn.parts) l.fn.level l.input l.fn.sink l.rest l.within l.here l.sink

-- each item takes some byte
abbrev pub decreases-scalars : goal.decreases-scalars
decreases-scalars g l = length l.rest
