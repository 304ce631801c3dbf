use Rattle.std.proofs.Common.{length}
use Rattle.cqlp_cell.specs.Levels.{IsPair}
use Rattle.cqlp_decode.specs.Sinks.{Gets}
use Rattle.cqlp_decode.specs.Progress.{nodes_of, parts_state}
use Rattle.cqlp_decode.proofs.Rests.{LiesBefore}
use Rattle.cqlp_decode.proofs.progress.StreamProgress.hand_pairs.Given as goal

-- a key is next, and the level is where the reading is before what is left
abbrev pub invariant-pairs : goal.invariant-pairs
invariant-pairs g l = record {
  pair : IsPair (nodes_of (parts_state l.fn.parts) l.page.columns) l.here l.kinds.key l.kinds.value;
  conforms : LiesBefore (Gets g.S.Sink) l.fn.self (parts_state l.fn.parts) l.fn.level l.input l.fn.sink l.rest l.within l.here l.sink;
}

-- each item takes some byte
abbrev pub decreases-pairs : goal.decreases-pairs
decreases-pairs g l = length l.rest
