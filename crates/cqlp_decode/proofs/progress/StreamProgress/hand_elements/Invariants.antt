use Rattle.std.proofs.Common.{◌≡◌, length}
use Rattle.cqlp_cell.specs.declared.open_values.Order.TheVariants as order
use Rattle.cqlp_decode.specs.Sinks.{Gets}
use Rattle.cqlp_decode.specs.Progress.{parts_state}
use Rattle.cqlp_decode.proofs.Rests.{LiesBefore}
use Rattle.cqlp_decode.proofs.progress.StreamProgress.hand_elements.Given as goal

-- the level is that of a list, and it is where the reading is before what is left
abbrev pub invariant-elements : goal.invariant-elements
invariant-elements g l = record {
  list : l.here.value.order ≡ order.Elements;
  node : l.here.value.node ≡ l.fn.level.value.node;
  conforms : LiesBefore (Gets g.S.Sink) l.fn.self (parts_state l.fn.parts) l.fn.level l.input l.fn.sink l.rest l.within l.here l.sink;
}

-- each item takes some byte
abbrev pub decreases-elements : goal.decreases-elements
decreases-elements g l = length l.rest
