use Rattle.std.proofs.Common.{◌+◌, ◌-◌, ◌*◌, length}
use Rattle.cqlp_decode.specs.Items.{AtItems, at_level}
use Rattle.cqlp_decode.specs.Sinks.{Gets}
use Rattle.cqlp_decode.specs.Progress.{ends_due, parts_state, state_of}
use Rattle.cqlp_decode.proofs.Lists.{Conformed}
use Rattle.cqlp_decode.proofs.progress.StreamProgress.hand_lists.Given as goal

-- the reading is in the level at hand, and the sink has got the events of what is used
abbrev pub invariant-lists : goal.invariant-lists
invariant-lists g l = record {
  ready : AtItems l.self (parts_state l.parts) l.level l.page;
  conformed : Conformed (Gets g.S.Sink) (state_of l.fn.self (at_level (parts_state l.fn.parts) l.fn.start)) l.input l.fn.sink (state_of l.self (at_level (parts_state l.parts) l.level)) l.used l.sink;
}

-- each cell takes some byte
abbrev pub decreases-lists : goal.decreases-lists
decreases-lists g l =
    ends_due (state_of l.self (at_level (parts_state l.parts) l.level)).place.symbols
    + (state_of l.self (at_level (parts_state l.parts) l.level)).open_values
    + 2 * (length l.input - l.used)
