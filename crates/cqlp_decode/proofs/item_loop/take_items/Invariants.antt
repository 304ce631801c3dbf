use Rattle.std.proofs.Common.{◌≡◌, ◌+◌, ◌-◌, ◌*◌, ◌≤◌, [], length}
use Rattle.std.specs.Prelude.{None}
use Rattle.cqlp_decode.specs.Sinks.{Gets}
use Rattle.cqlp_decode.specs.declared.progress.StreamStage.TheVariants as stage
use Rattle.cqlp_decode.specs.Progress.{IsLawful, ends_due, state_with}
use Rattle.cqlp_decode.specs.Cells.{HandsOut}
use Rattle.cqlp_decode.proofs.item_loop.take_items.Given as goal

-- what is used is read, a cell is under way with nothing in the buffer, and the sink has got its events
abbrev pub invariant-items : goal.invariant-items
invariant-items g l = record {
  within : l.used ≤ length l.input;
  lawful : IsLawful l.progress l.parts;
  here : l.progress.stage ≡ stage.InCell l.page;
  unrefused : l.progress.refusal ≡ None;
  empty : l.parts.partial.content ≡ [];
  rules : (state_with l.progress l.parts).rules ≡ (state_with l.fn.progress l.fn.parts).rules;
  given : (state_with l.progress l.parts).given ≡ (state_with l.fn.progress l.fn.parts).given;
  pays : ends_due (state_with l.progress l.parts).place.symbols + (state_with l.progress l.parts).open_values ≤ ends_due (state_with l.fn.progress l.fn.parts).place.symbols + (state_with l.fn.progress l.fn.parts).open_values + 2 * l.used;
  drained : HandsOut (Gets g.S.Sink) (state_with l.fn.progress l.fn.parts) (state_with l.progress l.parts) l.input l.used l.fn.sink l.sink;
}

-- an item takes some byte, or is the end of a value that is open
abbrev pub decreases-items : goal.decreases-items
decreases-items g l = ends_due (state_with l.progress l.parts).place.symbols + (state_with l.progress l.parts).open_values + 2 * (length l.input - l.used)
