use Rattle.std.proofs.Common.{◌≡◌, ◌+◌, ◌-◌, ◌*◌, ◌≤◌, length}
use Rattle.std.specs.Prelude.{None}
use Rattle.cqlp_decode.specs.Sinks.{Gets}
use Rattle.cqlp_decode.specs.Progress.{IsLawful, ends_due, state_with}
use Rattle.cqlp_decode.specs.Cells.{HandsOut}
use Rattle.cqlp_decode.proofs.field_loop.take_fields.Given as goal

-- what is used is read, and the sink has got its events
abbrev pub invariant-fields : goal.invariant-fields
invariant-fields g l = record {
  within : l.used ≤ length l.input;
  lawful : IsLawful l.progress l.parts;
  unrefused : l.progress.refusal ≡ None;
  rules : (state_with l.progress l.parts).rules ≡ (state_with l.fn.progress l.fn.parts).rules;
  given : (state_with l.progress l.parts).given ≡ (state_with l.fn.progress l.fn.parts).given;
  pays : ends_due (state_with l.progress l.parts).place.symbols + (state_with l.progress l.parts).open_values ≤ ends_due (state_with l.fn.progress l.fn.parts).place.symbols + (state_with l.fn.progress l.fn.parts).open_values + 2 * l.used;
  drained : HandsOut (Gets g.S.Sink) (state_with l.fn.progress l.fn.parts) (state_with l.progress l.parts) l.input l.used l.fn.sink l.sink;
}

-- what is taken has some byte, or is the end of a frame
abbrev pub decreases-fields : goal.decreases-fields
decreases-fields g l = ends_due (state_with l.progress l.parts).place.symbols + (state_with l.progress l.parts).open_values + 2 * (length l.input - l.used)
