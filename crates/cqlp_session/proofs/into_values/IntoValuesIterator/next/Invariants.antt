use Rattle.std.proofs.Common.{◌≡◌, length, reverse}
use Rattle.cqlp_session.specs.Carried.{values_in}
use Rattle.cqlp_session.proofs.into_values.IntoValuesIterator.next.Given as goal

-- only empty places were passed over
abbrev pub invariant-loop-value : goal.invariant-loop-value
invariant-loop-value g l = values_in (reverse l.self-inside.carried.items) ≡ l.fn.self

abbrev pub decreases-loop-value : goal.decreases-loop-value
decreases-loop-value g l = length l.self-inside.carried.items
