use Rattle.std.proofs.Common.{true, take}
use Rattle.cqlp_value.specs.Values.{values_bytes}
use Rattle.cqlp_value.specs.Measures.{listed_values, listed_pairs}
use Rattle.cqlp_encode.specs.Progress.{Keeps}
use Rattle.cqlp_encode.proofs.kept_values.+keep_value.Given as goal

-- the values so far are kept
abbrev pub invariant-keep_values-loop-value : goal.invariant-keep_values-loop-value
invariant-keep_values-loop-value g l = Keeps l.fn.out true (values_bytes (listed_values (take l.value-index l.values))) l.out

abbrev pub invariant-keep_pairs-loop-key : goal.invariant-keep_pairs-loop-key
invariant-keep_pairs-loop-key g l = Keeps l.fn.out true (values_bytes (listed_pairs (take l.key-index l.pairs))) l.out
