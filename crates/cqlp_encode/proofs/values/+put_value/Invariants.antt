use Rattle.std.proofs.Common.{take}
use Rattle.cqlp_value.specs.Values.{values_size, values_bytes}
use Rattle.cqlp_value.specs.Measures.{listed_values, listed_pairs}
use Rattle.cqlp_encode.specs.Progress.{PutsWithin}
use Rattle.cqlp_encode.proofs.values.+put_value.Given as goal

-- the values so far are taken
abbrev pub invariant-put_values-loop-value : goal.invariant-put_values-loop-value
invariant-put_values-loop-value g l =
    PutsWithin (values_size (listed_values (take l.value-index l.values))) l.fn.out (values_bytes (listed_values (take l.value-index l.values))) l.out

abbrev pub invariant-put_pairs-loop-key : goal.invariant-put_pairs-loop-key
invariant-put_pairs-loop-key g l =
    PutsWithin (values_size (listed_pairs (take l.key-index l.pairs))) l.fn.out (values_bytes (listed_pairs (take l.key-index l.pairs))) l.out
