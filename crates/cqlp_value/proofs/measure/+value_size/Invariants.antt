use Rattle.std.proofs.Common.{◌≡◌, ◌-◌, ◌^◌, min, take}
use Rattle.cqlp_value.specs.Values.{AreInRange, values_size}
use Rattle.cqlp_value.specs.Measures.{listed_values, listed_pairs}
use Rattle.cqlp_value.proofs.measure.+value_size.Given as goal

-- the values so far have this size, and are in range
abbrev pub invariant-items_size-loop-item : goal.invariant-items_size-loop-item
invariant-items_size-loop-item l =
    (l.size ≡ min (values_size (listed_values (take l.item-index l.items))) (2 ^ 64 - 1))
    × AreInRange (listed_values (take l.item-index l.items))

abbrev pub invariant-pairs_size-loop-key : goal.invariant-pairs_size-loop-key
invariant-pairs_size-loop-key l =
    (l.size ≡ min (values_size (listed_pairs (take l.key-index l.pairs))) (2 ^ 64 - 1))
    × AreInRange (listed_pairs (take l.key-index l.pairs))
