use Rattle.std.proofs.Common.{◌≡◌, ◌-◌, ◌^◌, min, take, drop}
use Rattle.cqlp_value.specs.Values.{AreInRange, values_size}
use Rattle.cqlp_value.specs.Measures.{all_fit, all_pairs_fit, listed_values, listed_pairs}
use Rattle.cqlp_value.proofs.fitted.+fitting_size.Given as goal

-- the values so far fit, have this size, and are in range
abbrev pub invariant-each_size_in-loop-item : goal.invariant-each_size_in-loop-item
invariant-each_size_in-loop-item l =
    (all_fit l.tree l.items ≡ all_fit l.tree (drop l.item-index l.items))
    × ((l.size ≡ min (values_size (listed_values (take l.item-index l.items))) (2 ^ 64 - 1))
    × AreInRange (listed_values (take l.item-index l.items)))

abbrev pub invariant-each_pair_size_in-loop-key : goal.invariant-each_pair_size_in-loop-key
invariant-each_pair_size_in-loop-key l =
    (all_pairs_fit l.keys l.values l.pairs ≡ all_pairs_fit l.keys l.values (drop l.key-index l.pairs))
    × ((l.size ≡ min (values_size (listed_pairs (take l.key-index l.pairs))) (2 ^ 64 - 1))
    × AreInRange (listed_pairs (take l.key-index l.pairs)))
