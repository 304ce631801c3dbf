use Rattle.std.proofs.Common.{◌≡◌, ◌-◌, ◌^◌, min, take, drop}
use Rattle.cqlp_type.specs.declared.tree.TypeTree.{Plain}
use Rattle.cqlp_value.specs.Values.{AreInRange, values_size}
use Rattle.cqlp_value.specs.Measures.{all_pairs_fit, listed_pairs}
use Rattle.cqlp_value.proofs.fitted.scalar_pairs_of.Given as goal

-- the pairs so far are of these kinds, have this size, and are in range
abbrev pub invariant-loop-key : goal.invariant-loop-key
invariant-loop-key l =
    (all_pairs_fit (Plain l.keys) (Plain l.values) l.pairs ≡ all_pairs_fit (Plain l.keys) (Plain l.values) (drop l.key-index l.pairs))
    × ((l.size ≡ min (values_size (listed_pairs (take l.key-index l.pairs))) (2 ^ 64 - 1))
    × AreInRange (listed_pairs (take l.key-index l.pairs)))
