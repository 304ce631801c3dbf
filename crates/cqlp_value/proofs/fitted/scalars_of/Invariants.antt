use Rattle.std.proofs.Common.{◌≡◌, ◌-◌, ◌^◌, min, take, drop}
use Rattle.cqlp_type.specs.declared.tree.TypeTree.{Plain}
use Rattle.cqlp_value.specs.Values.{AreInRange, values_size}
use Rattle.cqlp_value.specs.Measures.{all_fit, listed_values}
use Rattle.cqlp_value.proofs.fitted.scalars_of.Given as goal

-- the values so far are of this kind, have this size, and are in range
abbrev pub invariant-loop-item : goal.invariant-loop-item
invariant-loop-item l =
    (all_fit (Plain l.kind) l.items ≡ all_fit (Plain l.kind) (drop l.item-index l.items))
    × ((l.size ≡ min (values_size (listed_values (take l.item-index l.items))) (2 ^ 64 - 1))
    × AreInRange (listed_values (take l.item-index l.items)))
