use Rattle.std.proofs.Common.{◌≡◌, ◌-◌, ◌^◌, true, false, min, take}
use Rattle.cqlp_type.specs.TypeLists.{listed_fields, listed_types}
use Rattle.cqlp_type.specs.TypeTrees.{trees_size}
use Rattle.cqlp_type.proofs.size.+type_size.Given as goal

-- the size of the types so far
abbrev pub invariant-fields_size-loop-name : goal.invariant-fields_size-loop-name
invariant-fields_size-loop-name l = l.size ≡ min (trees_size true (listed_fields (take l.name-index l.fields))) (2 ^ 64 - 1)

abbrev pub invariant-types_size-loop-tree : goal.invariant-types_size-loop-tree
invariant-types_size-loop-tree l = l.size ≡ min (trees_size false (listed_types (take l.tree-index l.types))) (2 ^ 64 - 1)
