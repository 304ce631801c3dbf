use Rattle.std.proofs.Common.{◌≡◌, ◌-◌, ◌^◌, min, take}
use Rattle.cqlp_type.specs.Trees.{options_in}
use Rattle.cqlp_type.specs.TypeLists.{listed_fields, listed_types}
use Rattle.cqlp_type_tables.proofs.count.+count_nodes.Given as goal

-- the nodes of the types so far
abbrev pub invariant-count_fields-loop-name : goal.invariant-count_fields-loop-name
invariant-count_fields-loop-name l = l.count ≡ min (options_in (listed_fields (take l._name-index l.fields))) (2 ^ 64 - 1)

abbrev pub invariant-count_types-loop-tree : goal.invariant-count_types-loop-tree
invariant-count_types-loop-tree l = l.count ≡ min (options_in (listed_types (take l.tree-index l.types))) (2 ^ 64 - 1)
