use Rattle.std.proofs.Common.{◌≡◌, true, false, take}
use Rattle.cqlp_type.specs.TypeTrees.{len_if, trees_fit, trees_size}
use Rattle.cqlp_type.specs.TypeLists.{listed_types, listed_fields}
use Rattle.cqlp_type.proofs.tree.+type_len.Given as goal

abbrev pub invariant-fields_len-loop-name : goal.invariant-fields_len-loop-name
invariant-fields_len-loop-name l = l.len ≡ len_if (trees_fit true (listed_fields (take l.name-index l.fields))) (trees_size true (listed_fields (take l.name-index l.fields)))

abbrev pub invariant-types_len-loop-tree : goal.invariant-types_len-loop-tree
invariant-types_len-loop-tree l = l.len ≡ len_if (trees_fit false (listed_types (take l.tree-index l.types))) (trees_size false (listed_types (take l.tree-index l.types)))
