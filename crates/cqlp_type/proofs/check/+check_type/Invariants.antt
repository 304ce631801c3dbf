use Rattle.std.proofs.Common.{◌≡◌, true, false, take}
use Rattle.cqlp_type.specs.TreeChecks.{checks_of}
use Rattle.cqlp_type.specs.TypeLists.{listed_fields, listed_types}
use Rattle.cqlp_type.proofs.check.+check_type.Given as goal

-- what is found of the types so far
abbrev pub invariant-check_fields-loop-name : goal.invariant-check_fields-loop-name
invariant-check_fields-loop-name l = l.check ≡ checks_of true (listed_fields (take l.name-index l.fields))

abbrev pub invariant-check_types-loop-tree : goal.invariant-check_types-loop-tree
invariant-check_types-loop-tree l = l.check ≡ checks_of false (listed_types (take l.tree-index l.types))
