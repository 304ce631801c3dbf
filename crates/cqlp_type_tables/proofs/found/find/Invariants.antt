use Rattle.std.proofs.Common.{◌≡◌, ◌-◌, ◌^◌, false, map, min, take}
use Rattle.cqlp_type.specs.TreeChecks.{checks_of}
use Rattle.cqlp_type.specs.Trees.{options_in}
use Rattle.cqlp_type.specs.TypeLists.{listed_types}
use Rattle.cqlp_type.specs.TypeTrees.{trees_size}
use Rattle.cqlp_type_tables.proofs.found.find.Given as goal

-- what is found of the types so far
abbrev pub invariant-loop-item : goal.invariant-loop-item
invariant-loop-item g l =
    let types = take l.item-index (map g.T.HasType.type_of l.items) in
    (l.check ≡ checks_of false (listed_types types))
    × (l.size ≡ min (trees_size false (listed_types types)) (2 ^ 64 - 1))
    × (l.nodes ≡ min (options_in (listed_types types)) (2 ^ 64 - 1))
