use Rattle.std.proofs.Common.{◌≡◌, ◌-◌, ◌≤◌, length, drop}
use Rattle.cqlp_type.specs.Trees.{tree_bytes}
use Rattle.cqlp_type.specs.TypeTrees.{tree_of}
use Rattle.cqlp_type_tables.proofs.Reading.{Leads, end_of}
use Rattle.cqlp_type_tables.proofs.making.add_type.Given as goal

-- the bytes that are left of the option lead to its end
abbrev pub invariant-items : goal.invariant-items
invariant-items g l =
    (l.option.items ≡ tree_bytes (tree_of l.fn.tree))
    × (l.start ≤ length l.option.items)
    × (l.table.room ≡ l.fn.table.room)
    × Leads l.fn.reader.rules (end_of l.fn.table.nodes (tree_of l.fn.tree)) (drop l.start l.option.items) l.reader l.partial l.table

abbrev pub decreases-items : goal.decreases-items
decreases-items g l = length l.option.items - l.start
