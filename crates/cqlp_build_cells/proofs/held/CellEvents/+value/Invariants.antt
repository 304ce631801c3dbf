use Rattle.std.proofs.Common.{◌≡◌, ◌+◌, ◌*◌, [], ◌∷◌, length}
use Rattle.cqlp_type.specs.Trees.{types_in}
use Rattle.cqlp_type.specs.TypeTrees.{tree_of}
use Rattle.cqlp_value.specs.Measures.{listed_pairs, listed_values, types_by}
use Rattle.cqlp_build_cells.specs.CellEvents.{HoldsNoMore}
use Rattle.cqlp_build_cells.proofs.Several.{Remains}
use Rattle.cqlp_build_cells.proofs.Fields.{RemainsFirst}
use Rattle.cqlp_build_cells.proofs.held.CellEvents.+value.Given as goal

-- each value in a value has fewer events
abbrev pub decreases-value : goal.decreases-value
decreases-value l = 3 * length l.self.now.items.items

abbrev pub decreases-inside : goal.decreases-inside
decreases-inside l = 3 * length l.self.now.items.items + 2

abbrev pub decreases-items : goal.decreases-items
decreases-items l = 3 * length l.self.now.items.items + 1

abbrev pub decreases-pairs : goal.decreases-pairs
decreases-pairs l = 3 * length l.self.now.items.items + 1

abbrev pub decreases-types : goal.decreases-types
decreases-types l = 3 * length l.self.now.items.items + 1

abbrev pub decreases-fields : goal.decreases-fields
decreases-fields l = 3 * length l.self.now.items.items + 1

abbrev pub invariant-items-loop : goal.invariant-items-loop
invariant-items-loop l = record {
  remains : Remains (l.level + 1) (types_in (tree_of l.inner)) l.count l.fn.self l.self l.counter (listed_values l.items.items);
  fewer : HoldsNoMore l.fn.self l.self;
}

abbrev pub invariant-pairs-loop : goal.invariant-pairs-loop
invariant-pairs-loop l = record {
  remains : Remains (l.level + 1) (types_by (λ x. x) (l.keys ∷ l.values ∷ [])) l.count l.fn.self l.self l.counter (listed_pairs l.pairs.items);
  fewer : HoldsNoMore l.fn.self l.self;
}

abbrev pub invariant-types-loop-tree : goal.invariant-types-loop-tree
invariant-types-loop-tree l = record {
  remains : RemainsFirst l.level (λ t. t) l.types l.fn.self l.self l.tree-index (listed_values l.items.items);
  many : length l.items.items ≡ l.tree-index;
  fewer : HoldsNoMore l.fn.self l.self;
}

abbrev pub invariant-fields-loop-tree : goal.invariant-fields-loop-tree
invariant-fields-loop-tree l = record {
  remains : RemainsFirst l.level (λ x. x.1) l.fields l.fn.self l.self l.tree-index (listed_values l.items.items);
  many : length l.items.items ≡ l.tree-index;
  fewer : HoldsNoMore l.fn.self l.self;
}
