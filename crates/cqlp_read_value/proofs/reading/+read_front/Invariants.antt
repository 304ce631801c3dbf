use Rattle.std.proofs.Common.{◌≡◌, ◌+◌, ◌-◌, ◌*◌, [], ◌∷◌, length, drop}
use Rattle.cqlp_type.specs.Trees.{types_in}
use Rattle.cqlp_type.specs.TypeTrees.{tree_of}
use Rattle.cqlp_value.specs.Measures.{listed_pairs, listed_values, types_by}
use Rattle.cqlp_read_value.specs.Reading.{whole_rules}
use Rattle.cqlp_read_value.proofs.Progress.{AfterFields, AreRead}
use Rattle.cqlp_read_value.proofs.reading.+read_front.Given as goal

abbrev pub invariant-read_items-loop-body : goal.invariant-read_items-loop-body
invariant-read_items-loop-body l = AreRead (whole_rules l.reading.limits) (types_in (tree_of l.inner)) l.count (drop 4 l.content) (length l.items.items) (listed_values l.items.items) l.used

abbrev pub decreases-read_items-loop-body : goal.decreases-read_items-loop-body
decreases-read_items-loop-body l = l.count - length l.items.items

abbrev pub invariant-read_pairs-loop-body : goal.invariant-read_pairs-loop-body
invariant-read_pairs-loop-body l = AreRead (whole_rules l.reading.limits) (types_by (λ x. x) (l.keys ∷ l.values ∷ [])) l.count (drop 4 l.content) (length l.pairs.items) (listed_pairs l.pairs.items) l.used

abbrev pub decreases-read_pairs-loop-body : goal.decreases-read_pairs-loop-body
decreases-read_pairs-loop-body l = l.count - length l.pairs.items

abbrev pub invariant-read_types-loop-tree : goal.invariant-read_types-loop-tree
invariant-read_types-loop-tree l = record {
  fields : AfterFields (λ t. t) (whole_rules l.reading.limits) l.at l.types l.content l.tree-index (listed_values l.items.items) l.used;
  many : length l.items.items ≡ l.tree-index;
}

abbrev pub invariant-read_fields-loop-tree : goal.invariant-read_fields-loop-tree
invariant-read_fields-loop-tree l = record {
  fields : AfterFields (λ x. x.1) (whole_rules l.reading.limits) l.at l.fields l.content l.tree-index (listed_values l.items.items) l.used;
  many : length l.items.items ≡ l.tree-index;
}

-- each value in a value has fewer bytes
abbrev pub decreases-read_front : goal.decreases-read_front
decreases-read_front l = 2 * length l.bytes.now

abbrev pub decreases-read_content : goal.decreases-read_content
decreases-read_content l = 2 * length l.content.now + 2

abbrev pub decreases-read_items : goal.decreases-read_items
decreases-read_items l = 2 * length l.content.now + 1

abbrev pub decreases-read_pairs : goal.decreases-read_pairs
decreases-read_pairs l = 2 * length l.content.now + 1

abbrev pub decreases-read_types : goal.decreases-read_types
decreases-read_types l = 2 * length l.content.now + 1

abbrev pub decreases-read_fields : goal.decreases-read_fields
decreases-read_fields l = 2 * length l.content.now + 1
