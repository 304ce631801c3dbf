-- How a type's option is read into a table.
use Rattle.std.specs.Prelude.{◌≡◌, ◌+◌, ◌≤◌, false, List, length}
use Rattle.cqlp_note.specs.Limits.{Rules}
use Rattle.cqlp_note.specs.Partial.{FieldState}
use Rattle.cqlp_kind.specs.declared.node.Node.{Node}
use Rattle.cqlp_type.specs.Progress.{TypeState}
use Rattle.cqlp_type.specs.Trees.{Trees, trees_in, options_in, AreTrees, Shallow, AreShort, trees_items, TreeSpells, tree_bytes}

-- Within these limits, after these nodes, the bytes that are written of a type's option are read as that type.
pub record IsReadAs (l : Rules) (nodes : List Node) (t : Trees) : Type 0 where
  pub one : trees_in t ≡ 1
  pub are : AreTrees t
  pub shallow : Shallow l 1 t
  pub short : AreShort l (trees_items false t)
  pub room : length nodes + options_in t ≤ l.entries
  pub spelled : TreeSpells t (tree_bytes t)

-- No option is under way, nor a field, for whose text there is room.
pub record IsIdle (r : TypeState) (p : FieldState) : Type 0 where
  pub option : r.under_way ≡ false
  pub field : p.under_way ≡ false
  pub room : r.rules.text ≤ p.room
