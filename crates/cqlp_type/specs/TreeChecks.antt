-- What keeps types from having options.
use Rattle.std.specs.Prelude.{Bool, ◌&&◌, List}
use Rattle.std.specs.List.{list_all}
use Rattle.cqlp_type.specs.declared.check.TreeCheck.{TreeCheck}
use Rattle.cqlp_kind.specs.TypeStep.{TypeEvent}
use Rattle.cqlp_type.specs.Trees.{Trees, are_trees, trees_items, item_counts, item_is_short}

-- these items, of types that are formed or not
abbrev pub items_check : Bool → List TypeEvent → TreeCheck
items_check formed items = record {
  formed = formed;
  counts = list_all item_counts items;
  texts = list_all item_is_short items;
}

-- Each kind has the parameters that it takes; a [short] can count each type's fields, and the bytes of each text.
abbrev pub checks_of : (named : Bool) → Trees → TreeCheck
checks_of named ts = items_check (are_trees ts) (trees_items named ts)

-- both
abbrev pub both : TreeCheck → TreeCheck → TreeCheck
both c d = record {
  formed = c.formed && d.formed;
  counts = c.counts && d.counts;
  texts = c.texts && d.texts;
}
