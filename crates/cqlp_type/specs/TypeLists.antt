-- Lists of a caller's types as trees side by side.
use Rattle.std.specs.Prelude.{List, [], ◌∷◌, string_bytes}
use Rattle.std.specs.declared.string.String.{String}
use Rattle.std.specs.declared.alloc.Global.{Global}
use Rattle.cqlp_type.specs.declared.tree.TypeTree.{TypeTree}
use Rattle.cqlp_type.specs.Trees.{Trees, NoTree, Tree_and}
use Rattle.cqlp_type.specs.TypeTrees.{head_of, inner_of}

abbrev pub listed_types : List TypeTree → Trees
listed_types [] = NoTree
listed_types (t ∷ ts) = Tree_and [] (head_of t) (inner_of t) (listed_types ts)

abbrev pub listed_fields : List (String Global × TypeTree) → Trees
listed_fields [] = NoTree
listed_fields (x ∷ xs) = Tree_and (string_bytes x.0) (head_of x.1) (inner_of x.1) (listed_fields xs)
