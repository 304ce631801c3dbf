-- The laws of tables that are made of types.
use Rattle.std.specs.Prelude.{◌≡◌, ℕ, ◌+◌, ◌≤◌, ◌++◌, false, List, [], ◌∷◌, length, map, Result, Ok, Err}
use Rattle.cqlp_note.specs.Limits.{Rules}
use Rattle.cqlp_note.specs.Step.{Runs}
use Rattle.cqlp_kind.specs.declared.node.Node.{Node}
use Rattle.cqlp_kind.specs.Types.{preorder}
use Rattle.cqlp_kind.specs.TypeStep.{TypePlace, Option_at, type_step}
use Rattle.cqlp_type.specs.declared.tree.TypeTree.{TypeTree}
use Rattle.cqlp_type.specs.Laws.{AreTypesOf}
use Rattle.cqlp_type.specs.Table.{Table, beginnings}
use Rattle.cqlp_type.specs.Trees.{Trees, options_in, types_in, AreTrees, Shallow, AreShort, TreeSpells, trees_items, placed}
use Rattle.cqlp_type.specs.TypeLists.{listed_types}
use Rattle.cqlp_type.specs.TypeTrees.{tree_of}
use Rattle.cqlp_type_tables.specs.declared.making.TableError.{TableError}
use Rattle.cqlp_type_tables.specs.declared.making.TableError.TheVariants as error
use Rattle.cqlp_message.specs.declared.response.Spec.{Spec}
use Rattle.cqlp_message.specs.Bodies.{column_types}
use Rattle.cqlp_message.specs.Owned.{spec_of}
use Rattle.cqlp_type_tables.specs.Making.{AreWritable, table_of, types_of_specs, Makes}

-- within these limits a type's option is read after these nodes
pub record IsWithin (l : Rules) (nodes : List Node) (t : Trees) : Type 0 where
  pub shallow : Shallow l 1 t
  pub short : AreShort l (trees_items false t)
  pub room : length nodes + options_in t ≤ l.entries

-- The reading of an option after these nodes, which goes on to its end, leaves those.
abbrev pub ReadsTo : Rules → (at : ℕ) → List Node → Trees → List ℕ → List Node → Type 0
ReadsTo l at nodes t b after =
    let first : TypePlace = record { offset = at; stop = at + length b; symbols = Option_at 1 ∷ []; nodes = nodes } in
    let last : TypePlace = record { offset = at + length b; stop = at + length b; symbols = []; nodes = after } in
    Runs (type_step l) first b (placed at (trees_items false t)) last []

-- The nodes of a table of types are what reading their options leaves, one after the other: there are none of no types,
-- and after those of some types the reading of one more, whatever bytes spell it, leaves those of them all.
pub record IsAsRead : Type 0 where
  pub none : (table_of (listed_types [])).nodes ≡ []
  pub more :
      (ts : List TypeTree) (t : TypeTree) (l : Rules) (at : ℕ) (b : List ℕ) → AreTrees (tree_of t) → TreeSpells (tree_of t) b
      → let nodes = (table_of (listed_types ts)).nodes in
      IsWithin l nodes (tree_of t) → ReadsTo l at nodes (tree_of t) b (table_of (listed_types (ts ++ t ∷ []))).nodes

-- A table of types that have options is whole: its types are these, as many side by side as there are, and it has room
-- for just its nodes.
abbrev pub IsOfTypes : Type 0
IsOfTypes =
    (ts : List TypeTree) → AreWritable (listed_types ts)
    → let table = table_of (listed_types ts) in
    AreTypesOf table.nodes (types_in (listed_types ts))
    × (length (beginnings 0 0 table.nodes) ≡ length ts)
    × (table.room ≡ length table.nodes)

-- The nodes of a table of specs are those of the types that the cells of a page with these columns have.
abbrev pub IsOfColumns : Type 0
IsOfColumns = (specs : List Spec) → (table_of (listed_types (types_of_specs specs))).nodes ≡ preorder (column_types (map spec_of specs))

-- the same table is made, or the same is why not; or memory was refused to one of two that else make it
abbrev pub AreSame : Result Table TableError → Result Table TableError → Type 0
AreSame (Ok t) (Ok u) = u ≡ t
AreSame (Ok t) (Err error.NoMemory) = Unit {0}
AreSame (Err error.NoMemory) (Ok u) = Unit {0}
AreSame (Err error.NoMemory) (Err error.NoMemory) = Unit {0}
AreSame (Err error.NotWritable) (Err error.NotWritable) = Unit {0}
AreSame (Err error.TooLong) (Err error.TooLong) = Unit {0}
AreSame r r' = ⊥

-- Of the same types there is one answer, but where memory is refused.
abbrev pub OneAnswer : Type 0
OneAnswer = (ts : Trees) (r r' : Result Table TableError) → Makes ts r → Makes ts r' → AreSame r r'
