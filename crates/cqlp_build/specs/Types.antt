-- Types, by the events of their options.
use Rattle.std.specs.Prelude.{◌≡◌, ◌++◌, ◌&&◌, ◌||◌, ◌==◌, Bool, true, false, List, [], ◌∷◌, length, map, Option, Some, None}
use Rattle.std.specs.Prelude.{◌⊎◌}
use Rattle.std.specs.List.{list_all}
use Rattle.std.specs.declared.alloc.Global.{Global}
use Rattle.std.specs.declared.boxed.Box.{Box}
use Rattle.cqlp_note.specs.declared.field.Field.TheVariants as field
use Rattle.cqlp_note.specs.Field.{Text}
use Rattle.cqlp_kind.specs.declared.kind.Kind.{Kind}
use Rattle.cqlp_type.specs.Trees.{Trees, NoTree, Tree_and, ListOf, SetOf, MapOf, has_names, head_items, is_tree, kind_in, trees_in, trees_items}
use Rattle.cqlp_type.specs.declared.tree.TypeTree.{TypeTree}
use Rattle.cqlp_grammar.specs.Events.{Event, Holds, type_event}
use Rattle.cqlp_message.specs.FrameValues.{Octets, Spec, Metadata, PreparedStatement}
use Rattle.cqlp_build.specs.declared.held.Fault.TheVariants as fault
use Rattle.cqlp_build.specs.declared.held.FrameEvents.{FrameEvents}

-- the events of types side by side
abbrev pub type_events : Trees → List Event
type_events t = map type_event (trees_items false t)

-- the events of a type that has a name before it
abbrev pub field_events : Octets × Trees → List Event
field_events f = Holds field.FieldName (Text f.0) ∷ type_events f.1

-- A name counts in a user-defined type alone, and is empty elsewhere, as it is in the types of a `Frame`.
abbrev pub names_count : (named : Bool) → Trees → Bool
names_count named NoTree = true
names_count named (Tree_and name h inner others) =
    (named || (length name == 0)) && names_count (has_names h) inner && names_count named others

-- one type, with names where they count
abbrev pub is_built_type : Trees → Bool
is_built_type t = is_tree t && names_count false t

abbrev pub is_built_field : Octets × Trees → Bool
is_built_field f = is_built_type f.1

-- what comes after the kind of a type option
abbrev pub events_after_kind : Trees → List Event
events_after_kind NoTree = []
events_after_kind (Tree_and name h inner others) =
    map type_event (head_items h (trees_in inner) ++ trees_items (has_names h) inner)

-- one type of this kind, with names where they count
abbrev pub IsOfKind : Kind → Trees → Type 0
IsOfKind k NoTree = ⊥
IsOfKind k (Tree_and name h inner others) = (kind_in h ≡ k) × (is_built_type (Tree_and name h inner others) ≡ true)

-- ---- types of types

abbrev pub list_of : Trees → Trees
list_of t = Tree_and [] ListOf t NoTree

abbrev pub set_of : Trees → Trees
set_of t = Tree_and [] SetOf t NoTree

-- types side by side, and those after them
abbrev pub beside : Trees → Trees → Trees
beside NoTree us = us
beside (Tree_and name h inner others) us = Tree_and name h inner (beside others us)

abbrev pub map_of : (key value : Trees) → Trees
map_of t u = Tree_and [] MapOf (beside t u) NoTree

-- memory was refused, and nothing was taken
abbrev pub WantsMemory : (old new : FrameEvents) → Type 0
WantsMemory old new = (new.fault ≡ Some fault.NoMemory) × (new.items ≡ old.items)

-- the same type, or memory was refused
abbrev pub IsBoxed : TypeTree → Option (Box TypeTree Global) → (old new : FrameEvents) → Type 0
IsBoxed t (Some b) old new = (b.value ≡ t) × (new ≡ old)
IsBoxed t None old new = WantsMemory old new

-- It is this type, or memory was refused.
abbrev pub Wraps : Trees → Trees → (old new : FrameEvents) → Type 0
Wraps t r old new = ((r ≡ t) × (new ≡ old)) ⊎ WantsMemory old new

-- ---- columns

-- the types of these columns have names where they count
abbrev pub are_built_columns : List Spec → Bool
are_built_columns specs = list_all (λ c. names_count false c.tree) specs

abbrev pub are_built_if : Option (List Spec) → Bool
are_built_if None = true
are_built_if (Some specs) = are_built_columns specs

abbrev pub is_built_metadata : Metadata → Bool
is_built_metadata m = are_built_if m.specs

abbrev pub is_built_statement : PreparedStatement → Bool
is_built_statement p = are_built_columns p.specs && is_built_metadata p.result
