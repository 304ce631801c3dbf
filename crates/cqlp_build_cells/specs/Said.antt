-- The events of values, wherever their bytes lie, where each scalar comes whole.
use Rattle.std.specs.Prelude.{◌≡◌, ℕ, ◌+◌, ◌++◌, ◌⊎◌, true, List, [], ◌∷◌, drop, take}
use Rattle.cqlp_kind.specs.declared.kind.Kind.TheVariants as kind
use Rattle.cqlp_kind.specs.Types.{Types, Type_and, how_many, first_types}
use Rattle.cqlp_kind.specs.CellStep.{CellEvent, Leaf, Null, Empty, Enter, Leave}
use Rattle.cqlp_type.specs.Trees.{are_trees}
use Rattle.cqlp_type.specs.TypeTrees.{tree_of}
use Rattle.cqlp_type.specs.declared.tree.TypeTree.{TypeTree}
use Rattle.cqlp_type.specs.declared.tree.TypeTree.TheVariants as tree
use Rattle.cqlp_value.specs.Values.{Values, Null_and, Empty_and, Scalar_and, Counted_and, Fields_and, values_in, type_copies, values_fit}

-- the events of values of these types at this level, as `values_items` without offsets and without parts
abbrev pub values_said : (level : ℕ) → Types → Values → List CellEvent
values_said level (Type_and k inner ts) (Null_and vs) = Null level ∷ values_said level ts vs
values_said level (Type_and k inner ts) (Empty_and vs) = Empty level ∷ values_said level ts vs
values_said level (Type_and k inner ts) (Scalar_and v vs) = Leaf level v ∷ values_said level ts vs
values_said level (Type_and k inner ts) (Counted_and j n items vs) =
    Enter level k n ∷ (values_said (level + 1) (type_copies n inner) items ++ (Leave level n ∷ values_said level ts vs))
values_said level (Type_and k inner ts) (Fields_and j items vs) =
    Enter level k (how_many inner)
    ∷ (values_said (level + 1) (first_types (values_in items) inner) items ++ (Leave level (values_in items) ∷ values_said level ts vs))
values_said level ts vs = []

-- each value is one of its type
abbrev pub Fit : Types → Values → Type 0
Fit ts vs = values_fit ts vs ≡ true

-- the events after the first
abbrev pub said_inside : (level : ℕ) → Types → Values → List CellEvent
said_inside level ts vs = drop 1 (values_said level ts vs)

-- Values of these types, whose events begin with this one.
abbrev pub IsFirst : (level : ℕ) → CellEvent → Types → Values → Type 0
IsFirst level e ts vs = Fit ts vs × (take 1 (values_said level ts vs) ≡ e ∷ [])

-- the first fields of these types, which are the items after this many, and the end of the value around them
abbrev pub fields_said : (level taken : ℕ) → Types → Values → List CellEvent
fields_said level taken ts vs =
    values_said (level + 1) (first_types (values_in vs) ts) vs ++ Leave level (taken + values_in vs) ∷ []

abbrev pub AreFirst : Types → Values → Type 0
AreFirst ts vs = Fit (first_types (values_in vs) ts) vs

-- values of these types, this many times over, and the end of the value around them
abbrev pub counted_said : (level : ℕ) → Types → (n : ℕ) → Values → List CellEvent
counted_said level ts n vs = values_said (level + 1) (type_copies n ts) vs ++ Leave level n ∷ []

-- a type that is formed, or that of a cell without a type
abbrev pub IsReadable : TypeTree → Type 0
IsReadable t = (are_trees (tree_of t) ≡ true) ⊎ (t ≡ tree.Plain kind.Raw)
