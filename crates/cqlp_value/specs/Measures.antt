-- Lists of a caller's values side by side, and whether a value is one of a caller's type.
use Rattle.std.specs.Prelude.{ℕ, ◌++◌, Bool, true, false, List, [], ◌∷◌, length}
use Rattle.std.specs.Int.{w16, w32, w64, to_be_bytes}
use Rattle.cqlp_kind.specs.declared.kind.Kind.{Kind}
use Rattle.cqlp_kind.specs.declared.kind.Kind.TheVariants as kind
use Rattle.cqlp_type.specs.declared.tree.TypeTree.{TypeTree}
use Rattle.cqlp_type.specs.Trees.{kind_in, types_in}
use Rattle.cqlp_type.specs.TypeTrees.{head_of, inner_of, tree_of}
use Rattle.cqlp_kind.specs.Types.{Types, NoMore, Type_and, first_types}
use Rattle.cqlp_value.specs.declared.atom.Content.{Content}
use Rattle.cqlp_value.specs.declared.atom.Content.TheVariants as content
use Rattle.cqlp_value.specs.declared.value.Value.{Value}
use Rattle.cqlp_value.specs.Owned.{value_and, value_of}
use Rattle.cqlp_value.specs.Values.{Values, NoValue, type_copies, values_fit}

-- the bytes of a content
abbrev pub content_in : Content → List ℕ
content_in (content.One n) = n ∷ []
content_in (content.Two n) = to_be_bytes w16 n
content_in (content.Four n) = to_be_bytes w32 n
content_in (content.Eight n) = to_be_bytes w64 n
content_in (content.Lent b) = b.now
content_in (content.Decimal scale b) = scale ++ b.now

abbrev pub listed_values : List Value → Values
listed_values [] = NoValue
listed_values (v ∷ vs) = value_and v (listed_values vs)

abbrev pub listed_pairs : List (Value × Value) → Values
listed_pairs [] = NoValue
listed_pairs (x ∷ xs) = value_and x.0 (value_and x.1 (listed_pairs xs))

-- a value is one of this type
abbrev pub fits_tree : Value → TypeTree → Bool
fits_tree v t = values_fit (types_in (tree_of t)) (value_of v)

-- the kinds of types with one inner type
abbrev pub has_one_inner : Kind → Bool
has_one_inner kind.List = true
has_one_inner kind.Set = true
has_one_inner _ = false

-- the types of what has one each
abbrev pub types_by : {X : Type 0} → (X → TypeTree) → List X → Types
types_by f [] = NoMore
types_by f (x ∷ xs) = Type_and (kind_in (head_of (f x))) (types_in (inner_of (f x))) (types_by f xs)

-- each value is one of this type
abbrev pub all_fit : TypeTree → List Value → Bool
all_fit t vs = values_fit (type_copies (length vs) (types_by (λ x. x) (t ∷ []))) (listed_values vs)

-- each key and each value is one of these types
abbrev pub all_pairs_fit : (keys values : TypeTree) → List (Value × Value) → Bool
all_pairs_fit t u xs = values_fit (type_copies (length xs) (types_by (λ x. x) (t ∷ u ∷ []))) (listed_pairs xs)

-- each value is one of the type beside it, and there are as many types
abbrev pub all_fields_fit : {X : Type 0} → (X → TypeTree) → List Value → List X → Bool
all_fields_fit f vs xs = values_fit (first_types (length vs) (types_by f xs)) (listed_values vs)

-- the items of a list or a set are of its inner type
abbrev pub items_are : List Value → TypeTree → Bool
items_are vs t = values_fit (type_copies (length vs) (types_in (inner_of t))) (listed_values vs)

-- the keys and values of a map are of its inner types
abbrev pub pairs_are : List (Value × Value) → TypeTree → Bool
pairs_are xs t = values_fit (type_copies (length xs) (types_in (inner_of t))) (listed_pairs xs)

-- the fields of a tuple or a user-defined type are of its first inner types
abbrev pub fields_are : List Value → TypeTree → Bool
fields_are vs t = values_fit (first_types (length vs) (types_in (inner_of t))) (listed_values vs)
