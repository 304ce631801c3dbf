-- Types with the texts of their options, and what spells them (section 4.2.5.2 of native_protocol_v4.spec).
use Rattle.std.specs.Prelude.{◌≡◌, ℕ, suc, ◌+◌, ◌++◌, ◌≤◌, Bool, true, false, ◌&&◌, ◌==◌, List, [], ◌∷◌, Some}
use Rattle.std.specs.List.{flat_map}
use Rattle.cqlp_note.specs.declared.field.Field.TheVariants as field
use Rattle.cqlp_note.specs.declared.field.Notation.{Notation}
use Rattle.cqlp_note.specs.declared.field.Notation.TheVariants as notation
use Rattle.cqlp_note.specs.Field.{FieldValue, Short, Text, Count}
use Rattle.cqlp_note.specs.Limits.{Rules}
use Rattle.cqlp_note.specs.Heading.{beside_number}
use Rattle.cqlp_note.specs.Spelling.{Spells, field_bytes, counts_no_more, is_short_enough, IsInRange}
use Rattle.cqlp_note.specs.Field.{content_length}
use Rattle.cqlp_kind.specs.declared.kind.Kind.{Kind}
use Rattle.cqlp_kind.specs.declared.kind.Kind.TheVariants as kind
use Rattle.cqlp_kind.specs.Types.{Types, NoMore, Type_and, is_plain, kinds, id_of}
use Rattle.cqlp_kind.specs.TypeStep.{TypeEvent, IsNode, IsField}

-- What a type option is, apart from its inner options.
pub data Head : Type 0 where
  Plain : Kind → Head
  Custom : (class : List ℕ) → Head
  ListOf SetOf MapOf TupleOf : Head
  UdtOf : (keyspace name : List ℕ) → Head

-- Types side by side: a head, inner types, and others after it. The name counts in a user-defined type alone.
pub data Trees : Type 0 where
  NoTree : Trees
  Tree_and : (name : List ℕ) → Head → (inner others : Trees) → Trees

abbrev pub kind_in : Head → Kind
kind_in (Plain k) = k
kind_in (Custom class) = kind.Custom
kind_in ListOf = kind.List
kind_in SetOf = kind.Set
kind_in MapOf = kind.Map
kind_in TupleOf = kind.Tuple
kind_in (UdtOf keyspace name) = kind.Udt

abbrev pub trees_in : Trees → ℕ
trees_in NoTree = 0
trees_in (Tree_and name h inner others) = suc (trees_in others)

-- all type options, the inner ones counted
abbrev pub options_in : Trees → ℕ
options_in NoTree = 0
options_in (Tree_and name h inner others) = suc (options_in inner + options_in others)

-- the same types without texts
abbrev pub types_in : Trees → Types
types_in NoTree = NoMore
types_in (Tree_and name h inner others) = Type_and (kind_in h) (types_in inner) (types_in others)

abbrev pub has_names : Head → Bool
has_names (UdtOf keyspace name) = true
has_names _ = false

-- ---- shape

-- a head with this many inner types
abbrev pub IsHead : Head → (n : ℕ) → Type 0
IsHead (Plain k) n = (is_plain k ≡ true) × (n ≡ 0)
IsHead (Custom class) n = n ≡ 0
IsHead ListOf n = n ≡ 1
IsHead SetOf n = n ≡ 1
IsHead MapOf n = n ≡ 2
IsHead TupleOf n = Unit {0}
IsHead (UdtOf keyspace name) n = Unit {0}

abbrev pub AreTrees : Trees → Type 0
AreTrees NoTree = Unit {0}
AreTrees (Tree_and name h inner others) = IsHead h (trees_in inner) × AreTrees inner × AreTrees others

-- the same as a test
abbrev pub is_head : Head → (n : ℕ) → Bool
is_head (Plain k) n = is_plain k && (n == 0)
is_head (Custom class) n = n == 0
is_head ListOf n = n == 1
is_head SetOf n = n == 1
is_head MapOf n = n == 2
is_head TupleOf n = true
is_head (UdtOf keyspace name) n = true

abbrev pub are_trees : Trees → Bool
are_trees NoTree = true
are_trees (Tree_and name h inner others) = is_head h (trees_in inner) && are_trees inner && are_trees others

-- one type, and all in it
abbrev pub is_tree : Trees → Bool
is_tree t = (trees_in t == 1) && are_trees t

-- types at this depth, no inner type too deep
abbrev pub Shallow : Rules → (depth : ℕ) → Trees → Type 0
Shallow l depth NoTree = Unit {0}
Shallow l depth (Tree_and name h inner others) =
    (depth ≤ l.depth) × Shallow l (depth + 1) inner × Shallow l depth others

-- ---- spelling

-- what comes between an option's id and its n inner options
abbrev pub head_items : Head → (n : ℕ) → List TypeEvent
head_items (Custom class) n = IsField field.Class (Text class) ∷ []
head_items TupleOf n = IsField field.Fields (Count n) ∷ []
head_items (UdtOf keyspace name) n =
    IsField field.Keyspace (Text keyspace)
    ∷ IsField field.TypeName (Text name)
    ∷ IsField field.Fields (Count n)
    ∷ []
head_items h n = []

abbrev pub name_items : Bool → List ℕ → List TypeEvent
name_items true name = IsField field.FieldName (Text name) ∷ []
name_items false name = []

-- the items of types in the order in which they are spelled
abbrev pub trees_items : (named : Bool) → Trees → List TypeEvent
trees_items named NoTree = []
trees_items named (Tree_and name h inner others) =
    name_items named name
    ++ (IsNode (kind_in h)
    ∷ (head_items h (trees_in inner) ++ (trees_items (has_names h) inner ++ trees_items named others)))

-- the notation of an item that is a text or a number
abbrev pub notation_for : FieldValue → Notation
notation_for (Count n) = notation.Count16
notation_for v = notation.Text16

-- these bytes spell an item: an id, the number of the inner options, or a text
abbrev pub ItemSpells : TypeEvent → List ℕ → Type 0
ItemSpells (IsNode k) b = (id : ℕ) × (beside_number id kinds ≡ Some k) × Spells notation.Short (Short id) b
ItemSpells (IsField f v) b = Spells (notation_for v) v b

-- some bytes, and others after them
pub record Joined (P Q : List ℕ → Type 0) (b : List ℕ) : Type 0 where
  pub front : List ℕ
  pub back : List ℕ
  pub whole : b ≡ front ++ back
  pub this : P front
  pub that : Q back

abbrev pub ItemsSpell : List TypeEvent → List ℕ → Type 0
ItemsSpell [] b = b ≡ []
ItemsSpell (e ∷ es) b = Joined (ItemSpells e) (ItemsSpell es) b

-- These bytes spell a type's option.
abbrev pub TreeSpells : Trees → List ℕ → Type 0
TreeSpells t b = ItemsSpell (trees_items false t) b

-- a [short] can count the fields that an item counts, and the bytes of its text
abbrev pub item_counts : TypeEvent → Bool
item_counts (IsNode k) = true
item_counts (IsField f v) = counts_no_more (notation_for v) v

abbrev pub item_is_short : TypeEvent → Bool
item_is_short (IsNode k) = true
item_is_short (IsField f v) = is_short_enough (notation_for v) v

-- a text of a type option is UTF-8
abbrev pub ItemIsInRange : TypeEvent → Type 0
ItemIsInRange (IsNode k) = Unit {0}
ItemIsInRange (IsField f v) = IsInRange (notation_for v) v

-- ---- the spelling that is written

abbrev pub item_bytes : TypeEvent → List ℕ
item_bytes (IsNode k) = field_bytes notation.Short (Short (id_of k))
item_bytes (IsField f v) = field_bytes (notation_for v) v

-- the bytes of a type's option
abbrev pub tree_bytes : Trees → List ℕ
tree_bytes t = flat_map item_bytes (trees_items false t)

-- ---- sizes and places

-- how many bytes spell an item
abbrev pub item_size : TypeEvent → ℕ
item_size (IsNode k) = 2
item_size (IsField f v) = 2 + content_length v

abbrev pub items_size : List TypeEvent → ℕ
items_size [] = 0
items_size (e ∷ es) = item_size e + items_size es

-- these items, the first at this offset
abbrev pub placed : (at : ℕ) → List TypeEvent → List (ℕ × TypeEvent)
placed at [] = []
placed at (e ∷ es) = (at, e) ∷ placed (at + item_size e) es

-- the texts are within their limit
abbrev pub AreShort : Rules → List TypeEvent → Type 0
AreShort l [] = Unit {0}
AreShort l (IsNode k ∷ es) = AreShort l es
AreShort l (IsField f v ∷ es) = (content_length v ≤ l.text) × AreShort l es
