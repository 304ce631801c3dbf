-- Types as trees, and their nodes in preorder.
use Rattle.std.specs.Prelude.{◌≡◌, ℕ, zero, suc, ◌++◌, ◌==◌, Bool, true, false, List, [], ◌∷◌, length}
use Rattle.cqlp_kind.specs.declared.kind.Kind.{Kind}
use Rattle.cqlp_kind.specs.declared.kind.Kind.TheVariants as kind
use Rattle.cqlp_kind.specs.declared.node.Node.{Node}

-- a value of this kind has no items
abbrev pub has_no_items : Kind → Bool
has_no_items kind.List = false
has_no_items kind.Map = false
has_no_items kind.Set = false
has_no_items kind.Udt = false
has_no_items kind.Tuple = false
has_no_items _ = true

-- every kind of a type: all but that of a cell whose type is not known
abbrev pub has_id : Kind → Bool
has_id kind.Raw = false
has_id k = true

-- one of the 19 kinds without parameters
abbrev pub is_plain : Kind → Bool
is_plain kind.Custom = false
is_plain kind.List = false
is_plain kind.Map = false
is_plain kind.Set = false
is_plain kind.Udt = false
is_plain kind.Tuple = false
is_plain kind.Raw = false
is_plain _ = true

-- Section 4.2.5.2: the type options by their ids.
abbrev pub kinds : List (ℕ × Kind)
kinds =
    (0x00, kind.Custom) ∷ (0x01, kind.Ascii) ∷ (0x02, kind.Bigint) ∷ (0x03, kind.Blob) ∷ (0x04, kind.Boolean)
    ∷ (0x05, kind.Counter) ∷ (0x06, kind.Decimal) ∷ (0x07, kind.Double) ∷ (0x08, kind.Float) ∷ (0x09, kind.Int)
    ∷ (0x0B, kind.Timestamp) ∷ (0x0C, kind.Uuid) ∷ (0x0D, kind.Varchar) ∷ (0x0E, kind.Varint) ∷ (0x0F, kind.Timeuuid)
    ∷ (0x10, kind.Inet) ∷ (0x11, kind.Date) ∷ (0x12, kind.Time) ∷ (0x13, kind.Smallint) ∷ (0x14, kind.Tinyint)
    ∷ (0x20, kind.List) ∷ (0x21, kind.Map) ∷ (0x22, kind.Set) ∷ (0x30, kind.Udt) ∷ (0x31, kind.Tuple) ∷ []

-- the id of a kind; that of a cell whose type is not known has none, and a number that is no [short]
abbrev pub id_of : Kind → ℕ
id_of kind.Custom = 0x00
id_of kind.Ascii = 0x01
id_of kind.Bigint = 0x02
id_of kind.Blob = 0x03
id_of kind.Boolean = 0x04
id_of kind.Counter = 0x05
id_of kind.Decimal = 0x06
id_of kind.Double = 0x07
id_of kind.Float = 0x08
id_of kind.Int = 0x09
id_of kind.Timestamp = 0x0B
id_of kind.Uuid = 0x0C
id_of kind.Varchar = 0x0D
id_of kind.Varint = 0x0E
id_of kind.Timeuuid = 0x0F
id_of kind.Inet = 0x10
id_of kind.Date = 0x11
id_of kind.Time = 0x12
id_of kind.Smallint = 0x13
id_of kind.Tinyint = 0x14
id_of kind.List = 0x20
id_of kind.Map = 0x21
id_of kind.Set = 0x22
id_of kind.Udt = 0x30
id_of kind.Tuple = 0x31
id_of kind.Raw = 0x10000

abbrev pub is_kind : Kind → Kind → Bool
is_kind j k = id_of j == id_of k

-- The types of columns, or the inner types of one type: a type has a kind and inner types, and types after it.
pub data Types : Type 0 where
  NoMore : Types
  Type_and : Kind → Types → Types → Types

abbrev pub how_many : Types → ℕ
how_many NoMore = 0
how_many (Type_and k inner others) = suc (how_many others)

abbrev pub first_types : ℕ → Types → Types
first_types zero ts = NoMore
first_types (suc n) NoMore = NoMore
first_types (suc n) (Type_and k inner others) = Type_and k inner (first_types n others)

abbrev pub other_types : ℕ → Types → Types
other_types zero ts = ts
other_types (suc n) NoMore = NoMore
other_types (suc n) (Type_and k inner others) = other_types n others

-- The types that nodes in preorder are: each node has its inner types right after it.
abbrev pub types_of : List Node → Types
types_of [] = NoMore
types_of (n ∷ ns) = Type_and n.kind (first_types n.arity (types_of ns)) (other_types n.arity (types_of ns))

-- the nodes of types in preorder
abbrev pub preorder : Types → List Node
preorder NoMore = []
preorder (Type_and k inner others) =
    record { kind = k; arity = how_many inner; span = suc (length (preorder inner)) }
    ∷ preorder inner ++ preorder others

abbrev pub followed_by : Types → Types → Types
followed_by NoMore us = us
followed_by (Type_and k inner others) us = Type_and k inner (followed_by others us)

-- a list and a set have one inner type, and a map has two
abbrev pub HasInner : Kind → ℕ → Type 0
HasInner kind.List n = n ≡ 1
HasInner kind.Set n = n ≡ 1
HasInner kind.Map n = n ≡ 2
HasInner _ n = Unit {0}

abbrev pub AreFormed : Types → Type 0
AreFormed NoMore = Unit {0}
AreFormed (Type_and k inner others) = HasInner k (how_many inner) × AreFormed inner × AreFormed others

-- These nodes are whole types side by side, in preorder.
pub record IsPreorder (nodes : List Node) : Type 0 where
  pub types : Types
  pub formed : AreFormed types
  pub are : nodes ≡ preorder types
