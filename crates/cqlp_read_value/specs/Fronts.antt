-- What is read at the front of the bytes that are left in a container.
use Rattle.std.specs.Prelude.{◌≡◌, ◌⊎◌, ℕ, ◌+◌, ◌≤◌, ◌<◌, ◌++◌, true, List, ◌∷◌, length, take, Option, Some, None, Result, Ok, Err}
use Rattle.std.specs.Borrow.{Bor}
use Rattle.std.specs.declared.vec.Vec.{Vec}
use Rattle.std.specs.declared.alloc.Global.{Global}
use Rattle.cqlp_note.specs.declared.field.Notation.TheVariants as notation
use Rattle.cqlp_note.specs.Field.{Count}
use Rattle.cqlp_note.specs.Limits.{Rules}
use Rattle.cqlp_note.specs.Spelling.{Spells}
use Rattle.cqlp_kind.specs.declared.kind.Kind.{Kind}
use Rattle.cqlp_kind.specs.declared.kind.Kind.TheVariants as kind
use Rattle.cqlp_kind.specs.Types.{Types, first_types}
use Rattle.cqlp_kind.specs.CellStep.{CellSymbol, CellPlace, Value_of}
use Rattle.cqlp_type.specs.declared.tree.TypeTree.{TypeTree}
use Rattle.cqlp_type.specs.declared.tree.TypeTree.TheVariants as tree
use Rattle.cqlp_type.specs.Trees.{Joined, are_trees, kind_in, types_in}
use Rattle.cqlp_type.specs.TypeTrees.{head_of, inner_of, tree_of}
use Rattle.cqlp_cell.specs.Sizes.{is_counted}
use Rattle.cqlp_value.specs.declared.value.Value.{Value}
use Rattle.cqlp_value.specs.Measures.{listed_pairs, listed_values}
use Rattle.cqlp_value.specs.Owned.{value_of}
use Rattle.cqlp_value.specs.Values.{AreWithin, IsBytes, ValueSpells, Values, ValuesSpell, has_fields, type_copies}
use Rattle.cqlp_read_value.specs.declared.error.ReadError.{ReadError}
use Rattle.cqlp_read_value.specs.declared.error.ReadError.TheVariants as error
use Rattle.cqlp_read_value.specs.declared.front.Front.{Front}
use Rattle.cqlp_read_value.specs.Reading.{IsStopped}

-- a type that is formed, or that of a cell without a type
abbrev pub IsReadable : TypeTree → Type 0
IsReadable t = (are_trees (tree_of t) ≡ true) ⊎ (t ≡ tree.Plain kind.Raw)

-- stopped so; but the type is formed
abbrev pub Fails : (ReadError → Type 0) → ReadError → Type 0
Fails IsSo error.Unformed = ⊥
Fails IsSo e = IsSo e

-- before a value of this type at this offset, in a container that ends with these bytes
abbrev pub value_at : (at : ℕ) → Kind → Types → List ℕ → (level : ℕ) → (rest : List CellSymbol) → CellPlace
value_at at k inner b level rest = record { offset = at; symbols = Value_of k inner level (at + length b) ∷ rest }

module _ (l : Rules) (at : ℕ) where
  -- The last bytes of a container, where a value of this type is read of them, stop reading so in any container.
  abbrev pub FrontStops : Kind → Types → List ℕ → ReadError → Type 0
  FrontStops k inner b r = (level : ℕ) (rest : List CellSymbol) → IsStopped l (value_at at k inner b level rest) b r

  -- A content that is not empty stops reading so, whatever follows it.
  abbrev pub ContentStops : Kind → Types → List ℕ → ReadError → Type 0
  ContentStops k inner c r =
      (front back : List ℕ) → 0 < length c → IsBytes (Some c) front → FrontStops k inner (front ++ back) r

  -- what the [bytes] at the front of the last bytes of a container are
  abbrev pub Holds : List ℕ → Result (Option (Bor (List ℕ))) ReadError → Type 0
  Holds b (Ok None) = (4 ≤ length b) × IsBytes None (take 4 b)
  Holds b (Ok (Some c)) = (4 + length c.now ≤ length b) × IsBytes (Some c.now) (take (4 + length c.now) b)
  Holds b (Err e) = Fails (λ r. (k : Kind) (inner : Types) → FrontStops k inner b r) e

  -- what the count at the front of a content is
  abbrev pub Counts : List ℕ → Result ℕ ReadError → Type 0
  Counts c (Ok n) = (4 ≤ length c) × Spells notation.Count32 (Count n) (take 4 c)
  Counts c (Err e) = Fails (λ r. (k : Kind) (ts : Types) → is_counted k ≡ true → ContentStops k ts c r) e

  -- the value of this type at the front of the last bytes of a container
  abbrev pub ReadsFront : TypeTree → List ℕ → Result Front ReadError → Type 0
  ReadsFront t b (Ok f) =
      (f.used ≤ length b)
      × ValueSpells (kind_in (head_of t)) (types_in (inner_of t)) (value_of f.value) (take f.used b)
      × AreWithin l (value_of f.value)
  ReadsFront t b (Err e) = Fails (FrontStops (kind_in (head_of t)) (types_in (inner_of t)) b) e

  -- a value of this kind that has this content
  abbrev pub HasContent : Kind → Types → List ℕ → Value → Type 0
  HasContent k inner c v =
      ((front : List ℕ) → IsBytes (Some c) front → ValueSpells k inner (value_of v) front) × AreWithin l (value_of v)

  abbrev pub ReadsScalar : Kind → List ℕ → Result Value ReadError → Type 0
  ReadsScalar k c (Ok v) = (inner : Types) → HasContent k inner c v
  ReadsScalar k c (Err e) = Fails (λ r. (inner : Types) → ContentStops k inner c r) e

  abbrev pub ReadsContent : TypeTree → List ℕ → Result Value ReadError → Type 0
  ReadsContent t c (Ok v) = HasContent (kind_in (head_of t)) (types_in (inner_of t)) c v
  ReadsContent t c (Err e) = Fails (ContentStops (kind_in (head_of t)) (types_in (inner_of t)) c) e

  -- values after their count, and nothing after them
  abbrev pub AreCounted : Types → (count : ℕ) → Values → List ℕ → Type 0
  AreCounted ts n vs c =
      Joined (Spells notation.Count32 (Count n)) (ValuesSpell (type_copies n ts) vs) c × AreWithin l vs

  -- a list, a set or a map with this content stops reading so
  abbrev pub CountedFails : Types → List ℕ → ReadError → Type 0
  CountedFails ts c e = Fails (λ r. (k : Kind) → is_counted k ≡ true → ContentStops k ts c r) e

  abbrev pub ReadsItems : Types → List ℕ → Result (Vec Value Global) ReadError → Type 0
  ReadsItems ts c (Ok items) = AreCounted ts (length items.items) (listed_values items.items) c
  ReadsItems ts c (Err e) = CountedFails ts c e

  abbrev pub ReadsPairs : Types → List ℕ → Result (Vec (Value × Value) Global) ReadError → Type 0
  ReadsPairs ts c (Ok pairs) = AreCounted ts (length pairs.items) (listed_pairs pairs.items) c
  ReadsPairs ts c (Err e) = CountedFails ts c e

  -- the first fields of a tuple or a user-defined type of these types
  abbrev pub ReadsFields : Types → List ℕ → Result (Vec Value Global) ReadError → Type 0
  ReadsFields ts c (Ok items) =
      ValuesSpell (first_types (length items.items) ts) (listed_values items.items) c
      × AreWithin l (listed_values items.items)
  ReadsFields ts c (Err e) = Fails (λ r. (k : Kind) → has_fields k ≡ true → ContentStops k ts c r) e
