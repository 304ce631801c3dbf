-- The parts of frames: what spells them, and their events.
use Rattle.std.specs.Prelude.{◌≡◌, ℕ, ◌+◌, ◌≤◌, ◌++◌, Bool, true, false, List, [], ◌∷◌, map, All}
use Rattle.std.specs.List.{flat_map, list_all}
use Rattle.cqlp_note.specs.declared.field.Field.{Field}
use Rattle.cqlp_note.specs.declared.field.Notation.{Notation}
use Rattle.cqlp_note.specs.declared.prim.Address.TheVariants as address
use Rattle.cqlp_note.specs.Field.{FieldValue, Inet, content_length}
use Rattle.cqlp_note.specs.Head.{fixed_of}
use Rattle.cqlp_note.specs.Limits.{Rules, limit_of}
use Rattle.cqlp_note.specs.Spelling.{Spells, field_bytes, counts_no_more, is_short_enough, IsInRange}
use Rattle.cqlp_kind.specs.declared.kind.Kind.{Kind}
use Rattle.cqlp_kind.specs.Types.{Types}
use Rattle.cqlp_type.specs.Trees.{Trees, trees_in, AreTrees, Shallow, AreShort, trees_items, placed, TreeSpells, tree_bytes}
use Rattle.cqlp_type.specs.Trees.{item_counts, item_is_short, ItemIsInRange}
use Rattle.cqlp_type.specs.TypeTrees.{trees_size}
use Rattle.cqlp_value.specs.Values.{Values, ValueSpells, values_size, values_bytes, value_fits, value_items, AreWithin, AreInRange}
use Rattle.cqlp_grammar.specs.Events.{Event, Holds, type_event, cell_event}

-- A part of a frame after its header.
pub data Part : Type 0 where
  -- a field in a notation
  Field_is : Field → Notation → FieldValue → Part
  -- the option of a type
  Type_is : Trees → Part
  -- the cell of a row and a column, of this type
  Cell_is : (row column : ℕ) → Kind → (inner : Types) → Values → Part

-- ---- spelling

-- a front that is this, and a back that is that
pub record Joined (This That : List ℕ → Type 0) (bytes : List ℕ) : Type 0 where
  pub front : List ℕ
  pub back : List ℕ
  pub whole : bytes ≡ front ++ back
  pub this : This front
  pub that : That back

-- Section 4.2.5.2: all of the bytes spell the option of one type.
pub record OptionSpells (t : Trees) (bytes : List ℕ) : Type 0 where
  pub one : trees_in t ≡ 1
  pub formed : AreTrees t
  pub spelled : TreeSpells t bytes

-- Section 3: all of the bytes spell a part.
abbrev pub PartSpells : Part → List ℕ → Type 0
PartSpells (Field_is f n v) b = Spells n v b
PartSpells (Type_is t) b = OptionSpells t b
PartSpells (Cell_is row column k inner v) b = ValueSpells k inner v b

-- The bytes are the spellings of the parts, one after the other.
abbrev pub PartsSpell : List Part → List ℕ → Type 0
PartsSpell [] b = b ≡ []
PartsSpell (part ∷ parts) b = Joined (PartSpells part) (PartsSpell parts) b

-- ---- sizes

-- what a field has after its number, length or count: an address and a port, or a content
abbrev pub size_behind : FieldValue → ℕ
size_behind (Inet (address.V4 a) port) = 8
size_behind (Inet (address.V6 a) port) = 20
size_behind v = content_length v

-- the bytes of a part
abbrev pub part_size : Part → ℕ
part_size (Field_is f n v) = fixed_of n + size_behind v
part_size (Type_is t) = trees_size false t
part_size (Cell_is row column k inner v) = values_size v

abbrev pub parts_size : List Part → ℕ
parts_size [] = 0
parts_size (part ∷ parts) = part_size part + parts_size parts

-- ---- the spelling that is written

abbrev pub part_bytes : Part → List ℕ
part_bytes (Field_is f n v) = field_bytes n v
part_bytes (Type_is t) = tree_bytes t
part_bytes (Cell_is row column k inner v) = values_bytes v

abbrev pub parts_bytes : List Part → List ℕ
parts_bytes parts = flat_map part_bytes parts

-- ---- fit

-- Each count of a part is one that its notation has.
abbrev pub counts_fit : Part → Bool
counts_fit (Field_is f n v) = counts_no_more n v
counts_fit (Type_is t) = list_all item_counts (trees_items false t)
counts_fit (Cell_is row column k inner v) = true

-- Each text and content of a part but a cell is no longer than its notation says.
abbrev pub texts_fit : Part → Bool
texts_fit (Field_is f n v) = is_short_enough n v
texts_fit (Type_is t) = list_all item_is_short (trees_items false t)
texts_fit (Cell_is row column k inner v) = true

-- A cell is a value of its type.
abbrev pub cell_fits : Part → Bool
cell_fits (Cell_is row column k inner v) = value_fits k inner v
cell_fits part = true

-- What a part holds is in the ranges of the Rust types of frames.
abbrev pub PartIsInRange : Part → Type 0
PartIsInRange (Field_is f n v) = IsInRange n v
PartIsInRange (Type_is t) = All ItemIsInRange (trees_items false t)
PartIsInRange (Cell_is row column k inner v) = AreInRange v

-- ---- events

module _ (l : Rules) where
  -- The events of a part; those of a type option are its ids, counts and texts in the order of its bytes, and those of a
  -- cell the items of its value, of which a long content comes in parts where the caller asks for them.
  abbrev pub part_events : (offset : ℕ) → Part → List (ℕ × Event)
  part_events at (Field_is f n v) = (at, Holds f v) ∷ []
  part_events at (Type_is t) = map (λ e. (e.0, type_event e.1)) (placed at (trees_items false t))
  part_events at (Cell_is row column k inner v) =
      map (λ e. (e.0, cell_event row column e.1)) (value_items l at k inner v)

  -- The events of the parts, the first at this offset.
  abbrev pub parts_events : (offset : ℕ) → List Part → List (ℕ × Event)
  parts_events at [] = []
  parts_events at (part ∷ parts) = part_events at part ++ parts_events (at + part_size part) parts

-- ---- limits

-- The content of a part is no longer than the caller's limit; a type option is not too deep, and its texts are not too
-- long; each scalar of a cell fits into a cell, or comes in parts.
abbrev pub PartWithin : Rules → Part → Type 0
PartWithin l (Field_is f n v) = content_length v ≤ limit_of l n
PartWithin l (Type_is t) = Shallow l 1 t × AreShort l (trees_items false t)
PartWithin l (Cell_is row column k inner v) = AreWithin l v

abbrev pub PartsWithin : Rules → List Part → Type 0
PartsWithin l [] = Unit {0}
PartsWithin l (part ∷ parts) = PartWithin l part × PartsWithin l parts
