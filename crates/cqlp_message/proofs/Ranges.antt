-- What the parts of a frame hold is in the ranges of the types of the code.
use Rattle.std.proofs.Common.{◌≡◌, ℕ, zero, suc, ◌+◌, Bool, true, false, List, [], ◌∷◌, ◌++◌, drop, subst, sym}
use Rattle.std.specs.Prelude.{string_bytes}
use Rattle.std.specs.List.{All}
use Rattle.std.specs.Str.{is_utf8}
use Rattle.std.specs.declared.string.String.{String}
use Rattle.std.specs.declared.alloc.Global.{Global}
use Rattle.std.proofs.lemmas.Str.{IsUtf8-string_bytes, is_utf8-from_IsUtf8}
use Rattle.std.proofs.lemmas.List.Elements.{All-nil, All-cons, All-head, All-tail, All-append, All-drop}
use Rattle.cqlp_note.specs.declared.field.Field.TheVariants as field
use Rattle.cqlp_note.specs.Field.{Text, Count}
use Rattle.cqlp_kind.specs.TypeStep.{TypeEvent, IsNode, IsField}
use Rattle.cqlp_kind.specs.Types.{Types, NoMore, Type_and, how_many}
use Rattle.cqlp_type.specs.declared.tree.TypeTree.{TypeTree, List', Set', Map', Udt', Tuple', Row_of-TypeTree, end_of-TypeTree, more_of-TypeTree, Row_of-TypeTree-Udt-2-2, end_of-TypeTree-Udt-2-2, more_of-TypeTree-Udt-2-2}
use Rattle.cqlp_type.specs.declared.tree.TypeTree as type
use Rattle.cqlp_type.specs.Trees.{Head, Trees, kind_in, trees_in, has_names, head_items, name_items, trees_items, ItemIsInRange, NoTree, Tree_and}
use Rattle.cqlp_type.specs.TypeTrees.{head_of, inner_of, types_in_row, fields_in_row, tree_of}
use Rattle.cqlp_value.specs.Values.{Values, AreInRange}
use Rattle.cqlp_message.specs.FrameValues.{FrameValue}
use Rattle.cqlp_message.specs.Parts.{Cell_is, PartIsInRange}
use Rattle.cqlp_message.specs.Bodies.{row_parts, rows_parts}
use Rattle.cqlp_message.specs.Frames.{FrameIsInRange}
use Rattle.cqlp_message.specs.Pages.{is_bare, types_of_page, with_cells}
use Rattle.cqlp_message.proofs.PageFrames.{front_parts, cell_parts, page_rows, parts_bare, parts_with}

-- ---- types

-- a text that a program owns is UTF-8
string_utf8 : (s : String Global) → is_utf8 (string_bytes s) ≡ true
string_utf8 s = is_utf8-from_IsUtf8 (string_bytes s) (IsUtf8-string_bytes s)

abbrev AllItems : List TypeEvent → Type 0
AllItems es = All ItemIsInRange es

head_range : (t : TypeTree) (n : ℕ) → AllItems (head_items (head_of t) n)
head_range (type.Plain k) n = All-nil ItemIsInRange
head_range (type.Custom class) n = All-cons ItemIsInRange (IsField field.Class (Text (string_bytes class))) [] (string_utf8 class) (All-nil ItemIsInRange)
head_range (List' p t) n = All-nil ItemIsInRange
head_range (Set' p t) n = All-nil ItemIsInRange
head_range (Map' p t q u) n = All-nil ItemIsInRange
head_range (Udt' keyspace name shape fields) n =
    let count = All-cons ItemIsInRange (IsField field.Fields (Count n)) [] tt (All-nil ItemIsInRange) in
    let named = All-cons ItemIsInRange (IsField field.TypeName (Text (string_bytes name))) (IsField field.Fields (Count n) ∷ []) (string_utf8 name) count in
    All-cons ItemIsInRange (IsField field.Keyspace (Text (string_bytes keyspace))) (IsField field.TypeName (Text (string_bytes name)) ∷ IsField field.Fields (Count n) ∷ []) (string_utf8 keyspace) named
head_range (Tuple' shape types) n = All-cons ItemIsInRange (IsField field.Fields (Count n)) [] tt (All-nil ItemIsInRange)

-- a type and others after it
one_range : (named : Bool) (name : List ℕ) (h : Head) (inner others : Trees) → AllItems (name_items named name) → AllItems (head_items h (trees_in inner)) → AllItems (trees_items (has_names h) inner) → AllItems (trees_items named others)
    → AllItems (trees_items named (Tree_and name h inner others))
one_range named name h inner others first head within after =
    let behind = All-append ItemIsInRange (trees_items (has_names h) inner) (trees_items named others) within after in
    let whole = All-append ItemIsInRange (head_items h (trees_in inner)) (trees_items (has_names h) inner ++ trees_items named others) head behind in
    let id = All-cons ItemIsInRange (IsNode (kind_in h)) (head_items h (trees_in inner) ++ (trees_items (has_names h) inner ++ trees_items named others)) tt whole in
    All-append ItemIsInRange (name_items named name) (IsNode (kind_in h) ∷ (head_items h (trees_in inner) ++ (trees_items (has_names h) inner ++ trees_items named others))) first id

name_range : (s : String Global) → AllItems (name_items true (string_bytes s))
name_range s = All-cons ItemIsInRange (IsField field.FieldName (Text (string_bytes s))) [] (string_utf8 s) (All-nil ItemIsInRange)

-- a type of a caller, and others after it
type_range : (named : Bool) (name : List ℕ) (t : TypeTree) (others : Trees) → AllItems (name_items named name) → AllItems (trees_items (has_names (head_of t)) (inner_of t)) → AllItems (trees_items named others)
    → AllItems (trees_items named (Tree_and name (head_of t) (inner_of t) others))
type_range named name t others first within after = one_range named name (head_of t) (inner_of t) others first (head_range t (trees_in (inner_of t))) within after

none : AllItems []
none = All-nil ItemIsInRange

mutual
  inner_range : (t : TypeTree) → AllItems (trees_items (has_names (head_of t)) (inner_of t))
  inner_range (type.Plain k) = none
  inner_range (type.Custom class) = none
  inner_range (List' p t) = type_range false [] t NoTree none (inner_range t) none
  inner_range (Set' p t) = type_range false [] t NoTree none (inner_range t) none
  inner_range (Map' p t q u) = type_range false [] t (Tree_and [] (head_of u) (inner_of u) NoTree) none (inner_range t) (type_range false [] u NoTree none (inner_range u) none)
  inner_range (Udt' keyspace name shape fields) = fields_range fields
  inner_range (Tuple' shape types) = types_range types

  types_range : {m : _} (row : Row_of-TypeTree m) → AllItems (trees_items false (types_in_row row))
  types_range end_of-TypeTree = none
  types_range (more_of-TypeTree t rest) = type_range false [] t (types_in_row rest) none (inner_range t) (types_range rest)

  fields_range : {m : _} (row : Row_of-TypeTree-Udt-2-2 m) → AllItems (trees_items true (fields_in_row row))
  fields_range end_of-TypeTree-Udt-2-2 = none
  fields_range (more_of-TypeTree-Udt-2-2 name t rest) = type_range true (string_bytes name) t (fields_in_row rest) (name_range name) (inner_range t) (fields_range rest)

-- The texts of a type are UTF-8.
pub tree_range : (t : TypeTree) → All ItemIsInRange (trees_items false (tree_of t))
tree_range t = type_range false [] t NoTree none (inner_range t) none

-- ---- pages

row_range : (r c : ℕ) (ts : Types) (cells : List Values) → All AreInRange cells → All PartIsInRange (row_parts r c ts cells)
row_range r c NoMore cells each = All-nil PartIsInRange
row_range r c (Type_and k inner others) [] each = All-nil PartIsInRange
row_range r c (Type_and k inner others) (v ∷ cells) each =
    All-cons PartIsInRange (Cell_is r c k inner v) (row_parts r (c + 1) others cells) (All-head AreInRange v cells each) (row_range r (c + 1) others cells (All-tail AreInRange v cells each))

rows_range : (r : ℕ) (ts : Types) (n : ℕ) (cells : List Values) → All AreInRange cells → All PartIsInRange (rows_parts r ts n cells)
rows_range r ts zero cells each = All-nil PartIsInRange
rows_range r ts (suc n) cells each =
    All-append PartIsInRange (row_parts r 0 ts cells) (rows_parts (r + 1) ts n (drop (how_many ts) cells)) (row_range r 0 ts cells each) (rows_range (r + 1) ts n (drop (how_many ts) cells) (All-drop AreInRange (how_many ts) cells each))

-- A page in range has with cells in range only what is in range.
pub page_range : (f : FrameValue) (cells : List Values) → is_bare f.message ≡ true → FrameIsInRange f → All AreInRange cells → FrameIsInRange (with_cells f cells)
page_range f cells bare range each =
    let front : All PartIsInRange (front_parts f) = subst (All PartIsInRange) (parts_bare f bare) range.parts in
    let rest : All PartIsInRange (cell_parts f.message cells) = rows_range 0 (types_of_page f.message) (page_rows f.message) cells each in
    record {
      flags = range.flags;
      stream = range.stream;
      parts = subst (All PartIsInRange) (sym (parts_with f cells)) (All-append PartIsInRange (front_parts f) (cell_parts f.message cells) front rest);
    }
