-- The types of a caller as trees, and how many bytes spell them.
use Rattle.std.specs.Prelude.{ℕ, ◌+◌, List, [], length, Bool, true, false, ◌&&◌, nat_le, if◌then◌else◌, Option, Some, None}
use Rattle.std.specs.Prelude.{string_bytes}
use Rattle.cqlp_note.specs.declared.header.TheConstants.Header.{LONGEST_BODY}
use Rattle.cqlp_type.specs.declared.tree.TypeTree.{TypeTree, Plain, Custom, List', Set', Map', Udt', Tuple', Row_of-TypeTree}
use Rattle.cqlp_type.specs.declared.tree.TypeTree.{end_of-TypeTree, more_of-TypeTree, Row_of-TypeTree-Udt-2-2}
use Rattle.cqlp_type.specs.declared.tree.TypeTree.{end_of-TypeTree-Udt-2-2, more_of-TypeTree-Udt-2-2}
use Rattle.cqlp_type.specs.Trees as tree
use Rattle.cqlp_type.specs.Trees.{Head, Trees, NoTree, Tree_and, trees_in, has_names}
use Rattle.cqlp_kind.specs.Types.{is_plain}

abbrev pub head_of : TypeTree → Head
head_of (Plain k) = tree.Plain k
head_of (Custom class) = tree.Custom (string_bytes class)
head_of (List' p t) = tree.ListOf
head_of (Set' p t) = tree.SetOf
head_of (Map' p t q u) = tree.MapOf
head_of (Udt' keyspace name shape fields) = tree.UdtOf (string_bytes keyspace) (string_bytes name)
head_of (Tuple' shape types) = tree.TupleOf

abbrev mutual
  pub inner_of : TypeTree → Trees
  inner_of (Plain k) = NoTree
  inner_of (Custom class) = NoTree
  inner_of (List' p t) = Tree_and [] (head_of t) (inner_of t) NoTree
  inner_of (Set' p t) = Tree_and [] (head_of t) (inner_of t) NoTree
  inner_of (Map' p t q u) = Tree_and [] (head_of t) (inner_of t) (Tree_and [] (head_of u) (inner_of u) NoTree)
  inner_of (Udt' keyspace name shape fields) = fields_in_row fields
  inner_of (Tuple' shape types) = types_in_row types

  pub types_in_row : {m : _} → Row_of-TypeTree m → Trees
  types_in_row end_of-TypeTree = NoTree
  types_in_row (more_of-TypeTree t rest) = Tree_and [] (head_of t) (inner_of t) (types_in_row rest)

  pub fields_in_row : {m : _} → Row_of-TypeTree-Udt-2-2 m → Trees
  fields_in_row end_of-TypeTree-Udt-2-2 = NoTree
  fields_in_row (more_of-TypeTree-Udt-2-2 name t rest) =
      Tree_and (string_bytes name) (head_of t) (inner_of t) (fields_in_row rest)

-- a caller's type as a tree
abbrev pub tree_of : TypeTree → Trees
tree_of t = Tree_and [] (head_of t) (inner_of t) NoTree

-- ---- sizes

abbrev pub name_size : Bool → List ℕ → ℕ
name_size true name = 2 + length name
name_size false name = 0

abbrev pub head_size : Head → ℕ
head_size (tree.Custom class) = 2 + length class
head_size tree.TupleOf = 2
head_size (tree.UdtOf keyspace name) = (2 + length keyspace) + (2 + length name) + 2
head_size h = 0

-- how many bytes spell the options of these types
abbrev pub trees_size : (named : Bool) → Trees → ℕ
trees_size named NoTree = 0
trees_size named (Tree_and name h inner others) =
    (name_size named name + (2 + head_size h + trees_size (has_names h) inner)) + trees_size named others

-- a text or a count that a [short] can count
abbrev pub is_counted : ℕ → Bool
is_counted n = nat_le n 65535

abbrev pub name_fits : Bool → List ℕ → Bool
name_fits true name = is_counted (length name)
name_fits false name = true

abbrev pub head_fits : Head → (n : ℕ) → Bool
head_fits (tree.Plain k) n = is_plain k
head_fits (tree.Custom class) n = is_counted (length class)
head_fits tree.TupleOf n = is_counted n
head_fits (tree.UdtOf keyspace name) n = (is_counted (length keyspace) && is_counted (length name)) && is_counted n
head_fits h n = true

-- the options of these types can be spelled
abbrev pub trees_fit : (named : Bool) → Trees → Bool
trees_fit named NoTree = true
trees_fit named (Tree_and name h inner others) =
    (name_fits named name && (head_fits h (trees_in inner) && trees_fit (has_names h) inner)) && trees_fit named others

-- a length, where there is one and it is not too great
abbrev pub len_if : Bool → ℕ → Option ℕ
len_if fits n = if fits && nat_le n LONGEST_BODY then Some n else None

-- how many bytes spell the option of a type
abbrev pub spelled_len : TypeTree → Option ℕ
spelled_len t = len_if (trees_fit false (tree_of t)) (trees_size false (tree_of t))
