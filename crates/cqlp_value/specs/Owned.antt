-- Values as a program owns them.
use Rattle.std.specs.Prelude.{ℕ, suc, ◌==◌, Bool, Option, Some, None, length, string_bytes, if◌then◌else◌}
use Rattle.cqlp_kind.specs.declared.kind.Kind.TheVariants as kind
use Rattle.cqlp_type.specs.declared.tree.TypeTree.{TypeTree}
use Rattle.cqlp_kind.specs.Types.{Types, NoMore, Type_and}
use Rattle.cqlp_type.specs.Trees.{types_in}
use Rattle.cqlp_type.specs.TypeTrees.{tree_of, len_if}
use Rattle.cqlp_value.specs.declared.value.Atom.{Atom}
use Rattle.cqlp_value.specs.declared.value.Atom.TheVariants as atom
use Rattle.cqlp_value.specs.declared.value.Value.{Value, Null, Empty, Leaf, List', Map', Set', Tuple', Udt', Row_of-Value}
use Rattle.cqlp_value.specs.declared.value.Value.{end_of-Value, more_of-Value, Row_of-Value-Map-0-2, end_of-Value-Map-0-2}
use Rattle.cqlp_value.specs.declared.value.Value.{more_of-Value-Map-0-2}
use Rattle.cqlp_kind.specs.Scalars.{ScalarValue, content_of, Custom, Blob, Raw, Varint, Double, Float, Uuid, Timeuuid, Ascii}
use Rattle.cqlp_kind.specs.Scalars.{Varchar, Bigint, Counter, Timestamp, Time, Int, Smallint, Tinyint, Date, Boolean, Decimal, Inet}
use Rattle.cqlp_value.specs.Values.{Values, NoValue, Null_and, Empty_and, Scalar_and, Counted_and, Fields_and, values_in}
use Rattle.cqlp_value.specs.Values.{values_fit, values_size}

abbrev pub atom_of : Atom → ScalarValue
atom_of (atom.Custom c) = Custom c.items
atom_of (atom.Ascii s) = Ascii (string_bytes s)
atom_of (atom.Bigint z) = Bigint z
atom_of (atom.Blob c) = Blob c.items
atom_of (atom.Boolean b) = Boolean b
atom_of (atom.Counter z) = Counter z
atom_of (atom.Decimal z c) = Decimal z c.items
atom_of (atom.Double c) = Double c
atom_of (atom.Float c) = Float c
atom_of (atom.Int z) = Int z
atom_of (atom.Timestamp z) = Timestamp z
atom_of (atom.Uuid c) = Uuid c
atom_of (atom.Varchar s) = Varchar (string_bytes s)
atom_of (atom.Varint c) = Varint c.items
atom_of (atom.Timeuuid c) = Timeuuid c
atom_of (atom.Inet a) = Inet a
atom_of (atom.Date n) = Date n
atom_of (atom.Time z) = Time z
atom_of (atom.Smallint z) = Smallint z
atom_of (atom.Tinyint z) = Tinyint z
atom_of (atom.Raw c) = Raw c.items

-- a scalar as a value: empty where its content is
abbrev pub scalar_value : Atom → Value
scalar_value a = if length (content_of (atom_of a)) == 0 then Empty else Leaf a

abbrev pub pairs_in : {m : _} → Row_of-Value-Map-0-2 m → ℕ
pairs_in end_of-Value-Map-0-2 = 0
pairs_in (more_of-Value-Map-0-2 key value rest) = suc (pairs_in rest)

abbrev mutual
  -- a value of a caller's, and others after it
  pub value_and : Value → Values → Values
  value_and Null others = Null_and others
  value_and Empty others = Empty_and others
  value_and (Leaf a) others = Scalar_and (atom_of a) others
  value_and (List' shape items) others = Counted_and kind.List (values_in (row_of items)) (row_of items) others
  value_and (Map' shape pairs) others = Counted_and kind.Map (pairs_in pairs) (pairs_of pairs) others
  value_and (Set' shape items) others = Counted_and kind.Set (values_in (row_of items)) (row_of items) others
  value_and (Tuple' shape items) others = Fields_and kind.Tuple (row_of items) others
  value_and (Udt' shape items) others = Fields_and kind.Udt (row_of items) others

  pub row_of : {m : _} → Row_of-Value m → Values
  row_of end_of-Value = NoValue
  row_of (more_of-Value v rest) = value_and v (row_of rest)

  pub pairs_of : {m : _} → Row_of-Value-Map-0-2 m → Values
  pairs_of end_of-Value-Map-0-2 = NoValue
  pairs_of (more_of-Value-Map-0-2 key value rest) = value_and key (value_and value (pairs_of rest))

-- a caller's value
abbrev pub value_of : Value → Values
value_of v = value_and v NoValue

-- The type of a cell. Without a type its content is raw.
abbrev pub cell_type : Option TypeTree → Types
cell_type None = Type_and kind.Raw NoMore NoMore
cell_type (Some t) = types_in (tree_of t)

-- a value is one of this type
abbrev pub fits_type : Value → Option TypeTree → Bool
fits_type v t = values_fit (cell_type t) (value_of v)

-- how many bytes spell a value of this type, where it fits and they are not too many
abbrev pub spelled_value_len : Value → Option TypeTree → Option ℕ
spelled_value_len v t = len_if (fits_type v t) (values_size (value_of v))
