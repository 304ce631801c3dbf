-- Parts as they lie in memory, and what takes them one after the other.
use Rattle.std.specs.Prelude.{◌++◌, List, Some, None}
use Rattle.cqlp_note.specs.declared.field.Notation.TheVariants as notation
use Rattle.cqlp_note.specs.Field as note
use Rattle.cqlp_kind.specs.declared.kind.Kind.TheVariants as kind
use Rattle.cqlp_kind.specs.Types.{NoMore}
use Rattle.cqlp_type.specs.Trees.{kind_in, types_in}
use Rattle.cqlp_type.specs.TypeTrees.{head_of, inner_of, tree_of}
use Rattle.cqlp_value.specs.Owned.{value_of}
use Rattle.cqlp_message.specs.declared.part.PartRef.{PartRef}
use Rattle.cqlp_message.specs.declared.part.PartRef.TheVariants as ref
use Rattle.cqlp_message.specs.Owned.{bound_of}
use Rattle.cqlp_message.specs.Parts.{Part, Field_is, Type_is, Cell_is}

-- a part, wherever it lies
abbrev pub part_of : PartRef → Part
part_of (ref.Byte f n) = Field_is f notation.Byte (note.Byte n)
part_of (ref.Short f n) = Field_is f notation.Short (note.Short n)
part_of (ref.Int f z) = Field_is f notation.Int (note.Int z)
part_of (ref.Long f z) = Field_is f notation.Long (note.Long z)
part_of (ref.Uuid f id) = Field_is f notation.Uuid (note.Uuid id.now)
part_of (ref.Count16 f n) = Field_is f notation.Count16 (note.Count n)
part_of (ref.Count32 f n) = Field_is f notation.Count32 (note.Count n)
part_of (ref.Text f s) = Field_is f notation.Text16 (note.Text s.now)
part_of (ref.LongText f s) = Field_is f notation.Text32 (note.Text s.now)
part_of (ref.ShortBytes f c) = Field_is f notation.Bytes16 (note.Bytes (Some c.now))
part_of (ref.Bytes f None) = Field_is f notation.Bytes32 (note.Bytes None)
part_of (ref.Bytes f (Some c)) = Field_is f notation.Bytes32 (note.Bytes (Some c.now))
part_of (ref.Bound f v) = Field_is f notation.Bound (note.Bound (bound_of v.now))
part_of (ref.Inet f a port) = Field_is f notation.Inet (note.Inet a port)
part_of (ref.Type t) = Type_is (tree_of t.now)
part_of (ref.Cell row column None v) = Cell_is row column kind.Raw NoMore (value_of v.now)
part_of (ref.Cell row column (Some t) v) =
    Cell_is row column (kind_in (head_of t.now)) (types_in (inner_of t.now)) (value_of v.now)

-- What had taken any parts has then taken these after them.
pub record Takes {Before Taker : Type 0} (taken : Before → Taker → List Part → Type 0) (old new : Taker)
    (parts : List Part) : Type 0 where
  pub takes : (before : Before) (earlier : List Part) → taken before old earlier → taken before new (earlier ++ parts)
