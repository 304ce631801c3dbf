-- Values as they are bound to statements, and as they are in pages whose columns are not described.
use Rattle.std.specs.Prelude.{◌≡◌, ◌++◌, ◌<◌, ℕ, true, false, List, [], length, Option, None, Result, Ok, Err}
use Rattle.cqlp_note.specs.declared.header.TheConstants.Header.{LONGEST_BODY}
use Rattle.cqlp_note.specs.declared.field.Notation.TheVariants as notation
use Rattle.cqlp_note.specs.Field as note
use Rattle.cqlp_note.specs.Spelling.{field_bytes}
use Rattle.cqlp_kind.specs.Scalars.{content_of, Raw}
use Rattle.cqlp_type.specs.declared.tree.TypeTree.{TypeTree}
use Rattle.cqlp_value.specs.declared.value.Value.{Value}
use Rattle.cqlp_value.specs.Owned.{cell_type, fits_type, value_of}
use Rattle.cqlp_value.specs.Values.{Values, NoValue, Null_and, Empty_and, Scalar_and, Counted_and, Fields_and}
use Rattle.cqlp_value.specs.Values.{AreInRange, ValuesSpell, values_bytes, values_size}
use Rattle.cqlp_message.specs.declared.request.OwnedBound.{OwnedBound}
use Rattle.cqlp_message.specs.Owned.{bound_of}
use Rattle.cqlp_encode.specs.declared.binding.BindError.{BindError}
use Rattle.cqlp_encode.specs.declared.binding.BindError.TheVariants as error
use Rattle.cqlp_encode.specs.ValueWriting.{CanBeWritten}

-- What follows a value's length where it is written (section 6 of native_protocol_v4.spec). A list, a set or a map begins
-- with its count. Of a null and of an empty value nothing follows.
abbrev pub content_written : Values → List ℕ
content_written (Scalar_and v vs) = content_of v
content_written (Counted_and k n items vs) = field_bytes notation.Count32 (note.Count n) ++ values_bytes items
content_written (Fields_and k items vs) = values_bytes items
content_written vs = []

-- a value as a [value] of a request (section 3)
abbrev pub bound_written : Values → note.BoundValue
bound_written (Null_and vs) = note.Null
bound_written vs = note.Known (content_written vs)

-- a value as a cell whose type is not known
abbrev pub raw_written : Values → Values
raw_written (Null_and vs) = Null_and NoValue
raw_written (Empty_and vs) = Empty_and NoValue
raw_written vs = Scalar_and (Raw (content_written vs)) NoValue

-- Bytes are the content of a value, whose scalars are in the ranges of their types.
pub record IsContent (v : Value) (c : List ℕ) : Type 0 where
  pub is : c ≡ content_written (value_of v)
  pub range : AreInRange (value_of v)

-- A bound value is this value, and its bytes in a request spell it for its type.
pub record IsBound (v : Value) (t : Option TypeTree) (b : OwnedBound) : Type 0 where
  pub is : bound_of b ≡ bound_written (value_of v)
  pub spells : ValuesSpell (cell_type t) (value_of v) (field_bytes notation.Bound (note.Bound (bound_of b)))

-- A cell whose type is not known is this value, and its bytes in a page spell it for its type.
pub record IsRaw (v : Value) (t : Option TypeTree) (raw : Value) : Type 0 where
  pub is : value_of raw ≡ raw_written (value_of v)
  pub fits : fits_type raw None ≡ true
  pub spells : ValuesSpell (cell_type t) (value_of v) (values_bytes (value_of raw))

-- What is made of a value of this type; or it is none of its type, or too long for a frame; or memory was refused, of
-- which none is asked for where its content has no bytes.
abbrev pub Makes : {X : Type 0} → (Is : X → Type 0) → Value → Option TypeTree → Result X BindError → Type 0
Makes Is v t (Ok made) = CanBeWritten v t × Is made
Makes Is v t (Err error.Unfit) = fits_type v t ≡ false
Makes Is v t (Err error.TooLong) = (fits_type v t ≡ true) × (LONGEST_BODY < values_size (value_of v))
Makes Is v t (Err error.NoMemory) = CanBeWritten v t × (0 < length (content_written (value_of v)))
