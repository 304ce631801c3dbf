-- What becomes of a value that is to be written.
use Rattle.std.specs.Prelude.{◌≡◌, ◌<◌, ◌≤◌, ℕ, true, false, length, Option, Result, Ok, Err}
use Rattle.cqlp_note.specs.declared.header.TheConstants.Header.{LONGEST_BODY}
use Rattle.cqlp_note.specs.Outputs.{Output, Offered}
use Rattle.cqlp_type.specs.declared.tree.TypeTree.{TypeTree}
use Rattle.cqlp_value.specs.declared.value.Value.{Value}
use Rattle.cqlp_value.specs.Owned.{fits_type, value_of}
use Rattle.cqlp_value.specs.Values.{values_bytes, values_size}
use Rattle.cqlp_encode.specs.declared.value_writing.ValueError.{ValueError}
use Rattle.cqlp_encode.specs.declared.value_writing.ValueError.TheVariants as error

-- The value is one of its type, and the bytes that are written of it are as many as its size says, no more than a body
-- of a frame can have.
pub record CanBeWritten (v : Value) (t : Option TypeTree) : Type 0 where
  pub fits : fits_type v t ≡ true
  pub short : values_size (value_of v) ≤ LONGEST_BODY
  pub long : length (values_bytes (value_of v)) ≡ values_size (value_of v)

-- All bytes of the value were appended, and the answer is how many they are; or it is none of its type, or too long, and
-- the target is as it was; or the target failed after the first bytes, which were appended.
abbrev pub WritesValue : Value → Option TypeTree → (old : Output) → Result ℕ ValueError → (new : Output) → Type 0
WritesValue v t old (Ok n) new =
    CanBeWritten v t × (n ≡ values_size (value_of v)) × Offered old (values_bytes (value_of v)) n new
WritesValue v t old (Err error.Unfit) new = (fits_type v t ≡ false) × (new ≡ old)
WritesValue v t old (Err error.TooLong) new =
    (fits_type v t ≡ true) × (LONGEST_BODY < values_size (value_of v)) × (new ≡ old)
WritesValue v t old (Err (error.Write n)) new =
    CanBeWritten v t × (n < values_size (value_of v)) × Offered old (values_bytes (value_of v)) n new
