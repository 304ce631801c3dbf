-- Fields that lie whole at the front of the input.
use Rattle.std.specs.Prelude.{◌≡◌, ℕ, ◌≤◌, List, length, Option, Some, None, ⊤}
use Rattle.cqlp_note.specs.declared.field.Notation.{Notation}
use Rattle.cqlp_note.specs.declared.field.Notation.TheVariants as notation
use Rattle.cqlp_note.specs.declared.whole.WholeField.{WholeField}
use Rattle.cqlp_note.specs.Reader.{Got, says}
use Rattle.cqlp_note.specs.Field.{FieldValue, field_of}
use Rattle.cqlp_note.specs.Head.{value_of}

-- Of these bytes the first are a field of this value.
pub record SaysField (n : Notation) (limit room : ℕ) (input : List ℕ) (used : ℕ) (v : FieldValue) : Type 0 where
  pub is : says (field_of n limit room) 0 input ≡ Got v used
  pub within : used ≤ length input

-- what is left to a `Partial`: an [inet], and a content without a length
abbrev pub IsLeft : Notation → Type 0
IsLeft notation.Inet = ⊤
IsLeft (notation.Content n) = ⊤
IsLeft n = ⊥

-- A field at the front of the input, and just where these bytes say one.
abbrev pub IsFrontField : Notation → (limit room : ℕ) → (input : List ℕ) → Option WholeField → Type 0
IsFrontField n limit room input None =
    ¬ (IsLeft n) → (used : ℕ) (v : FieldValue) → ¬ (SaysField n limit room input used v)
IsFrontField n limit room input (Some f) = SaysField n limit room input f.used (value_of f.value)
