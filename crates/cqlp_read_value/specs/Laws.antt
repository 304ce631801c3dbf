-- Laws of the reading of values.
use Rattle.std.specs.Prelude.{◌≡◌, ℕ, ◌<◌, ◌^◌, Bool, true, false, List, length, MatchResult, Option, Result, Ok, Err}
use Rattle.std.specs.List.{All}
use Rattle.cqlp_note.specs.declared.limits.Limits.{Limits}
use Rattle.cqlp_note.specs.Limits.{Rules}
use Rattle.cqlp_type.specs.declared.tree.TypeTree.{TypeTree}
use Rattle.cqlp_value.specs.declared.value.Value.{Value}
use Rattle.cqlp_value.specs.Owned.{cell_type, fits_type, value_of}
use Rattle.cqlp_value.specs.Values.{AreInRange, AreWithin, Values, NoValue, Scalar_and, Counted_and, Fields_and, ValuesSpell, values_bytes, values_size}
use Rattle.cqlp_read_value.specs.declared.error.ReadError.{ReadError}
use Rattle.cqlp_read_value.specs.declared.error.ReadError.TheVariants as error
use Rattle.cqlp_read_value.specs.Reading.{Reads, has_bytes, is_formed, whole_rules}

-- It owns memory: the bytes of a scalar, or the items in it.
abbrev pub owns_memory : Values → Bool
owns_memory (Scalar_and v vs) = has_bytes v
owns_memory (Counted_and k n NoValue vs) = false
owns_memory (Counted_and k n items vs) = true
owns_memory (Fields_and k NoValue vs) = false
owns_memory (Fields_and k items vs) = true
owns_memory _ = false

-- the same value, or the same refusal; or memory was refused to one of them
abbrev pub AreSame : Result Value ReadError → Result Value ReadError → Type 0
AreSame (Err error.NoMemory) s = Unit {0}
AreSame r (Err error.NoMemory) = Unit {0}
AreSame (Ok v) (Ok w) = value_of v ≡ value_of w
AreSame (Err (error.Refused r)) (Err (error.Refused s)) = r ≡ s
AreSame (Err error.Unformed) (Err error.Unformed) = Unit {0}
AreSame r s = ⊥

-- Of the same bytes, type and limits there is one answer, but where memory is refused.
abbrev pub OneAnswerOfReadValue : Type 0
OneAnswerOfReadValue =
    (l : Rules) (t : Option TypeTree) (b : List ℕ) (r s : Result Value ReadError)
    → Reads l t b r → Reads l t b s → AreSame r s

-- Of bytes that spell a value that owns no memory, nothing but the value is read, whatever memory there is.
abbrev pub UnownedIsRead : Type 0
UnownedIsRead =
    (l : Limits) (t : Option TypeTree) (v : Value) (b : List ℕ) (r : Result Value ReadError) → owns_memory (value_of v) ≡ false
    → Reads (whole_rules l) t b (Ok v) → Reads (whole_rules l) t b r → MatchResult r (λ w. value_of w ≡ value_of v) (λ _. ⊥)

-- A value that fits its type and is within the limits is what is read of the bytes that are written of it.
abbrev pub WrittenIsRead : Type 0
WrittenIsRead =
    (l : Rules) (t : Option TypeTree) (v : Value) (r : Result Value ReadError)
    → is_formed t ≡ true → fits_type v t ≡ true → AreInRange (value_of v) → AreWithin l (value_of v)
    → values_size (value_of v) < 2 ^ 31 → Reads l t (values_bytes (value_of v)) r → AreSame r (Ok v)

-- A value that is read fits its type, and the bytes that are written of it spell the same value; they are as many as
-- those that were read.
abbrev pub ReadIsWritten : Type 0
ReadIsWritten =
    (l : Rules) (t : Option TypeTree) (v : Value) (b : List ℕ)
    → Reads l t b (Ok v) → All (λ x. x < 256) b → length b < 2 ^ 31
    → (fits_type v t ≡ true) × (values_size (value_of v) ≡ length b)
    × ValuesSpell (cell_type t) (value_of v) (values_bytes (value_of v))
