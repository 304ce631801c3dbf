-- An [int] out of pieces.
use Rattle.std.specs.Prelude.{◌≡◌, ℕ, ◌+◌, ◌-◌, ◌^◌, ◌<◌, ◌≤◌, ◌++◌, ℤ, pos, Bool, true, false, List, [], length, take, drop}
use Rattle.std.specs.Int.{w32, from_be_bytes}
use Rattle.cqlp_note.specs.declared.head.Wanted.{Wanted}
use Rattle.cqlp_note.specs.declared.field.Notation.TheVariants as notation
use Rattle.cqlp_note.specs.declared.advance.FieldOutline.{FieldOutline}
use Rattle.cqlp_note.specs.Field.{FieldValue, Int}
use Rattle.cqlp_note.specs.Partial.{FieldState, CanLend, item_value}
use Rattle.cqlp_cell.specs.declared.number.Number.{Number}
use Rattle.cqlp_cell.specs.declared.number.Number.TheVariants as number
use Rattle.cqlp_cell.specs.Gathering.{seen_before}

-- an [int] at this offset, in a container with this much room
abbrev pub int_wanted : (at room : ℕ) → Wanted
int_wanted at room = record { notation = notation.Int; limit = 0; at = at; room = room }

-- The [int] is under way and wants more bytes, from where the input begins; or it is not begun, and no other field is.
abbrev pub IsCounting : Bool → (at room start : ℕ) → FieldState → Type 0
IsCounting true at room start p =
    (p.under_way ≡ true) × (p.field ≡ int_wanted at room) × (4 ≤ room) × (start ≡ 0) × (length p.seen < 4)
IsCounting false at room start p = p.under_way ≡ false

-- More bytes of the [int] are wanted.
pub record WantsNumber (at room : ℕ) (bytes : List ℕ) (old new : FieldState) : Type 0 where
  pub short : length bytes < 4
  pub enough : 4 ≤ room
  pub under_way : new.under_way ≡ true
  pub field : new.field ≡ int_wanted at room
  pub seen : new.seen ≡ bytes
  pub empty : new.content ≡ []
  pub longest : new.room ≡ old.room

-- n is the number m without a sign: the same one, or both have the sign bit
abbrev pub IsUnsigned : (m n : ℕ) → Type 0
IsUnsigned m n = (m < 2 ^ 31 → n ≡ m) × (2 ^ 31 ≤ m → 2 ^ 31 ≤ n)

-- The [int] is whole.
pub record IsCounted (room start : ℕ) (seen bytes input : List ℕ) (used n : ℕ) (old new : FieldState) : Type 0 where
  pub after : start ≤ used
  pub within : used ≤ length input
  pub count : length seen + (used - start) ≡ 4
  pub whole : 4 ≤ length bytes
  pub enough : 4 ≤ room
  pub is : IsUnsigned (from_be_bytes w32 (take 4 bytes)) n
  pub idle : new.under_way ≡ false
  pub longest : new.room ≡ old.room

-- What the bytes from start in the input on make of an [int].
abbrev pub Counts : Bool → (at room start : ℕ) → FieldState → List ℕ → Number → FieldState → Type 0
Counts begun at room start old input number.More new =
    WantsNumber at room (seen_before begun old ++ drop start input) old new
Counts begun at room start old input (number.Got used n) new =
    IsCounted room start (seen_before begun old) (seen_before begun old ++ drop start input) input used n old new
Counts begun at room start old input number.Overrun new = (room < 4) × (new.under_way ≡ false) × (new.room ≡ old.room)

abbrev pub int_in : FieldValue → ℤ
int_in (Int z) = z
int_in _ = pos 0

-- an [int] lies there
abbrev pub IsNumberAt : FieldOutline → (input buffer : List ℕ) → Type 0
IsNumberAt i input buffer =
    CanLend i input buffer × (item_value i input buffer ≡ Int (int_in (item_value i input buffer)))
