-- A content out of pieces.
use Rattle.std.specs.Prelude.{◌≡◌, ℕ, ◌+◌, ◌-◌, ◌<◌, ◌≤◌, ◌++◌, Bool, true, false, List, [], length, take, drop, Option, Some, None}
use Rattle.cqlp_note.specs.declared.head.Wanted.{Wanted}
use Rattle.cqlp_note.specs.declared.field.Notation.TheVariants as notation
use Rattle.cqlp_note.specs.Field.{Bytes}
use Rattle.cqlp_note.specs.Partial.{FieldState, CanLend, item_value}
use Rattle.cqlp_cell.specs.declared.gather.Found.{Found}

-- a content of this many bytes at this offset, which has exactly the room that it needs
abbrev pub content_wanted : (len at : ℕ) → Wanted
content_wanted len at = record { notation = notation.Content len; limit = len; at = at; room = len }

-- The content is under way and wants more bytes, from where the input begins; or it is not begun, and no other field
-- is.
abbrev pub IsGathering : Bool → (len at start : ℕ) → FieldState → Type 0
IsGathering true len at start p =
    (p.under_way ≡ true) × (p.field ≡ content_wanted len at) × (start ≡ 0) × (length p.seen < len)
IsGathering false len at start p = p.under_way ≡ false

-- what has come of it
abbrev pub seen_before : Bool → FieldState → List ℕ
seen_before true p = p.seen
seen_before false p = []

-- More bytes of the content are wanted; the buffer holds those that have come.
pub record Wants (len at : ℕ) (bytes : List ℕ) (old new : FieldState) : Type 0 where
  pub short : length bytes < len
  pub under_way : new.under_way ≡ true
  pub field : new.field ≡ content_wanted len at
  pub seen : new.seen ≡ bytes
  pub kept : new.content ≡ bytes
  pub room : new.room ≡ old.room

-- The content is whole, and lies there. Where it is whole in the input, nothing is in the buffer, and else the content
-- is.
pub record Finds (len start : ℕ) (seen bytes input : List ℕ) (f : Found) (old new : FieldState) : Type 0 where
  pub after : start ≤ f.used
  pub within : f.used ≤ length input
  pub count : length seen + (f.used - start) ≡ len
  pub enough : len ≤ length bytes
  pub can_lend : CanLend f.content input new.content
  pub is : item_value f.content input new.content ≡ Bytes (Some (take len bytes))
  pub idle : new.under_way ≡ false
  pub room : new.room ≡ old.room
  pub lent : len ≤ f.used → new.content ≡ []
  pub kept : f.used < len → new.content ≡ take len bytes

-- What the bytes from start in the input on make of a content.
abbrev pub Gathers : Bool → (len at start : ℕ) → FieldState → List ℕ → Option Found → FieldState → Type 0
Gathers begun len at start old input None new = Wants len at (seen_before begun old ++ drop start input) old new
Gathers begun len at start old input (Some f) new =
    Finds len start (seen_before begun old) (seen_before begun old ++ drop start input) input f old new
