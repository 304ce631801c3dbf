-- What becomes of bytes of which a value is to be read.
use Rattle.std.specs.Prelude.{◌≡◌, ℕ, ◌++◌, ◌||◌, Bool, true, false, List, [], ◌∷◌, length, nat_lt, Option, Some, None, Result, Ok, Err}
use Rattle.std.specs.List.{list_any}
use Rattle.cqlp_note.specs.declared.limits.Limits.{Limits}
use Rattle.cqlp_note.specs.declared.refusal.Refusal.{Refusal}
use Rattle.cqlp_note.specs.Limits.{Rules, rules_of}
use Rattle.cqlp_note.specs.Reader.{Bad, says}
use Rattle.cqlp_note.specs.Step.{Runs}
use Rattle.cqlp_kind.specs.Scalars.{ScalarValue}
use Rattle.cqlp_kind.specs.Scalars as scalar
use Rattle.cqlp_kind.specs.Types.{Types}
use Rattle.cqlp_kind.specs.CellStep.{CellEvent, CellPlace, Close_of, cell_step, values_of}
use Rattle.cqlp_kind.specs.CellStep as event
use Rattle.cqlp_type.specs.declared.tree.TypeTree.{TypeTree}
use Rattle.cqlp_type.specs.Trees.{are_trees}
use Rattle.cqlp_type.specs.TypeTrees.{tree_of}
use Rattle.cqlp_value.specs.declared.value.Value.{Value}
use Rattle.cqlp_value.specs.Owned.{cell_type, value_of}
use Rattle.cqlp_value.specs.Values.{AreWithin, ValuesSpell}
use Rattle.cqlp_read_value.specs.declared.error.ReadError.{ReadError}
use Rattle.cqlp_read_value.specs.declared.error.ReadError.TheVariants as error

-- the limits, where each scalar comes whole
abbrev pub whole_rules : Limits → Rules
whole_rules l = rules_of (record l { parts = false })

-- The steps of a cell's reading lead from p over these bytes to where they are refused, at this offset for this reason.
pub record IsRefused (l : Rules) (p : CellPlace) (b : List ℕ) (r : Refusal) : Type 0 where
  pub events : List (ℕ × CellEvent)
  pub there : CellPlace
  pub left : List ℕ
  pub runs : Runs (cell_step l) p b events there left
  pub refused : says (cell_step l there) 0 left ≡ Bad (r.at, r.why)

-- a scalar that is kept in memory of its own, as its bytes are as many as they like
abbrev pub has_bytes : ScalarValue → Bool
has_bytes (scalar.Custom c) = true
has_bytes (scalar.Ascii c) = true
has_bytes (scalar.Blob c) = true
has_bytes (scalar.Decimal n c) = true
has_bytes (scalar.Varchar c) = true
has_bytes (scalar.Varint c) = true
has_bytes (scalar.Raw c) = true
has_bytes _ = false

-- What this event holds is kept in memory: the bytes of a scalar, or a value in another once it is read.
abbrev pub takes_memory : CellEvent → Bool
takes_memory (event.Leaf level v) = nat_lt 0 level || has_bytes v
takes_memory (event.Null level) = nat_lt 0 level
takes_memory (event.Empty level) = nat_lt 0 level
takes_memory (event.Leave level items) = nat_lt 0 level
takes_memory _ = false

abbrev pub take_memory : List (ℕ × CellEvent) → Bool
take_memory events = list_any (λ e. takes_memory e.1) events

-- The steps of a cell's reading lead from p over the first of these bytes, and what they emit on the way takes memory.
pub record WantsMemory (l : Rules) (p : CellPlace) (b : List ℕ) : Type 0 where
  pub events : List (ℕ × CellEvent)
  pub there : CellPlace
  pub left : List ℕ
  pub runs : Runs (cell_step l) p b events there left
  pub takes : take_memory events ≡ true

-- Reading stops so.
abbrev pub IsStopped : Rules → CellPlace → List ℕ → ReadError → Type 0
IsStopped l p b (error.Refused r) = IsRefused l p b r
IsStopped l p b error.NoMemory = WantsMemory l p b
IsStopped l p b error.Unformed = ⊥

-- Before a value that is to have this many bytes: it is read, and then they are to be at their end.
abbrev pub whole_value : Types → (size : ℕ) → CellPlace
whole_value ts size = record { offset = 0; symbols = values_of ts 0 size ++ Close_of 0 size 1 ∷ [] }

-- Where a value of this type is read of these bytes: they spell the value, and its scalars are within the limits; or they
-- are refused as reading says; or memory was refused where reading takes some.
abbrev pub ReadsAll : Rules → Types → List ℕ → Result Value ReadError → Type 0
ReadsAll l ts b (Ok v) = ValuesSpell ts (value_of v) b × AreWithin l (value_of v)
ReadsAll l ts b (Err e) = IsStopped l (whole_value ts (length b)) b e

-- each kind in the type has the inner types that it takes
abbrev pub is_formed : Option TypeTree → Bool
is_formed None = true
is_formed (Some t) = are_trees (tree_of t)

-- The same of a caller's type, or of a cell without a type. A type that is not formed is reported, whatever the bytes are.
abbrev pub Reads : Rules → Option TypeTree → List ℕ → Result Value ReadError → Type 0
Reads l t b (Err error.Unformed) = is_formed t ≡ false
Reads l t b r = (is_formed t ≡ true) × ReadsAll l (cell_type t) b r
