-- Whose turn it is in a batch, kept so that each cell asks for little.
use Rattle.std.specs.Prelude.{◌≡◌, ℕ, zero, suc, ◌+◌, ◌-◌, ◌^◌, ◌==◌, Bool, ◌&&◌, nat_le, true, List, [], ◌∷◌, length, ⊤, if◌then◌else◌}
use Rattle.std.specs.List.{list_all}
use Rattle.cqlp_columns.specs.declared.columns.BatchLimits.{BatchLimits}
use Rattle.cqlp_columns.specs.declared.columns.TakeError.{TakeError}
use Rattle.cqlp_columns.specs.declared.columns.TakeError.TheVariants.{Full, OutOfOrder}
use Rattle.cqlp_columns.specs.Arrays.{Column}
use Rattle.cqlp_columns.specs.Batches.{Batch, IsReady, batch, is_full}

-- the number of no column
abbrev pub no_turn : ℕ
no_turn = 2 ^ 64 - 1

-- the column of the next cell, or that of none where a row begins for which there is no room
abbrev pub turn_to : Batch → ℕ
turn_to b = if is_full b then no_turn else b.next

-- the column of the next cell, out of the turn
abbrev pub next_in : (turn : ℕ) → ℕ
next_in turn = if turn == no_turn then 0 else turn

-- why a cell of a column is not taken that is not in turn
abbrev pub fault_out_of_turn : (turn column : ℕ) → TakeError
fault_out_of_turn turn k = if (turn == no_turn) && (k == 0) then Full else OutOfOrder

-- A column has no more bytes of values than a row may begin with.
abbrev pub is_light : BatchLimits → Column → Bool
is_light l a = nat_le (length a.values) l.bytes

abbrev pub are_light : BatchLimits → List Column → Bool
are_light l cols = list_all (is_light l) cols

-- the same of the column of a number, if there is one
abbrev pub is_light_at : BatchLimits → (column : ℕ) → List Column → Bool
is_light_at l k [] = true
is_light_at l zero (a ∷ cols) = is_light l a
is_light_at l (suc k) (a ∷ cols) = is_light_at l k cols

-- Columns have this many rows, and the first of them, up to the next, the cell of one more.
abbrev pub HasRows : (rows next : ℕ) → List Column → Type 0
HasRows r n [] = ⊤
HasRows r zero (a ∷ cols) = (length a.valid ≡ r) × HasRows r zero cols
HasRows r (suc n) (a ∷ cols) = (length a.valid ≡ r + 1) × HasRows r n cols

abbrev pub AreEven : (next : ℕ) → List Column → Type 0
AreEven next cols = (rows : ℕ) × HasRows rows next cols

-- What a batch keeps beside its columns is what these say: whose turn it is, and whether all are light.
pub record IsKept (l : BatchLimits) (cols : List Column) (turn : ℕ) (light : Bool) : Type 0 where
  pub ready : IsReady l cols (next_in turn)
  pub due : turn ≡ turn_to (batch l cols (next_in turn))
  pub even : AreEven (next_in turn) cols
  pub weight : light ≡ are_light l cols
