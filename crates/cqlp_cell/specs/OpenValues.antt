-- The values around the one that is read.
use Rattle.std.specs.Prelude.{ℕ, ◌^◌, ◌<◌, ◌≤◌, List, [], ◌∷◌, length, Option, Some, None}
use Rattle.cqlp_cell.specs.declared.open_values.OpenValue.{OpenValue}

-- The open values, the outermost first, and how many there can be.
pub record Nest : Type 0 where
  pub open_values : List OpenValue
  pub room : ℕ

-- no more of them than there is room for, whose number has 32 bits
abbrev pub FitIn : (room : ℕ) → List OpenValue → Type 0
FitIn room values = (length values ≤ room) × (room < 2 ^ 32)

-- the innermost
abbrev pub last_open : List OpenValue → Option OpenValue
last_open [] = None
last_open (o ∷ []) = Some o
last_open (o ∷ p ∷ os) = last_open (p ∷ os)

abbrev pub but_last : List OpenValue → List OpenValue
but_last [] = []
but_last (o ∷ []) = []
but_last (o ∷ p ∷ os) = o ∷ but_last (p ∷ os)

-- another in its place
abbrev pub with_last : OpenValue → List OpenValue → List OpenValue
with_last x [] = []
with_last x (o ∷ []) = x ∷ []
with_last x (o ∷ p ∷ os) = o ∷ with_last x (p ∷ os)
