-- The first bytes of a text, as many as there is room for.
use Rattle.std.specs.Prelude.{ℕ, nat_lt, List, [], ◌∷◌, ◌++◌, length, if◌then◌else◌}

-- what was taken, how many calls found no room, and how many took all of their bytes
pub record Label : Type 0 where
  pub text : List ℕ
  pub failures : ℕ
  pub writes : ℕ

abbrev pub label : List ℕ → (failures writes : ℕ) → Label
label text failures writes = record { text = text; failures = failures; writes = writes }

-- with one more byte, if there is room for it
abbrev pub taken : (b : ℕ) → Label → Label
taken b l = if nat_lt (length l.text) 256 then label (l.text ++ b ∷ []) l.failures l.writes else l
