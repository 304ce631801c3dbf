-- The last run, by its index.
use Rattle.std.proofs.Common.{◌≡◌, ℕ, zero, suc, ◌-◌, ◌<◌, List, [], ◌∷◌, length, get_or, refl, arith}
use Rattle.std.specs.Prelude.{Some}
use Rattle.cqlp_tcp_reassembly.specs.Runs.{EarlyRun, last_of}

last_at : (runs : List EarlyRun) (n : ℕ) (d : EarlyRun) → length runs ≡ suc n → last_of runs ≡ Some (get_or runs n d)
last_at [] n d long = absurd (omega arith)
last_at (r ∷ []) zero d long = refl
last_at (r ∷ []) (suc n) d long = absurd (omega arith)
last_at (r ∷ s ∷ runs) zero d long = absurd (omega arith)
last_at (r ∷ s ∷ runs) (suc n) d long = last_at (s ∷ runs) n d (omega arith)

pub last_read : (runs : List EarlyRun) (d : EarlyRun) → 0 < length runs → last_of runs ≡ Some (get_or runs (length runs - 1) d)
last_read runs d some = last_at runs (length runs - 1) d (omega arith)
