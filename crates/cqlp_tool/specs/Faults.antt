-- A fault line, and its status.
use Rattle.std.specs.Prelude.{◌≡◌, ℕ, List, ◌⊎◌}
use Rattle.cqlp_text.specs.Outputs.{Output, with_text, StopsWithin}

-- The line was written, and the status is that of a fault; so it is where the target failed within it.
abbrev pub ReportsFault : (line : List ℕ) → (before : Output) → (status : ℕ) → (after : Output) → Type 0
ReportsFault line before status after =
    (status ≡ 3) × ((after ≡ with_text before line) ⊎ StopsWithin before line after)
