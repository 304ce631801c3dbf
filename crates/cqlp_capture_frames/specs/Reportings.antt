-- What becomes of the text of what happens, while memory is asked for.
use Rattle.std.specs.Prelude.{◌≡◌, ℕ, Bool, true, false, List, ◌++◌}
use Rattle.cqlp_text.specs.Outputs.{Output, StopsWithin, with_text}
use Rattle.cqlp_capture_frames.specs.declared.fault.ReportFault.{ReportFault}
use Rattle.cqlp_capture_frames.specs.declared.fault.ReportFault.TheVariants as fault

abbrev pub is_memory : ReportFault → Bool
is_memory fault.NoMemory = true
is_memory fault.Write = false

-- ---- the same of an output

-- The text was written up to somewhere.
abbrev pub WritesFront : (old : Output) → List ℕ → (new : Output) → Type 0
WritesFront old text new = (front : List ℕ) × (later : List ℕ) × (front ++ later ≡ text) × (new ≡ with_text old front)

abbrev pub Faults : (old : Output) → List ℕ → ReportFault → (new : Output) → Type 0
Faults old text fault.Write new = StopsWithin old text new
Faults old text fault.NoMemory new = WritesFront old text new
