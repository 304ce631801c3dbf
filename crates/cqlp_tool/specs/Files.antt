-- What is done with a stream that is the input or a file.
use Rattle.std.specs.Prelude.{◌≡◌, ◌≢◌, ℕ, List, IsSome, ◌⊎◌, codes}
use Rattle.std.specs.declared.io.traits.Read.{Ghosts}
use Rattle.cqlp_text.specs.Endings.{cannot_open_line}
use Rattle.cqlp_text.specs.Outputs.{Output}
use Rattle.cqlp_render.specs.Streams.{Input, Streams}
use Rattle.cqlp_tool.specs.Faults.{ReportsFault}

-- a file that was just opened, as an input
abbrev pub opened : {F : Type 0} → Ghosts F → F → Input
opened members file = record { left = members.remaining file; failures = 0; reads = 0; asked = 0 }

-- This was done with another input.
abbrev pub DoesWith : ((before : Streams) → (status : ℕ) → (after : Streams) → Type 0) → Input
    → (out err : Output) → (status : ℕ) → (out' err' : Output) → Type 0
DoesWith Does input out err status out' err' =
    (left : Input) × Does (record { input = input; out = out; err = err }) status
    (record { input = left; out = out'; err = err' })

-- No file with this path was opened: nothing was printed, and this was reported.
abbrev pub MissesFile : (path : List ℕ) → (out err : Output) → (status : ℕ) → (out' err' : Output) → Type 0
MissesFile path out err status out' err' =
    (status ≡ 3) × (out' ≡ out) × (IsSome err.given → ReportsFault (cannot_open_line path) err status err')

module _ {F : Type 0} (files : Ghosts F) (path : List ℕ)
    (Does : (before : Streams) → (status : ℕ) → (after : Streams) → Type 0) where
  -- This was done with a file, or none was opened.
  abbrev pub DoesWithFile : (out err : Output) → (status : ℕ) → (out' err' : Output) → Type 0
  DoesWithFile out err status out' err' =
      ((file : F) × DoesWith Does (opened files file) out err status out' err')
      ⊎ MissesFile path out err status out' err'

  -- This was done with the input, if the path is "-", and else with a file.
  abbrev pub DoesOn : (before : Streams) → (status : ℕ) → (after : Streams) → Type 0
  DoesOn before status after =
      (path ≡ codes "-" → Does before status after)
      × (path ≢ codes "-" → DoesWithFile before.out before.err status after.out after.err)
