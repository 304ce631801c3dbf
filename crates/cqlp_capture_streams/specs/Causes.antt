-- What of the outside ends the reading of a capture early.
use Rattle.std.specs.Prelude.{◌≡◌, true, ◌⊎◌}
use Rattle.cqlp_text.specs.Outputs.{HasFailed, Output, with_text}
use Rattle.cqlp_capture_streams.specs.declared.fault.StreamsFault.TheVariants as fault
use Rattle.cqlp_capture_streams.specs.Captures.{ReadsMade}
use Rattle.cqlp_capture_streams.specs.Endings.{fault_line, no_memory_line}

-- A read failed, or the output, or the error output; or the line that was written says that there was no memory, or that all reads were made
-- that may be, or that there was no end to what is reported.
abbrev pub HasCause : ReadsMade → (out err out' err' : Output) → Type 0
HasCause m out err out' err' =
    (m.failed ≡ true)
    ⊎ (HasFailed out out'
    ⊎ (HasFailed err err'
    ⊎ ((err' ≡ with_text err no_memory_line)
    ⊎ (err' ≡ with_text err (fault_line fault.TooManyTurns)))))
