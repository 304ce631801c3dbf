-- The calls that files get, and the bytes of each file.
use Rattle.std.specs.Prelude.{◌≡◌, ℕ, List, [], ◌∷◌, ◌++◌, Option, Some, None, Result, Ok, Err}
use Rattle.cqlp_capture_streams.specs.declared.files.FileFault.{FileFault}
use Rattle.cqlp_capture_streams.specs.declared.files.StreamFile.{StreamFile}

-- The two files of a connection were made, bytes were appended to a file, and both were kept; or a call failed for this reason.
pub data Call : Type 0 where
  Made : ℕ → Call
  Appended : StreamFile → List ℕ → Call
  Kept : ℕ → Call
  Failed : FileFault → Call

-- with one more call, where the calls are known
abbrev pub with_call : Option (List Call) → Call → Option (List Call)
with_call None call = None
with_call (Some calls) call = Some (calls ++ call ∷ [])

-- The call was made, or it failed.
abbrev pub Calls : Option (List Call) → Call → Result (Unit {0}) FileFault → Option (List Call) → Type 0
Calls old call (Ok u) new = new ≡ with_call old call
Calls old call (Err e) new = new ≡ with_call old (Failed e)
