-- Laws of the progress that is written.
use Rattle.std.specs.Prelude.{◌≡◌, ℕ, ◌++◌, Bool, false, List, Some}
use Rattle.cqlp_note.specs.Outputs.{Output, output}
use Rattle.cqlp_tool.specs.Marks.{Shows, lines}

-- Before the first read nothing was written.
abbrev pub BeginsWithNothing : Type 0
BeginsWithNothing = (before : Output) (length : ℕ) → Shows before length 0 false before

-- Where the target has not failed, how much of the file was read says what it was given.
abbrev pub OneAnswer : Type 0
OneAnswer =
    (given : List ℕ) (failures : ℕ) (now : Output) (length read : ℕ) (is_over : Bool)
    → Shows (output (Some given) failures) length read is_over now → is_over ≡ false
    → now ≡ output (Some (given ++ lines length read)) failures
