-- How much of a file was read, in lines.
use Rattle.std.specs.Prelude.{◌≡◌, ℕ, zero, suc, ◌+◌, ◌-◌, ◌*◌, ◌/◌, ◌^◌, ◌<◌, ◌≤◌, min, Bool, true, false, List, [], ◌++◌, length}
use Rattle.std.specs.Prelude.{take, codes, decimal, Result, Ok, Err}
use Rattle.std.specs.Io.KnownBytes.{Appends}
use Rattle.cqlp_note.specs.declared.streams.IoFault.{IoFault}
use Rattle.cqlp_note.specs.Outputs.{Output}
use Rattle.cqlp_note.specs.Streams.{counted}

-- the line of a mark; there is one after each 64 MB
abbrev pub mark_line : (length mark : ℕ) → List ℕ
mark_line length mark =
    codes "cqlp: " ++ decimal (64 * mark) ++ codes " of " ++ decimal (length / 1_000_000) ++ codes " MB\n"

-- those of the first marks
abbrev pub mark_lines : (length marks : ℕ) → List ℕ
mark_lines length zero = []
mark_lines length (suc n) = mark_lines length n ++ mark_line length (n + 1)

-- how many marks lie within so many bytes of a file of this length
abbrev pub marks : (length read : ℕ) → ℕ
marks length read = min read length / 64_000_000

-- the lines of a file of this length of which so many bytes were read
abbrev pub lines : (length read : ℕ) → List ℕ
lines length read = mark_lines length (marks length read)

-- ---- what was written

-- The target was given the first bytes of a text, and failed once.
pub record StopsWithin (before : Output) (text : List ℕ) (now : Output) : Type 0 where
  pub sent : ℕ
  pub within : sent < length text
  pub given : Appends before.given now.given (take sent text)
  pub failures : now.failures ≡ counted true before.failures

-- all of it, or it failed
abbrev pub ShowsText : (before : Output) → (text : List ℕ) → (is_over : Bool) → (now : Output) → Type 0
ShowsText before text false now = Appends before.given now.given text × (now.failures ≡ before.failures)
ShowsText before text true now = StopsWithin before text now

-- The lines of so many marks, behind what the target was given before; where it failed, that was within the lines of some of them, and it was given
-- no more.
abbrev pub ShowsMarks : (before : Output) → (length marks : ℕ) → (is_over : Bool) → (now : Output) → Type 0
ShowsMarks before length n false now = ShowsText before (mark_lines length n) false now
ShowsMarks before length n true now = (some : ℕ) × (some ≤ n) × ShowsText before (mark_lines length some) true now

-- The lines of a file of this length of which so many bytes were read.
abbrev pub Shows : (before : Output) → (length read : ℕ) → (is_over : Bool) → (now : Output) → Type 0
Shows before length read is_over now = ShowsMarks before length (marks length read) is_over now

-- how many bytes were read; the greatest number, if more
abbrev pub read_after : Result ℕ IoFault → (read : ℕ) → ℕ
read_after (Ok n) read = min (read + n) (2 ^ 64 - 1)
read_after (Err e) read = read
