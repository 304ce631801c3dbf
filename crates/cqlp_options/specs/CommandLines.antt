-- What a command line asks for, with its numbers.
use Rattle.std.specs.Prelude.{◌≡◌, ◌≤◌, ⊤, ℕ, List, [], ◌∷◌, Ok}
use Rattle.cqlp_note.specs.Limits.{first_bad}
use Rattle.cqlp_options.specs.CaptureFiles.{IsInputAlone, IsMergeInputAlone, all_files, summary_files}
use Rattle.cqlp_options.specs.CaptureLimits.{AreWithin as AreWithinRanges}
use Rattle.cqlp_options.specs.Ports.{AreWithin}
use Rattle.cqlp_options.specs.declared.command_line.CommandLine.{CommandLine}
use Rattle.cqlp_options.specs.declared.command_line.CommandLine.TheVariants as line
use Rattle.cqlp_options.specs.declared.command_line.TheConstants.{QUERIES}

-- its numbers are in their ranges: those of limits, a conversation has 1 to 1,000 queries, and 1 to 16 ports are named for a capture
abbrev pub IsWithin : CommandLine → Type 0
IsWithin (line.Stream options) = first_bad options.limits ≡ Ok tt
IsWithin (line.Loop queries) = (1 ≤ queries) × (queries ≤ 1000)
IsWithin (line.Capture options) = AreWithin options.ports × AreWithinRanges options.limits
IsWithin (line.Merge options) = ⊤

-- the paths of the files that it names, in order
abbrev pub files_of : CommandLine → List (List ℕ)
files_of (line.Stream options) = options.file.now ∷ []
files_of (line.Loop queries) = []
files_of (line.Capture options) = all_files options
files_of (line.Merge options) = summary_files options

-- standard input is none of several files
abbrev pub HasInputAlone : CommandLine → Type 0
HasInputAlone (line.Stream options) = ⊤
HasInputAlone (line.Loop queries) = ⊤
HasInputAlone (line.Capture options) = IsInputAlone options
HasInputAlone (line.Merge options) = IsMergeInputAlone options

-- how many queries a conversation may have
abbrev pub RangeOfQueries : Type 0
RangeOfQueries = QUERIES ≡ record { least = 1; greatest = 1000 }
