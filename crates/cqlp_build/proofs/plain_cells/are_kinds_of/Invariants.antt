use Rattle.std.proofs.Common.{◌≡◌, ℕ, ◌+◌, drop, length, map}
use Rattle.cqlp_message.specs.Bodies.{column_types}
use Rattle.cqlp_message.specs.Owned.{spec_of}
use Rattle.cqlp_build.specs.Plain.{kind_types}
use Rattle.cqlp_build.proofs.plain_cells.are_kinds_of.Given as goal

-- all columns are of these kinds where those from this one on are
abbrev pub invariant-loop-column : goal.invariant-loop-column
invariant-loop-column l =
    (n : ℕ) → l.column + n ≡ length l.specs → column_types (map spec_of (drop l.column l.specs)) ≡ kind_types l.kinds.items l.column n
    → column_types (map spec_of l.specs) ≡ kind_types l.kinds.items 0 (length l.specs)
