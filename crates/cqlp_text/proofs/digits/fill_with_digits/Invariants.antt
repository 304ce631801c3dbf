use Rattle.std.proofs.Common.{◌≡◌, ◌≤◌, ◌++◌, length, drop}
use Rattle.cqlp_text.specs.CellText.{digits}
use Rattle.cqlp_text.proofs.digits.fill_with_digits.Given as goal

abbrev pub invariant-loop-at : goal.invariant-loop-at
invariant-loop-at l =
    (l.at ≤ length l.room) × (digits l.at l.left ++ drop l.at l.room ≡ digits (length l.fn.room) l.fn.number)

abbrev pub decreases-loop-at : goal.decreases-loop-at
decreases-loop-at l = l.at
