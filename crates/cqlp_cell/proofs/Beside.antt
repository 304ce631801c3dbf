-- The next cell of a container, which is looked into where a level is.
use Rattle.std.proofs.Common.{◌≡◌, ℕ, ◌+◌, ◌≤◌, List, length, refl, arith}
use Rattle.cqlp_kind.specs.declared.node.Node.{Node}
use Rattle.cqlp_cell.specs.declared.level.Level.{Level}
use Rattle.cqlp_cell.specs.declared.open_values.OpenValue.{OpenValue}
use Rattle.cqlp_cell.specs.OpenValues.{with_last}
use Rattle.cqlp_cell.specs.Progress.{CellState, state_after}
use Rattle.cqlp_cell.specs.Levels.{IsInLevel}
use Rattle.cqlp_cell.specs.Reading.{entered}
use Rattle.cqlp_cell.specs.Whole.{next_begun}
use Rattle.cqlp_cell.proofs.Levels.{with_only}

module _ (nodes : List Node) (d : CellState) (l : Level) (node : ℕ) (here : IsInLevel d l) (alone : l.level ≤ 1) where
  one : length d.open_values ≡ 1
  one = omega (arith, here.level, here.some, alone)

  -- a reader that goes on there is one that ended the cell and entered the next
  pub beside_is : (o : OpenValue) → record d { offset = l.offset + 8; open_values = with_last o d.open_values } ≡ entered (state_after nodes (next_begun d l node) 8) o
  beside_is o = rw (here.items, here.fresh, with_only d.open_values o one) refl
