-- The value that comes next.
use Rattle.std.specs.Prelude.{◌≡◌, ℕ, ◌+◌, ◌-◌, ◌^◌, ◌<◌, ◌≤◌, false, List, length}
use Rattle.cqlp_kind.specs.declared.node.Node.{Node}
use Rattle.cqlp_kind.specs.Types.{Types, has_no_items, HasInner}
use Rattle.cqlp_cell.specs.declared.progress.DueValue.{DueValue}
use Rattle.cqlp_note.specs.Step.{Step}
use Rattle.cqlp_kind.specs.CellStep.{CellEvent, CellPlace, cell_step, value_step}
use Rattle.cqlp_type.specs.Forests.{types_at, Conform}
use Rattle.cqlp_cell.specs.Progress.{CellState, place, due_value, open_after, rest_of, AreOpen, last_stop}

-- the types in a value
abbrev pub inner_of : List Node → DueValue → Types
inner_of nodes v = types_at nodes v.inner v.arity

-- the bytes from here to the end of the value around the next one
abbrev pub room_of : List Node → CellState → ℕ
room_of nodes d = (due_value nodes d).stop - d.offset

-- the step that reads the next value
abbrev pub due_step : List Node → CellState → Step CellEvent CellPlace
due_step nodes d =
    let v = due_value nodes d in
    value_step d.rules (place nodes d) (rest_of nodes d) v.kind (inner_of nodes v) (length d.open_values)
    (room_of nodes d)

-- The types in the value that comes next are in the table, and it can be opened.
pub record InnerDue (nodes : List Node) (d : CellState) : Type 0 where
  pub formed : HasInner (due_value nodes d).kind (due_value nodes d).arity
  pub conforms :
      let v = due_value nodes d in
      Conform nodes v.inner v.arity (d.rules.depth - (length d.open_values + 1))
  pub deep : length d.open_values < d.rules.depth

-- A value comes next.
pub record ValueDue (nodes : List Node) (d : CellState) : Type 0 where
  pub step : cell_step d.rules (place nodes d) ≡ due_step nodes d
  pub inside : d.offset ≤ (due_value nodes d).stop
  pub inner : has_no_items (due_value nodes d).kind ≡ false → InnerDue nodes d
  pub bounded : (due_value nodes d).stop < 2 ^ 64
  pub after : AreOpen nodes d.rules 0 d.stop (open_after nodes d)
  pub ends : last_stop d.stop (open_after nodes d) ≡ (due_value nodes d).stop
  pub level : length (open_after nodes d) ≡ length d.open_values
