-- Items that lie whole at the front of the input.
use Rattle.std.specs.Prelude.{◌≡◌, ℕ, true, List, [], length, Option, Some, None, ⊤}
use Rattle.cqlp_note.specs.Partial.{FieldState}
use Rattle.cqlp_kind.specs.declared.node.Node.{Node}
use Rattle.cqlp_cell.specs.declared.advance.CellOutline.{CellOutline}
use Rattle.cqlp_cell.specs.declared.advance.CellOutline.TheVariants as outline
use Rattle.cqlp_cell.specs.declared.advance.CellAdvance.TheVariants as advance
use Rattle.cqlp_cell.specs.declared.progress.CellDue.TheVariants as due
use Rattle.cqlp_cell.specs.declared.progress.NextInCell.TheVariants as next
use Rattle.cqlp_cell.specs.declared.progress.Arrived.TheVariants as arrived
use Rattle.cqlp_cell.specs.declared.whole.DueItem.{DueItem}
use Rattle.cqlp_cell.specs.declared.whole.BareItem.{BareItem}
use Rattle.cqlp_cell.specs.declared.whole.Entered.{Entered}
use Rattle.cqlp_cell.specs.declared.whole.BarePart.{BarePart}
use Rattle.cqlp_cell.specs.declared.whole.BarePart.TheVariants as bare
use Rattle.cqlp_cell.specs.Progress.{CellState, due_of, due_value}
use Rattle.cqlp_cell.specs.Coming.{room_of}
use Rattle.cqlp_cell.specs.declared.level.Level.{Level}
use Rattle.cqlp_cell.specs.Levels.{level_of, with_level}
use Rattle.cqlp_cell.specs.Pushing.{begun, is_done}
use Rattle.cqlp_cell.specs.Reading.{Joined, Moves}

abbrev pub outline_of : BarePart → CellOutline
outline_of (bare.Null level) = outline.Null level
outline_of (bare.Empty level) = outline.Empty level
outline_of (bare.Enter level k n) = outline.Enter level k n
outline_of (bare.Leave level n) = outline.Leave level n

-- Nothing has come of what is read next, and a call that begins with an empty buffer says that it is this item, of this
-- many bytes of the input, and leaves the `Partial` as it was.
pub record IsWhole (nodes : List Node) (old : CellState) (input : List ℕ) (at used : ℕ) (i : CellOutline)
    (new : CellState) : Type 0 where
  pub fresh : old.arrived ≡ arrived.Nothing
  pub moves : (p : FieldState) → Joined nodes old p → p.content ≡ []
      → Moves nodes old p input (advance.Item at used i) new p

-- The next item of the innermost value, of which nothing has come: it begins there, is of this kind, and has this much
-- room.
pub record IsDue (nodes : List Node) (d : CellState) (t : DueItem) : Type 0 where
  pub fresh : d.arrived ≡ arrived.Nothing
  pub items : d.next ≡ next.Items
  pub due : due_of d ≡ due.Value
  pub at : t.at ≡ d.offset
  pub kind : t.kind ≡ (due_value nodes d).kind
  pub room : t.room ≡ room_of nodes d
  pub level : t.level ≡ length d.open_values

-- What is next is this part, which has no content; or nothing is done.
abbrev pub TakesBare : List Node → CellState → List ℕ → Option BareItem → CellState → Type 0
TakesBare nodes old input None new = new ≡ old
TakesBare nodes old input (Some t) new = IsWhole nodes old input t.at t.used (outline_of t.part) new

-- What is next is the beginning of a list, a set or a map, and the reading is in it from now on; or nothing is done.
abbrev pub Enters : List Node → CellState → List ℕ → Option Entered → CellState → Type 0
Enters nodes old input None new = new ≡ old
Enters nodes old input (Some t) new =
    IsWhole nodes old input t.item.at t.item.used (outline_of t.item.part) new × (level_of new ≡ Some t.level)

-- What is next is the end of the cell, which takes no byte.
abbrev pub Leaves : List Node → CellState → BareItem → CellState → Type 0
Leaves nodes old t new =
    ((input : List ℕ) → IsWhole nodes old input t.at t.used (outline_of t.part) new) × (is_done new ≡ true)

-- What is next of a reader that is in a level is the end of the cell, which takes no byte; or nothing is said.
abbrev pub Ends : List Node → CellState → Level → Option BareItem → Type 0
Ends nodes d l None = ⊤
Ends nodes d l (Some t) = Leaves nodes (with_level d l) t (record d { offset = l.offset; open_values = [] })

-- where a reader would be that begins the next cell of its container, of the type at this node, where a level is
abbrev pub next_begun : CellState → Level → (node : ℕ) → CellState
next_begun d l node = begun d (Some node) l.offset d.stop

-- What is next there is the beginning of a list, a set or a map, and a reader that goes on where its level is has read
-- just that; or nothing is said.
abbrev pub EntersNext : List Node → CellState → Level → (node : ℕ) → List ℕ → Option Entered → Type 0
EntersNext nodes d l node input None = ⊤
EntersNext nodes d l node input (Some t) = Enters nodes (next_begun d l node) input (Some t) (with_level d t.level)
