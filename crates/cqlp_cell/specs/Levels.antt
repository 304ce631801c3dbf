-- The innermost value that is open, in a caller's hands.
use Rattle.std.specs.Prelude.{◌≡◌, ℕ, ◌+◌, ◌-◌, ◌<◌, ◌≤◌, Bool, true, false, List, length, Option, Some, None, IsSome, slice_get}
use Rattle.std.specs.Prelude.{◌==◌, ⊤}
use Rattle.cqlp_kind.specs.declared.kind.Kind.{Kind}
use Rattle.cqlp_kind.specs.declared.node.Node.{Node}
use Rattle.cqlp_type.specs.Forests.{node_at}
use Rattle.cqlp_cell.specs.declared.level.Level.{Level}
use Rattle.cqlp_cell.specs.declared.level.PairKinds.{PairKinds}
use Rattle.cqlp_cell.specs.declared.open_values.Order.TheVariants as order
use Rattle.cqlp_cell.specs.declared.open_values.OpenValue.{OpenValue}
use Rattle.cqlp_cell.specs.declared.progress.NextInCell.{NextInCell}
use Rattle.cqlp_cell.specs.declared.progress.NextInCell.TheVariants as next
use Rattle.cqlp_cell.specs.declared.progress.Arrived.{Arrived}
use Rattle.cqlp_cell.specs.declared.progress.Arrived.TheVariants as arrived
use Rattle.cqlp_cell.specs.declared.whole.DueItem.{DueItem}
use Rattle.cqlp_cell.specs.OpenValues.{last_open, with_last}
use Rattle.cqlp_cell.specs.Progress.{CellState, HasNext, after_item, is_over}

-- ---- a level of a reader

abbrev pub level_in : CellState → Option OpenValue → Option Level
level_in d None = None
level_in d (Some o) = Some (record { value = o; level = length d.open_values; offset = d.offset })

abbrev pub level_by : CellState → Arrived → NextInCell → Option Level
level_by d arrived.Nothing next.Items = level_in d (last_open d.open_values)
level_by d u n = None

-- the innermost value that is open, where what is read next is in it and nothing of that has come
abbrev pub level_of : CellState → Option Level
level_of d = level_by d d.arrived d.next

-- where a reader is whose innermost value is this
abbrev pub with_level : CellState → Level → CellState
with_level d l = record d { offset = l.offset; open_values = with_last l.value d.open_values }

-- A reader is in some open value, of whose next item nothing has come, and as many are open as the level says.
pub record IsInLevel (d : CellState) (l : Level) : Type 0 where
  pub fresh : d.arrived ≡ arrived.Nothing
  pub items : d.next ≡ next.Items
  pub some : 0 < length d.open_values
  pub level : l.level ≡ length d.open_values

-- ---- the items of a level

-- The next item's type is in the table, and it begins in the value.
pub record NextFits (nodes : List Node) (l : Level) : Type 0 where
  pub next : HasNext nodes l.value l.value.order
  pub there : IsSome (slice_get nodes l.value.node)
  pub inside : l.offset ≤ l.value.stop

abbrev pub due_if : List Node → Level → (over : Bool) → Option DueItem
due_if nodes l true = None
due_if nodes l false =
    Some (record {
      at = l.offset;
      kind = (node_at nodes l.value.node).kind;
      room = l.value.stop - l.offset;
      level = l.level;
    })

-- the next item of a level; there is none exactly where the value is over
abbrev pub due_at : List Node → Level → Option DueItem
due_at nodes l = due_if nodes l (is_over l.value l.offset)

-- a level after its next item, which takes this many bytes
abbrev pub passed : List Node → Level → (used : ℕ) → Level
passed nodes l used = record l { value = after_item nodes l.value; offset = l.offset + used }

abbrev pub element_if : Level → Kind → (none : Bool) → Option DueItem
element_if l k true = None
element_if l k false = Some (record { at = l.offset; kind = k; room = l.value.stop - l.offset; level = l.level })

-- the next item of a list or a set, whose items are of this kind
abbrev pub due_element : Level → Kind → Option DueItem
due_element l k = element_if l k (l.value.left == 0)

-- a list or a set after its next item, which takes this many bytes
abbrev pub passed_element : Level → (used : ℕ) → Level
passed_element l used = record l { value = record l.value { left = l.value.left - 1 }; offset = l.offset + used }

-- ---- the items of a map

-- The next item is a key of a map, whose keys and values are of these kinds.
pub record IsPair (nodes : List Node) (l : Level) (key value : Kind) : Type 0 where
  pub at_key : l.value.order ≡ order.Keys
  pub of_key : key ≡ (node_at nodes l.value.node).kind
  pub of_value : value ≡ (node_at nodes l.value.other).kind

abbrev pub ArePair : List Node → Level → Option PairKinds → Type 0
ArePair nodes l None = ⊤
ArePair nodes l (Some p) = IsPair nodes l p.key p.value
