-- Where the reading of a cell is. Read the record of the reader first, then the part on what is still to be read, which makes of it the
-- symbols of cqlp_kind/specs/CellStep. What a call makes of it is in Reading.
use Rattle.std.specs.Prelude.{◌≡◌, ℕ, ◌+◌, ◌-◌, ◌^◌, ◌<◌, ◌≤◌, ◌++◌, Bool, true, false, ◌||◌, List, [], ◌∷◌, length, Option, Some}
use Rattle.std.specs.Prelude.{None, IsSome, slice_get, nat_le, ◌==◌}
use Rattle.cqlp_note.specs.Limits.{Rules, rules_asked}
use Rattle.cqlp_kind.specs.declared.kind.Kind.TheVariants as kind
use Rattle.cqlp_kind.specs.declared.node.Node.{Node}
use Rattle.cqlp_kind.specs.Types.{NoMore}
use Rattle.cqlp_cell.specs.declared.open_values.OpenValue.{OpenValue}
use Rattle.cqlp_cell.specs.declared.open_values.Order.{Order}
use Rattle.cqlp_cell.specs.declared.open_values.Order.TheVariants as order
use Rattle.cqlp_cell.specs.declared.progress.NextInCell.{NextInCell}
use Rattle.cqlp_cell.specs.declared.progress.NextInCell.TheVariants as next
use Rattle.cqlp_cell.specs.declared.progress.Arrived.{Arrived}
use Rattle.cqlp_cell.specs.declared.progress.Arrived.TheVariants as arrived
use Rattle.cqlp_cell.specs.declared.progress.CellDue.{CellDue}
use Rattle.cqlp_cell.specs.declared.progress.CellDue.TheVariants as due
use Rattle.cqlp_cell.specs.declared.progress.DueValue.{DueValue}
use Rattle.cqlp_cell.specs.declared.progress.CellProgress.{CellProgress}
use Rattle.cqlp_kind.specs.CellStep.{CellSymbol, Value_of, Items_of, Close_of, Content_from, CellPlace, cell_copies, values_of}
use Rattle.cqlp_kind.specs.CellStep.{lenient_excess}
use Rattle.cqlp_cell.specs.OpenValues.{last_open, with_last}
use Rattle.cqlp_type.specs.Forests.{types_at, node_at, Conform}

-- What contracts see of a reader: the caller's rules, the offset of what is read next and the end of the cell's
-- container, what is read next and how much of it has come, and the open values, the outermost first.
pub record CellState : Type 0 where
  pub rules : Rules
  pub offset : ℕ
  pub stop : ℕ
  pub next : NextInCell
  pub arrived : Arrived
  pub open_values : List OpenValue

abbrev pub state_of : {A : Type 0} → CellProgress A → CellState
state_of s =
    record {
      rules = rules_asked s.limits;
      offset = s.offset;
      stop = s.stop;
      next = s.next;
      arrived = s.arrived;
      open_values = s.open_values.open_values;
    }

-- As many values can be open as the limits allow, and parts have some byte.
abbrev pub IsLawful : {A : Type 0} → CellProgress A → Type 0
IsLawful s = (s.open_values.room ≡ s.limits.depth) × (s.limits.parts ≡ true → 0 < s.limits.cell)

abbrev pub is_some_next : NextInCell → Bool
is_some_next next.Nothing = false
is_some_next n = true

-- a cell is under way
abbrev pub is_under_way : CellState → Bool
is_under_way d = is_some_next d.next

-- no cell is under way
abbrev pub ended : CellState → CellState
ended d = record d { next = next.Nothing; arrived = arrived.Nothing; open_values = [] }

-- ---- what is still to be read

module _ (nodes : List Node) where
  -- one value of the type at this node
  abbrev pub value_symbols : (node level stop : ℕ) → List CellSymbol
  value_symbols node level stop = values_of (types_at nodes node 1) level stop

  -- a key and a value
  abbrev pub pair_symbols : (key value level stop : ℕ) → List CellSymbol
  pair_symbols key value level stop = value_symbols key level stop ++ value_symbols value level stop

  -- what is left of an open value
  abbrev pub left_of : (level : ℕ) → OpenValue → Order → List CellSymbol
  left_of level o order.Elements =
      cell_copies o.left (value_symbols o.node (level + 1) o.stop) ++ Close_of level o.stop o.items ∷ []
  left_of level o order.Keys =
      cell_copies o.left (pair_symbols o.node o.other (level + 1) o.stop) ++ Close_of level o.stop o.items ∷ []
  left_of level o order.Values =
      value_symbols o.node (level + 1) o.stop
      ++ (cell_copies o.left (pair_symbols o.other o.node (level + 1) o.stop) ++ Close_of level o.stop o.items ∷ [])
  left_of level o order.Fields = Items_of (types_at nodes o.node o.left) level o.stop o.items ∷ []

  abbrev pub open_symbols : (level : ℕ) → OpenValue → List CellSymbol
  open_symbols level o = left_of level o o.order

  abbrev pub all_open_symbols : (level : ℕ) → List OpenValue → List CellSymbol
  all_open_symbols level [] = []
  all_open_symbols level (o ∷ os) = all_open_symbols (level + 1) os ++ open_symbols level o

  abbrev pub cell_symbols : Option ℕ → (stop : ℕ) → List CellSymbol
  cell_symbols None stop = Value_of kind.Raw NoMore 0 stop ∷ []
  cell_symbols (Some node) stop = value_symbols node 0 stop

  abbrev pub symbols_for : (stop : ℕ) → List OpenValue → NextInCell → List CellSymbol
  symbols_for stop os next.Nothing = []
  symbols_for stop os (next.Cell node) = cell_symbols node stop
  symbols_for stop os next.Items = all_open_symbols 0 os
  symbols_for stop os (next.Part offset total) = Content_from (length os) offset total ∷ all_open_symbols 0 os

  -- where the reader is
  abbrev pub place : CellState → CellPlace
  place d = record { offset = d.offset; symbols = symbols_for d.stop d.open_values d.next }

  -- ---- the value that is read next

  abbrev pub value_at : (node stop : ℕ) → DueValue
  value_at node stop =
      record { kind = (node_at nodes node).kind; arity = (node_at nodes node).arity; inner = node + 1; stop = stop }

  abbrev pub raw_value : (stop : ℕ) → DueValue
  raw_value stop = record { kind = kind.Raw; arity = 0; inner = 0; stop = stop }

  abbrev pub value_in : Option OpenValue → DueValue
  value_in None = raw_value 0
  value_in (Some o) = value_at o.node o.stop

  abbrev pub cell_value : Option ℕ → (stop : ℕ) → DueValue
  cell_value None stop = raw_value stop
  cell_value (Some node) stop = value_at node stop

  abbrev pub value_for : (stop : ℕ) → List OpenValue → NextInCell → DueValue
  value_for stop os (next.Cell node) = cell_value node stop
  value_for stop os _ = value_in (last_open os)

  abbrev pub due_value : CellState → DueValue
  due_value d = value_for d.stop d.open_values d.next

  -- an open value after its next item
  abbrev pub after_item_by : OpenValue → Order → OpenValue
  after_item_by o order.Elements = record o { left = o.left - 1 }
  after_item_by o order.Keys = record o { order = order.Values; node = o.other; other = o.node; left = o.left - 1 }
  after_item_by o order.Values = record o { order = order.Keys; node = o.other; other = o.node }
  after_item_by o order.Fields =
      record o { node = o.node + (node_at nodes o.node).span; left = o.left - 1; items = o.items + 1 }

  abbrev pub after_item : OpenValue → OpenValue
  after_item o = after_item_by o o.order

  abbrev pub after_item_in : List OpenValue → Option OpenValue → List OpenValue
  after_item_in os None = os
  after_item_in os (Some o) = with_last (after_item o) os

  -- the open values after the value that is read next
  abbrev pub after_for : List OpenValue → NextInCell → List OpenValue
  after_for os next.Items = after_item_in os (last_open os)
  after_for os _ = os

  abbrev pub open_after : CellState → List OpenValue
  open_after d = after_for d.open_values d.next

  -- this many bytes further, after that value
  abbrev pub state_after : CellState → (size : ℕ) → CellState
  state_after d size =
      record d { offset = d.offset + size; next = next.Items; arrived = arrived.Nothing; open_values = open_after d }

  abbrev pub rest_of : CellState → List CellSymbol
  rest_of d = all_open_symbols 0 (open_after d)

-- ---- what comes next

abbrev pub over_by : OpenValue → (offset : ℕ) → Order → Bool
over_by o offset order.Elements = o.left == 0
over_by o offset order.Keys = o.left == 0
over_by o offset order.Values = false
over_by o offset order.Fields = (o.left == 0) || nat_le o.stop offset

-- no further item of an open value begins at this offset
abbrev pub is_over : OpenValue → (offset : ℕ) → Bool
is_over o offset = over_by o offset o.order

abbrev pub close_if : Bool → OpenValue → CellDue
close_if true o = due.Close o
close_if false o = due.Value

abbrev pub due_in : (offset : ℕ) → Option OpenValue → CellDue
due_in offset None = due.Nothing
due_in offset (Some o) = close_if (is_over o offset) o

abbrev pub due_for : (offset : ℕ) → List OpenValue → NextInCell → CellDue
due_for offset os next.Nothing = due.Nothing
due_for offset os (next.Cell _) = due.Value
due_for offset os (next.Part start total) = due.Part start total
due_for offset os next.Items = due_in offset (last_open os)

abbrev pub due_of : CellState → CellDue
due_of d = due_for d.offset d.open_values d.next

-- A lenient caller reads on behind the last field of an open value.
abbrev pub further_by : Rules → (left : ℕ) → Order → Bool
further_by l left order.Fields = lenient_excess l left
further_by l left _ = false

abbrev pub has_further : Rules → OpenValue → (offset : ℕ) → Bool
has_further l o offset = further_by l (o.stop - offset) o.order

-- ---- what is in the table

module _ (nodes : List Node) (l : Rules) where
  -- the types of the items that are left are in the table, and are not nested too deep
  abbrev pub TypesConform : (level : ℕ) → OpenValue → Order → Type 0
  TypesConform level o order.Fields = Conform nodes o.node o.left (l.depth - (level + 1)) × (o.items + o.left < 2 ^ 16)
  TypesConform level o order.Elements = Conform nodes o.node 1 (l.depth - (level + 1))
  TypesConform level o order.Keys =
      Conform nodes o.node 1 (l.depth - (level + 1)) × Conform nodes o.other 1 (l.depth - (level + 1))
  TypesConform level o order.Values =
      Conform nodes o.node 1 (l.depth - (level + 1)) × Conform nodes o.other 1 (l.depth - (level + 1))

  -- values that are open, one in the other, from this level on in a container that ends at stop
  abbrev pub AreOpen : (level stop : ℕ) → List OpenValue → Type 0
  AreOpen level stop [] = Unit {0}
  AreOpen level stop (o ∷ os) =
      (o.stop ≤ stop) × (level < l.depth) × TypesConform level o o.order × AreOpen (level + 1) o.stop os

  -- the cell's type is in the table, and is not nested too deep
  abbrev pub CellConforms : Option ℕ → Type 0
  CellConforms None = Unit {0}
  CellConforms (Some node) = Conform nodes node 1 l.depth

-- where the innermost value ends
abbrev pub last_stop : (stop : ℕ) → List OpenValue → ℕ
last_stop stop [] = stop
last_stop stop (o ∷ os) = last_stop o.stop os

-- the bytes that are sure to come before the innermost value ends
abbrev pub still_due : NextInCell → ℕ
still_due (next.Part offset total) = total - offset
still_due _ = 0

abbrev pub NextConforms : List Node → Rules → List OpenValue → NextInCell → Type 0
NextConforms nodes l os next.Nothing = os ≡ []
NextConforms nodes l os (next.Cell node) = (os ≡ []) × CellConforms nodes l node
NextConforms nodes l os next.Items = Unit {0}
NextConforms nodes l os (next.Part offset total) = (offset < total) × (0 < l.cell)

-- What is read next and the open values are in the table, one in the other.
pub record Conforms (nodes : List Node) (d : CellState) : Type 0 where
  pub open_conform : AreOpen nodes d.rules 0 d.stop d.open_values
  pub within : d.offset + still_due d.next ≤ last_stop d.stop d.open_values
  pub next_conforms : NextConforms nodes d.rules d.open_values d.next
  pub bounded : d.stop < 2 ^ 64

-- an open value has a next item, whose type is in the table
abbrev pub HasNext : List Node → OpenValue → Order → Type 0
HasNext nodes o order.Elements = 0 < o.left
HasNext nodes o order.Keys = 0 < o.left
HasNext nodes o order.Values = Unit {0}
HasNext nodes o order.Fields =
    (depth : ℕ) × (0 < o.left) × (o.items + o.left < 2 ^ 16) × Conform nodes o.node o.left depth

-- the node of a cell's type, if it has one, is there
abbrev pub CellThere : List Node → Option ℕ → Type 0
CellThere nodes None = Unit {0}
CellThere nodes (Some node) = IsSome (slice_get nodes node)
