-- How far a cell was read, and what is left of it.
use Rattle.std.proofs.Common.{◌≡◌, ℕ, ◌+◌, ◌^◌, ◌<◌, ◌≤◌, true, false, List, [], ◌∷◌, ◌++◌, length, Option, Some, None, refl, arith}
use Rattle.std.proofs.lemmas.List.{length-append}
use Rattle.cqlp_note.specs.Partial.{FieldState}
use Rattle.cqlp_kind.specs.declared.kind.Kind.{Kind}
use Rattle.cqlp_kind.specs.declared.node.Node.{Node}
use Rattle.cqlp_kind.specs.Types.{Types, NoMore, Type_and}
use Rattle.cqlp_cell.specs.declared.open_values.OpenValue.{OpenValue}
use Rattle.cqlp_cell.specs.declared.open_values.Order.{Order}
use Rattle.cqlp_cell.specs.declared.open_values.Order.TheVariants as order
use Rattle.cqlp_cell.specs.declared.progress.NextInCell.{NextInCell}
use Rattle.cqlp_cell.specs.declared.progress.NextInCell.TheVariants as next
use Rattle.cqlp_cell.specs.declared.progress.Arrived.{Arrived}
use Rattle.cqlp_cell.specs.declared.progress.Arrived.TheVariants as arrived
use Rattle.cqlp_kind.specs.CellStep.{CellSymbol, Value_of}
use Rattle.cqlp_type.specs.Forests.{types_at}
use Rattle.cqlp_cell.specs.Progress.{CellState, left_of, open_symbols, all_open_symbols, symbols_for, place, Conforms}
use Rattle.cqlp_cell.specs.OpenValues.{last_open}
use Rattle.cqlp_cell.specs.Reading.{IsAfterItem, UnderBy, FurtherUnder, PartUnder, Joined, HaveCome}
use Rattle.cqlp_cell.specs.Pushing.{is_done, done_by}
use Rattle.cqlp_cell.proofs.Opened.{last_stop_le, close_next}
use Rattle.cqlp_cell.proofs.Coming.{value_due, close_items}

-- ---- how much has come

abbrev pub how_much : Arrived → (seen : ℕ) → ℕ
how_much arrived.Nothing seen = 0
how_much arrived.Length seen = seen
how_much arrived.Later seen = seen
how_much (arrived.Scalar n) seen = 4 + seen
how_much (arrived.Counted n) seen = 4 + seen
how_much (arrived.First n) seen = 4 + seen

pub come_long : (u : Arrived) (seen b : List ℕ) → HaveCome b u seen → length b ≡ how_much u (length seen)
come_long arrived.Nothing seen b h = rw h refl
come_long arrived.Length seen b h = rw h refl
come_long arrived.Later seen b h = rw h refl
come_long (arrived.Scalar n) seen b h = rw h.3 (omega (arith, length-append h.0 seen, h.1))
come_long (arrived.Counted n) seen b h = rw h.3 (omega (arith, length-append h.0 seen, h.1))
come_long (arrived.First n) seen b h = rw h.3 (omega (arith, length-append h.0 seen, h.1))

-- a cell begins before it ends
pub stop_is : (nodes : List Node) (d : CellState) → Conforms nodes d → d.offset ≤ d.stop
stop_is nodes d s = omega (arith, s.within, last_stop_le nodes d.rules 0 d.stop d.open_values s.open_conform)

module _ (nodes : List Node) (d : CellState) (p : FieldState) (s : Conforms nodes d) where
  further_below : (o : Option OpenValue) → FurtherUnder nodes d p o → d.offset + length p.seen < 2 ^ 64
  further_below None h = absurd h
  further_below (Some o) h =
      let m = (close_next nodes d s (close_items d o h.0) o h.0).0 in
      omega (arith, h.2.3, m.inside, m.innermost.within, last_stop_le nodes d.rules 0 d.stop m.front m.innermost.around, s.bounded)

  part_below : (n : NextInCell) → d.next ≡ n → PartUnder nodes d p n → d.offset + length p.seen < 2 ^ 64
  part_below next.Nothing e h = absurd h
  part_below (next.Cell _) e h = absurd h
  part_below next.Items e h = further_below (last_open d.open_values) h
  part_below (next.Part offset total) e h = omega (arith, h.3, rw e at s.within, last_stop_le nodes d.rules 0 d.stop d.open_values s.open_conform, s.bounded)

  come_below : (u : Arrived) → UnderBy nodes d p u → d.offset + how_much u (length p.seen) < 2 ^ 64
  come_below arrived.Nothing h = omega (arith, stop_is nodes d s, s.bounded)
  come_below arrived.Length h = let due = value_due nodes d s h.0 in omega (arith, h.1.2, h.1.4, due.bounded, due.inside)
  come_below arrived.Later h = part_below d.next refl h
  come_below (arrived.Scalar n) h = let due = value_due nodes d s h.0 in omega (arith, h.1.3, h.2.fits.0, due.bounded, due.inside)
  come_below (arrived.Counted n) h = let due = value_due nodes d s h.0 in omega (arith, h.1.2, h.1.4, h.2.fits.0, due.bounded, due.inside)
  come_below (arrived.First n) h = let due = value_due nodes d s h.0 in omega (arith, h.1.3, h.2.can.1, h.2.fits.0, due.bounded, due.inside)

  -- no offset of it is past what a u64 holds
  pub used_below : Joined nodes d p → d.offset + how_much d.arrived (length p.seen) < 2 ^ 64
  used_below j = come_below d.arrived j.under_way

-- ---- what is left

-- nothing is left of a cell that is whole
none_by : (nodes : List Node) (stop : ℕ) (os : List OpenValue) (n : NextInCell) → done_by n os ≡ true → symbols_for nodes stop os n ≡ []
none_by nodes stop [] next.Items t = refl
none_by nodes stop (o ∷ os) next.Items t = absurd cc
none_by nodes stop os next.Nothing t = absurd cc
none_by nodes stop os (next.Cell _) t = absurd cc
none_by nodes stop os (next.Part offset total) t = absurd cc

pub left_none : (nodes : List Node) (d : CellState) → is_done d ≡ true → (place nodes d).symbols ≡ []
left_none nodes d t = none_by nodes d.stop d.open_values d.next t

some_behind : (xs ys : List CellSymbol) → xs ++ ys ≡ [] → ys ≡ []
some_behind [] ys e = e
some_behind (x ∷ xs) ys e = absurd cc

some_closing : (xs : List CellSymbol) (y : CellSymbol) → xs ++ y ∷ [] ≡ [] → ⊥
some_closing xs y e = let no : ◌≡◌ {A = List CellSymbol} (y ∷ []) [] = some_behind xs (y ∷ []) e in absurd cc

-- something is left of each open value
open_left : (nodes : List Node) (level : ℕ) (o : OpenValue) (k : Order) → left_of nodes level o k ≡ [] → ⊥
open_left nodes level o order.Elements e = some_closing _ _ e
open_left nodes level o order.Keys e = some_closing _ _ e
open_left nodes level o order.Values e = some_closing _ _ (some_behind _ _ e)
open_left nodes level o order.Fields e = absurd cc

some_by : (nodes : List Node) (stop : ℕ) (os : List OpenValue) (n : NextInCell) → IsAfterItem n → done_by n os ≡ false → symbols_for nodes stop os n ≡ [] → ⊥
some_by nodes stop [] next.Items b f e = absurd cc
some_by nodes stop (o ∷ os) next.Items b f e = open_left nodes 0 o o.order (some_behind (all_open_symbols nodes 1 os) (open_symbols nodes 0 o) e)
some_by nodes stop os next.Nothing b f e = absurd b
some_by nodes stop os (next.Cell _) b f e = absurd b
some_by nodes stop os (next.Part offset total) b f e = absurd cc

-- and something of one that is not whole
pub left_some : (nodes : List Node) (d : CellState) → Conforms nodes d → IsAfterItem d.next → is_done d ≡ false → (place nodes d).symbols ≡ [] → ⊥
left_some nodes d s b f e = some_by nodes d.stop d.open_values d.next b f e

-- all of a cell is left where it begins
pub due_there : (nodes : List Node) (d : CellState) (i : ℕ) (x : Kind) (inner : Types) → d.next ≡ next.Cell (Some i) → types_at nodes i 1 ≡ Type_and x inner NoMore → (place nodes d).symbols ≡ Value_of x inner 0 d.stop ∷ []
due_there nodes d i x inner e t = rw (e, t) refl
