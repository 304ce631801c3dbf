-- The events of a cell, one after the other.
use Rattle.std.proofs.Common.{◌≡◌, ℕ, zero, suc, ◌+◌, ◌-◌, ◌*◌, ◌/◌, ◌%◌, ◌<◌, ◌≤◌, ◌&&◌, ◌==◌, Bool, true, false, nat_lt, List, [], ◌∷◌, ◌++◌, map, length, Some, None, Ok, refl, sym, ap, ◌∙◌, subst, append_assoc, append-nil, arith, inr}
use Rattle.std.specs.Prelude.{not}
use Rattle.std.proofs.lemmas.Bool.{eqb-true}
use Rattle.std.specs.List.{All}
use Rattle.std.proofs.lemmas.List.{length-append, map-append}
use Rattle.std.proofs.lemmas.List.Elements.{All-append, All-cons, All-nil}
use Rattle.std.proofs.lemmas.Bool.Decides.{nat_tests}
use Rattle.std.proofs.Math.Nat.{mul-zero, mul_comm, mod-lt, div-add-mod, div-lt_iff_lt-mul}
use Rattle.cqlp_kind.specs.CellStep.{CellEvent, Leaf, Null, Empty, Enter, Leave, Part}
use Rattle.cqlp_kind.specs.declared.kind.Kind.{Kind}
use Rattle.cqlp_kind.specs.Types.{Types, NoMore, Type_and, how_many}
use Rattle.cqlp_grammar.specs.Events.{Event, Frame, Holds, Node_of, Cell_at, End, cell_event}
use Rattle.cqlp_grammar.specs.Events as event
use Rattle.cqlp_value.specs.Owned.{cell_type, value_of}
use Rattle.cqlp_value.specs.Values.{AreInRange, Values, values_bytes, values_fit, values_size}
use Rattle.cqlp_value.specs.declared.value.Value.{Value}
use Rattle.cqlp_note.specs.Heading.{has}
use Rattle.cqlp_message.specs.FrameValues.{FrameValue}
use Rattle.cqlp_message.specs.Parts.{Cell_is}
use Rattle.cqlp_message.specs.Agreement.{frame_agrees, is_response, message_agrees, there_if}
use Rattle.cqlp_message.specs.Owned.{frame_of}
use Rattle.cqlp_message.specs.Pages.{cells_bytes, cells_fit, cells_size, cells_wanted, fits_column, page_columns, page_unfit_of, types_of_page}
use Rattle.cqlp_message.specs.declared.frame.Frame.{Frame as OwnedFrame}
use Rattle.cqlp_message.proofs.PageCells.{cells_bytes_more, cells_size_more}
use Rattle.cqlp_message.proofs.PageFrames.{cell_parts, columns_described, is_page, next_fits, page_rows, wanted_is}
use Rattle.cqlp_build.specs.Productions.{column_type}
use Rattle.cqlp_build.specs.Emitted.{emitted}
use Rattle.cqlp_build.proofs.Steps.{emitted_append}
use Rattle.cqlp_build_cells.specs.Building.{AreEventsOf, CellState, Finishes, IsBuiltOf, cell_of, ends_cell, is_part, with_event}
use Rattle.cqlp_build_cells.specs.Said.{values_said}
use Rattle.cqlp_build_cells.proofs.Whole.{have_none, is_no_part, items_said}
use Rattle.cqlp_compose.specs.declared.place.PageProgress.{PageProgress}
use Rattle.cqlp_compose.specs.Places.{described_type}
use Rattle.cqlp_compose.specs.Cells.{CellsState, GoesOn, Takes, is_at, next_column, next_row, page, room, with_cell, within}
use Rattle.cqlp_compose.proofs.Columns.{column_is, type_is}
use Rattle.cqlp_compose.proofs.Rows.{column_fits, rows_more}
use Rattle.cqlp_compose.proofs.Sizes.{both}

pub join : (a b : Bool) → a ≡ true → b ≡ true → (a && b) ≡ true
join true true p q = refl
join true false p q = absurd cc
join false b p q = absurd cc

-- ---- one event

at_place : (row column r s : ℕ) (d c : CellEvent) → cell_event row column d ≡ Cell_at row column d → ((r == row) && (s == column)) ≡ true → cell_of (Cell_at r s d) ≡ Some c → Cell_at r s d ≡ cell_event row column c
at_place row column r s d c own at is =
    let p = both (r == row) (s == column) at in
    let one : r ≡ row = eqb-true r row p.0 in
    let two : s ≡ column = eqb-true s column p.1 in
    let same : d ≡ c = cc in
    (λ i. Cell_at (one i) (two i) d) ∙ sym own ∙ ap (cell_event row column) same

-- an event of this row and column is one of the cell there
event_is : (row column : ℕ) (e : Event) (c : CellEvent) → is_at row column e ≡ true → cell_of e ≡ Some c → e ≡ cell_event row column c
event_is row column (Frame h) c at is = absurd cc
event_is row column (Holds f v) c at is = absurd cc
event_is row column (Node_of k) c at is = absurd cc
event_is row column (End x) c at is = absurd cc
event_is row column (event.Leave level items) c at is =
    let same : Leave level items ≡ c = cc in
    ap (cell_event row column) same
event_is row column (Cell_at r s (Leave level items)) c at is = absurd cc
event_is row column (Cell_at r s (Leaf level v)) c at is = at_place row column r s (Leaf level v) c refl at is
event_is row column (Cell_at r s (Null level)) c at is = at_place row column r s (Null level) c refl at is
event_is row column (Cell_at r s (Empty level)) c at is = at_place row column r s (Empty level) c refl at is
event_is row column (Cell_at r s (Enter level k n)) c at is = at_place row column r s (Enter level k n) c refl at is
event_is row column (Cell_at r s (Part level offset b last)) c at is = at_place row column r s (Part level offset b last) c refl at is

whole_cell : (r s : ℕ) (d : CellEvent) → is_part (Cell_at r s d) ≡ false → is_no_part d ≡ true
whole_cell r s (Leaf level v) off = refl
whole_cell r s (Null level) off = refl
whole_cell r s (Empty level) off = refl
whole_cell r s (Enter level k n) off = refl
whole_cell r s (Leave level n) off = refl
whole_cell r s (Part level offset b last) off = absurd cc

-- which is no part
whole_is : (e : Event) (c : CellEvent) → is_part e ≡ false → cell_of e ≡ Some c → is_no_part c ≡ true
whole_is (Frame h) c off is = absurd cc
whole_is (Holds f v) c off is = absurd cc
whole_is (Node_of k) c off is = absurd cc
whole_is (End x) c off is = absurd cc
whole_is (event.Leave level items) c off is =
    let same : Leave level items ≡ c = cc in
    ap is_no_part (sym same)
whole_is (Cell_at r s d) c off is =
    let same : d ≡ c = cc in
    ap is_no_part (sym same) ∙ whole_cell r s d off

-- ---- after whole cells

-- These events are of whole cells, these are their bytes, and the page is behind them.
pub record Conforms (f : FrameValue) (n : ℕ) (es : List Event) (bytes : List ℕ) (p : PageProgress) : Type 0 where
  pub cells : List Values
  pub count : p.cells ≡ length cells
  pub few : length cells ≤ cells_wanted f.message
  pub events : emitted (cell_parts f.message cells) ≡ es
  pub fit : cells_fit f cells ≡ true
  pub size : p.free + cells_size cells ≡ n
  pub are : cells_bytes cells ≡ bytes
  pub range : All AreInRange cells

above : (rows c n : ℕ) → n < rows * c → 0 < c
above rows zero n lt = absurd (omega (arith, mul-zero rows))
above rows (suc c) n lt = omega arith

-- where the next cell is
record IsNext (m : ℕ) (rows columns : ℕ) : Type 0 where
  at : m ≡ m / columns * columns + m % columns
  column : m % columns < columns
  row : m / columns < rows

is_there : (m rows columns : ℕ) → m < rows * columns → IsNext m rows columns
is_there m rows columns lt =
    let some = above rows columns m lt in
    record {
      at = sym (div-add-mod m columns) ∙ ap (λ (x : ℕ). x + m % columns) (mul_comm columns (m / columns));
      column = mod-lt m some;
      row = (div-lt_iff_lt-mul some).1 lt;
    }

-- the metadata of a page agrees
metadata_in : (f : FrameValue) → frame_agrees f ≡ true → message_agrees f.message ≡ true
metadata_in f e =
    (both (not (has f.flags 0x01) && there_if (is_response f.message && has f.flags 0x02) f.tracing && there_if (is_response f.message && has f.flags 0x08) f.warnings && there_if (has f.flags 0x04) f.payload) (message_agrees f.message) e).1

module _ (f : OwnedFrame) (n : ℕ) (begins : page_unfit_of (frame_of f) n ≡ None) (es : List Event) (bytes : List ℕ) (p : PageProgress) (w : Values) (cs : List CellEvent) (s : Conforms (frame_of f) n es bytes p)
    (some : p.cells < cells_wanted (frame_of f).message) (short : values_size w ≤ p.free) (none : have_none cs ≡ true)
    (are : AreEventsOf cs (cell_type (described_type f (p.cells % page_columns (frame_of f).message))) w) (fits : values_fit (cell_type (described_type f (p.cells % page_columns (frame_of f).message))) w ≡ true) (range : AreInRange w) where
  abbrev g : FrameValue
  g = frame_of f

  abbrev ts : Types
  ts = types_of_page g.message

  abbrev row : ℕ
  row = p.cells / page_columns g.message

  abbrev column : ℕ
  column = p.cells % page_columns g.message

  abbrev own : Types
  own = cell_type (described_type f column)

  agrees : frame_agrees g ≡ true
  agrees = (is_page g n begins).agrees

  there : IsNext p.cells (page_rows g.message) (page_columns g.message)
  there = is_there p.cells (page_rows g.message) (page_columns g.message) (omega (arith, some, wanted_is g.message))

  many : how_many ts ≡ page_columns g.message
  many = columns_described g agrees

  within_types : column < how_many ts
  within_types = omega (arith, there.column, many)

  is_own : own ≡ column_type column ts
  is_own = type_is f.message column (metadata_in g agrees) there.column

  came : cs ≡ values_said 0 own w
  came = sym are.are ∙ items_said are.rules 0 are.at own w (inr (ap have_none are.are ∙ none))

  place : length s.cells ≡ row * how_many ts + column
  place = sym s.count ∙ there.at ∙ ap (λ (k : ℕ). row * k + column) (sym many)

  module _ (k : Kind) (inner : Types) (is : column_type column ts ≡ Type_and k inner NoMore) where
    more : cell_parts g.message (s.cells ++ w ∷ []) ≡ cell_parts g.message s.cells ++ Cell_is (0 + row) column k inner w ∷ []
    more = rows_more 0 ts (page_rows g.message) s.cells w row column k inner place within_types there.row is

    said : cs ≡ values_said 0 (Type_and k inner NoMore) w
    said = came ∙ ap (λ (t : Types). values_said 0 t w) (is_own ∙ is)

    emitted_more : emitted (cell_parts g.message (s.cells ++ w ∷ [])) ≡ es ++ map (cell_event row column) cs
    emitted_more =
        let first : 0 + row ≡ row = omega arith in
        ap emitted more ∙ emitted_append (cell_parts g.message s.cells) (Cell_is (0 + row) column k inner w ∷ [])
        ∙ (λ i. s.events i ++ (map (cell_event (first i) column) (sym said i) ++ []))
        ∙ ap (λ (r : List Event). es ++ r) (append-nil (map (cell_event row column) cs))

    fits_there : fits_column ts (length s.cells % page_columns g.message) w ≡ true
    fits_there =
        ap (λ (m : ℕ). fits_column ts (m % page_columns g.message) w) (sym s.count) ∙ column_fits ts column k inner w is
        ∙ ap (λ (t : Types). values_fit t w) (sym (is_own ∙ is)) ∙ fits

    fit_more : cells_fit g (s.cells ++ w ∷ []) ≡ true
    fit_more =
        next_fits g s.cells w agrees (omega (arith, some, s.count))
        ∙ join (cells_fit g s.cells) (fits_column ts (length s.cells % page_columns g.message) w) s.fit fits_there

  -- one cell more, whose events came
  pub one_more : (all : List Event) (long : List ℕ) → es ++ map (cell_event row column) cs ≡ all → bytes ++ values_bytes w ≡ long → Conforms g n all long (record { cells = p.cells + 1; free = p.free - values_size w })
  one_more all long e d =
      let has = column_is ts column within_types in
      record {
        cells = s.cells ++ w ∷ [];
        count = omega (arith, s.count, length-append s.cells (w ∷ []));
        few = omega (arith, some, s.count, length-append s.cells (w ∷ []));
        events = emitted_more has.0 has.1 has.2 ∙ e;
        fit = fit_more has.0 has.1 has.2;
        size = omega (arith, s.size, short, cells_size_more s.cells w);
        are = cells_bytes_more s.cells w ∙ ap (λ (b : List ℕ). b ++ values_bytes w) s.are ∙ d;
        range = All-append AreInRange s.cells (w ∷ []) s.range (All-cons AreInRange w [] range (All-nil AreInRange));
      }

-- ---- events of a cell

-- These events came behind these whole cells: some more whole cells, and the first events of the next.
pub record IsWithin (f : OwnedFrame) (n : ℕ) (es : List Event) (bytes : List ℕ) (s : CellsState) : Type 0 where
  pub frame : s.frame ≡ f
  pub before : List Event
  pub events : es ≡ before ++ map (cell_event (next_row s) (next_column s)) s.under.events
  pub whole : have_none s.under.events ≡ true
  pub conforms : Conforms (frame_of f) n before (bytes ++ s.bytes) s.place

none_more : (es : List CellEvent) (e : CellEvent) → have_none es ≡ true → is_no_part e ≡ true → have_none (es ++ e ∷ []) ≡ true
none_more [] e p q = join (is_no_part e) true q refl
none_more (x ∷ es) e p q =
    let r = both (is_no_part x) (have_none es) p in
    join (is_no_part x) (have_none (es ++ e ∷ [])) r.0 (none_more es e r.1 q)

less : (m n : ℕ) → nat_lt m n ≡ true → m < n
less m n e = grind (arith, nat_tests)

-- where a cell ends
module _ (f : OwnedFrame) (n : ℕ) (begins : page_unfit_of (frame_of f) n ≡ None) (es : List Event) (bytes : List ℕ) (s : CellsState) (some : s.place.cells < cells_wanted (page s).message) (w : IsWithin f n es bytes s) (v : Value)
    (made : Finishes s.under.events (described_type s.frame (next_column s)) (Ok v)) (short : values_size (value_of v) ≤ room s) (range : AreInRange (value_of v)) where
  built : IsBuiltOf s.under.events (cell_type (described_type f (s.place.cells % page_columns (frame_of f).message))) (value_of v)
  built = subst (λ (x : OwnedFrame). IsBuiltOf s.under.events (cell_type (described_type x (s.place.cells % page_columns (frame_of x).message))) (value_of v)) w.frame made.1

  here : w.before ++ map (cell_event (s.place.cells / page_columns (frame_of f).message) (s.place.cells % page_columns (frame_of f).message)) s.under.events ≡ es
  here =
      ap (λ (x : OwnedFrame). w.before ++ map (cell_event (s.place.cells / page_columns (frame_of x).message) (s.place.cells % page_columns (frame_of x).message)) s.under.events) (sym w.frame)
      ∙ sym w.events

  conforms_on : Conforms (frame_of f) n es (bytes ++ (s.bytes ++ values_bytes (value_of v))) (record { cells = s.place.cells + 1; free = s.place.free - values_size (value_of v) })
  conforms_on =
      let some_in : s.place.cells < cells_wanted (frame_of f).message = subst (λ (x : OwnedFrame). s.place.cells < cells_wanted (frame_of x).message) w.frame some in
      one_more f n begins w.before (bytes ++ s.bytes) s.place (value_of v) s.under.events w.conforms some_in (omega (arith, short)) w.whole built.are built.fits range
      es (bytes ++ (s.bytes ++ values_bytes (value_of v))) here (append_assoc bytes s.bytes (values_bytes (value_of v)))

  with_one : IsWithin f n es bytes (with_cell s (value_of v))
  with_one = record { frame = w.frame; before = es; events = sym (append-nil es); whole = refl; conforms = conforms_on }

-- where a cell ends or goes on
gone_on : (f : OwnedFrame) (n : ℕ) (begins : page_unfit_of (frame_of f) n ≡ None) (ends : Bool) (es : List Event) (bytes : List ℕ) (s new : CellsState) → s.place.cells < cells_wanted (page s).message → IsWithin f n es bytes s
    → GoesOn ends s (Ok tt) new → IsWithin f n es bytes new
gone_on f n begins false es bytes s new some w g =
    let on : IsWithin f n es bytes (record s { cut = true }) = record { frame = w.frame; before = w.before; events = w.events; whole = w.whole; conforms = w.conforms } in
    subst (λ (x : CellsState). IsWithin f n es bytes x) (sym g) on
gone_on f n begins true es bytes s new some w g =
    subst (λ (x : CellsState). IsWithin f n es bytes x) (sym g.3) (with_one f n begins es bytes s some w g.0 g.1 g.2 g.4)

module _ (f : OwnedFrame) (n : ℕ) (begins : page_unfit_of (frame_of f) n ≡ None) where
  pub takes_within : (es : List Event) (bytes : List ℕ) (old : CellsState) (e : Event) (new : CellsState) → IsWithin f n es bytes old → Takes old e (Ok tt) new → IsWithin f n (es ++ e ∷ []) bytes new
  takes_within es bytes old e new w t =
      let next = both (nat_lt old.place.cells (cells_wanted (page old).message)) (is_at (next_row old) (next_column old) e) t.0 in
      let taken = t.2.2 in
      let c : CellEvent = taken.2 in
      let is : e ≡ cell_event (next_row old) (next_column old) c = event_is (next_row old) (next_column old) e c next.1 taken.3 in
      let under : t.1 ≡ with_event old.under e c = taken.4 in
      let events : t.1.events ≡ old.under.events ++ c ∷ [] = ap (λ (u : CellState). u.events) under in
      let goes : IsWithin f n (es ++ e ∷ []) bytes (within old t.1) = record {
        frame = w.frame;
        before = w.before;
        events =
            (λ i. w.events i ++ is i ∷ [])
            ∙ append_assoc w.before (map (cell_event (next_row old) (next_column old)) old.under.events) (cell_event (next_row old) (next_column old) c ∷ [])
            ∙ ap (λ (r : List Event). w.before ++ r) (sym (map-append (cell_event (next_row old) (next_column old)) old.under.events (c ∷ [])))
            ∙ ap (λ (r : List CellEvent). w.before ++ map (cell_event (next_row old) (next_column old)) r) (sym events);
        whole = ap have_none events ∙ none_more old.under.events c w.whole (whole_is e c t.2.1 taken.3);
        conforms = w.conforms;
      } in
      gone_on f n begins (ends_cell e) (es ++ e ∷ []) bytes (within old t.1) new (less old.place.cells (cells_wanted (page old).message) next.0) goes t.3

-- where no cell is under way, none of its events are
pub goes_between : (ends : Bool) (s new : CellsState) → GoesOn ends s (Ok tt) new → new.cut ≡ false → new.under.events ≡ []
goes_between false s new g e = absurd (never (sym (ap (λ (x : CellsState). x.cut) g) ∙ e))
  where
    never : true ≡ false → ⊥
    never e = absurd cc
goes_between true s new g e = ap (λ (x : CellsState). x.under.events) g.3
