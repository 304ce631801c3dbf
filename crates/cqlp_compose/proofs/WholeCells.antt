-- A cell of one event is put as it is built and written.
use Rattle.std.proofs.Common.{◌≡◌, ℕ, ◌+◌, ◌-◌, ◌<◌, ◌≤◌, ◌^◌, ◌++◌, ◌&&◌, Bool, true, false, List, [], ◌∷◌, drop, length, Option, Some, None, Result, Ok, Err, refl, sym, ap, ◌∙◌, subst, arith, append-nil}
use Rattle.std.proofs.lemmas.Bool.{eq-eqb}
use Rattle.std.specs.declared.alloc.Global.{Global}
use Rattle.cqlp_kind.specs.declared.kind.Kind.{Kind}
use Rattle.cqlp_kind.specs.Scalars.{ScalarValue, Custom, Ascii, Blob, Decimal, Varchar, Varint, Raw, IsInRange, content_of, kind_of, scalar_fits}
use Rattle.cqlp_kind.specs.Types.{Types, NoMore, Type_and, id_of, is_kind}
use Rattle.cqlp_kind.specs.CellStep.{CellEvent, Leaf, Null, Empty, Enter, Leave, Part}
use Rattle.cqlp_type.specs.declared.tree.TypeTree.{TypeTree}
use Rattle.cqlp_grammar.specs.Events.{Event, Frame as FrameEvent, Holds, Node_of, Cell_at, Leave as LeaveEvent, End}
use Rattle.cqlp_value.specs.declared.value.Value.{Value, Null as NullValue, Empty as EmptyValue, Leaf as LeafValue}
use Rattle.cqlp_value.specs.declared.value.Atom.{Atom}
use Rattle.cqlp_value.specs.Owned.{cell_type, value_of}
use Rattle.cqlp_value.specs.Values.{Values, NoValue, Null_and, Empty_and, Scalar_and, AreInRange, values_bytes, values_size}
use Rattle.cqlp_message.specs.declared.frame.Frame.{Frame}
use Rattle.cqlp_build_cells.specs.declared.builder.CellLimits.{CellLimits}
use Rattle.cqlp_build_cells.specs.Building.{CellState, Finishes, IsBuiltOf, TakesEvent, content_size, empty, ends, ends_cell, is_formed, is_of, is_part, scalar_size, with_event}
use Rattle.cqlp_compose.specs.declared.place.PageProgress.{PageProgress}
use Rattle.cqlp_compose.specs.declared.cells.WrittenCells.{WrittenCells}
use Rattle.cqlp_compose.specs.declared.error.PageCellError.{PageCellError}
use Rattle.cqlp_compose.specs.declared.error.PageCellError.TheVariants as cell_error
use Rattle.cqlp_compose.specs.declared.error.PutError.TheVariants as error
use Rattle.cqlp_compose.specs.declared.put.PutCells.{PutCells}
use Rattle.cqlp_compose.specs.Cells.{CellsState, Ends, GoesOn, Takes, begun, is_next, next_column, room, with_cell, within, without_cell}
use Rattle.cqlp_compose.specs.Places.{described_type}
use Rattle.cqlp_compose.specs.Put.{Answer, AreGiven, Ended, PutterState, Puts, fresh, fresh_putter, putter, within as put_within}
use Rattle.cqlp_compose.specs.Single.{IsCellOfKind, IsNextCell, IsNextKind, IsPlain, IsScalarCell, IsWholeCell, PutsCell, PutsNull, PutsScalar, after_cell, null_bytes, with_length}
use Rattle.cqlp_compose.proofs.CellTaking.{goes_true}
use Rattle.cqlp_compose.proofs.Lent.{a_vec, an_atom}
use Rattle.cqlp_compose.proofs.OneEvent.{leaf_built, null_built, empty_built}
use Rattle.cqlp_compose.proofs.Putting.{none_under_way, put_end, refused}

-- ---- the value of one event

-- What is made of one event for a cell of this type: a value, which is written as these bytes.
record IsMadeOf (most : ℕ) (t : Option TypeTree) (e : CellEvent) (bytes : List ℕ) : Type 0 where
  pub value : Value
  pub built : Finishes (e ∷ []) t (Ok value)
  pub range : AreInRange (value_of value)
  pub written : values_bytes (value_of value) ≡ bytes
  pub size : values_size (value_of value) ≡ length bytes
  pub last : ends e ≡ true
  pub short : (row column : ℕ) → content_size (Cell_at row column e) ≤ most
  pub whole : (row column : ℕ) → is_part (Cell_at row column e) ≡ false

fit_parts : (a b : Bool) → a ≡ true → b ≡ true → ((a && b) && true) ≡ true
fit_parts true true p q = refl
fit_parts false b p q = absurd cc
fit_parts true false p q = absurd cc

pub size_most : (v : ScalarValue) → scalar_size v ≤ length (content_of v)
size_most (Custom c) = omega arith
size_most (Ascii c) = omega arith
size_most (Blob c) = omega arith
size_most (Decimal scale c) = omega arith
size_most (Varchar c) = omega arith
size_most (Varint c) = omega arith
size_most (Raw c) = omega arith
size_most v = omega arith

module _ (g : Global) (most : ℕ) (t : Option TypeTree) (k : Kind) (plain : IsPlain t k) (bytes : List ℕ) where
  built_as : (es : List CellEvent) (v : Value) (w : Values) → value_of v ≡ w → IsBuiltOf es (Type_and k NoMore NoMore) w → Finishes es t (Ok v)
  built_as es v w is b =
      let own = subst (λ (x : Values). IsBuiltOf es (Type_and k NoMore NoMore) x) (sym is) b in
      (plain.1, subst (λ (ts : Types). IsBuiltOf es ts (value_of v)) (sym plain.0) own)

  made_leaf : (v : ScalarValue) → IsScalarCell most k v bytes → IsMadeOf most t (Leaf 0 v) bytes
  made_leaf v s =
      let a = an_atom g v s.2 (omega (arith, s.3, s.4)) in
      let is : value_of (LeafValue a.0) ≡ Scalar_and v NoValue = ap (λ (x : ScalarValue). Scalar_and x NoValue) a.1 in
      let long : values_size (Scalar_and v NoValue) ≡ length (with_length (content_of v)) = omega arith in
      let kinds : is_kind (kind_of v) k ≡ true = eq-eqb _ _ (ap id_of s.0) in
      record {
        value = LeafValue a.0;
        built = built_as (Leaf 0 v ∷ []) (LeafValue a.0) (Scalar_and v NoValue) is (leaf_built k v (fit_parts _ _ kinds s.1));
        range = subst (λ (x : Values). AreInRange x) (sym is) (s.2, tt);
        written = ap values_bytes is ∙ append-nil _ ∙ sym s.5;
        size = ap values_size is ∙ long ∙ sym (ap length s.5);
        last = refl;
        short = λ row column. omega (arith, size_most v, s.3);
        whole = λ row column. refl;
      }

  made_null : bytes ≡ null_bytes → IsMadeOf most t (Null 0) bytes
  made_null is =
      let long : 4 ≡ length null_bytes = refl in
      record {
        value = NullValue;
        built = built_as (Null 0 ∷ []) NullValue (Null_and NoValue) refl (null_built k);
        range = tt;
        written = append-nil _ ∙ sym is;
        size = long ∙ sym (ap length is);
        last = refl;
        short = λ row column. omega arith;
        whole = λ row column. refl;
      }

  made_empty : bytes ≡ with_length [] → IsMadeOf most t (Empty 0) bytes
  made_empty is =
      let long : 4 ≡ length (with_length []) = refl in
      record {
        value = EmptyValue;
        built = built_as (Empty 0 ∷ []) EmptyValue (Empty_and NoValue) refl (empty_built k);
        range = tt;
        written = append-nil _ ∙ sym is;
        size = long ∙ sym (ap length is);
        last = refl;
        short = λ row column. omega arith;
        whole = λ row column. refl;
      }

  made : (e : CellEvent) → IsCellOfKind most k e bytes → IsMadeOf most t e bytes
  made (Leaf level v) s = subst (λ (n : ℕ). IsMadeOf most t (Leaf n v) bytes) (sym s.0) (made_leaf v s.1)
  made (Null level) s = subst (λ (n : ℕ). IsMadeOf most t (Null n) bytes) (sym s.0) (made_null s.1)
  made (Empty level) s = subst (λ (n : ℕ). IsMadeOf most t (Empty n) bytes) (sym s.0) (made_empty s.1)
  made (Enter level j n) s = absurd s
  made (Leave level n) s = absurd s
  made (Part level offset c last) s = absurd s

-- ---- the cell in the page

module _ (g : Global) (f : Frame) (p : PageProgress) (limits : CellLimits) (row column : ℕ) (e : CellEvent) (bytes : List ℕ)
    (m : IsMadeOf limits.bytes (described_type f (next_column (begun f p limits))) e bytes)
    (next : is_next (begun f p limits) (Cell_at row column e) ≡ true) (some : 0 < limits.events) where
  abbrev event : Event
  event = Cell_at row column e

  abbrev old : CellsState
  old = begun f p limits

  abbrev under : CellState
  under = with_event (empty limits) event e

  abbrev held : CellsState
  held = within old under

  abbrev mid : CellsState
  mid = with_cell held (value_of m.value)

  taken : TakesEvent (empty limits) event (Ok tt) under
  taken = (refl, m.whole row column, (some, m.short row column, e, refl, refl))

  put_taken : length bytes ≤ room old → Takes old event (Ok tt) mid
  put_taken le = (
    next,
    under,
    taken,
    goes_true (ends_cell event) held (Ok tt) mid m.last (m.value, m.built, subst (λ (n : ℕ). n ≤ room old) (sym m.size) le, refl, m.range),
  )

  past_taken : room old < length bytes → Takes old event (Err cell_error.PastLength) (without_cell held)
  past_taken lt = (
    next,
    under,
    taken,
    goes_true (ends_cell event) held (Err cell_error.PastLength) (without_cell held) m.last (m.value, m.built, subst (λ (n : ℕ). room old < n) (sym m.size) lt, refl),
  )

  abbrev page : PutterState
  page = fresh_putter f p limits

  given : length bytes < 2 ^ 32 + 4 → AreGiven mid
  given short =
      let small : length (values_bytes (value_of m.value)) < 2 ^ 63 = omega (arith, ap length m.written, short) in
      (record { place = mid.place; bytes = a_vec g (values_bytes (value_of m.value)) small }, (refl, refl, refl))

  puts : (n : ℕ) (r : Answer) (out : List ℕ) (new : PutterState) → length bytes < 2 ^ 32 + 4 → PutsCell page bytes n r out new → Puts page event n r out new
  puts n (Ok None) out new short x = absurd x
  puts n (Ok (Some len)) out new short x =
      put_end page event n mid (Ok (Some len)) out new m.last (put_taken x.3) (
        x.0 ∙ sym m.written,
        x.1 ∙ ap length (sym x.0),
        subst (λ (b : List ℕ). length b ≤ n) (sym x.0) x.2,
        x.4 ∙ ap (λ (size : ℕ). fresh page (after_cell p size)) (sym m.size),
        given short,
      )
  puts n (Err (error.NoRoom len)) out new short x =
      put_end page event n mid (Err (error.NoRoom len)) out new m.last (put_taken x.3) (
        x.0,
        x.1 ∙ ap length (sym m.written),
        subst (λ (b : List ℕ). n < length b) (sym m.written) x.2,
        x.4,
      )
  puts n (Err (error.Cell cell_error.PastLength)) out new short x = (without_cell held, past_taken x.1, x.0, x.2)
  puts n (Err (error.Cell cell_error.NotEnded)) out new short x = absurd x
  puts n (Err (error.Cell (cell_error.Cell why))) out new short x = absurd x

-- the bytes of a cell are few
pub next_short : (f : Frame) (p : PageProgress) (limits : CellLimits) (event : Event) (cell : List ℕ) → IsNextCell f p limits event cell → length cell < 2 ^ 32 + 4
next_short f p limits (Cell_at row column (Leaf level v)) cell i =
    let s = i.3.2.1 in
    let long : length (with_length (content_of v)) ≡ 4 + length (content_of v) = omega arith in
    omega (arith, ap length s.5, long, s.3, s.4)
next_short f p limits (Cell_at row column (Null level)) cell i = omega (arith, ap length i.3.2.1)
next_short f p limits (Cell_at row column (Empty level)) cell i = omega (arith, ap length i.3.2.1)
next_short f p limits (Cell_at row column (Enter level j n)) cell i = absurd i.3.2
next_short f p limits (Cell_at row column (Leave level n)) cell i = absurd i.3.2
next_short f p limits (Cell_at row column (Part level offset c last)) cell i = absurd i.3.2
next_short f p limits (FrameEvent h) cell i = absurd i.3
next_short f p limits (Holds _ v) cell i = absurd i.3
next_short f p limits (Node_of o) cell i = absurd i.3
next_short f p limits (LeaveEvent level items) cell i = absurd i.3
next_short f p limits (End x) cell i = absurd i.3

-- The next cell is put as a builder and a writer put it.
pub puts_cell : (g : Global) (f : Frame) (p : PageProgress) (limits : CellLimits) (event : Event) (cell : List ℕ) (n : ℕ) (r : Answer) (out : List ℕ) (new : PutterState)
    → IsNextCell f p limits event cell → PutsCell (fresh_putter f p limits) cell n r out new → Puts (fresh_putter f p limits) event n r out new
puts_cell g f p limits (Cell_at row column e) cell n r out new i x =
    let w = i.3 in
    puts g f p limits row column e cell (made g limits.bytes (described_type f (next_column (begun f p limits))) w.0 w.1 cell e w.2) i.0 i.1 n r out new
    (next_short f p limits (Cell_at row column e) cell i) x
puts_cell g f p limits (FrameEvent h) cell n r out new i x = absurd i.3
puts_cell g f p limits (Holds _ v) cell n r out new i x = absurd i.3
puts_cell g f p limits (Node_of o) cell n r out new i x = absurd i.3
puts_cell g f p limits (LeaveEvent level items) cell n r out new i x = absurd i.3
puts_cell g f p limits (End x) cell n r out new i y = absurd i.3

-- ---- a scalar of the kind of the next cell

-- the bytes of its cell are few
pub scalar_short : (most : ℕ) (k : Kind) (v : ScalarValue) (cell : List ℕ) → IsScalarCell most k v cell → length cell < 2 ^ 32 + 4
scalar_short most k v cell s =
    let long : length (with_length (content_of v)) ≡ 4 + length (content_of v) = omega arith in
    omega (arith, ap length s.5, long, s.3, s.4)

pub null_short : length null_bytes < 2 ^ 32 + 4
null_short =
    let long : 4 ≡ length null_bytes = refl in
    omega (arith, long)

-- It is put as its event is.
as_event : (was new : PutCells) (k : Kind) (e : CellEvent) (cell bytes before : List ℕ) → IsCellOfKind was.limits.bytes k e cell → (row column len : ℕ)
    → is_next (begun was.frame.now was.place was.limits) (Cell_at row column e) ≡ true → PutsCell (putter was) cell (length before) (Ok (Some len)) bytes (putter new)
    → IsNextKind was row column k → Puts (putter was) (Cell_at row column e) (length before) (Ok (Some len)) bytes (putter new)
as_event was new k e cell bytes before is row column len at x n =
    let f = was.frame.now in
    let event : Event = Cell_at row column e in
    let same = none_under_way f was.limits was.place was.place was.cells n.0 refl in
    let put = subst (λ (t : PutterState). PutsCell t cell (length before) (Ok (Some len)) bytes (putter new)) same x in
    let next : IsNextCell f was.place was.limits event cell = (at, n.2, n.3, (k, n.4, is)) in
    let puts = puts_cell was.alloc f was.place was.limits event cell (length before) (Ok (Some len)) bytes (putter new) next put in
    subst (λ (t : PutterState). Puts t event (length before) (Ok (Some len)) bytes (putter new)) (sym same) puts

pub scalar_put : (was new : PutCells) (k : Kind) (v : ScalarValue) (cell bytes before after : List ℕ) → IsScalarCell was.limits.bytes k v cell → after ≡ bytes ++ drop (length bytes) before
    → (len : Option ℕ) → PutsCell (putter was) cell (length before) (Ok len) bytes (putter new) → PutsScalar was k v before len new after
scalar_put was new k v cell bytes before after is changed (Some len) x =
    (bytes, λ row column n. as_event was new k (Leaf 0 v) cell bytes before (refl, is) row column len n.1 x n, changed)
scalar_put was new k v cell bytes before after is changed None x = absurd x

pub null_put : (was new : PutCells) (bytes before after : List ℕ) → after ≡ bytes ++ drop (length bytes) before
    → (len : Option ℕ) → PutsCell (putter was) null_bytes (length before) (Ok len) bytes (putter new) → PutsNull was before len new after
null_put was new bytes before after changed (Some len) x =
    (bytes, λ row column k n. as_event was new k (Null 0) null_bytes bytes before (refl, refl) row column len n.1 x n, changed)
null_put was new bytes before after changed None x = absurd x
