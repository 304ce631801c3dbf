-- A cell at the front of the bytes that are left of a page.
use Rattle.std.specs.Prelude.{◌≡◌, ◌≢◌, ℕ, ◌+◌, ◌≤◌, false, true, List, [], ◌∷◌, ◌++◌, length, take, drop, Result, Ok, Err, ⊤}
use Rattle.std.specs.Int.{w32}
use Rattle.cqlp_note.specs.declared.refusal.Reason.{Reason}
use Rattle.cqlp_note.specs.Limits.{Rules}
use Rattle.cqlp_note.specs.Reader.{Bad, Got, Said, says}
use Rattle.cqlp_note.specs.Spelling.{IsNumber}
use Rattle.cqlp_note.specs.Step.{Emitted, Runs}
use Rattle.cqlp_kind.specs.declared.kind.Kind.{Kind}
use Rattle.cqlp_kind.specs.Contents.{value_of}
use Rattle.cqlp_kind.specs.Types.{NoMore, Types, has_no_items}
use Rattle.cqlp_kind.specs.CellStep.{CellEvent, CellPlace, CellSymbol, Value_of, cell_step, content_step, place_after}
use Rattle.cqlp_kind.specs.CellStep as event
use Rattle.cqlp_read_value.specs.declared.cell.PageCell.{PageCell}
use Rattle.cqlp_read_value.specs.declared.cell.CellContent.{CellContent}
use Rattle.cqlp_read_value.specs.declared.cell.CellContent.TheVariants as content
use Rattle.cqlp_read_value.specs.Fronts.{value_at}

-- The step at a cell of this kind, in a page that ends with these bytes, says: this event, and that so many bytes are used; or what
-- the step at the content says; or this refusal, at the cell's first byte.
module _ (l : Rules) (k : Kind) (inner : Types) (b : List ℕ) (p : CellPlace) (level : ℕ) (rest : List CellSymbol) where
  abbrev pub event_says : CellEvent → (used : ℕ) → Said (Emitted CellEvent CellPlace) (ℕ × Reason)
  event_says e used = Got (record { at = p.offset; event = e; after = place_after p rest [] }) used

  abbrev pub content_says : (used : ℕ) → CellContent → Said (Emitted CellEvent CellPlace) (ℕ × Reason)
  content_says used content.Null = event_says (event.Null level) used
  content_says used content.Empty = event_says (event.Empty level) used
  content_says used (content.Scalar s) = event_says (event.Leaf level (value_of s)) used
  content_says used (content.Items c) = says (content_step l p rest level k inner (length c.now)) 4 (drop 4 b)

  abbrev pub cell_says : Result PageCell Reason → Said (Emitted CellEvent CellPlace) (ℕ × Reason)
  cell_says (Ok c) = content_says c.used c.content
  cell_says (Err why) = Bad (p.offset, why)

-- a content whose items are still to be read lies after the number of its bytes, and is of a kind that has items
abbrev pub Lies : Kind → List ℕ → (used : ℕ) → CellContent → Type 0
Lies k b used (content.Items c) =
    (has_no_items k ≡ false) × (c.now ≢ []) × (used ≡ 4 + length c.now)
    × IsNumber 4 w32 (length c.now) (take 4 b) × (c.now ≡ take (length c.now) (drop 4 b))
Lies k b used c = ⊤

abbrev pub LiesWithin : Kind → List ℕ → Result PageCell Reason → Type 0
LiesWithin k b (Ok c) = (c.used ≤ length b) × Lies k b c.used c.content
LiesWithin k b (Err why) = ⊤

-- Wherever a cell of this kind begins, and its page's frame ends with these bytes: reading says just this of it.
abbrev pub IsCell : Rules → Kind → List ℕ → Result PageCell Reason → Type 0
IsCell l k b r =
    LiesWithin k b r
    × ((inner : Types) (at level : ℕ) (rest : List CellSymbol)
    → let p = value_at at k inner b level rest in
    says (cell_step l p) 0 b ≡ cell_says l k inner b p level rest r)

-- ---- one answer

abbrev pub AreSameContents : CellContent → CellContent → Type 0
AreSameContents content.Null content.Null = ⊤
AreSameContents content.Empty content.Empty = ⊤
AreSameContents (content.Scalar s) (content.Scalar t) = value_of s ≡ value_of t
AreSameContents (content.Items c) (content.Items d) = c.now ≡ d.now
AreSameContents c d = ⊥

-- as many bytes and the same content, wherever that lies; or the same refusal
abbrev pub AreSameCells : Result PageCell Reason → Result PageCell Reason → Type 0
AreSameCells (Ok c) (Ok d) = (c.used ≡ d.used) × AreSameContents c.content d.content
AreSameCells (Err why) (Err other) = why ≡ other
AreSameCells r s = ⊥

-- Of the same bytes, kind and limits there is one answer.
abbrev pub OneAnswerOfReadCell : Type 0
OneAnswerOfReadCell =
    (l : Rules) (k : Kind) (b : List ℕ) (r s : Result PageCell Reason) → IsCell l k b r → IsCell l k b s → AreSameCells r s

-- ---- cell after cell

abbrev pub event_of : CellContent → CellEvent
event_of content.Null = event.Null 0
event_of content.Empty = event.Empty 0
event_of (content.Scalar s) = event.Leaf 0 (value_of s)
event_of (content.Items c) = event.Empty 0

-- scalars of these kinds, in a page that ends there
abbrev pub scalars_of : List Kind → (stop : ℕ) → List CellSymbol
scalars_of [] stop = []
scalars_of (k ∷ ks) stop = Value_of k NoMore 0 stop ∷ scalars_of ks stop

abbrev pub before_cells : (at : ℕ) → List Kind → List ℕ → CellPlace
before_cells at ks b = record { offset = at; symbols = scalars_of ks (at + length b) }

-- the events of these cells, which begin there
abbrev pub events_of : (at : ℕ) → List PageCell → List (ℕ × CellEvent)
events_of at [] = []
events_of at (c ∷ cs) = (at, event_of c.content) ∷ events_of (at + c.used) cs

abbrev pub used_by : List PageCell → ℕ
used_by [] = 0
used_by (c ∷ cs) = c.used + used_by cs

-- What is read at the front of these bytes, of each kind in turn and each behind the cell before it, is these cells.
abbrev pub AreRead : Rules → List Kind → List ℕ → List PageCell → Type 0
AreRead l [] b [] = ⊤
AreRead l (k ∷ ks) b (c ∷ cs) = (has_no_items k ≡ true) × IsCell l k b (Ok c) × AreRead l ks (drop c.used b) cs
AreRead l ks b cs = ⊥

-- Where cells of a page that ends with these bytes are read one behind the other: reading the page says their events, each at its
-- offset, and is behind them; and it refuses what is refused there, at that byte for that reason.
abbrev pub CellsAreReading : Type 0
CellsAreReading =
    (l : Rules) (ks more : List Kind) (at : ℕ) (b : List ℕ) (cs : List PageCell) → AreRead l ks b cs
    → let left = drop (used_by cs) b in
    let there = before_cells (at + used_by cs) more left in
    Runs (cell_step l) (before_cells at (ks ++ more) b) b (events_of at cs) there left
    × ((k : Kind) (others : List Kind) (why : Reason) → more ≡ k ∷ others → IsCell l k left (Err why)
    → says (cell_step l there) 0 left ≡ Bad (at + used_by cs, why))
