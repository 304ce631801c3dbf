-- The items of cells, handed straight to a sink.
use Rattle.std.specs.Prelude.{◌≡◌, ◌==◌, ℕ, false, List, [], length, Option, Some, None, ⊤}
use Rattle.cqlp_note.specs.Limits.{Rules, with_lenient}
use Rattle.cqlp_kind.specs.declared.kind.Kind.{Kind}
use Rattle.cqlp_kind.specs.declared.node.Node.{Node}
use Rattle.cqlp_kind.specs.Scalars.{ScalarValue, allows_size}
use Rattle.cqlp_kind.specs.CellStep.{CellEvent}
use Rattle.cqlp_kind.specs.CellStep as cell
use Rattle.cqlp_cell.specs.Fronts.{SaysScalar}
use Rattle.cqlp_cell.specs.Levels.{IsInLevel, level_of, passed, with_level}
use Rattle.cqlp_cell.specs.Progress.{CellState}
use Rattle.cqlp_cell.specs.declared.whole.BareItem.{BareItem}
use Rattle.cqlp_cell.specs.declared.whole.Entered.{Entered}
use Rattle.cqlp_cell.specs.declared.level.Level.{Level}
use Rattle.cqlp_cell.specs.declared.whole.BarePart.{BarePart}
use Rattle.cqlp_cell.specs.declared.whole.BarePart.TheVariants as bare
use Rattle.cqlp_decode.specs.declared.item_loop.PartTaken.{PartTaken}
use Rattle.cqlp_decode.specs.declared.list_loop.NextList.{NextList}
use Rattle.cqlp_decode.specs.declared.progress.StreamProgress.{StreamProgress}
use Rattle.cqlp_decode.specs.declared.page_loop.Handed.{Handed}
use Rattle.cqlp_decode.specs.declared.page_loop.Handed.TheVariants as handed
use Rattle.cqlp_decode.specs.declared.page.CellCursor.{CellCursor}
use Rattle.cqlp_decode.specs.declared.progress.StreamStage.{StreamStage}
use Rattle.cqlp_decode.specs.declared.progress.StreamStage.TheVariants as stage
use Rattle.cqlp_decode.specs.Reading.{Event, cell_event}
use Rattle.cqlp_decode.specs.Progress.{StreamState, PartsState, Hands, IsConsistent, parts, state_of}

-- the event of a part of a cell that has no content
abbrev pub bare_event : BarePart → CellEvent
bare_event (bare.Null level) = cell.Null level
bare_event (bare.Empty level) = cell.Empty level
bare_event (bare.Enter level k n) = cell.Enter level k n
bare_event (bare.Leave level n) = cell.Leave level n

-- the same in the cell of a row and a column
abbrev pub part_emitted : (row column : ℕ) → BarePart → Event
part_emitted row column part = cell_event row column (bare_event part)

-- The first bytes of the input end an item, which is this event; what the caller asked for and gave stays.
abbrev pub TakesItem : StreamState → List ℕ → (at used : ℕ) → Event → StreamState → Type 0
TakesItem old input at used e new =
    (new.refusal ≡ old.refusal) × (new.rules ≡ old.rules) × (new.given ≡ old.given) × Hands old input at used e new

-- Bytes say that an item of this kind, in a value with this much room, is a scalar, of whose event this holds.
pub record SaysLeaf (l : Rules) (k : Kind) (room level : ℕ) (input : List ℕ) (row column used : ℕ)
    (Holds : Event → Type 0) : Type 0 where
  pub value : ScalarValue
  pub says : SaysScalar l k room input used value
  -- to a caller who is not lenient, too
  pub strictly : SaysScalar (with_lenient false l) k room input used value
  pub holds : Holds (cell_event row column (cell.Leaf level value))

-- Each content of this kind has this many bytes, unless it is empty.
abbrev pub IsWidth : Kind → Option ℕ → Type 0
IsWidth k None = ⊤
IsWidth k (Some width) = (n : ℕ) → allows_size k n ≡ (n == width)

-- What became of an item: it was handed out as a scalar, and the sink has got it, or it failed there.
abbrev pub HandsLeaf : Rules → Kind → (room level : ℕ) → List ℕ → (row column : ℕ) → (HasGot Failed : Event → Type 0)
    → Handed → Type 0
HandsLeaf l k room level input row column HasGot Failed handed.Left = ⊤
HandsLeaf l k room level input row column HasGot Failed (handed.Taken used) =
    SaysLeaf l k room level input row column used HasGot
HandsLeaf l k room level input row column HasGot Failed (handed.Fault used) =
    SaysLeaf l k room level input row column used Failed

-- The level goes on after an item that was handed out.
abbrev pub PassesItem : List Node → (old : Level) → Handed → (new : Level) → Type 0
PassesItem nodes old handed.Left new = new ≡ old
PassesItem nodes old (handed.Taken used) new = new ≡ passed nodes old used
PassesItem nodes old (handed.Fault used) new = new ≡ passed nodes old used

-- What became of the next item of a level: it was handed out as a scalar of this kind, or it is left.
pub record HandsNext {S : Type 0} (Gets Fails : S → ℕ → Event → S → Type 0) (l : Rules) (k : Kind) (old new : Level)
    (page : CellCursor) (rest : List ℕ) (result : Handed) (before after : S) : Type 0 where
  -- the sink stays, if the item is left
  pub left : result ≡ handed.Left → after ≡ before
  -- the level goes on after the item, if it was handed out
  pub passes : (nodes : List Node) → PassesItem nodes old result new
  -- the bytes say the item, and the sink has got its event, or failed there
  pub hands : HandsLeaf l k (length rest) old.level rest page.row page.column (λ e. Gets before old.offset e after)
      (λ e. Fails before old.offset e after) result

-- An item was taken, and of its offset and its event this holds.
pub record TakesOne (old : StreamState) (input : List ℕ) (used : ℕ) (Holds : ℕ → Event → Type 0) (new : StreamState)
    : Type 0 where
  pub at : ℕ
  pub event : Event
  pub takes : TakesItem old input at used event new
  pub holds : Holds at event

-- What became of the next item: it was taken, and the sink has got it, or it failed there; or nothing is done.
abbrev pub HandsItem : StreamState → List ℕ → (HasGot Failed : ℕ → Event → Type 0) → Handed → StreamState → Type 0
HandsItem old input HasGot Failed handed.Left new = new ≡ old
HandsItem old input HasGot Failed (handed.Taken used) new = TakesOne old input used HasGot new
HandsItem old input HasGot Failed (handed.Fault used) new = TakesOne old input used Failed new

-- the parts of a decoder, where the innermost value is this
abbrev pub at_level : PartsState → Level → PartsState
at_level q l = parts q.partial q.types (with_level q.cells l) q.table q.given

-- The reading is between two items of a value of this cell. The caller has the level of that value; the one that the parts
-- have may lag behind it.
pub record AtItems (s : StreamProgress) (q : PartsState) (l : Level) (page : CellCursor) : Type 0 where
  -- the progress and the parts are consistent, with this level as the innermost value
  pub lawful : IsConsistent s (at_level q l)
  -- as many values are open as the level says, and nothing of the next item has come
  pub inside : IsInLevel q.cells l
  -- the cell is under way
  pub here : s.stage ≡ stage.InCell page
  -- nothing is refused
  pub unrefused : s.refusal ≡ None
  -- the buffer is empty
  pub empty : q.partial.content ≡ []

-- What is next is this part, which has no content, or nothing is done.
abbrev pub TakesPart : StreamState → List ℕ → (row column : ℕ) → Option PartTaken → StreamState → Type 0
TakesPart old input row column None new = new ≡ old
TakesPart old input row column (Some t) new =
    TakesItem old input t.item.at t.item.used (part_emitted row column t.item.part) new

-- the cell that was under way still is, unless it is over
abbrev pub StaysIn : CellCursor → Option PartTaken → StreamStage → Type 0
StaysIn page None now = ⊤
StaysIn page (Some t) now = t.over ≡ false → now ≡ stage.InCell page

-- this cell is under way, if there is one
abbrev pub IsIn : Option CellCursor → StreamStage → Type 0
IsIn None now = ⊤
IsIn (Some page) now = now ≡ stage.InCell page

-- ---- cells with a count

-- What is next is the beginning of a list, a set or a map that a cell is, or nothing is done.
abbrev pub TakesEntry : StreamState → List ℕ → (row column : ℕ) → Option Entered → StreamState → Type 0
TakesEntry old input row column None new = new ≡ old
TakesEntry old input row column (Some t) new =
    TakesItem old input t.item.at t.item.used (part_emitted row column t.item.part) new

-- the reading of the cell is in this level, if there is one
abbrev pub ConformsIn : Option Entered → CellState → Type 0
ConformsIn None d = ⊤
ConformsIn (Some t) d = level_of d ≡ Some t.level

-- What is next is the end of the cell, which takes no byte.
abbrev pub LeavesCell : StreamState → (row column : ℕ) → BareItem → StreamState → Type 0
LeavesCell old row column t new =
    (input : List ℕ) → TakesItem old input t.at t.used (part_emitted row column t.part) new

-- From the end of a cell, at which a level is, the reading went on into the next, which is a list, a set or a map: the
-- end, which takes no byte, and the beginning. The parts stay, but for the level. Or nothing is done.
abbrev pub GoesToNext : StreamProgress → PartsState → Level → CellCursor → BareItem → List ℕ → Option NextList → StreamProgress → Type 0
GoesToNext old q l page end input None new = new ≡ old
GoesToNext old q l page end input (Some n) new =
    (mid : StreamState)
    × ((rest : List ℕ) → TakesItem (state_of old (at_level q l)) rest end.at end.used (part_emitted page.row page.column end.part) mid)
    × TakesItem mid input n.entered.item.at n.entered.item.used (part_emitted n.page.row n.page.column n.entered.item.part)
    (state_of new (at_level q n.entered.level))
    × IsConsistent new (at_level q n.entered.level)
    × IsInLevel q.cells n.entered.level
    × (new.stage ≡ stage.InCell n.page) × (new.refusal ≡ old.refusal)
