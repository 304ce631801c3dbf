-- The cells of a page, handed straight to a sink.
use Rattle.std.specs.Prelude.{◌≡◌, ℕ, ◌+◌, ◌≤◌, ◌<◌, ◌*◌, Bool, true, false, List, [], ◌∷◌, ◌++◌, length, drop, Option, Some, None}
use Rattle.std.specs.Prelude.{Result, Ok, Err, ⊤}
use Rattle.cqlp_note.specs.Reader.{Got, says}
use Rattle.cqlp_note.specs.Limits.{Rules}
use Rattle.cqlp_kind.specs.declared.kind.Kind.{Kind}
use Rattle.cqlp_kind.specs.Types.{Types}
use Rattle.cqlp_kind.specs.CellStep.{CellEvent, CellSymbol, CellPlace, Null, Empty, place_after, value_step}
use Rattle.cqlp_cell.specs.Levels.{IsInLevel}
use Rattle.cqlp_cell.specs.declared.level.Level.{Level}
use Rattle.cqlp_decode.specs.declared.progress.StreamProgress.{StreamProgress}
use Rattle.cqlp_decode.specs.declared.step.FaultAfter.{FaultAfter}
use Rattle.cqlp_decode.specs.declared.item_loop.ItemsHanded.{ItemsHanded}
use Rattle.cqlp_decode.specs.declared.page_loop.Handed.{Handed}
use Rattle.cqlp_decode.specs.declared.page_loop.Handed.TheVariants as handed
use Rattle.cqlp_decode.specs.declared.page_loop.Bare.{Bare}
use Rattle.cqlp_decode.specs.declared.page_loop.Bare.TheVariants as bare
use Rattle.cqlp_decode.specs.Reading.{Event, cell_event}
use Rattle.cqlp_decode.specs.Progress.{StreamState, PartsState, IsConsistent, ends_due, state_of}
use Rattle.cqlp_decode.specs.Items.{TakesItem, at_level}

-- Where a cell of this kind is read, in a frame with this much room: these bytes say that all of it is this event.
pub record SaysCell (l : Rules) (k : Kind) (room : ℕ) (input : List ℕ) (used : ℕ) (e : CellEvent) : Type 0 where
  pub is : (p : CellPlace) (rest : List CellSymbol) (inner : Types)
      → says (value_step l p rest k inner 0 room) 0 input
      ≡ Got (record { at = p.offset; event = e; after = place_after p rest [] }) used
  pub within : used ≤ length input
  pub inside : used ≤ room
  pub some : 0 < used

-- the event of a value without a content
abbrev pub bare_event : Bare → CellEvent
bare_event bare.Null = Null 0
bare_event bare.Empty = Empty 0

-- a value without a content at the front of the input
abbrev pub IsBare : (room : ℕ) → (input : List ℕ) → Option Bare → Type 0
IsBare room input None = ⊤
IsBare room input (Some b) = (l : Rules) (k : Kind) → SaysCell l k room input 4 (bare_event b)

-- an event was handed out, which takes this many bytes: the sink has got it, or it failed there
abbrev pub HasHanded : (HasGot Failed : Type 0) → (used : ℕ) → Handed → Type 0
HasHanded HasGot Failed used handed.Left = ⊥
HasHanded HasGot Failed used (handed.Taken n) = (n ≡ used) × HasGot
HasHanded HasGot Failed used (handed.Fault n) = (n ≡ used) × Failed

-- Bytes say that a cell of this row and this column is an event, of which this holds.
pub record HandsCell (l : Rules) (k : Kind) (room : ℕ) (input : List ℕ) (row column used : ℕ) (Holds : Event → Type 0)
    : Type 0 where
  pub event : CellEvent
  pub says : SaysCell l k room input used event
  pub holds : Holds (cell_event row column event)

-- What became of the cell that is due: it was handed out, and the sink has got it, or it failed there.
abbrev pub HandsFront : Rules → Kind → (room : ℕ) → (input : List ℕ) → (row column : ℕ)
    → (HasGot Failed : Event → Type 0) → Handed → Type 0
HandsFront l k room input row column HasGot Failed handed.Left = ⊤
HandsFront l k room input row column HasGot Failed (handed.Taken used) = HandsCell l k room input row column used HasGot
HandsFront l k room input row column HasGot Failed (handed.Fault used) = HandsCell l k room input row column used Failed

-- No more bytes are used than there are, and two for each value that was opened.
abbrev pub UsesWithin : StreamState → List ℕ → Result ℕ FaultAfter → StreamState → Type 0
UsesWithin old input (Ok used) new =
    (used ≤ length input)
    × (ends_due new.place.symbols + new.open_values ≤ ends_due old.place.symbols + old.open_values + 2 * used)
UsesWithin old input (Err fault) new = fault.used ≤ length input

-- the same, where what the caller asked for and gave stays, and nothing is refused
abbrev pub StaysWithin : StreamState → List ℕ → Result ℕ FaultAfter → StreamState → Type 0
StaysWithin old input result new =
    UsesWithin old input result new × (new.refusal ≡ old.refusal) × (new.rules ≡ old.rules) × (new.given ≡ old.given)

-- ---- one item after the other

-- An item that was taken: its offset, how many bytes it takes, and its event.
pub record Item : Type 0 where
  pub at : ℕ
  pub used : ℕ
  pub event : Event

abbrev pub bytes_of : List Item → ℕ
bytes_of [] = 0
bytes_of (x ∷ xs) = x.used + bytes_of xs

abbrev pub emitted_of : List Item → List (ℕ × Event)
emitted_of [] = []
emitted_of (x ∷ xs) = (x.at, x.event) ∷ emitted_of xs

-- These items were taken one after the other, the first from the first byte of the input on.
abbrev pub TakesItems : StreamState → List ℕ → List Item → StreamState → Type 0
TakesItems old input [] new = new ≡ old
TakesItems old input (x ∷ xs) new =
    (mid : StreamState) × (old.refusal ≡ None) × TakesItem old input x.at x.used x.event mid
    × TakesItems mid (drop x.used input) xs new

-- What a sink has got: `Gets` says which sinks one leads to that gets an event.
module _ {S : Type 0} (Gets : S → ℕ → Event → S → Type 0) where
  -- It has got the events of these items, one after the other.
  abbrev pub GetsAll : S → List Item → S → Type 0
  GetsAll before [] after = after ≡ before
  GetsAll before (x ∷ xs) after = (mid : S) × Gets before x.at x.event mid × GetsAll mid xs after

  -- These items were taken, of this many bytes, and the sink has got just their events.
  pub record HandsOut (old new : StreamState) (input : List ℕ) (used : ℕ) (before after : S) : Type 0 where
    pub items : List Item
    pub takes : TakesItems old input items new
    pub all : used ≡ bytes_of items
    pub got : GetsAll before items after

  module _ (Fails : S → ℕ → Event → S → Type 0) where
    -- The same, and then one more item, at whose event the sink failed.
    pub record FailsAfter (old new : StreamState) (input : List ℕ) (used : ℕ) (before after : S) : Type 0 where
      pub items : List Item
      pub last : Item
      pub takes : TakesItems old input (items ++ last ∷ []) new
      pub all : used ≡ bytes_of (items ++ last ∷ [])
      pub mid : S
      pub got : GetsAll before items mid
      pub fault : Fails mid last.at last.event after

    -- what was handed out, by how it ends
    abbrev pub DrainsCells : StreamState → List ℕ → Result ℕ FaultAfter → StreamState → (before after : S) → Type 0
    DrainsCells old input (Ok used) new before after = HandsOut old new input used before after
    DrainsCells old input (Err fault) new before after = FailsAfter old new input fault.used before after

    abbrev pub EndsBy : (failed : Bool) → (old new : StreamState) → List ℕ → (used : ℕ) → (before after : S) → Type 0
    EndsBy false old new input used before after = HandsOut old new input used before after
    EndsBy true old new input used before after = FailsAfter old new input used before after

    -- the same of items of one value
    abbrev pub DrainsItems : StreamState → List ℕ → ItemsHanded → StreamState → (before after : S) → Type 0
    DrainsItems old input items new before after = EndsBy items.failed old new input items.used before after

    -- Items of a value were handed out, and its level is after them; the parts stay.
    pub record HandsItems (s : StreamProgress) (q : PartsState) (old new : Level) (input : List ℕ) (items : ItemsHanded)
        (before after : S) : Type 0 where
      -- the progress and the parts are consistent, with the new level as the innermost value
      pub lawful : IsConsistent s (at_level q new)
      -- as many values are open as the new level says, and nothing of the next item has come
      pub inside : IsInLevel q.cells new
      -- no more bytes are used than there are, and two for each value that was opened
      pub within : UsesWithin (state_of s (at_level q old)) input (Ok items.used) (state_of s (at_level q new))
      -- the sink has got just the events of these items, or failed at the last
      pub drains : DrainsItems (state_of s (at_level q old)) input items (state_of s (at_level q new)) before after
