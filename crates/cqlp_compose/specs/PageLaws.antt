-- Laws of pages that are written of the events of their cells.
use Rattle.std.specs.Prelude.{◌≡◌, ◌++◌, ◌⊎◌, ℕ, true, List, [], ◌∷◌, None, Result, Ok, Err}
use Rattle.std.specs.List.{All, flat_map}
use Rattle.cqlp_grammar.specs.Events.{Event, Frame, End}
use Rattle.cqlp_value.specs.Values.{AreInRange, Values}
use Rattle.cqlp_message.specs.declared.frame.Frame.{Frame as OwnedFrame}
use Rattle.cqlp_message.specs.FrameValues.{FrameValue}
use Rattle.cqlp_message.specs.Owned.{frame_of}
use Rattle.cqlp_message.specs.Parts.{parts_size}
use Rattle.cqlp_message.specs.Frames.{frame_bytes, frame_parts, header_of, unfit_of}
use Rattle.cqlp_message.specs.Pages.{page_head, page_unfit_of, with_cells}
use Rattle.cqlp_build.specs.Building.{AreEventsOf, is_built}
use Rattle.cqlp_build.specs.Closing.{Ends}
use Rattle.cqlp_build.specs.Emitted.{emitted}
use Rattle.cqlp_build_cells.specs.Building.{ends_cell}
use Rattle.cqlp_build_cells.specs.declared.builder.CellLimits.{CellLimits}
use Rattle.cqlp_build_cells.specs.declared.error.CellError.TheVariants as cell_error
use Rattle.cqlp_compose.specs.declared.cells.WrittenCells.{WrittenCells}
use Rattle.cqlp_compose.specs.declared.error.PageCellError.{PageCellError}
use Rattle.cqlp_compose.specs.declared.error.PageCellError.TheVariants as error
use Rattle.cqlp_compose.specs.declared.place.PageProgress.{PageProgress}
use Rattle.cqlp_compose.specs.Places.{first_place, is_done}
use Rattle.cqlp_compose.specs.Cells.{CellsState, Gives, Takes, begun, without_cell}
use Rattle.cqlp_compose.specs.Measures.{events_size}

abbrev pub Answer : Type 0
Answer = Result (Unit {0}) PageCellError

-- Memory was refused, for the event, and nothing changed; or, at the last event of a cell, for the cell, which is forgotten.
abbrev pub LacksMemory : (old : CellsState) → Event → Answer → (after : CellsState) → Type 0
LacksMemory old e a after =
    (a ≡ Err (error.Cell cell_error.NoMemory)) × ((after ≡ old) ⊎ ((ends_cell e ≡ true) × (after ≡ without_cell old)))

-- An event has one answer and leaves one state, unless memory was refused.
abbrev pub OneAnswer : Type 0
OneAnswer =
    (old : CellsState) (e : Event) (a b : Answer) (after_a after_b : CellsState)
    → Takes old e a after_a → Takes old e b after_b
    → ((a ≡ b) × (after_a ≡ after_b)) ⊎ (LacksMemory old e a after_a ⊎ LacksMemory old e b after_b)

-- ---- a page in pieces

-- These events were taken, one after the other.
abbrev pub TakesAll : CellsState → List Event → CellsState → Type 0
TakesAll s [] new = new ≡ s
TakesAll s (e ∷ es) new = (mid : CellsState) × Takes s e (Ok tt) mid × TakesAll mid es new

-- Behind this place of a page these events were taken, and these bytes given, behind which the page is there.
pub record IsPiece (f : OwnedFrame) (old : PageProgress) (es : List Event) (bytes : List ℕ) (new : PageProgress) : Type 0 where
  pub limits : CellLimits
  pub end : CellsState
  pub taken : TakesAll (begun f old limits) es end
  pub cells : WrittenCells
  pub given : Gives end (Ok cells)
  pub place : new ≡ cells.place
  pub bytes_are : bytes ≡ cells.bytes.items

-- Pieces one after the other, each with its events and its bytes.
abbrev pub ArePieces : OwnedFrame → PageProgress → List (List Event × List ℕ) → PageProgress → Type 0
ArePieces f old [] new = new ≡ old
ArePieces f old (p ∷ ps) new = (mid : PageProgress) × IsPiece f old p.0 p.1 mid × ArePieces f mid ps new

abbrev pub all_events : List (List Event × List ℕ) → List Event
all_events ps = flat_map (λ p. p.0) ps

abbrev pub all_bytes : List (List Event × List ℕ) → List ℕ
all_bytes ps = flat_map (λ p. p.1) ps

-- the header of a frame
abbrev pub own_header : FrameValue → Event
own_header f = Frame (header_of f (parts_size (frame_parts f)))

-- The bytes are those of the page with some cells, which nothing keeps from being spelled; and its events are its header, what is reported of
-- the page without cells, these, and an end. These cover n bytes. The numbers of the cells are in the ranges of their types.
pub record IsPageOf (f : FrameValue) (n : ℕ) (es : List Event) (bytes : List ℕ) : Type 0 where
  pub cells : List Values
  pub are : AreEventsOf (own_header (with_cells f cells) ∷ (emitted (frame_parts f) ++ es) ++ End 0 ∷ []) (with_cells f cells) 0
  pub spelled : unfit_of (with_cells f cells) ≡ None
  pub written : bytes ≡ frame_bytes (with_cells f cells)
  pub size : events_size es ≡ n
  pub range : All AreInRange cells

-- A page that is begun, and whose cells are all written in pieces, of their events: what is written in all is the frame that has these events.
abbrev pub PageHasItsEvents : Type 0
PageHasItsEvents =
    (f : OwnedFrame) (n : ℕ) (pieces : List (List Event × List ℕ)) (end : PageProgress)
    → page_unfit_of (frame_of f) n ≡ None → ArePieces f (first_place n) pieces end → is_done (frame_of f) end ≡ true
    → IsPageOf (frame_of f) n (all_events pieces) (page_head (frame_of f) n ++ all_bytes pieces)

-- Where a builder gives a frame of the page's header, of whatever length, of the events of it without cells, and of these events, that frame
-- is the page: what is written of it, and of its events by `Composer`, is the same.
abbrev pub PageIsBuilt : Type 0
PageIsBuilt =
    (f : FrameValue) (n k : ℕ) (es : List Event) (bytes : List ℕ) (g : OwnedFrame)
    → IsPageOf f n es bytes → is_built f.message ≡ true → Ends (Frame (header_of f k) ∷ emitted (frame_parts f) ++ es) (Ok g)
    → bytes ≡ frame_bytes (frame_of g)
