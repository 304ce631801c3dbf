-- Pages whose cells are each one event (sections 4.2.5.2 and 6 of native_protocol_v4.spec).
use Rattle.std.specs.Prelude.{◌≡◌, ⊤, ℕ, ◌+◌, ◌++◌, List, [], ◌∷◌, length, Ok}
use Rattle.std.specs.List.{AllByRecursion}
use Rattle.cqlp_grammar.specs.Events.{Event, Frame as FrameEvent, Cell_at}
use Rattle.cqlp_message.specs.declared.frame.Frame.{Frame}
use Rattle.cqlp_message.specs.Owned.{frame_of}
use Rattle.cqlp_message.specs.Pages.{cells_wanted}
use Rattle.cqlp_compose.specs.declared.page.BegunPage.{BegunPage}
use Rattle.cqlp_compose.specs.Bare.{after, event_bytes, longest_cell}
use Rattle.cqlp_compose.specs.BatchLaws.{IsComposed, IsFrameWith}
use Rattle.cqlp_compose.specs.Begun.{Begins, rows_event}
use Rattle.cqlp_compose.specs.Composing.{ComposerState}
use Rattle.cqlp_compose.specs.Single.{IsNextCell}

-- The bytes are those of a frame with these events, of which the first is its header, whatever its length.
abbrev pub IsFrameOf : List Event → (bytes : List ℕ) → Type 0
IsFrameOf (FrameEvent h ∷ fields) bytes = IsFrameWith h fields bytes
IsFrameOf es bytes = ⊥

abbrev pub events_bytes : List Event → List ℕ
events_bytes [] = []
events_bytes (e ∷ es) = event_bytes e ++ events_bytes es

-- Each event is all of the next cell of a page after as many cells, up to the last.
abbrev pub AreCells : Frame → (cells : ℕ) → List Event → Type 0
AreCells f cells [] = cells ≡ cells_wanted (frame_of f).message
AreCells f cells (e ∷ es) = IsNextCell f (after cells) longest_cell e (event_bytes e) × AreCells f (cells + 1) es

abbrev pub IsCellEvent : Event → Type 0
IsCellEvent (Cell_at row column e) = ⊤
IsCellEvent e = ⊥

-- The bytes are those of a frame with these events, a page that is begun with those of its head and whose cells have the others, each all of a cell.
pub record IsCellPage (es : List Event) (bytes : List ℕ) : Type 0 where
  pub state : ComposerState
  pub rows : ℕ
  pub cells : List Event
  pub begun : BegunPage
  pub begins : Begins state rows (length (events_bytes cells)) (Ok begun)
  pub are : es ≡ state.frame.events ++ rows_event rows ∷ cells
  pub of_cells : AllByRecursion IsCellEvent cells
  pub bytes_are : bytes ≡ begun.head.items ++ events_bytes cells
  pub frame : IsFrameOf es bytes

-- Of the same events the same bytes are written as a page whose cells are each one event.
abbrev pub OneCellPage : Type 0
OneCellPage = (es : List Event) (one other : List ℕ) → IsCellPage es one → IsCellPage es other → one ≡ other

-- The same bytes are what a composer writes of these events, and it does not say that they are of no frame.
abbrev pub CellPageIsComposed : Type 0
CellPageIsComposed = (es : List Event) (bytes : List ℕ) → IsCellPage es bytes → IsComposed es bytes
