-- Laws of pages that are put in batches.
use Rattle.std.specs.Prelude.{◌≡◌, ⊤, ℕ, ◌++◌, ◌⊎◌, true, List, [], ◌∷◌, Option, None, Result, Ok, Err}
use Rattle.std.specs.List.{flat_map}
use Rattle.cqlp_note.specs.declared.header.Header.{Header}
use Rattle.cqlp_grammar.specs.Events.{Event, Frame}
use Rattle.cqlp_message.specs.declared.frame.Frame.{Frame as OwnedFrame}
use Rattle.cqlp_message.specs.FrameValues.{FrameValue}
use Rattle.cqlp_message.specs.Frames.{FrameIsInRange, frame_bytes, frame_parts, header_of, unfit_of}
use Rattle.cqlp_message.specs.Owned.{frame_of}
use Rattle.cqlp_build.specs.declared.error.BuildError.TheVariants as build_error
use Rattle.cqlp_build.specs.declared.error.BuildError.{BuildError}
use Rattle.cqlp_build.specs.Building.{AreEventsOf, HaveNoParts, is_built}
use Rattle.cqlp_build.specs.Closing.{closed}
use Rattle.cqlp_build.specs.Emitted.{emitted}
use Rattle.cqlp_compose.specs.Composing.{ComposerState, IsOfNone, IsWrittenOf}
use Rattle.cqlp_build_cells.specs.declared.builder.CellLimits.{CellLimits}
use Rattle.cqlp_build_cells.specs.declared.error.CellError.TheVariants as cell_error
use Rattle.cqlp_compose.specs.declared.error.PageCellError.TheVariants as page_error
use Rattle.cqlp_compose.specs.declared.place.PageProgress.{PageProgress}
use Rattle.cqlp_compose.specs.PageLaws.{IsPageOf}
use Rattle.cqlp_compose.specs.declared.error.BeginError.{BeginError}
use Rattle.cqlp_compose.specs.declared.error.BeginError.TheVariants as error
use Rattle.cqlp_compose.specs.declared.error.PutError.TheVariants as put_error
use Rattle.cqlp_compose.specs.declared.page.BegunPage.{BegunPage}
use Rattle.cqlp_compose.specs.Begun.{Begins, ends, rows_event}
use Rattle.cqlp_compose.specs.Put.{Answer, PutterState, Puts, fresh, fresh_putter}

-- ---- one answer

-- two answers of `begin`: one page, wherever it lies in memory, and one head; or one reason
abbrev pub AreSame : (a b : Result BegunPage BeginError) → Type 0
AreSame (Ok x) (Ok y) = (frame_of x.page.frame ≡ frame_of y.page.frame) × (x.page.place ≡ y.page.place) × (x.head.items ≡ y.head.items)
AreSame (Err (error.Build build_error.NoMemory)) b = ⊤
AreSame a (Err (error.Build build_error.NoMemory)) = ⊤
AreSame (Err a) (Err b) = a ≡ b
AreSame a b = ⊥

-- Of the same events, rows and bytes there is one answer, but where memory is refused.
abbrev pub OneAnswerOfBegin : Type 0
OneAnswerOfBegin =
    (s : ComposerState) (n len : ℕ) (a b : Result BegunPage BeginError) → Begins s n len a → Begins s n len b → AreSame a b

abbrev pub no_memory : Answer
no_memory = Err (put_error.Cell (page_error.Cell cell_error.NoMemory))

-- Memory was refused: the cell under way is forgotten, and nothing is put.
abbrev pub LacksMemory : (old : PutterState) → Answer → (bytes : List ℕ) → (after : PutterState) → Type 0
LacksMemory old a bytes after = (a ≡ no_memory) × (bytes ≡ []) × (after ≡ fresh old old.place)

-- An event has one answer, puts the same bytes and leaves one state, but where memory is refused.
abbrev pub OneAnswer : Type 0
OneAnswer =
    (old : PutterState) (e : Event) (n : ℕ) (a b : Answer) (one other : List ℕ) (after_a after_b : PutterState)
    → Puts old e n a one after_a → Puts old e n b other after_b
    → ((a ≡ b) × (one ≡ other) × (after_a ≡ after_b)) ⊎ (LacksMemory old a one after_a ⊎ LacksMemory old b other after_b)

-- ---- a page in batches

-- These events were taken one after the other, in rooms of whatever sizes, and these bytes put.
abbrev pub PutsAll : PutterState → List Event → (bytes : List ℕ) → PutterState → Type 0
PutsAll s [] bytes new = (bytes ≡ []) × (new ≡ s)
PutsAll s (e ∷ es) bytes new =
    (n : ℕ) × (len : Option ℕ) × (first rest : List ℕ) × (mid : PutterState)
    × Puts s e n (Ok len) first mid × PutsAll mid es rest new × (bytes ≡ first ++ rest)

-- From one place of a page to another these events were put as whole cells.
pub record IsBatch (f : OwnedFrame) (old : PageProgress) (es : List Event) (bytes : List ℕ) (new : PageProgress) : Type 0 where
  pub limits : CellLimits
  pub puts : PutsAll (fresh_putter f old limits) es bytes (fresh_putter f new limits)

-- Batches one after the other, each with its events and its bytes.
abbrev pub AreBatches : OwnedFrame → PageProgress → List (List Event × List ℕ) → PageProgress → Type 0
AreBatches f old [] new = new ≡ old
AreBatches f old (b ∷ bs) new = (mid : PageProgress) × IsBatch f old b.0 b.1 mid × AreBatches f mid bs new

abbrev pub events_of : List (List Event × List ℕ) → List Event
events_of bs = flat_map (λ b. b.0) bs

abbrev pub bytes_of : List (List Event × List ℕ) → List ℕ
bytes_of bs = flat_map (λ b. b.1) bs

-- The bytes are those of a frame that some bytes spell, whose numbers are in their ranges, and its events are this header, with the length of its body, these fields and an end, no scalar
-- of a cell in parts.
pub record IsFrameWith (h : Header) (fields : List Event) (bytes : List ℕ) : Type 0 where
  pub frame : FrameValue
  pub size : ℕ
  pub are : AreEventsOf (closed h size fields) frame 0
  pub spelled : unfit_of frame ≡ None
  pub built : is_built frame.message ≡ true
  pub written : bytes ≡ frame_bytes frame
  pub whole : HaveNoParts fields
  pub range : FrameIsInRange frame

-- A page that is begun with a header and fields, and a count of its rows, and whose cells are all put in batches: what was written in all is the frame that has
-- these events.
abbrev pub PageIsWritten : Type 0
PageIsWritten =
    (s : ComposerState) (h : Header) (fields : List Event) (rows len : ℕ) (b : BegunPage) (batches : List (List Event × List ℕ)) (end : PageProgress)
    → s.frame.events ≡ Frame h ∷ fields → Begins s rows len (Ok b)
    → AreBatches b.page.frame b.page.place batches end → ends (frame_of b.page.frame) end ≡ Ok tt
    → IsFrameWith h (fields ++ rows_event rows ∷ events_of batches) (b.head.items ++ bytes_of batches)

-- ---- a page whose events a composer takes

-- What a composer writes of these events is these bytes; and it does not say that they are of no frame, but that memory is refused.
abbrev pub IsComposed : List Event → (bytes : List ℕ) → Type 0
IsComposed es bytes =
    ((other : List ℕ) → IsWrittenOf es other → other ≡ bytes) × ((why : BuildError) → IsOfNone es why → why ≡ build_error.NoMemory)

-- Of the header of a page, of whatever length, of the events of it without cells, and of the events of all pieces in which its cells were written, a composer
-- writes the same bytes.
abbrev pub PageIsComposed : Type 0
PageIsComposed =
    (f : FrameValue) (n k : ℕ) (es : List Event) (bytes : List ℕ)
    → IsPageOf f n es bytes → is_built f.message ≡ true → IsComposed (Frame (header_of f k) ∷ emitted (frame_parts f) ++ es) bytes

-- The same of a page that was put in batches, of whose events the header need not say how long the body is.
abbrev pub BatchesAreComposed : Type 0
BatchesAreComposed = (h : Header) (fields : List Event) (bytes : List ℕ) → IsFrameWith h fields bytes → IsComposed (Frame h ∷ fields) bytes
