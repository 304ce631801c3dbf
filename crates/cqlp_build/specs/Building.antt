-- What becomes of the events of frames, one after the other.
use Rattle.std.specs.Prelude.{◌≡◌, ⊤, ℕ, ◌+◌, ◌-◌, ◌<◌, ◌≤◌, ◌++◌, Bool, true, false, not}
use Rattle.std.specs.Prelude.{List, [], ◌∷◌, length, map, Option, Some, None, Result, Ok, Err}
use Rattle.std.specs.Prelude.{◌&&◌, ◌⊎◌}
use Rattle.std.specs.List.{list_all}
use Rattle.cqlp_note.specs.declared.header.Header.{Header}
use Rattle.cqlp_note.specs.Field.{content_length}
use Rattle.cqlp_note.specs.Limits.{Rules}
use Rattle.cqlp_grammar.specs.Events.{Event, Frame, Holds, Node_of, Cell_at, Leave, End}
use Rattle.cqlp_kind.specs.CellStep as cell
use Rattle.cqlp_message.specs.Agreement.{frame_agrees, has_its_cells, opcode_of}
use Rattle.cqlp_message.specs.Bodies.{cell_types, rows_parts}
use Rattle.cqlp_message.specs.FrameValues.{FrameValue, Message, Rows, Prepared}
use Rattle.cqlp_message.specs.Frames.{Flat, frame_parts, header_of, unfit_of}
use Rattle.cqlp_message.specs.Parts.{cell_fits, parts_size}
use Rattle.cqlp_message.specs.Owned.{frame_of}
use Rattle.cqlp_build.specs.declared.builder.BuildLimits.{BuildLimits}
use Rattle.cqlp_build.specs.declared.builder.BuiltFrame.{BuiltFrame}
use Rattle.cqlp_build.specs.declared.builder.FrameBuilder.{FrameBuilder}
use Rattle.cqlp_build.specs.declared.error.BuildError.{BuildError}
use Rattle.cqlp_build.specs.declared.error.BuildError.TheVariants as error
use Rattle.cqlp_build.specs.declared.held.FrameEvents.{FrameEvents}
use Rattle.cqlp_build.specs.FrameEvents.{IsRefused, IsSound, left}
use Rattle.cqlp_build.specs.Nesting.{after_event, depth_at}
use Rattle.cqlp_build.specs.Types.{is_built_metadata, is_built_statement}
use Rattle.cqlp_build_cells.specs.Building.{is_part, scalar_size}

-- ---- the events of a frame

-- The events are those of this frame with x bytes after its last field, wherever in a stream it begins, within some limits.
pub record AreEventsOf (es : List Event) (f : FrameValue) (x : ℕ) : Type 0 where
  pub rules : Rules
  pub at : ℕ
  pub are : map (λ e. e.1) (Flat rules at f x) ≡ es

-- all messages; of pages and of prepared statements those whose types have names where names count
abbrev pub is_built : Message → Bool
is_built (Rows p) = is_built_metadata p.meta
is_built (Prepared p) = is_built_statement p
is_built m = true

-- Some bytes spell the frame, and it is one that is built.
abbrev pub CanBeBuilt : FrameValue → Type 0
CanBeBuilt f = (unfit_of f ≡ None) × (is_built f.message ≡ true)

-- The frame has these events, and no other frame has them, with as many bytes after its last field or with others.
pub record IsBuiltOf (es : List Event) (b : BuiltFrame) : Type 0 where
  pub are : AreEventsOf es (frame_of b.frame) b.extra
  pub can : CanBeBuilt (frame_of b.frame)
  pub only : (g : FrameValue) (y : ℕ) → CanBeBuilt g → AreEventsOf es g y → (g ≡ frame_of b.frame) × (y ≡ b.extra)

-- No frame that is built has these events.
abbrev pub AreOfNone : List Event → Type 0
AreOfNone es = (f : FrameValue) (x : ℕ) → CanBeBuilt f → AreEventsOf es f x → ⊥

-- ---- states

-- The events of the frame under way, of which there are none between frames; in which type options others are still to begin;
-- how many bytes of texts and contents may still come; and the limits.
pub record BuilderState : Type 0 where
  pub events : List Event
  pub around : List ℕ
  pub room : ℕ
  pub limits : BuildLimits

abbrev pub events_in : Option Header → FrameEvents → List Event
events_in None held = []
events_in (Some h) held = Frame h ∷ left held

abbrev pub state : FrameBuilder → BuilderState
state b = record { events = events_in b.header b.held; around = b.nesting.left.items; room = b.room; limits = b.limits }

-- between frames
abbrev pub empty : BuildLimits → BuilderState
empty l = record { events = []; around = []; room = l.bytes; limits = l }

-- the bytes of an event that the limit counts
abbrev pub content_size : Event → ℕ
content_size (Holds f v) = content_length v
content_size (Cell_at row column (cell.Leaf level v)) = scalar_size v
content_size e = 0

abbrev pub with_event : BuilderState → Event → BuilderState
with_event s e = record {
  events = s.events ++ e ∷ [];
  around = after_event e s.around;
  room = s.room - content_size e;
  limits = s.limits;
}

-- ---- events

-- A header is due between frames, and nothing else.
abbrev pub is_due : List Event → Event → Bool
is_due [] (Frame h) = true
is_due [] e = false
is_due (e ∷ es) (Frame h) = false
is_due (e ∷ es) f = true

-- a field, the kind of a type option, or an event of a cell
abbrev pub is_field : Event → Bool
is_field (Holds f v) = true
is_field (Node_of k) = true
is_field (Cell_at row column e) = true
is_field (Leave level items) = true
is_field e = false

-- a part of a scalar of a cell
abbrev pub is_unbuilt : Event → Bool
is_unbuilt e = is_part e

-- no scalar of a cell comes in parts
abbrev pub HaveNoParts : List Event → Type 0
HaveNoParts es = list_all (λ e. not (is_unbuilt e)) es ≡ true

abbrev pub is_end : Event → Bool
is_end (End x) = true
is_end e = false

-- a scalar of a cell
abbrev pub is_leaf : Event → Bool
is_leaf (Cell_at row column (cell.Leaf level v)) = true
is_leaf e = false

-- what comes between a header and an end
abbrev pub is_inner : Event → Bool
is_inner (Frame h) = false
is_inner (End x) = false
is_inner e = true

-- fewer fields than are allowed have come before it
abbrev pub HasPlace : BuilderState → Type 0
HasPlace s = length s.events ≤ s.limits.fields

-- what has come in it leaves a place for it, no type option in it is nested too deep, and there is room for its bytes
abbrev pub IsWithin : BuilderState → Event → Type 0
IsWithin s e = HasPlace s × (depth_at e s.around ≤ s.limits.depth) × (content_size e ≤ s.room)

-- a header, or a field, the kind of a type option or an event of a cell within the limits
abbrev pub IsTaken : BuilderState → Event → Type 0
IsTaken s (Frame h) = ⊤
IsTaken s (Holds f v) = IsWithin s (Holds f v)
IsTaken s (Node_of k) = IsWithin s (Node_of k)
IsTaken s (Cell_at row column e) = IsWithin s (Cell_at row column e)
IsTaken s (Leave level items) = IsWithin s (Leave level items)
IsTaken s e = ⊥

-- what asks for memory: what is held within the limits, and the end of a frame
abbrev pub AsksForMemory : BuilderState → Event → Type 0
AsksForMemory s (Holds f v) = IsWithin s (Holds f v)
AsksForMemory s (Node_of k) = IsWithin s (Node_of k)
AsksForMemory s (Cell_at row column e) = IsWithin s (Cell_at row column e)
AsksForMemory s (Leave level items) = IsWithin s (Leave level items)
AsksForMemory s (End x) = ⊤
AsksForMemory s e = ⊥

-- the state after an event at which memory was refused: it is as it was, or between frames after an end
abbrev pub without_memory : BuilderState → Event → BuilderState
without_memory s (End x) = empty s.limits
without_memory s e = s

-- What an event is answered that is due and is built, and what the state is after it.
abbrev pub Answers : BuilderState → Event → Result (Option BuiltFrame) BuildError → BuilderState → Type 0
Answers old e (Ok None) new = IsTaken old e × (new ≡ with_event old e)
Answers old e (Ok (Some b)) new = (is_end e ≡ true) × IsBuiltOf (old.events ++ e ∷ []) b × (new ≡ empty old.limits)
Answers old e (Err error.Misplaced) new = ⊥
Answers old e (Err error.TooManyFields) new = (is_field e ≡ true) × (old.limits.fields < length old.events) × (new ≡ old)
Answers old e (Err error.TooDeep) new =
    (is_field e ≡ true) × HasPlace old × (old.limits.depth < depth_at e old.around) × (new ≡ old)
Answers old e (Err error.TooManyBytes) new =
    (is_field e ≡ true) × HasPlace old × (depth_at e old.around ≤ old.limits.depth) × (old.room < content_size e) × (new ≡ old)
Answers old e (Err error.Unbuilt) new = ⊥
Answers old e (Err error.NoFrame) new = (is_end e ≡ true) × AreOfNone (old.events ++ e ∷ []) × (new ≡ empty old.limits)
Answers old e (Err error.NoMemory) new = AsksForMemory old e × (new ≡ without_memory old e)

-- What becomes of an event: where another is due it is misplaced, and what is not built is refused as that; in both nothing changes.
abbrev pub TakesEvent : BuilderState → Event → Result (Option BuiltFrame) BuildError → BuilderState → Type 0
TakesEvent old e (Err error.Misplaced) new = (is_due old.events e ≡ false) × (new ≡ old)
TakesEvent old e (Err error.Unbuilt) new = (is_due old.events e ≡ true) × (is_unbuilt e ≡ true) × (new ≡ old)
TakesEvent old e r new = (is_due old.events e ≡ true) × (is_unbuilt e ≡ false) × Answers old e r new

-- ---- the end of a frame

-- The events between a header and an end with x bytes more are those of this frame alone, or of none.
abbrev pub Finishes : Header → (x : ℕ) → List Event → Result BuiltFrame BuildError → Type 0
Finishes h x es (Ok b) = IsBuiltOf (Frame h ∷ es ++ End x ∷ []) b
Finishes h x es (Err error.NoFrame) = AreOfNone (Frame h ∷ es ++ End x ∷ [])
Finishes h x es (Err error.NoMemory) = Unit {0}
Finishes h x es (Err e) = ⊥

-- Some bytes spell the frame, and with x bytes after its last field this is its header.
abbrev pub IsOfHeader : FrameValue → Header → (x : ℕ) → Type 0
IsOfHeader f h x = (unfit_of f ≡ None) × (header_of f (parts_size (frame_parts f) + x) ≡ h)

-- A page has all its cells, each a value of its column's type.
abbrev pub has_fit_cells : Message → Bool
has_fit_cells (Rows p) = has_its_cells (Rows p) && list_all cell_fits (rows_parts 0 (cell_types p.meta) p.rows p.cells)
has_fit_cells m = true

-- A frame whose header is this one but for its length, and whose parts are those that are announced, all cells among them.
pub record BeginsWith (h : Header) (f : FrameValue) : Type 0 where
  pub flags : f.flags ≡ h.flags
  pub stream : f.stream ≡ h.stream
  pub opcode : opcode_of f.message ≡ h.opcode
  pub agrees : frame_agrees f ≡ true
  pub built : is_built f.message ≡ true
  pub cells : has_fit_cells f.message ≡ true

-- What is reported of a frame whose parts were taken: nothing where nothing was refused, nothing is left, and it is of the header
-- with x bytes more, if it begins with it.
abbrev pub Reports : Header → (x : ℕ) → FrameValue → FrameEvents → Option BuildError → Type 0
Reports h x f after None = IsSound after × (left after ≡ []) × (BeginsWith h f → IsOfHeader f h x)
Reports h x f after (Some error.NoFrame) = IsRefused after ⊎ (IsSound after × (((left after ≡ []) → ⊥) ⊎ (BeginsWith h f → IsOfHeader f h x → ⊥)))
Reports h x f after (Some error.NoMemory) = Unit {0}
Reports h x f after (Some e) = ⊥
