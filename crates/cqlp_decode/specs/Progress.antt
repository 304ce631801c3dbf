-- Where a decoder is in its stream, and what a call makes of it. Read `StreamState` first, which is all that a decoder knows of its stream,
-- then `Advances`, what one call does; the rest says what both are made of. What a call means for whole streams is in Streams.
use Rattle.std.specs.Prelude.{◌≡◌, ℕ, ◌+◌, ◌-◌, ◌*◌, ◌<◌, ◌≤◌, ◌^◌, ◌++◌, true, false, List, [], ◌∷◌, length, take, Option, Some}
use Rattle.std.specs.Prelude.{None, max, ⊤, if◌then◌else◌}
use Rattle.cqlp_note.specs.declared.header.TheConstants.Header.{LONGEST_BODY}
use Rattle.cqlp_note.specs.declared.refusal.Reason.{Reason}
use Rattle.cqlp_note.specs.declared.refusal.Refusal.{Refusal}
use Rattle.cqlp_note.specs.declared.head.Wanted.{Wanted}
use Rattle.cqlp_note.specs.Head.{reader_of}
use Rattle.cqlp_note.specs.Reader.{Said, More, Bad, Got, says}
use Rattle.cqlp_note.specs.Step.{Emitted}
use Rattle.cqlp_note.specs.Limits.{Rules, rules_asked, limit_of}
use Rattle.cqlp_note.specs.declared.limits.Asked.{Asked}
use Rattle.cqlp_note.specs.Field.{FieldValue}
use Rattle.cqlp_note.specs.Partial.{FieldState, item_value, CanLend, content_bytes}
use Rattle.cqlp_note.specs.Field.{content_length}
use Rattle.cqlp_kind.specs.TypeStep.{Option_at, TypeEvent, TypePlace}
use Rattle.cqlp_kind.specs.declared.node.Node.{Node}
use Rattle.cqlp_type.specs.Table.{Table}
use Rattle.cqlp_type.specs.Progress as type
use Rattle.cqlp_type.specs.Progress.{IsShared, CanLendPart}
use Rattle.cqlp_type.specs.Remaining as part
use Rattle.cqlp_type.specs.Pushing as option
use Rattle.cqlp_cell.specs.declared.progress.NextInCell.TheVariants as next
use Rattle.cqlp_cell.specs.declared.progress.Arrived.{Arrived}
use Rattle.cqlp_cell.specs.declared.progress.Arrived.TheVariants as arrived
use Rattle.cqlp_kind.specs.CellStep as cell
use Rattle.cqlp_cell.specs.Items as cells
use Rattle.cqlp_kind.specs.declared.kind.Kind.{Kind}
use Rattle.cqlp_kind.specs.Scalars.{content_size, scalar_of}
use Rattle.cqlp_type.specs.Forests.{Forest}
use Rattle.cqlp_cell.specs.Progress as value
use Rattle.cqlp_cell.specs.Progress.{is_under_way}
use Rattle.cqlp_cell.specs.Reading as taking
use Rattle.cqlp_cell.specs.Pushing.{is_done}
use Rattle.cqlp_grammar.specs.declared.grammar.Role.{Role}
use Rattle.cqlp_grammar.specs.Productions.{Symbol, Stream, Extra, In_type}
use Rattle.cqlp_grammar.specs.declared.productions.Want.{Want}
use Rattle.cqlp_grammar.specs.declared.productions.Expected.{Expected}
use Rattle.cqlp_grammar.specs.declared.productions.Expected.TheVariants as due
use Rattle.cqlp_grammar.specs.declared.upcoming.Slot.{Slot}
use Rattle.cqlp_decode.specs.declared.progress.StreamStage.{StreamStage}
use Rattle.cqlp_decode.specs.declared.progress.StreamStage.TheVariants as stage
use Rattle.cqlp_decode.specs.declared.advance.EventOutline.{EventOutline}
use Rattle.cqlp_decode.specs.declared.advance.EventOutline.TheVariants as what
use Rattle.cqlp_decode.specs.declared.advance.EventAdvance.{EventAdvance}
use Rattle.cqlp_decode.specs.declared.advance.EventAdvance.TheVariants as advance
use Rattle.cqlp_decode.specs.declared.progress.StreamProgress.{StreamProgress}
use Rattle.cqlp_decode.specs.declared.parts.Parts.{Parts}
use Rattle.cqlp_decode.specs.declared.advance.ScalarCell.{ScalarCell}
use Rattle.cqlp_kind.specs.Contents.{value_of as scalar_value}
use Rattle.cqlp_decode.specs.declared.page.CellCursor.{CellCursor}
use Rattle.cqlp_grammar.specs.Upcoming.{symbols_in, wanted, room_after, IsRead}
use Rattle.cqlp_decode.specs.declared.page.Columns.{Columns}
use Rattle.cqlp_decode.specs.declared.page.Columns.TheVariants as columns
use Rattle.cqlp_decode.specs.Pages.{cells_from, page_symbols, node_by, symbols_after, IsPage, given_of, page_nodes}
use Rattle.cqlp_decode.specs.Reading as reading
use Rattle.cqlp_decode.specs.Reading.{Place, Event, Given, is_in_use, retired, start, step}

-- The bytes of what is under way that have come: they are kept, or this many were skipped, or they are those of a value
-- whose length may have come before them.
pub data Pending : Type 0 where
  Kept : List ℕ → Pending
  Skipped : ℕ → Pending
  Valued : Arrived → List ℕ → Pending

-- these may be the bytes under way
abbrev pub IsPending : Pending → List ℕ → Type 0
IsPending (Kept bytes) b = b ≡ bytes
IsPending (Skipped n) b = length b ≡ n
IsPending (Valued u seen) b = taking.HaveCome b u seen

-- What a decoder knows of its stream: the caller's rules, the place before what is under way, what has come of it,
-- the start of the frame under way, the refusal if there was one, the content that is held, how many values of a cell are
-- open, and the table that the caller gave.
pub record StreamState : Type 0 where
  pub rules : Rules
  pub place : Place
  pub pending : Pending
  pub frame : ℕ
  pub refusal : Option Refusal
  pub held : List ℕ
  pub open_values : ℕ
  pub given : Option Table

-- ---- one step

abbrev pub event_at : (held input : List ℕ) → EventOutline → Event
event_at held input (what.Frame h) = reading.Frame h
event_at held input (what.Holds f i) = reading.Holds f (item_value i input held)
event_at held input (what.Option q) = reading.type_event (part.event_at q input held)
event_at held input (what.Cell row column i) = reading.cell_event row column (cells.event_at i input held)
event_at held input (what.End n) = reading.End n

-- its content can be lent
abbrev pub WhatThere : (held input : List ℕ) → EventOutline → Type 0
WhatThere held input (what.Frame h) = ⊤
WhatThere held input (what.Holds f i) = CanLend i input held
WhatThere held input (what.Option q) = CanLendPart q input held
WhatThere held input (what.Cell row column i) = cells.CanLend i input held
WhatThere held input (what.End n) = ⊤

-- how many bytes the content of an event has, a decimal's scale among them
abbrev pub content_size_of : Event → ℕ
content_size_of (reading.Holds f v) = content_length v
content_size_of (reading.Cell_at row column (cell.Leaf level v)) = content_size v
content_size_of (reading.Cell_at row column (cell.Part level offset c last)) = length c
content_size_of e = 0

-- a content that lies whole in the bytes that a call used is not held
abbrev pub IsLent : Event → (used : ℕ) → (held : List ℕ) → Type 0
IsLent (reading.Holds f v) used held = content_length v ≤ used → held ≡ []
IsLent (reading.Cell_at row column (cell.Leaf level v)) used held = content_size v ≤ used → held ≡ []
IsLent (reading.Cell_at row column (cell.Part level offset c last)) used held = length c ≤ used → held ≡ []
IsLent e used held = ⊤

-- what is held is the content; of a scalar it spells it
abbrev pub IsContent : Event → (held : List ℕ) → Type 0
IsContent (reading.Holds f v) held = held ≡ content_bytes v
IsContent (reading.Cell_at row column (cell.Leaf level v)) held =
    (k : Kind) × (scalar_of k held ≡ Some v) × (length held ≡ content_size v)
IsContent (reading.Cell_at row column (cell.Part level offset c last)) held = held ≡ c
IsContent e held = ⊤

-- a content that does not is held, whole and with nothing beside it
abbrev pub IsHeld : Event → (used : ℕ) → (held : List ℕ) → Type 0
IsHeld e used held = used < content_size_of e → IsContent e held

-- the start of the frame under way, after an event: an end's offset is the next frame's start
abbrev pub frame_after : (frame at : ℕ) → Event → ℕ
frame_after frame at (reading.End n) = at
frame_after frame at e = frame

-- the ends that are still to come of a frame, before which no further byte may come
abbrev pub ends_due : List Symbol → ℕ
ends_due (Stream ∷ rest) = 0
ends_due symbols = 1

-- the same by the event before
abbrev pub due_after : Event → ℕ
due_after (reading.End n) = 0
due_after e = 1

-- what the step at this place says of these bytes
abbrev pub said : StreamState → List ℕ → Said (Emitted Event Place) (ℕ × Reason)
said d bytes = says (step d.rules d.place) 0 bytes

-- the step gives this event, takes k bytes, and leads there
abbrev pub Gives : StreamState → (bytes : List ℕ) → (at : ℕ) → Event → (k : ℕ) → Place → Type 0
Gives d bytes at e k after =
    (x : Emitted Event Place) × (said d bytes ≡ Got x k) × (x.at ≡ at) × (x.event ≡ e) × (x.after k ≡ after)

-- of what is under way more is wanted also with the input
abbrev pub WantsMore : StreamState → List ℕ → StreamState → List ℕ → Type 0
WantsMore old input new b = (said old (b ++ input) ≡ More) × IsPending new.pending (b ++ input)

-- the input is refused, whatever the bytes under way are
abbrev pub IsRefused : StreamState → List ℕ → Refusal → Type 0
IsRefused old input r = (b : List ℕ) → IsPending old.pending b → said old (b ++ input) ≡ Bad (r.at, r.why)

-- All of the input belongs to what is under way.
pub record Waits (old : StreamState) (input : List ℕ) (used : ℕ) (new : StreamState) : Type 0 where
  pub all : used ≡ length input
  pub place : new.place ≡ old.place
  pub frame : new.frame ≡ old.frame
  pub waits : (b : List ℕ) → IsPending old.pending b → WantsMore old input new b

-- The first `used` bytes of the input end what is under way, which is this event.
pub record Hands (old : StreamState) (input : List ℕ) (at used : ℕ) (e : Event) (new : StreamState) : Type 0 where
  pub within : used ≤ length input
  pub begun : IsPending new.pending []
  pub frame : new.frame ≡ frame_after old.frame at e
  pub lent : IsLent e used new.held
  pub kept : IsHeld e used new.held
  pub gives : (b : List ℕ) → IsPending old.pending b → Gives old (b ++ input) at e (length b + used) new.place
  pub offset : (b : List ℕ) → IsPending old.pending b → new.place.offset ≡ old.place.offset + (length b + used)
  pub gifts : new.place.gifts ≡ []
  pub due : ends_due new.place.symbols ≡ due_after e
  pub pays : ends_due new.place.symbols + new.open_values < ends_due old.place.symbols + old.open_values + 2 * used

-- What one call does, from a state without a refusal.
abbrev pub Moves : StreamState → List ℕ → EventAdvance → StreamState → Type 0
Moves old input (advance.More used) new = Waits old input used new
Moves old input (advance.Event at used w) new =
    WhatThere new.held input w × Hands old input at used (event_at new.held input w) new
Moves old input (advance.Refused r) new = IsRefused old input r

abbrev pub refusal_in : EventAdvance → Option Refusal
refusal_in (advance.Refused r) = Some r
refusal_in a = None

-- a refusal leaves the types of the metadata as they were
abbrev pub LeavesTypes : EventAdvance → (old new : List Node) → Type 0
LeavesTypes (advance.Refused r) old new = new ≡ old
LeavesTypes a old new = ⊤

-- after a refusal no given types are in use
abbrev pub LeavesGiven : EventAdvance → (old new : Given) → Type 0
LeavesGiven (advance.Refused r) old new = new ≡ retired old
LeavesGiven a old new = ⊤

-- What a call does: a refusal is repeated.
abbrev pub AdvancesFrom : Option Refusal → StreamState → List ℕ → EventAdvance → StreamState → Type 0
AdvancesFrom (Some r) old input a new = (a ≡ advance.Refused r) × (new ≡ old)
AdvancesFrom None old input a new =
    Moves old input a new × (new.refusal ≡ refusal_in a) × (new.rules ≡ old.rules) × (new.given ≡ old.given)
    × LeavesGiven a old.place.given new.place.given

abbrev pub Advances : StreamState → List ℕ → EventAdvance → StreamState → Type 0
Advances old input a new = AdvancesFrom old.refusal old input a new

-- a scalar is the whole cell
abbrev pub scalar_event : ScalarCell → Event
scalar_event t = reading.Cell_at t.row t.column (cell.Leaf 0 (scalar_value t.scalar))

-- Where a scalar is the cell that is due, and its bytes are all there, it is taken; else nothing is done.
abbrev pub Takes : StreamState → List ℕ → Option ScalarCell → StreamState → Type 0
Takes old input None new = new ≡ old
Takes old input (Some t) new =
    (old.refusal ≡ None) × (new.refusal ≡ None) × (new.rules ≡ old.rules) × (new.given ≡ old.given)
    × Hands old input t.at t.used (scalar_event t) new

-- this many bytes of the stream have come: those before what is under way, and those of it
abbrev pub HasCome : StreamState → ℕ → Type 0
HasCome d n = (b : List ℕ) → IsPending d.pending b → n ≡ d.place.offset + length b

-- ---- what is inside

-- The parts of a decoder that own memory: the field under way, the type option under way, the cell under way, the
-- types of the metadata begun last, and the table that the caller gave.
pub record PartsState : Type 0 where
  pub partial : FieldState
  pub types : type.TypeState
  pub cells : value.CellState
  pub table : Table
  pub given : Option Table

abbrev pub parts : FieldState → type.TypeState → value.CellState → Table → Option Table → PartsState
parts p r c t g = record { partial = p; types = r; cells = c; table = t; given = g }

abbrev pub parts_state : {A : Type 0} → Parts A → PartsState
parts_state p = parts p.partial p.types p.cells p.table p.given

-- the nodes of the table that types the columns of a page
abbrev pub nodes_of : PartsState → Columns → List Node
nodes_of q c = page_nodes c q.table.nodes q.given

-- the types and the values around the one that is read
abbrev pub levels_of : PartsState → ℕ
levels_of q = q.types.height + length q.cells.open_values

-- what comes after what is read now
abbrev pub rest_of : List Slot → List Symbol
rest_of upcoming = symbols_in upcoming ++ Extra ∷ []

abbrev pub symbols_at : StreamStage → PartsState → List Slot → List Symbol
symbols_at stage.Header q upcoming = Stream ∷ []
symbols_at (stage.Field w) q upcoming = wanted (due.Field w) ∷ rest_of upcoming
symbols_at stage.BeforeType q upcoming = In_type (Option_at 1 ∷ []) ∷ rest_of upcoming
symbols_at stage.InType q upcoming = In_type q.types.symbols ∷ rest_of upcoming
symbols_at (stage.BeforeCell p) q upcoming = cells_from (nodes_of q p.columns) p ++ rest_of upcoming
symbols_at (stage.InCell p) q upcoming = page_symbols (nodes_of q p.columns) q.cells p ++ rest_of upcoming
symbols_at stage.Extra q upcoming = Extra ∷ []

abbrev pub offset_at : StreamStage → (offset : ℕ) → PartsState → ℕ
offset_at stage.Header offset q = offset
offset_at (stage.Field w) offset q = offset
offset_at stage.BeforeType offset q = offset
offset_at stage.InType offset q = q.types.offset
offset_at (stage.BeforeCell p) offset q = offset
offset_at (stage.InCell p) offset q = q.cells.offset
offset_at stage.Extra offset q = offset

abbrev pub place_at : (offset stop : ℕ) → List Symbol → List Node → Given → Place
place_at offset stop symbols nodes given =
    record { offset = offset; stop = stop; symbols = symbols; nodes = nodes; given = given; gifts = [] }

-- the bytes of the field under way that have come
abbrev pub came_of : FieldState → List ℕ
came_of p = if p.under_way then p.seen else []

abbrev pub pending_at : StreamStage → (header : List ℕ) → (came : ℕ) → PartsState → Pending
pending_at stage.Header header came q = Kept (take came header)
pending_at (stage.Field w) header came q = Kept (came_of q.partial)
pending_at stage.BeforeType header came q = Kept []
pending_at stage.InType header came q = Kept (type.pending q.types q.partial)
pending_at (stage.BeforeCell p) header came q = Valued arrived.Nothing q.partial.seen
pending_at (stage.InCell p) header came q = Valued q.cells.arrived q.partial.seen
pending_at stage.Extra header came q = Skipped came

abbrev pub state_of : StreamProgress → PartsState → StreamState
state_of s q = record {
  rules = rules_asked s.limits;
  place = place_at (offset_at s.stage s.offset q) s.stop (symbols_at s.stage q s.upcoming) q.table.nodes
      (given_of s.given_use q.given);
  pending = pending_at s.stage s.header s.came q;
  frame = s.frame;
  refusal = s.refusal;
  held = q.partial.content;
  open_values = length q.cells.open_values;
  given = q.given;
}

-- no field, no type option and no cell is under way
pub record IsIdle (q : PartsState) : Type 0 where
  pub field : q.partial.under_way ≡ false
  pub types : q.types.under_way ≡ false
  pub cells : is_under_way q.cells ≡ false

-- A reader with nothing under way keeps no level, so that of the two at most one keeps any.
pub record IsQuiet (q : PartsState) : Type 0 where
  pub types : q.types.under_way ≡ false → q.types.height ≡ 0
  pub cells : is_under_way q.cells ≡ false → q.cells.open_values ≡ []

-- What a call does that leaves parts alone of which none is at work.
abbrev pub MovesIdle : StreamProgress → List ℕ → EventAdvance → StreamProgress → Type 0
MovesIdle old input a new = (q : PartsState) → IsIdle q → Moves (state_of old q) input a (state_of new q)

-- the field that is asked for
abbrev pub asked : StreamProgress → Want → Wanted
asked s w = record {
  notation = w.notation;
  limit = limit_of (rules_asked s.limits) w.notation;
  at = s.offset;
  room = s.stop - s.offset;
}

-- The field under way is the one that is wanted, as far as it has begun; what follows it has room.
pub record IsWanted (s : StreamProgress) (p : FieldState) (w : Want) : Type 0 where
  pub room : length s.upcoming + room_after w.role ≤ 16
  pub read : IsRead (due.Field w)
  pub field : p.under_way ≡ true → p.field ≡ asked s w
  pub waits : 0 < length (came_of p) → says (reader_of (asked s w)) 0 (came_of p) ≡ More
  pub came : s.came ≡ 0

-- The type option under way is in this frame.
pub record IsOption (s : StreamProgress) (p : FieldState) (r : type.TypeState) : Type 0 where
  pub under_way : r.under_way ≡ true
  pub some : r.symbols ≡ [] → ⊥
  pub shared : IsShared r p
  pub stop : r.stop ≡ s.stop
  pub after : s.offset ≤ r.offset
  pub inside : r.offset ≤ s.stop
  pub came : s.came ≡ 0

-- the bytes of the type option under way that have come
abbrev pub option_bytes : PartsState → List ℕ
option_bytes q = type.pending q.types q.partial

-- they want more
abbrev pub OptionWaits : PartsState → Type 0
OptionWaits q = 0 < length (option_bytes q) → type.step_says q.types q.table.nodes (option_bytes q) ≡ More

-- The type option under way began after whole types, and of it these bytes have come.
pub record OptionRuns (l : Rules) (q : PartsState) : Type 0 where
  pub begun : TypePlace
  pub first : begun.symbols ≡ Option_at 1 ∷ []
  pub before : Forest begun.nodes 0 l.depth
  pub bytes : List ℕ
  pub items : List (ℕ × TypeEvent)
  pub runs : option.After begun q.types q.partial q.table bytes items

-- The cell under way is in this frame, and its type is in the table.
pub record IsCell (s : StreamProgress) (q : PartsState) (p : CellCursor) : Type 0 where
  pub under_way : is_under_way q.cells ≡ true
  pub conforms : value.Conforms (nodes_of q p.columns) q.cells
  pub joined : taking.Joined (nodes_of q p.columns) q.cells q.partial
  pub some : is_done q.cells ≡ false
  pub is : (n : Option ℕ) → q.cells.next ≡ next.Cell n → n ≡ node_by p.columns p.index
  pub page : IsPage (nodes_of q p.columns) s.limits.depth p
  pub stop : q.cells.stop ≡ s.stop
  pub after : s.offset ≤ q.cells.offset
  pub came : s.came ≡ 0

abbrev pub StageHolds : StreamProgress → PartsState → StreamStage → Type 0
StageHolds s q stage.Header = (s.came < 9) × IsIdle q × (s.frame ≡ s.offset)
StageHolds s q (stage.Field w) = IsWanted s q.partial w × (q.types.under_way ≡ false) × (is_under_way q.cells ≡ false)
StageHolds s q stage.BeforeType = IsIdle q × (s.came ≡ 0)
StageHolds s q stage.InType = IsOption s q.partial q.types × OptionWaits q × (is_under_way q.cells ≡ false)
StageHolds s q (stage.BeforeCell p) = IsPage (nodes_of q p.columns) s.limits.depth p × IsIdle q × (s.came ≡ 0)
StageHolds s q (stage.InCell p) = IsCell s q p × (q.types.under_way ≡ false)
StageHolds s q stage.Extra = (s.came ≤ s.stop - s.offset) × IsIdle q

-- what is in the table: whole types, and one that is under way
abbrev pub TableHolds : Rules → PartsState → StreamStage → Type 0
TableHolds l q stage.InType = OptionRuns l q
TableHolds l q t = Forest q.table.nodes 0 l.depth

-- the same, as far as the number of bytes goes
abbrev pub IsPlaced : StreamProgress → PartsState → StreamStage → Type 0
IsPlaced s q stage.Header = (s.came < 9) × (s.frame ≡ s.offset)
IsPlaced s q stage.InType = IsOption s q.partial q.types
IsPlaced s q (stage.BeforeCell p) = IsPage (nodes_of q p.columns) s.limits.depth p
IsPlaced s q (stage.InCell p) = IsCell s q p
IsPlaced s q stage.Extra = s.came ≤ s.stop - s.offset
IsPlaced s q t = ⊤

-- A frame ends no earlier than its bytes so far, and no later than its header says.
pub record IsBounded (s : StreamProgress) : Type 0 where
  pub long : length s.header ≡ 9
  pub inside : s.offset ≤ s.stop
  pub size : s.stop ≤ s.offset + LONGEST_BODY
  pub bound : s.stop ≤ 2 ^ 63 + 9 + LONGEST_BODY

-- The parts have just the room that the limits ask for. The room of each is the capacity of its memory: that is an
-- invariant of each, so no byte of a stream changes how much memory a decoder has.
pub record HasParts (s : StreamProgress) (q : PartsState) : Type 0 where
  pub room : q.partial.room ≡ max s.limits.text s.limits.cell
  pub rules : q.types.rules ≡ rules_asked s.limits
  pub cells : q.cells.rules ≡ rules_asked s.limits
  pub table : q.table.room ≡ s.limits.entries
  pub few : s.limits.entries < 2 ^ 31

-- The given table is whole types, no more and nested no deeper than the limits allow.
abbrev pub HoldsGiven : Asked → Option Table → Type 0
HoldsGiven l None = ⊤
HoldsGiven l (Some t) = Forest t.nodes 0 l.depth × (length t.nodes ≤ l.entries)

-- a page that the given table types is read while it is in use
abbrev pub UsesGiven : Given → StreamStage → Type 0
UsesGiven held (stage.BeforeCell p) = p.columns ≡ columns.Given → is_in_use held ≡ true
UsesGiven held (stage.InCell p) = p.columns ≡ columns.Given → is_in_use held ≡ true
UsesGiven held t = ⊤

pub record IsConsistent (s : StreamProgress) (q : PartsState) : Type 0 where
  pub bounded : IsBounded s
  pub parts : HasParts s q
  pub stage : StageHolds s q s.stage
  pub quiet : IsQuiet q
  pub table : s.refusal ≡ None → TableHolds (rules_asked s.limits) q s.stage
  pub given : HoldsGiven s.limits q.given
  pub uses : UsesGiven (given_of s.given_use q.given) s.stage

-- ---- the same of the parts as the code has them

abbrev pub state_with : {A : Type 0} → StreamProgress → Parts A → StreamState
state_with s p = state_of s (parts_state p)

abbrev pub IsLawful : {A : Type 0} → StreamProgress → Parts A → Type 0
IsLawful s p = IsConsistent s (parts_state p)

-- ---- at the start of a stream

-- parts that were made just now
pub record IsFresh (q : PartsState) : Type 0 where
  pub idle : IsIdle q
  pub quiet : IsQuiet q
  pub types : q.table.nodes ≡ []
  pub given : q.given ≡ None

abbrev pub first_state : Asked → PartsState → StreamState
first_state limits q = record {
  rules = rules_asked limits;
  place = start;
  pending = Kept [];
  frame = 0;
  refusal = None;
  held = q.partial.content;
  open_values = length q.cells.open_values;
  given = None;
}

-- ---- from one thing to the next

-- the field that is wanted has begun, and as much of it has come as before
pub record IsAsked (s : StreamProgress) (old p : FieldState) (w : Want) : Type 0 where
  pub under_way : p.under_way ≡ true
  pub field : p.field ≡ asked s w
  pub seen : p.seen ≡ came_of old
  pub room : p.room ≡ old.room

-- the stage that the next thing due in a message is
abbrev pub stage_with : Option Expected → StreamStage
stage_with (Some (due.Field w)) = stage.Field w
stage_with (Some due.Option) = stage.BeforeType
stage_with None = stage.Extra

-- a message goes on here, with nothing under way, and what follows has room
abbrev pub HasRoom : StreamStage → List Slot → Type 0
HasRoom stage.Header upcoming = ⊥
HasRoom (stage.Field w) upcoming = (length upcoming + room_after w.role ≤ 16) × IsRead (due.Field w)
HasRoom stage.BeforeType upcoming = ⊤
HasRoom stage.InType upcoming = ⊥
HasRoom (stage.BeforeCell p) upcoming = ⊥
HasRoom (stage.InCell p) upcoming = ⊥
HasRoom stage.Extra upcoming = ⊤

-- the reading is at this offset, and nothing else changed but what is read next
abbrev pub IsAt : StreamProgress → (offset : ℕ) → StreamProgress → Type 0
IsAt new offset old = new ≡ record old { offset = offset; stage = new.stage; upcoming = new.upcoming }

-- nothing is under way, and what follows has room, or it is the cells of a page
abbrev pub Starts : StreamProgress → PartsState → StreamStage → Type 0
Starts s q (stage.BeforeCell p) =
    IsPage (nodes_of q p.columns) s.limits.depth p × UsesGiven (given_of s.given_use q.given) (stage.BeforeCell p)
Starts s q t = HasRoom t s.upcoming

-- The message goes on with these symbols, and then with what came after what was read.
abbrev pub Continues : (old new : StreamProgress) → PartsState → List Symbol → Type 0
Continues old new q symbols =
    (symbols_at new.stage q new.upcoming ≡ symbols ++ rest_of old.upcoming) × Starts new q new.stage

-- The message goes on after a cell with these symbols, in the tables in which its page's columns have these nodes.
abbrev pub GoesOn : (old new : StreamProgress) → CellCursor → List Node → List Symbol → Type 0
GoesOn old new p nodes symbols =
    (q : PartsState) → nodes_of q p.columns ≡ nodes → UsesGiven (given_of old.given_use q.given) (stage.BeforeCell p)
    → Continues old new q symbols

-- The message goes on with what follows from the value of a field. In the tables are these nodes.
abbrev pub GoesOnAfter : (old new : StreamProgress) → List Node → Option Table → Role → FieldValue → Type 0
GoesOnAfter old new nodes given r v =
    (q : PartsState) → q.table.nodes ≡ nodes → q.given ≡ given
    → Continues old new q (symbols_after old.limits.types nodes (given_of old.given_use given) r v)

-- no page is read now
abbrev pub IsNoPage : StreamStage → Type 0
IsNoPage (stage.BeforeCell p) = ⊥
IsNoPage (stage.InCell p) = ⊥
IsNoPage t = ⊤

-- no cell is due that is not begun
abbrev pub IsNoCellDue : StreamStage → Type 0
IsNoCellDue (stage.BeforeCell p) = ⊥
IsNoCellDue t = ⊤

-- a refusal ends a page, and leaves a given table in use
abbrev pub EndsPage : EventAdvance → (old new : StreamProgress) → Type 0
EndsPage (advance.Refused r) old new = IsNoPage new.stage × (new.given_use ≡ old.given_use)
EndsPage a old new = ⊤
