-- What one call makes of a cell. Read `Moves` first: a call hands out an item (`Hands`), waits for more (`Waits`) or refuses (`Fails`), as the
-- step of cqlp_kind/specs/CellStep says of the bytes that have come and the input. The parts of a call at the end are for the proofs of its code.
use Rattle.std.specs.Prelude.{◌≡◌, ◌≢◌, ℕ, ◌+◌, ◌-◌, ◌*◌, ◌^◌, ◌<◌, ◌≤◌, ◌++◌, Bool, false, List, [], ◌∷◌, length, take, drop, min}
use Rattle.std.specs.Prelude.{not, true, Option, Some, None, ⊤}
use Rattle.std.specs.Int.{w32, from_be_bytes}
use Rattle.cqlp_note.specs.declared.refusal.Reason.{Reason}
use Rattle.cqlp_note.specs.declared.refusal.Refusal.{Refusal}
use Rattle.cqlp_note.specs.Reader.{Said, More, Bad, Got, says}
use Rattle.cqlp_note.specs.Step.{Step, Emitted}
use Rattle.cqlp_note.specs.Partial.{FieldState}
use Rattle.cqlp_kind.specs.declared.node.Node.{Node}
use Rattle.cqlp_kind.specs.declared.kind.Kind.{Kind}
use Rattle.cqlp_kind.specs.declared.kind.Kind.TheVariants as kind
use Rattle.cqlp_cell.specs.declared.advance.CellOutline.{CellOutline}
use Rattle.cqlp_cell.specs.declared.advance.CellOutline.TheVariants as outline
use Rattle.cqlp_cell.specs.declared.advance.CellAdvance.{CellAdvance}
use Rattle.cqlp_cell.specs.declared.advance.CellAdvance.TheVariants as advance
use Rattle.cqlp_cell.specs.declared.open_values.OpenValue.{OpenValue}
use Rattle.cqlp_cell.specs.declared.open_values.Order.{Order}
use Rattle.cqlp_cell.specs.declared.open_values.Order.TheVariants as order
use Rattle.cqlp_cell.specs.declared.size.Sized.{Sized}
use Rattle.cqlp_cell.specs.declared.size.Sized.TheVariants as size
use Rattle.cqlp_cell.specs.declared.progress.NextInCell.{NextInCell}
use Rattle.cqlp_cell.specs.declared.progress.NextInCell.TheVariants as next
use Rattle.cqlp_cell.specs.declared.progress.Arrived.{Arrived}
use Rattle.cqlp_cell.specs.declared.progress.Arrived.TheVariants as arrived
use Rattle.cqlp_cell.specs.declared.progress.CellDue.TheVariants as due
use Rattle.cqlp_cell.specs.declared.progress.DueValue.{DueValue}
use Rattle.cqlp_cell.specs.declared.progress.CellProgress.{CellProgress}
use Rattle.cqlp_type.specs.Table.{Table}
use Rattle.cqlp_type.specs.Forests.{node_at, Conform}
use Rattle.cqlp_kind.specs.CellStep.{CellEvent, CellPlace, cell_step, sized_step}
use Rattle.cqlp_cell.specs.Items.{content_at, event_at, CanLend}
use Rattle.cqlp_cell.specs.Gathering.{IsGathering, seen_before}
use Rattle.cqlp_cell.specs.Numbers.{IsCounting}
use Rattle.cqlp_cell.specs.Sizes.{sized_as, CanBe, HasRoom}
use Rattle.cqlp_cell.specs.Progress.{CellState, state_of, ended, is_under_way, place, due_value, state_after, rest_of, due_of}
use Rattle.cqlp_cell.specs.Progress.{has_further, Conforms}
use Rattle.cqlp_cell.specs.OpenValues.{last_open}
use Rattle.cqlp_cell.specs.Coming.{inner_of, room_of}

-- what a step says
abbrev pub StepAnswer : Type 0
StepAnswer = Said (Emitted CellEvent CellPlace) (ℕ × Reason)

-- the bytes of the next part
abbrev pub part_size : CellState → (offset total : ℕ) → ℕ
part_size d offset total = min d.rules.cell (total - offset)

-- what is read after a part
abbrev pub next_after : (last : Bool) → (offset total : ℕ) → NextInCell
next_after true offset total = next.Items
next_after false offset total = next.Part offset total

-- after an item: the open values are gone on with, or a long scalar is
abbrev pub IsAfterItem : NextInCell → Type 0
IsAfterItem next.Nothing = ⊥
IsAfterItem (next.Cell _) = ⊥
IsAfterItem next.Items = ⊤
IsAfterItem (next.Part offset total) = ⊤

-- what the buffer holds of an item that goes on: what has come of its content
abbrev pub gathered : Arrived → (seen : List ℕ) → List ℕ
gathered arrived.Nothing seen = []
gathered arrived.Length seen = []
gathered (arrived.Counted n) seen = []
gathered (arrived.Scalar n) seen = seen
gathered (arrived.First n) seen = seen
gathered arrived.Later seen = seen

module _ (nodes : List Node) where
  -- what the next step says of these bytes
  unfoldable pub step_says : CellState → List ℕ → StepAnswer
  step_says d bytes = says (cell_step d.rules (place nodes d)) 0 bytes

  -- how it goes on after the length of the value that comes next, the number n
  unfoldable pub sized_of : CellState → (n : ℕ) → Step CellEvent CellPlace
  sized_of d n =
      let v = due_value nodes d in
      sized_step d.rules (place nodes d) (rest_of nodes d) v.kind (inner_of nodes v) (length d.open_values)
      (room_of nodes d) n

  -- the same where the value is this by its length
  abbrev pub sized_by : CellState → Sized → Step CellEvent CellPlace
  sized_by d s =
      let v = due_value nodes d in
      sized_as d.rules (place nodes d) (rest_of nodes d) v.kind (inner_of nodes v) (length d.open_values) s

  -- The value that comes next is this by its length.
  pub record Decided (d : CellState) (n : ℕ) (s : Sized) : Type 0 where
    pub is : sized_of d n ≡ sized_by d s
    pub can : CanBe d.rules (due_value nodes d).kind n s
    pub fits : HasRoom (room_of nodes d) n s

  -- ---- what has come of it

  -- the bytes behind the last field of the innermost value
  abbrev pub FurtherUnder : CellState → FieldState → Option OpenValue → Type 0
  FurtherUnder d p None = ⊥
  FurtherUnder d p (Some o) =
      (due_of d ≡ due.Close o)
      × (has_further d.rules o d.offset ≡ true)
      × IsGathering true (part_size d 0 (o.stop - d.offset)) d.offset 0 p

  abbrev pub PartUnder : CellState → FieldState → NextInCell → Type 0
  PartUnder d p (next.Part offset total) = IsGathering true (part_size d offset total) d.offset 0 p
  PartUnder d p next.Items = FurtherUnder d p (last_open d.open_values)
  PartUnder d p n = ⊥

  abbrev pub UnderBy : CellState → FieldState → Arrived → Type 0
  UnderBy d p arrived.Nothing = p.under_way ≡ false
  UnderBy d p arrived.Length = (due_of d ≡ due.Value) × IsCounting true d.offset (room_of nodes d) 0 p
  UnderBy d p (arrived.Scalar n) =
      (due_of d ≡ due.Value) × IsGathering true n (d.offset + 4) 0 p × Decided d n (size.Scalar n)
  UnderBy d p (arrived.Counted n) =
      (due_of d ≡ due.Value) × IsCounting true (d.offset + 4) n 0 p × Decided d n (size.Counted n)
  UnderBy d p (arrived.First n) =
      (due_of d ≡ due.Value) × IsGathering true d.rules.cell (d.offset + 4) 0 p × Decided d n (size.Parts n)
  UnderBy d p arrived.Later = PartUnder d p d.next

  -- A `Partial` is what it is where the reader is: it reads what the reader wants, or nothing.
  pub record Joined (d : CellState) (p : FieldState) : Type 0 where
    pub longest : d.rules.cell ≤ p.room
    pub under_way : UnderBy d p d.arrived

  -- ---- what a call does

  -- A step says this event at this offset, of k bytes, and leads to where the reader is.
  pub record Emits (said : StepAnswer) (at k : ℕ) (e : CellEvent) (new : CellState) : Type 0 where
    pub x : Emitted CellEvent CellPlace
    pub is : said ≡ Got x k
    pub offset : x.at ≡ at
    pub event : x.event ≡ e
    pub after : x.after k ≡ place nodes new

  -- where a content lies whole in the bytes used, the buffer is empty
  abbrev pub IsLent : CellOutline → (input buffer : List ℕ) → (used : ℕ) → Type 0
  IsLent (outline.Leaf level k i) input buffer used = length (content_at i input buffer) ≤ used → buffer ≡ []
  IsLent (outline.Part level offset i last) input buffer used = length (content_at i input buffer) ≤ used → buffer ≡ []
  IsLent i input buffer used = ⊤

  -- where it does not, the buffer holds the content, which is what had come of it and the bytes used
  abbrev pub IsKept : CellOutline → FieldState → (input buffer : List ℕ) → (used : ℕ) → Type 0
  IsKept (outline.Leaf level k i) p input buffer used =
      used < length (content_at i input buffer) → (p.under_way ≡ true) × (buffer ≡ p.seen ++ take used input)
  IsKept (outline.Part level offset i last) p input buffer used =
      used < length (content_at i input buffer) → (p.under_way ≡ true) × (buffer ≡ p.seen ++ take used input)
  IsKept i p input buffer used = ⊤

  -- so that it holds just the content
  abbrev pub IsHeld : CellOutline → (input buffer : List ℕ) → (used : ℕ) → Type 0
  IsHeld (outline.Leaf level k i) input buffer used = used < length (content_at i input buffer) → buffer ≡ content_at i input buffer
  IsHeld (outline.Part level offset i last) input buffer used =
      used < length (content_at i input buffer) → buffer ≡ content_at i input buffer
  IsHeld i input buffer used = ⊤

  -- The first `used` bytes of the input, with `base` bytes before it, end this item. It takes some of them, or it is
  -- the end of an open value.
  pub record Hands (old : CellState) (p : FieldState) (input : List ℕ) (said : StepAnswer) (base at used : ℕ)
      (i : CellOutline) (new : CellState) (q : FieldState) : Type 0 where
    pub within : used ≤ length input
    pub emits : Emits said at (base + used) (event_at i input q.content) new
    pub can_lend : CanLend i input q.content
    pub lent : IsLent i input q.content used
    pub kept : IsKept i p input q.content used
    pub held : IsHeld i input q.content used
    pub rules : new.rules ≡ old.rules
    pub stop : new.stop ≡ old.stop
    pub conforms : Conforms nodes new
    pub onward : new.offset ≡ old.offset + (base + used)
    pub goes_after : IsAfterItem new.next
    pub pays : length new.open_values < length old.open_values + 2 * used
    pub goes_on : is_under_way new ≡ true
    pub fresh : new.arrived ≡ arrived.Nothing
    pub idle : q.under_way ≡ false
    pub longest : q.room ≡ p.room

  -- All of the input belongs to an item that goes on, in the `Partial`.
  pub record Waits (old : CellState) (p : FieldState) (input : List ℕ) (said : StepAnswer) (used : ℕ)
      (new : CellState) (q : FieldState) : Type 0 where
    pub all : used ≡ length input
    pub is : said ≡ More
    pub same : new ≡ record old { arrived = new.arrived }
    pub under_way : q.under_way ≡ true
    pub joined : Joined new q
    pub kept : q.content ≡ gathered new.arrived q.seen
    pub longest : q.room ≡ p.room

  -- The cell ends by this refusal.
  pub record Fails (old : CellState) (p : FieldState) (said : StepAnswer) (r : Refusal)
      (new : CellState) (q : FieldState) : Type 0 where
    pub is : said ≡ Bad (r.at, r.why)
    pub ends : new ≡ ended old
    pub idle : q.under_way ≡ false
    pub longest : q.room ≡ p.room

  -- What a call does where a step says this, with W of what waits.
  abbrev pub Settles : CellState → FieldState → List ℕ → StepAnswer → (base : ℕ) → (W : Arrived → List ℕ → Type 0)
      → CellAdvance → CellState → FieldState → Type 0
  Settles old p input said base W (advance.More used) new q = Waits old p input said used new q × W new.arrived q.seen
  Settles old p input said base W (advance.Item at used i) new q = Hands old p input said base at used i new q
  Settles old p input said base W advance.Done new q = ⊥
  Settles old p input said base W (advance.Refused r) new q = Fails old p said r new q

-- ---- inside a value

abbrev pub order_by : Kind → (other : ℕ) → Order × ℕ
order_by kind.Map other = (order.Keys, other)
order_by k other = (order.Elements, 0)

-- how the items of a list, a set or a map follow one another, and the node of a map's second type
abbrev pub inner_order : List Node → DueValue → Order × ℕ
inner_order nodes v = order_by v.kind (v.inner + (node_at nodes v.inner).span)

abbrev pub counted_open : List Node → DueValue → (stop count : ℕ) → OpenValue
counted_open nodes v stop count =
    record {
      order = (inner_order nodes v).0;
      node = v.inner;
      other = (inner_order nodes v).1;
      left = count;
      items = count;
      stop = stop;
    }

abbrev pub fields_open : DueValue → (stop : ℕ) → OpenValue
fields_open v stop =
    record { order = order.Fields; node = v.inner; other = 0; left = v.arity; items = 0; stop = stop }

-- the same with one more value open
abbrev pub entered : CellState → OpenValue → CellState
entered d o = record d { open_values = d.open_values ++ o ∷ [] }

-- A list, a set or a map of this many bytes is open, with this many elements or pairs.
abbrev pub EntersCounted : List Node → CellState → (len count : ℕ) → CellState → Type 0
EntersCounted nodes old len count new =
    (new ≡ entered (state_after nodes old 8) (counted_open nodes (due_value nodes old) (old.offset + 4 + len) count))
    × Conforms nodes new

-- A tuple or a user-defined type of this many bytes is open.
abbrev pub EntersFields : List Node → CellState → (len : ℕ) → CellState → Type 0
EntersFields nodes old len new =
    (new ≡ entered (state_after nodes old 4) (fields_open (due_value nodes old) (old.offset + 4 + len)))
    × Conforms nodes new

-- the first inner type of a map is in the table
abbrev pub InnerConforms : List Node → DueValue → Type 0
InnerConforms nodes v = (v.kind ≡ kind.Map) → (depth : ℕ) × Conform nodes v.inner 2 depth

-- the length that has come of the item under way
abbrev pub length_under : Arrived → Option ℕ
length_under (arrived.Scalar n) = Some n
length_under (arrived.Counted n) = Some n
length_under (arrived.First n) = Some n
length_under _ = None

-- The length n has come, and these bytes after it.
abbrev pub LengthCame : (n : ℕ) → (bytes : List ℕ) → Arrived → (seen : List ℕ) → Type 0
LengthCame n bytes u seen = (length_under u ≡ Some n) × (seen ≡ bytes) × (n < 2 ^ 31)

-- these may be the bytes of the item under way: those of its length, if that has come, and those after it
abbrev pub AreBytes : Option ℕ → (seen bytes : List ℕ) → Type 0
AreBytes None seen bytes = bytes ≡ seen
AreBytes (Some n) seen bytes =
    (head : List ℕ) × (length head ≡ 4) × (from_be_bytes w32 head ≡ n) × (bytes ≡ head ++ seen)

-- what a `Partial` has seen of it
abbrev pub seen_under : Arrived → (seen : List ℕ) → List ℕ
seen_under arrived.Nothing seen = []
seen_under _ seen = seen

-- these bytes have come
abbrev pub HaveCome : (bytes : List ℕ) → Arrived → (seen : List ℕ) → Type 0
HaveCome bytes u seen = AreBytes (length_under u) (seen_under u seen) bytes

-- What the end of the innermost value does, whatever table and `Partial` there are, where nothing behind it is read on.
abbrev pub Closes : CellState → CellAdvance → CellState → Type 0
Closes old a new = (nodes : List Node) (p : FieldState) (input : List ℕ) → Conforms nodes old → p.under_way ≡ false
    → Settles nodes old p input (step_says nodes old input) 0 (HaveCome input) a new p

-- A call ends a cell that is whole, or it does what the step says of the bytes that have come and the input.
abbrev pub Moves : List Node → CellState → FieldState → List ℕ → CellAdvance → CellState → FieldState → Type 0
Moves nodes old p input advance.Done new q =
    (due_of old ≡ due.Nothing) × (old.arrived ≡ arrived.Nothing) × (new ≡ ended old) × (q ≡ p)
Moves nodes old p input a new q = (b : List ℕ) → HaveCome b old.arrived p.seen
    → Settles nodes old p input (step_says nodes old (b ++ input)) (length b) (HaveCome (b ++ input)) a new q

-- ---- the parts of a call

-- the length of the value that comes next is under way, or it is not begun
abbrev pub IsLengthUnder : List Node → (begun : Bool) → CellState → FieldState → Type 0
IsLengthUnder nodes begun d p = IsCounting begun d.offset (room_of nodes d) 0 p

-- so is a later part, from this offset in a scalar of `total` bytes
abbrev pub IsPartUnder : (begun : Bool) → (offset total : ℕ) → CellState → FieldState → Type 0
IsPartUnder begun offset total d p = IsGathering begun (part_size d offset total) d.offset 0 p

-- so are the bytes behind the last field of this value
abbrev pub IsFurtherUnder : (begun : Bool) → OpenValue → CellState → FieldState → Type 0
IsFurtherUnder begun o d p = IsPartUnder begun 0 (o.stop - d.offset) d p

-- A call does what the step says of the bytes that have come and the input.
abbrev pub Reads : {A : Type 0} → Table → (begun : Bool) → CellProgress A → FieldState → List ℕ
    → CellAdvance → CellProgress A → FieldState → Type 0
Reads t begun old p input a new q =
    let bytes = seen_before begun p ++ input in
    Settles t.nodes (state_of old) p input (step_says t.nodes (state_of old) bytes) (length (seen_before begun p))
    (HaveCome bytes) a (state_of new) q

-- The same after the length n, which has come, and which ends `start` bytes into the input or before it.
abbrev pub Sizes : {A : Type 0} → Table → (begun : Bool) → (n start : ℕ) → CellProgress A → FieldState → List ℕ
    → CellAdvance → CellProgress A → FieldState → Type 0
Sizes t begun n start old p input a new q =
    let seen = seen_before begun p in
    let bytes = seen ++ drop start input in
    Settles t.nodes (state_of old) p input (says (sized_of t.nodes (state_of old) n) 4 bytes)
    ((4 - start) + length seen) (LengthCame n bytes) a (state_of new) q

-- a whole call
abbrev pub Steps : {A : Type 0} → Table → CellProgress A → FieldState → List ℕ
    → CellAdvance → CellProgress A → FieldState → Type 0
Steps t old p input a new q = Moves t.nodes (state_of old) p input a (state_of new) q

-- an item that has a content
abbrev pub has_content : CellOutline → Bool
has_content (outline.Leaf level k i) = true
has_content (outline.Part level offset i last) = true
has_content i = false

-- an item without a content, or a refusal
abbrev pub is_bare : CellAdvance → Bool
is_bare (advance.Item at used i) = not (has_content i)
is_bare (advance.Refused r) = true
is_bare a = false

-- After an item without a content, and after a refusal, the buffer is empty.
abbrev pub Empties : CellAdvance → FieldState → Type 0
Empties a q = is_bare a ≡ true → q.content ≡ []

-- A call ends the cell where nothing is left of it, and only there; else it uses no more than the input, and all of it
-- while an item goes on.
abbrev pub Answers : CellState → List ℕ → CellAdvance → Type 0
Answers old input (advance.More used) = (used ≡ length input) × (due_of old ≢ due.Nothing)
Answers old input (advance.Item at used i) = (used ≤ length input) × (due_of old ≢ due.Nothing)
Answers old input advance.Done = due_of old ≡ due.Nothing
Answers old input (advance.Refused r) = due_of old ≢ due.Nothing
