-- Laws of the values of cells.
use Rattle.std.specs.Prelude.{◌≡◌, ℕ, ◌+◌, ◌<◌, ◌≤◌, ◌^◌, Bool, true, false, List, length, [], ◌∷◌, Option, Some, None, ⊤, if◌then◌else◌}
use Rattle.std.specs.List.{All}
use Rattle.cqlp_note.specs.declared.refusal.Refusal.{Refusal}
use Rattle.cqlp_note.specs.Step.{Runs}
use Rattle.cqlp_note.specs.Limits.{Rules}
use Rattle.cqlp_note.specs.Partial.{FieldState}
use Rattle.cqlp_kind.specs.declared.kind.Kind.{Kind}
use Rattle.cqlp_kind.specs.declared.node.Node.{Node}
use Rattle.cqlp_kind.specs.Types.{Types}
use Rattle.cqlp_cell.specs.declared.advance.CellAdvance.{CellAdvance}
use Rattle.cqlp_cell.specs.declared.advance.CellAdvance.TheVariants as advance
use Rattle.cqlp_cell.specs.declared.item.CellPush.{CellPush}
use Rattle.cqlp_cell.specs.declared.item.CellPush.TheVariants as push
use Rattle.cqlp_kind.specs.CellStep.{Value_of, CellEvent, CellPlace, cell_step}
use Rattle.cqlp_kind.specs.Scalars.{ScalarValue, kind_of, content_of, scalar_fits, IsInRange}
use Rattle.cqlp_value.specs.Values.{Values, IsScalar, ValueSpells, values_size, values_bytes, value_fits, AreInRange, value_items}
use Rattle.cqlp_value.specs.Values.{AreWithin}
use Rattle.cqlp_cell.specs.declared.front.FrontScalar.{FrontScalar}
use Rattle.cqlp_kind.specs.Contents.{value_of}
use Rattle.cqlp_cell.specs.Fronts.{IsFront}
use Rattle.cqlp_cell.specs.Items.{event_at, event_of}
use Rattle.cqlp_cell.specs.Progress.{CellState, Conforms, is_under_way, place}
use Rattle.cqlp_cell.specs.Reading.{Answers, Empties, HaveCome, Joined, Moves}
use Rattle.cqlp_cell.specs.Pushing.{After, Continues, Pushes, Uses, is_done}

-- What is read of a cell, up to its end, is a value of its type that its bytes spell, with just its items, where the
-- reading is not lenient.
abbrev pub ReadIsSpelled : Type 0
ReadIsSpelled =
    (l : Rules) → l.lenient ≡ false → (k : Kind) (inner : Types) (stop : ℕ)
    (before after : CellPlace) (b : List ℕ) (es : List (ℕ × CellEvent))
    → before.symbols ≡ Value_of k inner 0 stop ∷ [] → after.symbols ≡ [] → Runs (cell_step l) before b es after []
    → (v : Values) × ValueSpells k inner v b × (es ≡ value_items l before.offset k inner v)

-- What spells a value whose scalars are within the limits is read as its items, each where its bytes are.
abbrev pub SpelledIsRead : Type 0
SpelledIsRead =
    (l : Rules) (k : Kind) (inner : Types) (v : Values) (at stop : ℕ) (b : List ℕ)
    → ValueSpells k inner v b → AreWithin l v → at + length b ≤ stop
    → let before : CellPlace = record { offset = at; symbols = Value_of k inner 0 stop ∷ [] } in
    let after : CellPlace = record { offset = at + length b; symbols = [] } in
    Runs (cell_step l) before b (value_items l at k inner v) after []

-- The bytes that spell a value are as many as its size says.
abbrev pub SpelledIsLong : Type 0
SpelledIsLong =
    (k : Kind) (inner : Types) (v : Values) (b : List ℕ) → ValueSpells k inner v b → length b ≡ values_size v

-- Bytes spell at most one value of a type.
abbrev pub OneSpelled : Type 0
OneSpelled =
    (k : Kind) (inner : Types) (v w : Values) (b : List ℕ)
    → ValueSpells k inner v b → ValueSpells k inner w b → v ≡ w

-- A scalar that fits is what is read of the content that is written of it.
abbrev pub ScalarIsItsContent : Type 0
ScalarIsItsContent =
    (v : ScalarValue) → IsInRange v → scalar_fits v ≡ true → IsScalar (kind_of v) v (content_of v)

-- What is read of a content of bytes is of its kind, in range, and fits.
abbrev pub ReadScalarFits : Type 0
ReadScalarFits =
    (k : Kind) (v : ScalarValue) (c : List ℕ)
    → All (λ x. x < 256) c → IsScalar k v c → (kind_of v ≡ k) × (scalar_fits v ≡ true) × IsInRange v

-- A value that fits is spelled by the bytes that are written of it, which are as many as its size says. There are fewer
-- than 2^31 of them, as the length of each content is an [int].
abbrev pub FittingIsSpelled : Type 0
FittingIsSpelled =
    (k : Kind) (inner : Types) (v : Values)
    → AreInRange v → value_fits k inner v ≡ true → values_size v < 2 ^ 31
    → ValueSpells k inner v (values_bytes v) × (length (values_bytes v) ≡ values_size v)

-- A value that bytes spell fits, and its scalars are in range.
abbrev pub SpelledFits : Type 0
SpelledFits =
    (k : Kind) (inner : Types) (v : Values) (b : List ℕ)
    → ValueSpells k inner v b → All (λ x. x < 256) b → (value_fits k inner v ≡ true) × AreInRange v

-- ---- one answer

-- What a call says of a cell, a content as bytes.
pub data Answer : Type 0 where
  More : (used : ℕ) → Answer
  FieldOutline : (at used : ℕ) → CellEvent → Answer
  Done : Answer
  Refused : Refusal → Answer

abbrev pub push_answer : CellPush → Answer
push_answer (push.More used) = More used
push_answer (push.Item at used e) = FieldOutline at used (event_of e)
push_answer push.Done = Done
push_answer (push.Refused r) = Refused r

-- the same of `advance`, whose content lies in this input or this buffer
abbrev pub advance_answer : (input buffer : List ℕ) → CellAdvance → Answer
advance_answer input buffer (advance.More used) = More used
advance_answer input buffer (advance.Item at used i) = FieldOutline at used (event_at i input buffer)
advance_answer input buffer advance.Done = Done
advance_answer input buffer (advance.Refused r) = Refused r

-- A call: the reader and the `Partial` before it, its answer, and the two after it.
pub record Call (X : Type 0) : Type 0 where
  pub reader : CellState
  pub partial : FieldState
  pub answer : X
  pub reader' : CellState
  pub partial' : FieldState

module _ (nodes : List Node) where
  -- What later calls see of a reader and its `Partial`: the limits; whether a cell is under way, and whether nothing of
  -- it is left; where its reading is, in how many open values; whether a field is under way, with its bytes so far;
  -- the room, and what the buffer holds.
  pub record Seen : Type 0 where
    pub rules : Rules
    pub under_way : Bool
    pub done : Bool
    pub place : CellPlace
    pub levels : ℕ
    pub field : Bool
    pub bytes : List ℕ
    pub room : ℕ
    pub buffer : List ℕ

  abbrev pub seen : CellState → FieldState → Seen
  seen d p = record {
    rules = d.rules;
    under_way = is_under_way d;
    done = is_done d;
    place = place nodes d;
    levels = length d.open_values;
    field = p.under_way;
    bytes = (if p.under_way then p.seen else []);
    room = p.room;
    buffer = p.content;
  }

  -- the two that are left look the same to later calls, and the same bytes have come of what is read next
  pub record LeaveAlike {X : Type 0} (c d : Call X) : Type 0 where
    pub same : seen c.reader' c.partial' ≡ seen d.reader' d.partial'
    pub come : List ℕ
    pub this : HaveCome come c.reader'.arrived c.partial'.seen
    pub that : HaveCome come d.reader'.arrived d.partial'.seen

  -- what a call of either requires
  pub record IsReady {X : Type 0} (c : Call X) : Type 0 where
    pub under_way : is_under_way c.reader ≡ true
    pub conforms : Conforms nodes c.reader
    pub joined : Joined nodes c.reader c.partial

  -- what `push` requires and ensures
  abbrev pub IsPush : List ℕ → Call CellPush → Type 0
  IsPush input c =
      IsReady c
      × Uses c.reader input c.answer
      × Continues nodes c.reader c.answer c.reader'
      × Pushes nodes c.reader c.partial input c.answer c.reader' c.partial'

  -- what `advance` requires and ensures
  abbrev pub IsAdvance : List ℕ → Call CellAdvance → Type 0
  IsAdvance input c =
      IsReady c
      × Moves nodes c.reader c.partial input c.answer c.reader' c.partial'
      × Answers c.reader input c.answer
      × Empties c.answer c.partial'

  -- Two calls are made by readers with the same limits, each with a `Partial` that has the same room and holds the
  -- same, after the same bytes and events of a cell that began at `start`.
  pub record AreAlike
      {X : Type 0} (start : CellPlace) (s : List ℕ) (es : List (ℕ × CellEvent)) (c d : Call X)
      : Type 0 where
    pub rules : c.reader.rules ≡ d.reader.rules
    pub room : c.partial.room ≡ d.partial.room
    pub buffer : c.partial.content ≡ d.partial.content
    pub this : After nodes start c.reader c.partial s es
    pub that : After nodes start d.reader d.partial s es

-- After the same bytes and events of a cell, the same input has one answer: what `push` says, and what it leaves.
abbrev pub OneAnswerOfPush : Type 0
OneAnswerOfPush =
    (nodes : List Node) (start : CellPlace) (s : List ℕ) (es : List (ℕ × CellEvent)) (input : List ℕ)
    (c d : Call CellPush)
    → AreAlike nodes start s es c d → IsPush nodes input c → IsPush nodes input d
    → (push_answer c.answer ≡ push_answer d.answer) × LeaveAlike nodes c d

-- The same of `advance`.
abbrev pub OneAnswerOfAdvance : Type 0
OneAnswerOfAdvance =
    (nodes : List Node) (start : CellPlace) (s : List ℕ) (es : List (ℕ × CellEvent)) (input : List ℕ)
    (c d : Call CellAdvance)
    → AreAlike nodes start s es c d → IsAdvance nodes input c → IsAdvance nodes input d
    → (advance_answer input c.partial'.content c.answer ≡ advance_answer input d.partial'.content d.answer)
    × LeaveAlike nodes c d

-- the same bytes used, and the same scalar
abbrev pub AreSameFront : Option FrontScalar → Option FrontScalar → Type 0
AreSameFront None None = ⊤
AreSameFront (Some f) (Some g) = (f.used ≡ g.used) × (value_of f.scalar ≡ value_of g.scalar)
AreSameFront a b = ⊥

-- Of the same input `front_scalar` gives the same scalar, or none.
abbrev pub OneAnswerOfFrontScalar : Type 0
OneAnswerOfFrontScalar =
    (l : Rules) (k : Kind) (room : ℕ) (input : List ℕ) (a b : Option FrontScalar)
    → IsFront l k room input a → IsFront l k room input b → AreSameFront a b
