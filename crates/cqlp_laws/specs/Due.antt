-- The bytes that decide an event.
use Rattle.std.specs.Prelude.{◌≡◌, ℕ, ◌+◌, ◌<◌, ◌≤◌, ◌++◌, List, [], ◌∷◌, length, take}
use Rattle.std.specs.Int.{w32, from_be_bytes}
use Rattle.cqlp_note.specs.declared.field.Notation.{Notation}
use Rattle.cqlp_note.specs.Limits.{Rules}
use Rattle.cqlp_note.specs.Spelling.{Spells}
use Rattle.cqlp_kind.specs.declared.kind.Kind.{Kind}
use Rattle.cqlp_kind.specs.declared.kind.Kind.TheVariants as kind
use Rattle.cqlp_kind.specs.CellStep as cell
use Rattle.cqlp_grammar.specs.declared.event.Event as handed_out
use Rattle.cqlp_grammar.specs.Events.{event_of, Frame, Holds, Node_of, Cell_at, Leave, End}
use Rattle.cqlp_decode.specs.declared.step.Step.TheVariants as step
use Rattle.cqlp_decode.specs.Progress.{StreamState}
use Rattle.cqlp_decode.specs.Reading.{Place, Event, Gifts, Reads, start_with}
use Rattle.cqlp_decode.specs.Streams.{LeadsAfter}

-- These bytes say these events, and maybe more.
abbrev pub SayAtLeast : Rules → Gifts → (bytes : List ℕ) → List (ℕ × Event) → Type 0
SayAtLeast l gifts bytes es = (p : Place) × (rest : List ℕ) × Reads l (start_with gifts) bytes es p rest

-- How many bytes of a stream decide the last of its events so far, by what they say alone: the first of them, this many, say it, and
-- fewer do not. Where that is in a frame is the law `DueIsTheEndOfItsBytes`.
pub record IsDue (l : Rules) (gifts : Gifts) (s : List ℕ) (es : List (ℕ × Event)) (due : ℕ) : Type 0 where
  pub within : due ≤ length s
  pub decided : SayAtLeast l gifts (take due s) es
  pub fewer : (n : ℕ) → n < due → SayAtLeast l gifts (take n s) es → ⊥

-- Before the items of a tuple or a udt come the four bytes of its length, and before those of a list, a set or a map four more
-- of its count.
abbrev pub before_items : Kind → ℕ
before_items kind.Tuple = 4
before_items kind.Udt = 4
before_items k = 8

-- The bytes of an event: a header, a field, the id of an option, a scalar after its length, a length alone, what comes before
-- items, or a part of a content. The end of a value and that of a frame have none.
abbrev pub HasBytes : Event → List ℕ → Type 0
HasBytes (Frame h) own = length own ≡ 9
HasBytes (Holds f v) own = (n : Notation) × Spells n v own
HasBytes (Node_of k) own = length own ≡ 2
HasBytes (Cell_at row column (cell.Leaf level v)) own = length own ≡ 4 + from_be_bytes w32 (take 4 own)
HasBytes (Cell_at row column (cell.Null level)) own = length own ≡ 4
HasBytes (Cell_at row column (cell.Empty level)) own = length own ≡ 4
HasBytes (Cell_at row column (cell.Enter level k items)) own = length own ≡ before_items k
HasBytes (Cell_at row column (cell.Leave level items)) own = own ≡ []
HasBytes (Cell_at row column (cell.Part level offset c last)) own = own ≡ c
HasBytes (Leave level items) own = own ≡ []
HasBytes (End extra) own = own ≡ []

-- The bytes that decide an event end with its own, which begin at its offset. So a field is due at its end, Enter at the end of a length
-- or of a count, and a part at its end; Leave and End are due at their offsets, which are the ends of the value and of the frame.
abbrev pub DueIsTheEndOfItsBytes : Type 0
DueIsTheEndOfItsBytes =
    (l : Rules) (gifts : Gifts) (s : List ℕ) (es : List (ℕ × Event)) (at : ℕ) (e : Event) (due : ℕ)
    → IsDue l gifts s (es ++ (at, e) ∷ []) due
    → (before own : List ℕ) × (take due s ≡ before ++ own) × (length before ≡ at) × HasBytes e own

-- There are never more events than the bytes that decide the last of them, whatever is given, where a part of a long
-- content has any byte.
abbrev pub HasNoMoreEventsThanDue : Type 0
HasNoMoreEventsThanDue =
    (l : Rules) (gifts : Gifts) (s : List ℕ) (es : List (ℕ × Event)) (due : ℕ)
    → 1 ≤ l.part → IsDue l gifts s es due → length es ≤ due

-- Some bytes decide each event: those up to where the reading is behind it.
abbrev pub IsDueThere : Type 0
IsDueThere =
    (l : Rules) (gifts : Gifts) (s : List ℕ) (es : List (ℕ × Event)) (p : Place) (rest : List ℕ)
    → Reads l (start_with gifts) s es p rest → IsDue l gifts s es p.offset

-- Where a call hands out an event, a decoder has used the bytes that decide it, and no more.
abbrev pub UsesWhatIsDue : Type 0
UsesWhatIsDue =
    (gifts : Gifts) (old : StreamState) (s : List ℕ) (es : List (ℕ × Event)) (input : List ℕ) (at used : ℕ)
    (e : handed_out.Event) (new : StreamState)
    → LeadsAfter gifts old s es input (step.Event at used e) new
    → IsDue new.rules gifts (s ++ take used input) (es ++ (at, event_of e) ∷ []) (length (s ++ take used input))
