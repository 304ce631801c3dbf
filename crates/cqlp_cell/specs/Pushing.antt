-- What the reader of a cell has read since it began.
use Rattle.std.specs.Prelude.{◌≡◌, ℕ, ◌+◌, ◌*◌, ◌<◌, ◌≤◌, ◌++◌, Bool, true, false, List, [], ◌∷◌, length, take, Option}
use Rattle.cqlp_note.specs.Reader.{More, Bad, says}
use Rattle.cqlp_note.specs.Step.{Runs}
use Rattle.cqlp_note.specs.Limits.{Rules}
use Rattle.cqlp_note.specs.Partial.{FieldState}
use Rattle.cqlp_kind.specs.declared.node.Node.{Node}
use Rattle.cqlp_cell.specs.declared.item.CellPush.{CellPush}
use Rattle.cqlp_cell.specs.declared.item.CellPush.TheVariants as push
use Rattle.cqlp_cell.specs.declared.open_values.OpenValue.{OpenValue}
use Rattle.cqlp_cell.specs.declared.progress.NextInCell.{NextInCell}
use Rattle.cqlp_cell.specs.declared.progress.NextInCell.TheVariants as next
use Rattle.cqlp_cell.specs.declared.progress.Arrived.TheVariants as arrived
use Rattle.cqlp_kind.specs.CellStep.{CellEvent, CellPlace, cell_step}
use Rattle.cqlp_cell.specs.Items.{content_length, event_of}
use Rattle.cqlp_cell.specs.Progress.{CellState, ended, is_under_way, place, Conforms}
use Rattle.cqlp_cell.specs.Reading.{Joined, HaveCome, gathered}

-- a reader that has read nothing
abbrev pub new_reader : Rules → CellState
new_reader l = record { rules = l; offset = 0; stop = 0; next = next.Nothing; arrived = arrived.Nothing; open_values = [] }

-- a cell of the type at this node, or of none, begins here
abbrev pub begun : CellState → Option ℕ → (at end : ℕ) → CellState
begun d node at end =
    record d { offset = at; stop = end; next = next.Cell node; arrived = arrived.Nothing; open_values = [] }

abbrev pub done_by : NextInCell → List OpenValue → Bool
done_by next.Items [] = true
done_by n os = false

-- a cell is under way, and nothing of it is left
abbrev pub is_done : CellState → Bool
is_done d = done_by d.next d.open_values

-- Where the content of an event lies whole in the bytes used, the buffer is empty. Else it holds the content, which is
-- what had come of it and the bytes used.
pub record Keeps (p : FieldState) (input : List ℕ) (used : ℕ) (e : CellEvent) (q : FieldState) : Type 0 where
  pub lent : content_length e ≤ used → q.content ≡ []
  pub kept : used < content_length e → (p.under_way ≡ true) × (q.content ≡ p.seen ++ take used input)

module _ (nodes : List Node) where
  -- A cell began at `start`, and of it these bytes were used and these events handed out.
  pub record After (start : CellPlace) (d : CellState) (p : FieldState) (s : List ℕ) (es : List (ℕ × CellEvent))
      : Type 0 where
    pub pending : List ℕ
    pub runs : Runs (cell_step d.rules) start s es (place nodes d) pending
    pub come : HaveCome pending d.arrived p.seen

  -- What a call leads to that was made after these bytes and events.
  abbrev pub Leads : (start : CellPlace) → CellState → List ℕ → List (ℕ × CellEvent) → List ℕ
      → CellPush → CellState → FieldState → Type 0
  Leads start old s es input (push.More used) new q =
      (after : After start new q (s ++ input) es)
      × (says (cell_step new.rules (place nodes new)) 0 after.pending ≡ More)
  Leads start old s es input (push.Item at used e) new q =
      After start new q (s ++ take used input) (es ++ (at, event_of e) ∷ [])
  Leads start old s es input push.Done new q =
      Runs (cell_step old.rules) start s es (place nodes old) [] × ((place nodes old).symbols ≡ [])
  Leads start old s es input (push.Refused r) new q =
      (rest : List ℕ) × Runs (cell_step old.rules) start (s ++ input) es (place nodes old) rest
      × (says (cell_step old.rules (place nodes old)) 0 rest ≡ Bad (r.at, r.why))

  -- The cell is still under way, as its types are in the table; or it has ended. An item takes some byte, or it ends
  -- a value that is open.
  abbrev pub Continues : CellState → CellPush → CellState → Type 0
  Continues old (push.More used) new = (is_under_way new ≡ true) × (new.rules ≡ old.rules) × Conforms nodes new
  Continues old (push.Item at used e) new =
      (is_under_way new ≡ true) × (new.rules ≡ old.rules) × Conforms nodes new
      × (length new.open_values < length old.open_values + 2 * used)
  Continues old push.Done new = new ≡ ended old
  Continues old (push.Refused r) new = new ≡ ended old

  -- The `Partial` still serves the cell, or has no field under way. At an item nothing has come of what is read next.
  abbrev pub Serves : FieldState → (input : List ℕ) → CellPush → CellState → FieldState → Type 0
  Serves p input (push.More used) new q =
      Joined nodes new q × (q.under_way ≡ true) × (q.content ≡ gathered new.arrived q.seen)
  Serves p input (push.Item at used e) new q =
      Joined nodes new q × (new.arrived ≡ arrived.Nothing) × Keeps p input used (event_of e) q
  Serves p input push.Done new q = (q ≡ p) × (q.under_way ≡ false)
  Serves p input (push.Refused r) new q = (q.under_way ≡ false) × (q.content ≡ [])

  pub record Pushes (old : CellState) (p : FieldState) (input : List ℕ) (x : CellPush)
      (new : CellState) (q : FieldState) : Type 0 where
    pub leads : (start : CellPlace) (s : List ℕ) (es : List (ℕ × CellEvent)) → After start old p s es
        → Leads start old s es input x new q
    pub serves : Serves p input x new q
    pub longest : q.room ≡ p.room

-- A call ends the cell where nothing is left of it, and only there; else it uses no more than the input, and all of it
-- while an item goes on.
abbrev pub Uses : CellState → List ℕ → CellPush → Type 0
Uses old input (push.More used) = (used ≡ length input) × (is_done old ≡ false)
Uses old input (push.Item at used e) = (used ≤ length input) × (is_done old ≡ false)
Uses old input push.Done = is_done old ≡ true
Uses old input (push.Refused r) = is_done old ≡ false
