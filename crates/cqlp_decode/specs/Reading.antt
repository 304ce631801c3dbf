-- What a stream of frames says, from left to right.
use Rattle.std.specs.Prelude.{◌≡◌, ℕ, zero, suc, ◌+◌, ◌-◌, ◌++◌, ◌^◌, Bool, true, false, ◌&&◌, List, [], ◌∷◌, drop, Option, Some}
use Rattle.std.specs.Prelude.{None, nat_lt, ◌==◌, if◌then◌else◌, Ok, Err}
use Rattle.cqlp_note.specs.declared.field.Field.{Field}
use Rattle.cqlp_note.specs.declared.refusal.Reason.{Reason}
use Rattle.cqlp_note.specs.declared.refusal.Reason.TheVariants.{StreamTooLong}
use Rattle.cqlp_note.specs.Reader.{Said, More, Bad, Got, Refuses, Takes, says}
use Rattle.cqlp_note.specs.Reader as reader
use Rattle.cqlp_note.specs.Field.{FieldValue, field_of}
use Rattle.cqlp_note.specs.Step.{Emitted, Step, Emit, after_field, map_step, Runs}
use Rattle.cqlp_note.specs.Limits.{Rules, limit_of}
use Rattle.cqlp_note.specs.declared.header.Header.{Header}
use Rattle.cqlp_note.specs.Heading.{Heading, heading, has}
use Rattle.cqlp_kind.specs.declared.node.Node.{Node}
use Rattle.cqlp_kind.specs.Types.{Types, types_of, how_many}
use Rattle.cqlp_kind.specs.TypeStep.{TypeSymbol, TypePlace, type_step}
use Rattle.cqlp_kind.specs.CellStep.{CellSymbol, Value_of, CellPlace, cell_step}
pub use Rattle.cqlp_grammar.specs.Events.{Event, Frame, Holds, Node_of, Cell_at, Leave, End, type_event, cell_event}
use Rattle.cqlp_grammar.specs.declared.grammar.Role.{Role}
use Rattle.cqlp_grammar.specs.declared.grammar.Role.TheVariants as role
use Rattle.cqlp_grammar.specs.Productions.{Symbol, Stream, In, In_type, Cell_due, In_cell, Extra, message, following, fault_in}
use Rattle.cqlp_grammar.specs.Productions.{raw_types}

-- ---- what the caller gives

-- The types that the caller gave for a page without metadata: they wait, are in use until the frame ends, or were used.
pub data Given : Type 0 where
  Nothing : Given
  Waiting InUse Used : Types → Given

-- What a caller does between two events: it gives types for a page without metadata, in place of those that were given
-- before, or takes back what is held.
pub data Gift : Type 0 where
  Gives : Types → Gift
  TakesBack : Gift

abbrev pub held_after : Gift → Given → Given
held_after (Gives ts) g = Waiting ts
held_after TakesBack g = Nothing

abbrev pub held_after_all : List Gift → Given → Given
held_after_all [] g = g
held_after_all (x ∷ xs) g = held_after_all xs (held_after x g)

-- What a caller does before the first event, what before the second, and so on; after the last of these, nothing.
abbrev pub Gifts : Type 0
Gifts = List (List Gift)

abbrev pub gifts_now : Gifts → List Gift
gifts_now [] = []
gifts_now (now ∷ later) = now

abbrev pub gifts_later : Gifts → Gifts
gifts_later [] = []
gifts_later (now ∷ later) = later

-- with one more, after n events
abbrev pub with_gift : (n : ℕ) → Gift → Gifts → Gifts
with_gift zero x [] = (x ∷ []) ∷ []
with_gift zero x (now ∷ later) = (now ++ x ∷ []) ∷ later
with_gift (suc n) x [] = [] ∷ with_gift n x []
with_gift (suc n) x (now ∷ later) = now ∷ with_gift n x later

-- ---- places

-- Where the reading of a stream is: at this offset, in a frame that ends at `stop`, with these symbols still to
-- be read. The nodes are those of the metadata read last. These types are held that the caller gave, and this is what it
-- gives from here on.
pub record Place : Type 0 where
  pub offset : ℕ
  pub stop : ℕ
  pub symbols : List Symbol
  pub nodes : List Node
  pub given : Given
  pub gifts : Gifts

-- the start of a stream, over which the caller gives this
abbrev pub start_with : Gifts → Place
start_with gifts =
    record { offset = 0; stop = 0; symbols = Stream ∷ []; nodes = []; given = Nothing; gifts = gifts }

-- the start of a stream, over which nothing is given
abbrev pub start : Place
start = start_with []

-- the place with what the caller gives before the next event
abbrev pub settled : Place → Place
settled p = record p { given = held_after_all (gifts_now p.gifts) p.given; gifts = gifts_later p.gifts }

-- ---- pages

-- the given types fit a page without metadata
abbrev pub serves : (flags columns : ℕ) → Given → Bool
serves flags columns (Waiting ts) = has flags 0x04 && (how_many ts == columns)
serves flags columns g = false

abbrev pub given_types : Given → Types
given_types (Waiting ts) = ts
given_types (InUse ts) = ts
given_types (Used ts) = ts
given_types Nothing = raw_types 0

-- the types that the metadata of a page has, or cells as they are where it has none
abbrev pub metadata_types : (flags columns : ℕ) → List Node → Types
metadata_types flags columns nodes = if has flags 0x04 then raw_types columns else types_of nodes

-- the types of a page's cells
abbrev pub page_types : (types : Bool) → (flags columns : ℕ) → List Node → Given → Types
page_types types flags columns nodes given =
    if types
    then (if serves flags columns given then given_types given else metadata_types flags columns nodes)
    else raw_types columns

abbrev pub types_for : (types : Bool) → Role → List Node → Given → Types
types_for types (role.PageRows flags columns) nodes given = page_types types flags columns nodes given
types_for types r nodes given = raw_types 0

-- the given types are those of the page that begins after a field of this role
abbrev pub serves_after : Role → Given → Bool
serves_after (role.PageRows flags columns) given = serves flags columns given
serves_after r given = false

abbrev pub given_after : Role → Given → Given
given_after r given = if serves_after r given then InUse (given_types given) else given

abbrev pub is_in_use : Given → Bool
is_in_use (InUse ts) = true
is_in_use g = false

abbrev pub retired : Given → Given
retired (InUse ts) = Used ts
retired g = g

-- metadata begins without nodes
abbrev pub nodes_after : Role → List Node → List Node
nodes_after (role.MetaFlags rows) ns = []
nodes_after role.PreparedFlags ns = []
nodes_after r ns = ns

-- ---- steps

-- the place after a header of this many bytes
abbrev pub place_in_frame : Place → Header → (used : ℕ) → Place
place_in_frame p h used = record {
  offset = p.offset + used;
  stop = p.offset + used + h.length;
  symbols = message h;
  nodes = p.nodes;
  given = p.given;
  gifts = p.gifts;
}

-- the place after a field of this role and value, before what comes after it
abbrev pub place_after : (types : Bool) → Place → Role → List Symbol → FieldValue → (used : ℕ) → Place
place_after types p r rest v used = record {
  offset = p.offset + used;
  stop = p.stop;
  symbols = following (types_for types r p.nodes p.given) r v ++ rest;
  nodes = nodes_after r p.nodes;
  given = given_after r p.given;
  gifts = p.gifts;
}

-- the place at a frame's end
abbrev pub place_at_end : Place → (used : ℕ) → Place
place_at_end p used = record {
  offset = p.stop;
  stop = p.stop;
  symbols = Stream ∷ [];
  nodes = p.nodes;
  given = retired p.given;
  gifts = p.gifts;
}

abbrev pub header_step : Place → Heading → Step Event Place
header_step p (Err e) = Refuses (p.offset + e.0, e.1)
header_step p (Ok h) = Emit p.offset (Frame h) (place_in_frame p h)

abbrev pub value_step : (types : Bool) → Place → Field → Role → List Symbol → FieldValue → Option Reason
    → Step Event Place
value_step types p f r rest v (Some why) = Refuses (p.offset, why)
value_step types p f r rest v None = Emit p.offset (Holds f v) (place_after types p r rest v)

-- what is left of a type option or of a cell, if anything is
abbrev pub types_left : List TypeSymbol → List Symbol
types_left [] = []
types_left (t ∷ ts) = In_type (t ∷ ts) ∷ []

abbrev pub cells_left : (row column : ℕ) → List CellSymbol → List Symbol
cells_left row column [] = []
cells_left row column (c ∷ cs) = In_cell row column (c ∷ cs) ∷ []

abbrev pub place_of_types : Place → List Symbol → TypePlace → Place
place_of_types p rest q = record {
  offset = q.offset;
  stop = q.stop;
  symbols = types_left q.symbols ++ rest;
  nodes = q.nodes;
  given = p.given;
  gifts = p.gifts;
}

abbrev pub place_of_cells : (row column : ℕ) → Place → List Symbol → CellPlace → Place
place_of_cells row column p rest q = record {
  offset = q.offset;
  stop = p.stop;
  symbols = cells_left row column q.symbols ++ rest;
  nodes = p.nodes;
  given = p.given;
  gifts = p.gifts;
}

module _ (l : Rules) (p : Place) where
  -- a step of a type option, and of a cell of this row and this column
  abbrev pub option_step : List TypeSymbol → List Symbol → Step Event Place
  option_step ts rest =
      map_step type_event (place_of_types p rest)
      (type_step l (record { offset = p.offset; stop = p.stop; symbols = ts; nodes = p.nodes }))

  abbrev pub page_step : (row column : ℕ) → List CellSymbol → List Symbol → Step Event Place
  page_step row column cs rest =
      map_step (cell_event row column) (place_of_cells row column p rest)
      (cell_step l (record { offset = p.offset; symbols = cs }))

  abbrev pub step_at : List Symbol → Step Event Place
  step_at [] = reader.Idles
  step_at (Stream ∷ rest) =
      if nat_lt (2 ^ 63) p.offset
      then Refuses (p.offset, StreamTooLong)
      else Takes 9 (λ b. header_step p (heading b))
  step_at (In f n r ∷ rest) =
      after_field p.offset (field_of n (limit_of l n) (p.stop - p.offset))
      (λ v. value_step l.types p f r rest v (fault_in r v))
  step_at (In_type ts ∷ rest) = option_step ts rest
  step_at (Cell_due row column k inner ∷ rest) = page_step row column (Value_of k inner 0 p.stop ∷ []) rest
  step_at (In_cell row column cs ∷ rest) = page_step row column cs rest
  step_at (Extra ∷ rest) =
      Takes (p.stop - p.offset) (λ skipped. Emit p.stop (End (p.stop - p.offset)) (place_at_end p))

-- a step, after what the caller gives before its event
abbrev pub step : Rules → Place → Step Event Place
step l p = step_at l (settled p) p.symbols

-- Reading from p over these bytes says these events and leads to q, before the bytes that are left.
abbrev pub Reads : Rules → Place → List ℕ → List (ℕ × Event) → Place → List ℕ → Type 0
Reads l = Runs (step l)

pub data Verdict : Type 0 where
  Waits : Verdict
  Refused : ℕ → Reason → Verdict

-- a step that says no event ends with this verdict
abbrev pub Ends : Said (Emitted Event Place) (ℕ × Reason) → Verdict → Type 0
Ends More Waits = Unit {0}
Ends (Bad fault) (Refused k why) = fault ≡ (k, why)
Ends d v = ⊥

-- Reading from p over these bytes says these events, all that there are, and this verdict.
abbrev pub Says : Rules → Place → List ℕ → List (ℕ × Event) → Verdict → Type 0
Says l p bytes es v = (q : Place) × (rest : List ℕ) × Reads l p bytes es q rest × Ends (says (step l q) 0 rest) v

-- events, and the verdict where they end
abbrev pub Read : Type 0
Read = List (ℕ × Event) × Verdict

abbrev pub then_read : (Place → List ℕ → Read) → List ℕ → Said (Emitted Event Place) (ℕ × Reason) → Read
then_read next bytes More = ([], Waits)
then_read next bytes (Bad fault) = ([], Refused fault.0 fault.1)
then_read next bytes (Got x used) = let r = next (x.after used) (drop used bytes) in ((x.at, x.event) ∷ r.0, r.1)

-- the first n events, and what is said where they end before
abbrev pub reading : Rules → (n : ℕ) → Place → List ℕ → Read
reading l zero p bytes = ([], Waits)
reading l (suc n) p bytes = then_read (reading l n) bytes (says (step l p) 0 bytes)
