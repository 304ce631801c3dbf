-- Pages whose cells are each one event (sections 4.2.5.2 and 6 of native_protocol_v4.spec).
use Rattle.std.specs.Prelude.{◌≡◌, ◌⊎◌, ⊤, ℕ, ◌+◌, ◌-◌, ◌*◌, ◌<◌, ◌≤◌, ◌^◌, ◌++◌, nat_lt, List, [], ◌∷◌, drop, take, length, Option, Some, None, Result, Ok, Err}
use Rattle.cqlp_kind.specs.declared.kind.Kind.{Kind}
use Rattle.cqlp_kind.specs.CellStep as cell
use Rattle.cqlp_grammar.specs.Events.{Event, Cell_at}
use Rattle.cqlp_message.specs.declared.frame.Frame.{Frame}
use Rattle.cqlp_message.specs.Owned.{frame_of}
use Rattle.cqlp_message.specs.Pages.{cells_wanted}
use Rattle.cqlp_compose.specs.Bare.{after, event_bytes, longest_cell}
use Rattle.cqlp_compose.specs.Begun.{BeginsBare, IsBare, rows_event, said_len}
use Rattle.cqlp_compose.specs.Composing.{ComposerState, start}
use Rattle.cqlp_compose.specs.Single as single
use Rattle.cqlp_compose.specs.declared.page.BegunPage.{BegunPage}
use Rattle.cqlp_c.specs.declared.encode.CqlpEncoded.{CqlpEncoded}
use Rattle.cqlp_c.specs.declared.event.CqlpEvent.{CqlpEvent}
use Rattle.cqlp_c.specs.declared.from_c.BadEvent.{BadEvent}
use Rattle.cqlp_c.specs.declared.numbers.TheConstants as numbers
use Rattle.cqlp_c.specs.declared.whole_page.CellRun.{CellRun}
use Rattle.cqlp_c.specs.declared.whole_page.Opened.{Opened}
use Rattle.cqlp_c.specs.declared.whole_page.Quarters.{Quarters}
use Rattle.cqlp_c.specs.declared.whole_page.WholePage.{WholePage}
use Rattle.cqlp_c.specs.Encoding.{PutsFrame, after_all, longest}
use Rattle.cqlp_c.specs.FromC.{content_len, event_from_c}
use Rattle.cqlp_c.specs.Rooms.{PutsWhere}

-- ---- cells

-- the bytes of the cell with the event that is found
abbrev pub found_bytes : Result Event BadEvent → List ℕ
found_bytes (Ok e) = event_bytes e
found_bytes (Err why) = []

-- the bytes of the cell whose one event C passes
abbrev pub cell_bytes : CqlpEvent → (contents : List ℕ) → List ℕ
cell_bytes c contents = found_bytes (event_from_c c contents)

abbrev pub cells_bytes : (contents : List ℕ) → List CqlpEvent → List ℕ
cells_bytes contents [] = []
cells_bytes contents (c ∷ cs) = cell_bytes c contents ++ cells_bytes (drop (content_len c) contents) cs

-- What C passes is all of a cell of this kind, which has n bytes, in whatever row and column; and these contents come after its own.
abbrev pub IsCellOfKind : Kind → CqlpEvent → (contents : List ℕ) → (n : ℕ) → (rest : List ℕ) → Type 0
IsCellOfKind k c contents n rest =
    (e : cell.CellEvent) × (event_from_c c contents ≡ Ok (Cell_at c.row c.column e)) × single.IsCellOfKind longest_cell.bytes k e (cell_bytes c contents)
    × (n ≡ length (cell_bytes c contents)) × (rest ≡ drop (content_len c) contents)

-- What C passes is all of the cell of a page after as many others.
abbrev pub IsNextCell : Frame → (cells : ℕ) → CqlpEvent → (contents : List ℕ) → (n : ℕ) → (rest : List ℕ) → Type 0
IsNextCell f cells c contents n rest =
    (e : Event) × (event_from_c c contents ≡ Ok e) × single.IsNextCell f (after cells) longest_cell e (cell_bytes c contents)
    × (n ≡ length (cell_bytes c contents)) × (rest ≡ drop (content_len c) contents)

-- What C passes are the cells of a page after as many others, up to the last, which have n bytes and all contents.
abbrev pub AreNextCells : Frame → (cells : ℕ) → (contents : List ℕ) → List CqlpEvent → (n : ℕ) → Type 0
AreNextCells f cells contents [] n = (contents ≡ []) × (cells ≡ cells_wanted (frame_of f).message) × (n ≡ 0)
AreNextCells f cells contents (c ∷ cs) n =
    (len more : ℕ) × IsNextCell f cells c contents len (drop (content_len c) contents)
    × AreNextCells f (cells + 1) (drop (content_len c) contents) cs more × (n ≡ len + more)

-- What C passes are cells of a page after as many others, which have n bytes, and these contents come after theirs.
abbrev pub AreCellsFrom : Frame → (cells : ℕ) → (contents : List ℕ) → List CqlpEvent → (n : ℕ) → (rest : List ℕ) → Type 0
AreCellsFrom f cells contents [] n rest = (rest ≡ contents) × (n ≡ 0)
AreCellsFrom f cells contents (c ∷ cs) n rest =
    (len more : ℕ) × IsNextCell f cells c contents len (drop (content_len c) contents)
    × AreCellsFrom f (cells + 1) (drop (content_len c) contents) cs more rest × (n ≡ len + more)

-- These cells, of which this is known.
pub record IsRun (f : Frame) (cells : ℕ) (contents : List ℕ) (cs : List CqlpEvent) (r : CellRun) (rest : List ℕ) : Type 0 where
  pub events : r.events.now ≡ cs
  pub contents_are : r.contents.now ≡ contents
  pub are : AreCellsFrom f cells contents cs r.size rest
  pub small : r.size < 2 ^ 60

-- All cells of a page, in four runs, none longer than the last.
pub record AreQuarters (f : Frame) (contents : List ℕ) (cs : List CqlpEvent) (q : Quarters) : Type 0 where
  pub len : ℕ
  pub one : List CqlpEvent
  pub two : List CqlpEvent
  pub three : List CqlpEvent
  pub four : List CqlpEvent
  pub after_one : List ℕ
  pub after_two : List ℕ
  pub after_three : List ℕ
  pub all : cs ≡ one ++ (two ++ (three ++ four))
  pub first : IsRun f 0 contents one q.first after_one
  pub second : IsRun f len after_one two q.second after_two
  pub third : IsRun f (2 * len) after_two three q.third after_three
  pub last : IsRun f (3 * len) after_three four q.last []
  pub long_one : length one ≡ len
  pub long_two : length two ≡ len
  pub long_three : length three ≡ len
  pub long_four : len ≤ length four
  pub come : length cs ≡ cells_wanted (frame_of f).message

-- ---- the head

-- The events before an end, or all.
abbrev pub IsWithoutEnd : List CqlpEvent → List CqlpEvent → Type 0
IsWithoutEnd all front = (all ≡ front) ⊎ ((last : CqlpEvent) × (all ≡ front ++ last ∷ []) × (last.tag ≡ numbers.TAG_END))

-- All events but the last are taken, and the last counts n rows.
abbrev pub ReadsRows : ComposerState → List CqlpEvent → (contents : List ℕ) → (n : ℕ) → (rest : List ℕ) → ComposerState → Type 0
ReadsRows s cs contents n rest new =
    (front : List CqlpEvent) × (last : CqlpEvent) × (cs ≡ front ++ last ∷ []) × (mid : List ℕ)
    × (after_all 0 (s, contents) front ≡ Ok (new, mid)) × (event_from_c last mid ≡ Ok (rows_event n)) × (rest ≡ drop (content_len last) mid)

-- The page with this head, of n rows and without cells, whose events but the last a composer took.
abbrev pub OpensAs : List CqlpEvent → (contents : List ℕ) → Frame → (rest : List ℕ) → (n : ℕ) → ComposerState → Type 0
OpensAs cs contents f rest n s = ReadsRows (start longest) cs contents n rest s × IsBare s n (Ok f)

abbrev pub OpensPage : List CqlpEvent → (contents : List ℕ) → Opened → Type 0
OpensPage cs contents o =
    (n : ℕ) × (s : ComposerState) × OpensAs cs contents o.page.frame o.contents.now n s × (o.room ≡ s.frame.room)

-- ---- the page

-- how many bytes the cells of all runs have
abbrev pub quarters_size : Quarters → ℕ
quarters_size q = q.first.size + q.second.size + q.third.size + q.last.size

-- The page that has this head and these cells.
pub record OpensWhole (head cs : List CqlpEvent) (contents : List ℕ) (w : WholePage) : Type 0 where
  pub frame : Frame
  pub rows : ℕ
  pub state : ComposerState
  pub rest : List ℕ
  pub opens : OpensAs head contents frame rest rows state
  pub cells : AreQuarters frame rest cs w.cells
  pub size : w.size ≡ quarters_size w.cells
  pub room : w.size ≤ state.frame.room
  pub begun : BegunPage
  pub begins : BeginsBare (frame_of frame) (said_len w.size) (Ok begun)
  pub bytes : w.head.items ≡ begun.head.items

-- ---- what is put

-- What C passes is a leaf that is a text or a blob.
abbrev pub IsLent : CqlpEvent → Type 0
IsLent c = (c.tag ≡ numbers.TAG_LEAF) × ((c.kind ≡ numbers.KIND_VARCHAR) ⊎ (c.kind ≡ numbers.KIND_BLOB))

-- What C passes is an event of a cell whose bytes have room.
abbrev pub IsWritable : CqlpEvent → (contents : List ℕ) → (n : ℕ) → Type 0
IsWritable c contents n =
    (e : Event) × (event_from_c c contents ≡ Ok e) × (length (cell_bytes c contents) < 2 ^ 32 + 4) × (length (cell_bytes c contents) ≤ n)

abbrev pub AreWritable : List CqlpEvent → (contents : List ℕ) → (n : ℕ) → Type 0
AreWritable [] contents n = ⊤
AreWritable (c ∷ cs) contents n =
    IsWritable c contents n × AreWritable cs (drop (content_len c) contents) (n - length (cell_bytes c contents))

-- The cell of the event of this number, if there is one, is put behind as many bytes; those after it can be.
pub record WritesOn (cs : List CqlpEvent) (at : ℕ) (contents : List ℕ) (put : ℕ) (before : List ℕ) (put' : ℕ) (rest after : List ℕ) : Type 0 where
  pub bytes : List ℕ
  pub is : after ≡ take put before ++ (bytes ++ drop (length bytes) (drop put before))
  pub long : put' ≡ put + length bytes
  pub fits : put' ≤ length before
  pub cells : bytes ++ cells_bytes rest (drop (at + 1) cs) ≡ cells_bytes contents (drop at cs)
  pub left : AreWritable (drop (at + 1) cs) rest (length before - put')

-- the bytes of the cells of a run
abbrev pub run_bytes : CellRun → List ℕ
run_bytes r = cells_bytes r.contents.now r.events.now

abbrev pub quarters_bytes : Quarters → List ℕ
quarters_bytes q = run_bytes q.first ++ (run_bytes q.second ++ (run_bytes q.third ++ run_bytes q.last))

-- Its cells have as many bytes as it says, and can be put.
abbrev pub IsReady : CellRun → Type 0
IsReady r = (r.size ≡ length (run_bytes r)) × AreWritable r.events.now r.contents.now r.size

-- The cells of all runs can be put, those of the others while the last is.
pub record AreReady (q : Quarters) : Type 0 where
  pub first : IsReady q.first
  pub second : IsReady q.second
  pub third : IsReady q.third
  pub last : IsReady q.last
  pub few_first : length q.first.events.now ≤ length q.last.events.now
  pub few_second : length q.second.events.now ≤ length q.last.events.now
  pub few_third : length q.third.events.now ≤ length q.last.events.now
  pub small : quarters_size q < 2 ^ 62

-- the bytes of a page
abbrev pub page_bytes : WholePage → List ℕ
page_bytes w = w.head.items ++ quarters_bytes w.cells

abbrev pub PutsPage : WholePage → (code : ℕ) → (before after : List ℕ) → Type 0
PutsPage w code before after = PutsWhere (nat_lt (length before) (length (page_bytes w))) (page_bytes w) code before after

-- The frame's bytes are put, or there is no room for them; or nothing changes in the room.
abbrev pub EncodesPage : List CqlpEvent → (contents : List ℕ) → Option ℕ → (before after : List ℕ) → CqlpEncoded → Type 0
EncodesPage cs contents None before after written = after ≡ before
EncodesPage cs contents (Some code) before after written = PutsFrame cs contents code before after written
