-- What the calls on pages answer that are written in batches, and what they leave.
use Rattle.std.specs.Prelude.{◌≡◌, ◌==◌, ℕ, suc, ◌+◌, ◌-◌, ◌^◌, ◌++◌, ◌⊎◌, Bool, true, false, nat_lt, min, if◌then◌else◌}
use Rattle.std.specs.Prelude.{List, [], ◌∷◌, length, drop, Option, Some, None, Result, Ok, Err}
use Rattle.std.specs.Borrow.{Bor}
use Rattle.cqlp_note.specs.declared.field.Field.TheVariants as field
use Rattle.cqlp_note.specs.declared.header.TheConstants.Header.{LONGEST_BODY}
use Rattle.cqlp_note.specs.Field.{Count}
use Rattle.cqlp_kind.specs.declared.kind.Kind.{Kind}
use Rattle.cqlp_kind.specs.Scalars.{ScalarValue}
use Rattle.cqlp_grammar.specs.Events.{Event, Holds}
use Rattle.cqlp_message.specs.Owned.{frame_of}
use Rattle.cqlp_message.specs.declared.unfit.Unfit.{Unfit}
use Rattle.cqlp_message.specs.declared.unfit.Unfit.TheVariants as unfit
use Rattle.cqlp_build.specs.declared.error.BuildError.TheVariants as build_error
use Rattle.cqlp_build_cells.specs.declared.builder.CellLimits.{CellLimits}
use Rattle.cqlp_build_cells.specs.declared.error.CellError.{CellError}
use Rattle.cqlp_build_cells.specs.declared.error.CellError.TheVariants as cell_error
use Rattle.cqlp_compose.specs.Composing.{ComposerState, start}
use Rattle.cqlp_compose.specs.declared.error.PageCellError.TheVariants as page_error
use Rattle.cqlp_compose.specs.Measures.{event_size}
use Rattle.cqlp_compose.specs.declared.error.BeginError.{BeginError}
use Rattle.cqlp_compose.specs.declared.error.BeginError.TheVariants as begin_error
use Rattle.cqlp_compose.specs.declared.error.PutError.TheVariants as put_error
use Rattle.cqlp_compose.specs.declared.error.Unended.{Unended}
use Rattle.cqlp_compose.specs.declared.error.Unended.TheVariants as unended
use Rattle.cqlp_compose.specs.declared.page.BegunPage.{BegunPage}
use Rattle.cqlp_compose.specs.declared.page.OpenPage.{OpenPage}
use Rattle.cqlp_compose.specs.Begun.{ends}
use Rattle.cqlp_compose.specs.Begun as page
use Rattle.cqlp_compose.specs.declared.put.PutCells.{PutCells}
use Rattle.cqlp_compose.specs.Put.{PutterState, fresh_putter, putter}
use Rattle.cqlp_compose.specs.Put as cells
use Rattle.cqlp_compose.specs.Single.{HasNoSpace, IsNextScalar, IsRefused, null_bytes}
use Rattle.cqlp_c.specs.declared.encode.CqlpEncoded.{CqlpEncoded}
use Rattle.cqlp_c.specs.declared.encode.Unencoded.{Unencoded}
use Rattle.cqlp_c.specs.declared.encode.Unencoded.TheVariants as unencoded
use Rattle.cqlp_c.specs.declared.event.CqlpEvent.{CqlpEvent}
use Rattle.cqlp_c.specs.declared.numbers.TheConstants as numbers
use Rattle.cqlp_c.specs.declared.page.CqlpMeasured.{CqlpMeasured}
use Rattle.cqlp_c.specs.declared.page.CqlpPut.{CqlpPut}
use Rattle.cqlp_c.specs.declared.page.Unbegun.{Unbegun}
use Rattle.cqlp_c.specs.declared.page.Unbegun.TheVariants as unbegun
use Rattle.cqlp_c.specs.declared.page.UnbegunAt.{UnbegunAt}
use Rattle.cqlp_c.specs.declared.page.Unput.{Unput}
use Rattle.cqlp_c.specs.declared.page.Unput.TheVariants as unput
use Rattle.cqlp_c.specs.declared.page.BadEventAt.{BadEventAt}
use Rattle.cqlp_c.specs.declared.from_c.BadEvent.{BadEvent}
use Rattle.cqlp_c.specs.Encoding.{StopsAt, Taken, after_all, code_of_refused, code_of_unencoded, code_of_bad_event, longest}
use Rattle.cqlp_c.specs.FromC.{IsLeaf, IsNull, content_len, event_from_c, found_leaf}

-- ---- measure

-- the sum of two sizes, or the most that eight bytes say
abbrev pub sum_of : (a b : ℕ) → ℕ
sum_of a b = min (a + b) (2 ^ 64 - 1)

abbrev pub sized_on : (n size : ℕ) → Result Event BadEvent → (ℕ → Result ℕ BadEventAt) → Result ℕ BadEventAt
sized_on n size (Ok e) f = f (sum_of size (event_size e))
sized_on n size (Err why) f = Err (record { event = n; why = why })

-- A size and how many bytes these events cover, of which the first is the n-th; or the first that is none.
abbrev pub measured : (n size : ℕ) → (contents : List ℕ) → List CqlpEvent → Result ℕ BadEventAt
measured n size contents [] = Ok size
measured n size contents (c ∷ cs) = sized_on n size (event_from_c c contents) (λ s. measured (suc n) s (drop (content_len c) contents) cs)

abbrev pub MeasuresAs : Result ℕ BadEventAt → (count : ℕ) → CqlpMeasured → (code : ℕ) → CqlpMeasured → Type 0
MeasuresAs (Ok size) count was code new = (code ≡ numbers.DONE) × (new ≡ record { size = size; event = count })
MeasuresAs (Err r) count was code new = (code ≡ code_of_bad_event r.why) × (new ≡ record { size = was.size; event = r.event })

-- What `cqlp_page_measure` answers.
abbrev pub Measures : List CqlpEvent → (contents : List ℕ) → CqlpMeasured → (code : ℕ) → CqlpMeasured → Type 0
Measures cs contents was code new = MeasuresAs (measured 0 was.size contents cs) (length cs) was code new

-- ---- the head

abbrev pub with_all_used : (n : ℕ) → (rest : List ℕ) → Result ℕ Unbegun
with_all_used n [] = Ok n
with_all_used n (b ∷ rest) = Err (unbegun.Head unencoded.LeftOver)

abbrev pub rows_in : Result Event BadEvent → (rest : List ℕ) → Result ℕ Unbegun
rows_in (Err why) rest = Err (unbegun.Head (unencoded.BadEvent why))
rows_in (Ok (Holds field.Rows (Count n))) rest = with_all_used n rest
rows_in (Ok e) rest = Err unbegun.NoRows

-- how many rows an event counts, after which no contents are left
abbrev pub rows_from_c : CqlpEvent → (contents : List ℕ) → Result ℕ Unbegun
rows_from_c c contents = rows_in (event_from_c c contents) (drop (content_len c) contents)

-- An event before the last is not taken, or the last one counts no rows.
abbrev pub StopsIn : Taken → (front : List CqlpEvent) → (last : CqlpEvent) → (n : ℕ) → Unbegun → Type 0
StopsIn t front last n why =
    ((w : Unencoded) × (why ≡ unbegun.Head w) × StopsAt t front n w)
    ⊎ ((u : Taken) × (after_all 0 t front ≡ Ok u) × (n ≡ length front) × (rows_from_c last u.1 ≡ Err why))

abbrev pub IsNone : (n : ℕ) → Unbegun → Type 0
IsNone n why = (n ≡ 0) × (why ≡ unbegun.Head (unencoded.Refused build_error.Misplaced))

-- All events but the last are taken, and the last counts n rows.
abbrev pub ReadsHead : ComposerState → List CqlpEvent → (contents : List ℕ) → Result ℕ UnbegunAt → ComposerState → Type 0
ReadsHead s cs contents (Ok n) new =
    (front : List CqlpEvent) × (last : CqlpEvent) × (cs ≡ front ++ last ∷ []) × (rest : List ℕ)
    × (after_all 0 (s, contents) front ≡ Ok (new, rest)) × (rows_from_c last rest ≡ Ok n)
ReadsHead s cs contents (Err r) new =
    ((cs ≡ []) × IsNone r.event r.why)
    ⊎ ((front : List CqlpEvent) × (last : CqlpEvent) × (cs ≡ front ++ last ∷ []) × StopsIn (s, contents) front last r.event r.why)

-- these events are a head of n rows, of which a composer takes all but the last
abbrev pub IsHead : List CqlpEvent → (contents : List ℕ) → (n : ℕ) → ComposerState → Type 0
IsHead cs contents n s = ReadsHead (start longest) cs contents (Ok n) s

-- The page that begins with these events, and whose cells are to have as many bytes; or why there is none.
abbrev pub Opens : List CqlpEvent → (contents : List ℕ) → (size : ℕ) → Result BegunPage UnbegunAt → Type 0
Opens cs contents size (Ok b) = (n : ℕ) × (s : ComposerState) × IsHead cs contents n s × page.Begins s n size (Ok b)
Opens cs contents size (Err r) =
    ((s : ComposerState) × ReadsHead (start longest) cs contents (Err r) s)
    ⊎ ((n : ℕ) × (s : ComposerState) × IsHead cs contents n s × (r.event ≡ length cs)
    × (why : BeginError) × (r.why ≡ unbegun.Page why) × page.Begins s n size (Err why))

abbrev pub code_of_unfit : Unfit → ℕ
code_of_unfit unfit.RowShape = numbers.BAD_SIZE
code_of_unfit unfit.BodyTooLong = numbers.BAD_LENGTH
code_of_unfit unfit.TooManyItems = numbers.TOO_MANY_ROWS
code_of_unfit why = numbers.NO_SUCH_FRAME

abbrev pub code_of_unbegun : Unbegun → ℕ
code_of_unbegun (unbegun.Head why) = code_of_unencoded why
code_of_unbegun unbegun.NoRows = numbers.NO_ROWS
code_of_unbegun (unbegun.Page (begin_error.Build why)) = code_of_refused why
code_of_unbegun (unbegun.Page begin_error.NoPage) = numbers.NOT_PAGE
code_of_unbegun (unbegun.Page (begin_error.Unfit why)) = code_of_unfit why

-- The head is put and the handle has the page, or there is no memory for it; and nothing of it where the room is too short.
abbrev pub PutsHead : (short : Bool) → BegunPage → (code : ℕ) → (before after : List ℕ) → Option OpenPage → Type 0
PutsHead true b code before after new = (code ≡ numbers.NO_ROOM) × (after ≡ before) × (new ≡ None)
PutsHead false b code before after new =
    ((code ≡ numbers.NO_MEMORY) × (after ≡ before) × (new ≡ None))
    ⊎ ((code ≡ numbers.DONE) × (after ≡ b.head.items ++ drop (length b.head.items) before) × (new ≡ Some b.page))

abbrev pub IsPutBy : BegunPage → (code : ℕ) → (before after : List ℕ) → Option OpenPage → Type 0
IsPutBy b code before after new = PutsHead (nat_lt (length before) (length b.head.items)) b code before after new

abbrev pub BeginsOne : List CqlpEvent → (contents : List ℕ) → (size code : ℕ) → (before after : List ℕ) → Option OpenPage → CqlpEncoded → Type 0
BeginsOne cs contents size code before after new written =
    (b : BegunPage) × Opens cs contents size (Ok b) × IsPutBy b code before after new
    × (written ≡ record { length = length b.head.items; event = length cs })

abbrev pub BeginsNone : List CqlpEvent → (contents : List ℕ) → (size code : ℕ) → (before after : List ℕ) → Option OpenPage → CqlpEncoded → Type 0
BeginsNone cs contents size code before after new written =
    (r : UnbegunAt) × Opens cs contents size (Err r) × (code ≡ code_of_unbegun r.why) × (after ≡ before) × (new ≡ None)
    × (written ≡ record { length = 0; event = r.event })

abbrev pub BeginsAnew : List CqlpEvent → (contents : List ℕ) → (size code : ℕ) → (before after : List ℕ) → Option OpenPage → CqlpEncoded → Type 0
BeginsAnew cs contents size code before after new written =
    BeginsOne cs contents size code before after new written ⊎ BeginsNone cs contents size code before after new written

-- What `cqlp_page_begin` answers: a handle in use is refused, and stays as it is.
abbrev pub Begins : List CqlpEvent → (contents : List ℕ) → (size : ℕ) → (old : Option OpenPage) → (code : ℕ) → (before after : List ℕ)
    → (new : Option OpenPage) → (was written : CqlpEncoded) → Type 0
Begins cs contents size (Some held) code before after new was written =
    (code ≡ numbers.IN_USE) × (after ≡ before) × (new ≡ Some held) × (written ≡ was)
Begins cs contents size None code before after new was written = BeginsAnew cs contents size code before after new written

-- ---- cells

abbrev pub seen_put : Result (Option ℕ × Bor (List ℕ)) Unput → Result (Option ℕ × List ℕ) Unput
seen_put (Ok found) = Ok (found.0, found.1.now)
seen_put (Err why) = Err why

-- What becomes of what C passes as an event, where n bytes of room are left, and which bytes are put.
abbrev pub PutsOne : PutterState → CqlpEvent → (contents : List ℕ) → (n : ℕ) → Result (Option ℕ × List ℕ) Unput → (bytes : List ℕ) → PutterState → Type 0
PutsOne old c contents n (Err (unput.BadEvent why)) bytes new = (event_from_c c contents ≡ Err why) × (bytes ≡ []) × (new ≡ old)
PutsOne old c contents n (Err (unput.Refused why)) bytes new =
    (e : Event) × (event_from_c c contents ≡ Ok e) × cells.Puts old e n (Err why) bytes new
PutsOne old c contents n (Ok found) bytes new =
    (e : Event) × (event_from_c c contents ≡ Ok e) × cells.Puts old e n (Ok found.0) bytes new × (found.1 ≡ drop (content_len c) contents)

-- The next cell is put, whose one event this is; or nothing changes.
abbrev pub PutsLeaf : PutCells → CqlpEvent → (contents before : List ℕ) → Option (ℕ × Bor (List ℕ)) → PutCells → (after : List ℕ) → Type 0
PutsLeaf old c contents before (Some found) new after =
    (bytes : List ℕ) × PutsOne (putter old) c contents (length before) (Ok (Some found.0, found.1.now)) bytes (putter new)
    × (after ≡ bytes ++ drop (length bytes) before)
PutsLeaf old c contents before None new after = (putter new ≡ putter old) × (after ≡ before)

-- Where the event is a leaf of the next cell, which has a kind without items, its scalar is refused for one of the reasons of `IsRefused`.
abbrev pub RefusesLeaf : PutCells → CqlpEvent → (contents before : List ℕ) → Type 0
RefusesLeaf old c contents before =
    (k : Kind) (v : ScalarValue) → IsNextScalar old c.row c.column k → IsLeaf c k → event_from_c c contents ≡ found_leaf c v → IsRefused old k v before

-- Where it is a null of the next cell, of such a kind, there is no space for one.
abbrev pub RefusesNull : PutCells → CqlpEvent → (before : List ℕ) → Type 0
RefusesNull old c before = (k : Kind) → IsNextScalar old c.row c.column k → IsNull c → HasNoSpace old before (length null_bytes)

-- what is written after an event with which a cell of this many bytes ends, or none
abbrev pub gone_on : CqlpPut → (event used : ℕ) → Option ℕ → CqlpPut
gone_on p event used None = p
gone_on p event used (Some len) = record { events = event + 1; used = used; length = p.length + len; event = p.event; wanted = p.wanted }

-- The cells so far, the contents that are left, the bytes that were put, and what is written of them.
pub record BatchState : Type 0 where
  pub cells : PutterState
  pub rest : List ℕ
  pub out : List ℕ
  pub written : CqlpPut

-- after the n-th event, of which the bytes of a cell are put, or none; all contents have `size` bytes
abbrev pub after_event : (n size : ℕ) → BatchState → Option ℕ → (rest bytes : List ℕ) → PutterState → BatchState
after_event n size t len rest bytes new = record { cells = new; rest = rest; out = t.out ++ bytes; written = gone_on t.written n (size - length rest) len }

-- An event is taken in a room of this many bytes, and the others after it.
abbrev pub Goes : (room n size : ℕ) → BatchState → CqlpEvent → (BatchState → Type 0) → Type 0
Goes room n size t c Then =
    (len : Option ℕ) × (rest bytes : List ℕ) × (mid : PutterState)
    × PutsOne t.cells c t.rest (room - length t.out) (Ok (len, rest)) bytes mid × Then (after_event n size t len rest bytes mid)

-- An event is not taken, or its cell is not put.
abbrev pub Stops : (room n : ℕ) → BatchState → CqlpEvent → BatchState → Option (ℕ × Unput) → Type 0
Stops room n t c new o =
    (why : Unput) × (bytes : List ℕ) × (last : PutterState)
    × PutsOne t.cells c t.rest (room - length t.out) (Err why) bytes last × (new ≡ record t { cells = last }) × (o ≡ Some (n, why))

-- All events are taken, of which the first is the n-th, or one is the first that is not, for this reason.
abbrev pub PutsFrom : (room n size : ℕ) → BatchState → List CqlpEvent → BatchState → Option (ℕ × Unput) → Type 0
PutsFrom room n size t [] new o = (new ≡ t) × (o ≡ None)
PutsFrom room n size t (c ∷ cs) new o =
    Goes room n size t c (λ on. PutsFrom room (suc n) size on cs new o) ⊎ Stops room n t c new o

abbrev pub nothing_put : (count : ℕ) → CqlpPut
nothing_put count = record { events = 0; used = 0; length = 0; event = count; wanted = 0 }

abbrev pub at_begin : PutterState → (contents : List ℕ) → (count : ℕ) → BatchState
at_begin s contents count = record { cells = s; rest = contents; out = []; written = nothing_put count }

abbrev pub wanted_of : Unput → ℕ
wanted_of (unput.Refused (put_error.NoRoom n)) = n
wanted_of why = 0

abbrev pub code_of_cell : CellError → ℕ
code_of_cell cell_error.Misplaced = numbers.MISPLACED
code_of_cell cell_error.InParts = numbers.UNBUILT
code_of_cell cell_error.TooManyEvents = numbers.TOO_MANY_FIELDS
code_of_cell cell_error.TooManyBytes = numbers.TOO_MANY_BYTES
code_of_cell cell_error.Unformed = numbers.NO_TYPE
code_of_cell cell_error.NoValue = numbers.NO_VALUE
code_of_cell cell_error.NoMemory = numbers.NO_MEMORY

abbrev pub code_of_unput : Unput → ℕ
code_of_unput (unput.BadEvent why) = code_of_bad_event why
code_of_unput (unput.Refused (put_error.NoRoom n)) = numbers.NO_ROOM
code_of_unput (unput.Refused (put_error.Cell (page_error.Cell why))) = code_of_cell why
code_of_unput (unput.Refused (put_error.Cell page_error.PastLength)) = numbers.PAST_SIZE
code_of_unput (unput.Refused (put_error.Cell page_error.NotEnded)) = numbers.NOT_ENDED

abbrev pub stopped : CqlpPut → (event : ℕ) → Unput → CqlpPut
stopped p event why = record { events = p.events; used = p.used; length = p.length; event = event; wanted = wanted_of why }

-- what is written of a batch, and its code
abbrev pub written_of : (count : ℕ) → CqlpPut → Option (ℕ × Unput) → CqlpPut × ℕ
written_of count p None = (p, if p.events == count then numbers.DONE else numbers.NOT_ENDED)
written_of count p (Some s) = (stopped p s.0 s.1, code_of_unput s.1)

-- What becomes of a batch: the cells before the first event that is not taken are put, and what is written says how many events and bytes those are.
pub record PutsAll (old : PutterState) (cs : List CqlpEvent) (contents before : List ℕ) (answer : CqlpPut × ℕ) (after : List ℕ) (new : PutterState) : Type 0 where
  pub last : BatchState
  pub stop : Option (ℕ × Unput)
  pub puts : PutsFrom (length before) 0 (length contents) (at_begin old contents (length cs)) cs last stop
  pub cells : new ≡ last.cells
  pub bytes : after ≡ last.out ++ drop (length last.out) before
  pub is : answer ≡ written_of (length cs) last.written stop

-- no cell has more events or bytes than a body
abbrev pub longest_cell : CellLimits
longest_cell = record { events = LONGEST_BODY; bytes = LONGEST_BODY }

-- The same of a page, which goes on after the cells that were put.
abbrev pub PutsCells : OpenPage → List CqlpEvent → (contents before : List ℕ) → CqlpPut × ℕ → (after : List ℕ) → OpenPage → Type 0
PutsCells old cs contents before answer after new =
    (s : PutterState) × PutsAll (fresh_putter old.frame old.place longest_cell) cs contents before answer after s
    × (new ≡ record { frame = old.frame; place = s.place })

-- What `cqlp_page_put` answers.
abbrev pub Puts : (old : Option OpenPage) → List CqlpEvent → (contents : List ℕ) → (code : ℕ) → (new : Option OpenPage) → (before after : List ℕ)
    → (was written : CqlpPut) → Type 0
Puts None cs contents code new before after was written = (code ≡ numbers.NO_PAGE) × (new ≡ None) × (after ≡ before) × (written ≡ was)
Puts (Some p) cs contents code new before after was written =
    (q : OpenPage) × (new ≡ Some q) × PutsCells p cs contents before (written, code) after q

-- ---- end and free

abbrev pub code_of_end : Result (Unit {0}) Unended → ℕ
code_of_end (Ok u) = numbers.DONE
code_of_end (Err unended.CellsMissing) = numbers.CELLS_MISSING
code_of_end (Err unended.BytesMissing) = numbers.BYTES_MISSING

abbrev pub code_of_ends : Option OpenPage → ℕ
code_of_ends None = numbers.NO_PAGE
code_of_ends (Some p) = code_of_end (ends (frame_of p.frame) p.place)

abbrev pub code_of_free : Option OpenPage → ℕ
code_of_free None = numbers.NO_PAGE
code_of_free (Some p) = numbers.DONE
