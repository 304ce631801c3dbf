-- A page whose cells are each one event.
use Rattle.std.proofs.Common.{◌≡◌, ℕ, ◌+◌, ◌-◌, ◌≤◌, ◌++◌, Bool, true, false, List, [], ◌∷◌, length, Some, None, Ok, refl, sym, ap, ◌∙◌, subst, arith, append-nil, le-ltb}
use Rattle.std.specs.Prelude.{◌||◌, not, min, if◌then◌else◌}
use Rattle.std.specs.List.{AllByRecursion}
use Rattle.std.proofs.lemmas.Bool.{eq-eqb}
use Rattle.std.proofs.lemmas.List.{length-append}
use Rattle.std.specs.declared.alloc.Global.{Global}
use Rattle.cqlp_note.specs.declared.header.Header.{Header}
use Rattle.cqlp_note.specs.declared.header.TheConstants.Header.{LONGEST_BODY}
use Rattle.cqlp_kind.specs.Scalars.{content_of}
use Rattle.cqlp_kind.specs.CellStep.{CellEvent, Leaf, Null, Empty, Enter, Leave, Part}
use Rattle.cqlp_grammar.specs.Events.{Event, Frame as FrameEvent, Holds, Node_of, Cell_at, Leave as LeaveEvent, End}
use Rattle.cqlp_message.specs.declared.frame.Frame.{Frame}
use Rattle.cqlp_message.specs.FrameValues.{FrameValue}
use Rattle.cqlp_message.specs.Owned.{frame_of}
use Rattle.cqlp_message.specs.Pages.{cells_wanted, page_head}
use Rattle.cqlp_compose.specs.declared.page.BegunPage.{BegunPage}
use Rattle.cqlp_compose.specs.declared.place.PageProgress.{PageProgress}
use Rattle.cqlp_compose.specs.Bare.{after, bytes_of_cell, event_bytes, longest_cell}
use Rattle.cqlp_compose.specs.BatchLaws.{AreBatches, IsBatch, IsComposed, IsFrameWith, PutsAll}
use Rattle.cqlp_compose.specs.Begun.{Begins, BeginsBare, IsBare, frame_with_rows, ends, ends_where, rows_event, said_len}
use Rattle.cqlp_compose.specs.CellPages.{AreCells, IsCellEvent, IsCellPage, IsFrameOf, events_bytes}
use Rattle.cqlp_compose.specs.Cells.{begun}
use Rattle.cqlp_build.specs.declared.error.BuildError.TheVariants as build_error
use Rattle.cqlp_build.specs.Closing.{Ends}
use Rattle.cqlp_build.specs.Building.{content_size, is_due, is_unbuilt, with_event}
use Rattle.cqlp_build.specs.Nesting.{depth_at}
use Rattle.cqlp_compose.specs.Composing.{ComposerState, bound_of, limit_of, refusal_of, with_next}
use Rattle.cqlp_compose.specs.Places.{first_place}
use Rattle.cqlp_compose.specs.Put.{PutterState, Puts, fresh_putter}
use Rattle.cqlp_compose.specs.Single.{IsNextCell, PutsCell, with_length}
use Rattle.cqlp_compose.proofs.WholeCells.{puts_cell, size_most}
use Rattle.cqlp_compose.proofs.Composed.{batches_are_composed}
use Rattle.cqlp_compose.proofs.Once.{one_frame}
use Rattle.cqlp_compose.proofs.Written.{page_is_written}

-- ---- all cells are put

le_min : (n a b : ℕ) → n ≤ a → n ≤ b → n ≤ min a b
le_min n a b p q = omega (arith, p, q)

abbrev at : (cells free : ℕ) → PageProgress
at cells free = record { cells = cells; free = free }

module _ (g : Global) (f : Frame) where
  abbrev putting : (cells free : ℕ) → PutterState
  putting cells free = fresh_putter f (at cells free) longest_cell

  one_put : (e : Event) (cells free : ℕ) → IsNextCell f (after cells) longest_cell e (event_bytes e) → length (event_bytes e) ≤ free → free ≤ LONGEST_BODY
      → Puts (putting cells free) e (length (event_bytes e)) (Ok (Some (length (event_bytes e)))) (event_bytes e) (putting (cells + 1) (free - length (event_bytes e)))
  one_put e cells free next fits few =
      let n : ℕ = length (event_bytes e) in
      let same : n ≤ n = omega arith in
      let is : IsNextCell f (at cells free) longest_cell e (event_bytes e) = next in
      let put : PutsCell (putting cells free) (event_bytes e) n (Ok (Some n)) (event_bytes e) (putting (cells + 1) (free - n)) =
      (refl, refl, same, le_min n free LONGEST_BODY fits (omega (arith, fits, few)), refl) in
      puts_cell g f (at cells free) longest_cell e (event_bytes e) n (Ok (Some n)) (event_bytes e) (putting (cells + 1) (free - n)) is put

  record Put (cells free : ℕ) (es : List Event) : Type 0 where
    puts : PutsAll (putting cells free) es (events_bytes es) (putting (cells_wanted (frame_of f).message) (free - length (events_bytes es)))

  all_put : (es : List Event) (cells free : ℕ) → AreCells f cells es → length (events_bytes es) ≤ free → free ≤ LONGEST_BODY → Put cells free es
  all_put [] cells free are fits few =
      let none : free - 0 ≡ free = omega arith in
      record { puts = (refl, λ i. putting (sym are i) (none i)) }
  all_put (e ∷ es) cells free are fits few =
      let n : ℕ = length (event_bytes e) in
      let long : length (event_bytes e ++ events_bytes es) ≡ n + length (events_bytes es) = length-append (event_bytes e) (events_bytes es) in
      let rest = all_put es (cells + 1) (free - n) are.1 (omega (arith, fits, long)) (omega (arith, few)) in
      let left : free - n - length (events_bytes es) ≡ free - length (event_bytes e ++ events_bytes es) = omega (arith, long) in
      let others : PutsAll (putting (cells + 1) (free - n)) es (events_bytes es) (putting (cells_wanted (frame_of f).message) (free - length (event_bytes e ++ events_bytes es))) =
      subst (λ (k : ℕ). PutsAll (putting (cells + 1) (free - n)) es (events_bytes es) (putting (cells_wanted (frame_of f).message) k)) left rest.puts in
      record { puts = (n, Some n, event_bytes e, events_bytes es, putting (cells + 1) (free - n), one_put e cells free are.0 (omega (arith, fits, long)) few, others, refl) }

-- ---- the page

ended : (f : FrameValue) (p : PageProgress) → p.cells ≡ cells_wanted f.message → p.free ≡ 0 → ends f p ≡ Ok tt
ended f p a b = (λ i. ends_where (eq-eqb p.cells (cells_wanted f.message) a i) (eq-eqb p.free 0 b i))

are_cells : (f : Frame) (es : List Event) (cells : ℕ) → AreCells f cells es → AllByRecursion IsCellEvent es
are_cells f [] cells are = tt
are_cells f (Cell_at row column e ∷ es) cells are = (tt, are_cells f es (cells + 1) are.1)
are_cells f (FrameEvent h ∷ es) cells are = absurd are.0.3
are_cells f (Holds k v ∷ es) cells are = absurd are.0.3
are_cells f (Node_of o ∷ es) cells are = absurd are.0.3
are_cells f (LeaveEvent level items ∷ es) cells are = absurd are.0.3
are_cells f (End x ∷ es) cells are = absurd are.0.3

-- A page that is begun with the bytes of all its cells is written with them.
pub cell_page : (g : Global) (s : ComposerState) (h : Header) (fields : List Event) (rows : ℕ) (f : Frame) (b : BegunPage) (es : List Event)
    → s.frame.events ≡ FrameEvent h ∷ fields → IsBare s rows (Ok f) → AreCells f 0 es → length (events_bytes es) ≤ LONGEST_BODY
    → BeginsBare (frame_of f) (said_len (length (events_bytes es))) (Ok b)
    → IsCellPage (s.frame.events ++ rows_event rows ∷ es) (b.head.items ++ events_bytes es)
cell_page g s h fields rows f b es first bare are few begins =
    let n : ℕ = length (events_bytes es) in
    let said : said_len n ≡ n = omega (arith, few) in
    let page : BegunPage = record { page = record { frame = f; place = b.page.place }; head = b.head } in
    let all : Begins s rows n (Ok page) = (f, bare, (begins.0, refl, begins.2, begins.3, begins.4)) in
    let put = all_put g f es 0 n are (omega arith) few in
    let none : n - n ≡ 0 = omega arith in
    let last : PageProgress = at (cells_wanted (frame_of f).message) 0 in
    let puts : PutsAll (fresh_putter f (first_place n) longest_cell) es (events_bytes es) (fresh_putter f last longest_cell) =
    subst (λ (k : ℕ). PutsAll (fresh_putter f (first_place n) longest_cell) es (events_bytes es) (fresh_putter f (at (cells_wanted (frame_of f).message) k) longest_cell)) none put.puts in
    let place : b.page.place ≡ first_place n = begins.2 ∙ ap first_place said in
    let batch : IsBatch f b.page.place es (events_bytes es) last =
    subst (λ (p : PageProgress). IsBatch f p es (events_bytes es) last) (sym place) (record { limits = longest_cell; puts = puts }) in
    let batches : AreBatches f b.page.place ((es, events_bytes es) ∷ []) last = (last, batch, refl) in
    let w = page_is_written s h fields rows n page ((es, events_bytes es) ∷ []) last first all batches (ended (frame_of f) last refl refl) in
    let framed : IsFrameWith h (fields ++ rows_event rows ∷ es) (b.head.items ++ events_bytes es) =
    subst (λ (xs : List Event). IsFrameWith h (fields ++ rows_event rows ∷ xs) (b.head.items ++ events_bytes es)) (append-nil es)
    (subst (λ (bytes : List ℕ). IsFrameWith h (fields ++ rows_event rows ∷ (es ++ [])) (b.head.items ++ bytes)) (append-nil (events_bytes es)) w) in
    record {
      state = s;
      rows = rows;
      cells = es;
      begun = page;
      begins = all;
      are = refl;
      of_cells = are_cells f es 0 are;
      bytes_are = refl;
      frame = subst (λ (xs : List Event). IsFrameOf (xs ++ rows_event rows ∷ es) (b.head.items ++ events_bytes es)) (sym first) framed;
    }

-- ---- a composer takes the cells

-- An event is taken, and is held beside those before it.
pub record Taken (s : ComposerState) (e : Event) : Type 0 where
  pub free : refusal_of s e ≡ None
  pub next : with_next s e ≡ record { frame = with_event s.frame e; ended = s.ended }
  pub small : content_size e ≤ length (event_bytes e)

module _ (s : ComposerState) (going : s.ended ≡ false) (few : length s.frame.events ≤ s.frame.limits.fields) where
  limit_free : (e : Event) → depth_at e s.frame.around ≡ 0 → content_size e ≤ s.frame.room → limit_of s.frame e ≡ None
  limit_free e flat fits =
      let deep : depth_at e s.frame.around ≤ s.frame.limits.depth = omega (arith, flat) in
      rw (le-ltb _ _ few, le-ltb _ _ deep, le-ltb _ _ fits) refl

  taken_by : (row column : ℕ) (c : CellEvent) → is_due s.frame.events (Cell_at row column c) ≡ true → is_unbuilt (Cell_at row column c) ≡ false
      → content_size (Cell_at row column c) ≤ length (bytes_of_cell c) → length (bytes_of_cell c) ≤ s.frame.room → Taken s (Cell_at row column c)
  taken_by row column c due whole small fits = record {
    free = rw (going, due, whole) (limit_free (Cell_at row column c) refl (omega (arith, small, fits)));
    next = refl;
    small = small;
  }

  due_by : (x : Event) (xs : List Event) (row column : ℕ) (c : CellEvent) → s.frame.events ≡ x ∷ xs → is_due s.frame.events (Cell_at row column c) ≡ true
  due_by x xs row column c first = ap (λ (es : List Event). is_due es (Cell_at row column c)) first

  pub cell_taken : (f : Frame) (k : ℕ) (e : Event) (x : Event) (xs : List Event) → IsNextCell f (after k) longest_cell e (event_bytes e) → s.frame.events ≡ x ∷ xs
      → length (event_bytes e) ≤ s.frame.room → Taken s e
  cell_taken f k (Cell_at row column (Leaf level v)) x xs next first fits =
      let c : CellEvent = Leaf level v in
      let long : length (with_length (content_of v)) ≡ 4 + length (content_of v) = omega arith in
      taken_by row column c (due_by x xs row column c first) refl (omega (arith, size_most v, long)) fits
  cell_taken f k (Cell_at row column (Null level)) x xs next first fits = taken_by row column (Null level) (due_by x xs row column (Null level) first) refl (omega arith) fits
  cell_taken f k (Cell_at row column (Empty level)) x xs next first fits = taken_by row column (Empty level) (due_by x xs row column (Empty level) first) refl (omega arith) fits
  cell_taken f k (Cell_at row column (Enter level j n)) x xs next first fits = absurd next.3.2
  cell_taken f k (Cell_at row column (Leave level n)) x xs next first fits = absurd next.3.2
  cell_taken f k (Cell_at row column (Part level offset c last)) x xs next first fits = absurd next.3.2
  cell_taken f k (FrameEvent h) x xs next first fits = absurd next.3
  cell_taken f k (Holds _ v) x xs next first fits = absurd next.3
  cell_taken f k (Node_of o) x xs next first fits = absurd next.3
  cell_taken f k (LeaveEvent level items) x xs next first fits = absurd next.3
  cell_taken f k (End z) x xs next first fits = absurd next.3

-- its bytes are those of the event, and few
pub bytes_are : (f : Frame) (k : ℕ) (e : Event) (bytes : List ℕ) → IsNextCell f (after k) longest_cell e bytes → bytes ≡ event_bytes e
bytes_are f k (Cell_at row column (Leaf level v)) bytes next = next.3.2.1.5
bytes_are f k (Cell_at row column (Null level)) bytes next = next.3.2.1
bytes_are f k (Cell_at row column (Empty level)) bytes next = next.3.2.1
bytes_are f k (Cell_at row column (Enter level j n)) bytes next = absurd next.3.2
bytes_are f k (Cell_at row column (Leave level n)) bytes next = absurd next.3.2
bytes_are f k (Cell_at row column (Part level offset c last)) bytes next = absurd next.3.2
bytes_are f k (FrameEvent h) bytes next = absurd next.3
bytes_are f k (Holds _ v) bytes next = absurd next.3
bytes_are f k (Node_of o) bytes next = absurd next.3
bytes_are f k (LeaveEvent level items) bytes next = absurd next.3
bytes_are f k (End x) bytes next = absurd next.3

-- where a count of no rows is taken, so is one of some
due_same : (es : List Event) (n : ℕ) → is_due es (rows_event n) ≡ is_due es (rows_event 0)
due_same [] n = refl
due_same (x ∷ xs) n = refl

pub rows_free : (s : ComposerState) (n : ℕ) → refusal_of s (rows_event 0) ≡ None → refusal_of s (rows_event n) ≡ None
rows_free s n free =
    ap (λ (d : Bool). if s.ended || not d then Some build_error.Misplaced else if is_unbuilt (rows_event 0) then Some build_error.Unbuilt else bound_of s.frame (rows_event 0)) (due_same s.frame.events n) ∙ free

-- ---- one page has the events

same_head : (s t : ComposerState) (n len : ℕ) (a b : BegunPage) → s.frame.events ≡ t.frame.events → Begins s n len (Ok a) → Begins t n len (Ok b) → a.head.items ≡ b.head.items
same_head s t n len a b same p q =
    let g = p.1.1 in
    let k = q.1.1 in
    let moved : Ends (s.frame.events ++ rows_event 0 ∷ []) (Ok k) = subst (λ (es : List Event). Ends (es ++ rows_event 0 ∷ []) (Ok k)) (sym same) q.1.2 in
    let one : frame_of g ≡ frame_of k = one_frame (s.frame.events ++ rows_event 0 ∷ []) g k p.1.2 moved in
    let frames : frame_of p.0 ≡ frame_of q.0 = p.1.3.1 ∙ ap (frame_with_rows n) one ∙ sym q.1.3.1 in
    p.2.3 ∙ ap (λ (v : FrameValue). page_head v (said_len len)) frames ∙ sym q.2.3

record Parted (xs ys cs bs : List Event) (m n : ℕ) : Type 0 where
  front : xs ≡ ys
  rows : m ≡ n
  others : cs ≡ bs

never_cell : (es zs : List Event) (m : ℕ) (bs : List Event) → es ≡ zs ++ rows_event m ∷ bs → AllByRecursion IsCellEvent es → ⊥
never_cell [] [] m bs is all = absurd cc
never_cell [] (z ∷ zs) m bs is all = absurd cc
never_cell (e ∷ es) [] m bs is all =
    let one : e ≡ rows_event m = cc in
    subst IsCellEvent one all.0
never_cell (e ∷ es) (z ∷ zs) m bs is all =
    let rest : es ≡ zs ++ rows_event m ∷ bs = cc in
    never_cell es zs m bs rest all.1

parted : (xs ys cs bs : List Event) (m n : ℕ) → AllByRecursion IsCellEvent cs → AllByRecursion IsCellEvent bs → xs ++ rows_event m ∷ cs ≡ ys ++ rows_event n ∷ bs → Parted xs ys cs bs m n
parted [] [] cs bs m n a b is =
    let one : rows_event m ≡ rows_event n = cc in
    let same : m ≡ n = cc in
    let rest : cs ≡ bs = cc in
    record { front = refl; rows = same; others = rest }
parted [] (y ∷ ys) cs bs m n a b is =
    let rest : cs ≡ ys ++ rows_event n ∷ bs = cc in
    absurd (never_cell cs ys n bs rest a)
parted (x ∷ xs) [] cs bs m n a b is =
    let rest : bs ≡ xs ++ rows_event m ∷ cs = cc in
    absurd (never_cell bs xs m cs rest b)
parted (x ∷ xs) (y ∷ ys) cs bs m n a b is =
    let one : x ≡ y = cc in
    let rest : xs ++ rows_event m ∷ cs ≡ ys ++ rows_event n ∷ bs = cc in
    let p = parted xs ys cs bs m n a b rest in
    record { front = λ i. one i ∷ p.front i; rows = p.rows; others = p.others }

pub one_page : (es : List Event) (one other : List ℕ) → IsCellPage es one → IsCellPage es other → one ≡ other
one_page es one other p q =
    let d = parted p.state.frame.events q.state.frame.events p.cells q.cells p.rows q.rows p.of_cells q.of_cells (sym p.are ∙ q.are) in
    let begins : Begins q.state p.rows (length (events_bytes p.cells)) (Ok q.begun) =
    subst (λ (n : ℕ). Begins q.state n (length (events_bytes p.cells)) (Ok q.begun)) (sym d.rows)
    (subst (λ (cells : List Event). Begins q.state q.rows (length (events_bytes cells)) (Ok q.begun)) (sym d.others) q.begins) in
    let heads = same_head p.state q.state p.rows (length (events_bytes p.cells)) p.begun q.begun d.front p.begins begins in
    p.bytes_are ∙ (λ i. heads i ++ events_bytes (d.others i)) ∙ sym q.bytes_are

-- What a composer writes of these events is these bytes.
pub page_composed : (es : List Event) (bytes : List ℕ) → IsFrameOf es bytes → IsComposed es bytes
page_composed [] bytes p = absurd p
page_composed (FrameEvent h ∷ fields) bytes p = batches_are_composed h fields bytes p
page_composed (Holds k v ∷ es) bytes p = absurd p
page_composed (Node_of o ∷ es) bytes p = absurd p
page_composed (Cell_at row column e ∷ es) bytes p = absurd p
page_composed (LeaveEvent level items ∷ es) bytes p = absurd p
page_composed (End x ∷ es) bytes p = absurd p
