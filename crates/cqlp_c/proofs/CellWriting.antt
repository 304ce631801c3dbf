-- How a page is written whose cells are each one event.
use Rattle.std.proofs.Common.{◌≡◌, ℕ, suc, ◌+◌, ◌-◌, ◌*◌, ◌<◌, ◌≤◌, ◌^◌, ◌++◌, inl, inr, Bool, true, false, nat_lt, List, [], ◌∷◌, length, drop, take, get_or, Ok, refl, sym, ap, ◌∙◌, subst, arith, append_assoc, append-nil, lt-ltb, le-ltb}
use Rattle.std.proofs.Math.ListN.{drop_of_length-le}
use Rattle.std.proofs.Math.Seq.{drop-append_seam, drop-cons, take-append_seam}
use Rattle.std.proofs.lemmas.List.{drop-drop, length-append, length-drop, take-append-drop}
use Rattle.std.specs.declared.alloc.Global.{Global}
use borrow.Rule.Slice.PartMut.{mid_of, put_mid}
use Rattle.cqlp_note.specs.declared.header.TheConstants.Header.{LONGEST_BODY}
use Rattle.cqlp_kind.specs.declared.kind.Kind.{Kind}
use Rattle.cqlp_kind.specs.CellStep as cell
use Rattle.cqlp_kind.specs.Scalars.{ScalarValue}
use Rattle.cqlp_grammar.specs.Events.{Cell_at}
use Rattle.cqlp_message.specs.declared.frame.Frame.{Frame}
use Rattle.cqlp_message.specs.Owned.{frame_of}
use Rattle.cqlp_message.specs.Pages.{cells_wanted}
use Rattle.cqlp_compose.specs.Bare.{IsKindAt, IsSizeOf, after, longest_cell}
use Rattle.cqlp_compose.specs.Single as single
use Rattle.cqlp_compose.proofs.WholeCells.{next_short}
use Rattle.cqlp_c.specs.declared.encode.CqlpEncoded.{CqlpEncoded}
use Rattle.cqlp_c.specs.declared.event.CqlpEvent.{CqlpEvent}
use Rattle.cqlp_c.specs.declared.numbers.TheConstants as numbers
use Rattle.cqlp_c.specs.declared.whole_page.CellRun.{CellRun}
use Rattle.cqlp_c.specs.declared.whole_page.Quarters.{Quarters}
use Rattle.cqlp_c.specs.declared.whole_page.WholePage.{WholePage}
use Rattle.cqlp_c.specs.Encoding.{IsEncoded, PutsFrame}
use Rattle.cqlp_c.specs.FromC.{IsEmpty, IsNull, content_len, event_from_c, found_leaf}
use Rattle.cqlp_c.specs.Rooms.{PutsWhere}
use Rattle.cqlp_c.specs.WholePages.{AreCellsFrom, AreNextCells, AreQuarters, AreReady, AreWritable, IsCellOfKind, IsNextCell, IsReady, IsRun, IsWithoutEnd, IsWritable, OpensWhole, PutsPage, WritesOn}
use Rattle.cqlp_c.specs.WholePages.{cell_bytes, cells_bytes, found_bytes, page_bytes, quarters_bytes, quarters_size, run_bytes}
use Rattle.cqlp_c.proofs.Leaves.{empty_len, empty_read, null_len, null_read}
use Rattle.cqlp_c.proofs.PagesPut.{part_is, part_put}
use Rattle.cqlp_c.proofs.WholePages.{Page, whole_page}

-- ---- one cell

pub cell_of_leaf : (k : Kind) (c : CqlpEvent) (contents : List ℕ) (v : ScalarValue) (n : ℕ) (rest : List ℕ) → event_from_c c contents ≡ found_leaf c v → IsSizeOf k v n → rest ≡ drop (content_len c) contents → IsCellOfKind k c contents n rest
cell_of_leaf k c contents v n rest read s behind =
    let same : s.0 ≡ cell_bytes c contents = s.1.5 ∙ sym (ap found_bytes read) in (
      cell.Leaf 0 v,
      read,
      (refl, subst (λ (b : List ℕ). single.IsScalarCell LONGEST_BODY k v b) same s.1),
      s.2 ∙ ap length same,
      behind,
    )

pub cell_of_null : (k : Kind) (c : CqlpEvent) (contents : List ℕ) → IsNull c → IsCellOfKind k c contents 4 contents
cell_of_null k c contents n =
    let read = null_read c contents n in
    let bytes : cell_bytes c contents ≡ single.null_bytes = ap found_bytes read in
    let long : 4 ≡ length single.null_bytes = refl in
    (cell.Null 0, read, (refl, bytes), long ∙ sym (ap length bytes), ap (λ (m : ℕ). drop m contents) (sym (null_len c n)))

pub cell_of_empty : (k : Kind) (c : CqlpEvent) (contents : List ℕ) → IsEmpty c → IsCellOfKind k c contents 4 contents
cell_of_empty k c contents n =
    let read = empty_read c contents n in
    let bytes : cell_bytes c contents ≡ single.with_length [] = ap found_bytes read in
    let long : 4 ≡ length (single.with_length []) = refl in
    (cell.Empty 0, read, (refl, bytes), long ∙ sym (ap length bytes), ap (λ (m : ℕ). drop m contents) (sym (empty_len c n)))

module _ (f : Frame) (cells : ℕ) (c : CqlpEvent) (contents : List ℕ) (n : ℕ) (rest : List ℕ) (k : Kind) (at : IsKindAt f cells c.row c.column k) where
  next_by : (e : cell.CellEvent) → event_from_c c contents ≡ Ok (Cell_at c.row c.column e) → single.IsCellOfKind longest_cell.bytes k e (cell_bytes c contents) → n ≡ length (cell_bytes c contents)
      → rest ≡ drop (content_len c) contents → IsNextCell f cells c contents n rest
  next_by (cell.Leaf level v) read is long behind = (Cell_at c.row c.column (cell.Leaf level v), read, (at.0, omega arith, at.1, (k, at.2, is)), long, behind)
  next_by (cell.Null level) read is long behind = (Cell_at c.row c.column (cell.Null level), read, (at.0, omega arith, at.1, (k, at.2, is)), long, behind)
  next_by (cell.Empty level) read is long behind = (Cell_at c.row c.column (cell.Empty level), read, (at.0, omega arith, at.1, (k, at.2, is)), long, behind)
  next_by (cell.Enter level j m) read is long behind = absurd is
  next_by (cell.Leave level m) read is long behind = absurd is
  next_by (cell.Part level offset b last) read is long behind = absurd is

  pub next_of_kind : IsCellOfKind k c contents n rest → IsNextCell f cells c contents n rest
  next_of_kind x = next_by x.0 x.1 x.2 x.3 x.4

-- an empty value is a cell of any kind
pub empty_next : (f : Frame) (cells : ℕ) (c : CqlpEvent) (contents : List ℕ) (k : Kind) → IsKindAt f cells c.row c.column k → IsEmpty c → IsNextCell f cells c contents 4 contents
empty_next f cells c contents k at empty = next_of_kind f cells c contents 4 contents k at (cell_of_empty k c contents empty)

pub null_next : (f : Frame) (cells : ℕ) (c : CqlpEvent) (contents : List ℕ) (k : Kind) → IsKindAt f cells c.row c.column k → IsNull c → IsNextCell f cells c contents 4 contents
null_next f cells c contents k at null = next_of_kind f cells c contents 4 contents k at (cell_of_null k c contents null)

-- ---- cells one after the other

pub next_few : (f : Frame) (cells : ℕ) (c : CqlpEvent) (contents : List ℕ) (n : ℕ) (rest : List ℕ) → IsNextCell f cells c contents n rest → n < 2 ^ 32 + 4
next_few f cells c contents n rest next = omega (arith, next.3, next_short f (after cells) longest_cell next.0 (cell_bytes c contents) next.2)

-- The events before the i-th are cells of the page, which have as many bytes.
pub record MeasuredSoFar (f : Frame) (cells : ℕ) (contents : List ℕ) (cs : List CqlpEvent) (i sum : ℕ) (rest : List ℕ) : Type 0 where
  pub within : i ≤ length cs
  pub small : sum < 2 ^ 40
  pub goes : (more : ℕ) (end : List ℕ) → AreCellsFrom f (cells + i) rest (drop i cs) more end → AreCellsFrom f cells contents cs (sum + more) end

pub none_measured : (f : Frame) (cells : ℕ) (contents : List ℕ) (cs : List CqlpEvent) → MeasuredSoFar f cells contents cs 0 0 contents
none_measured f cells contents cs = record {
  within = omega arith;
  small = omega arith;
  goes = λ more end w.
      let same : more ≡ 0 + more = omega arith in
      let at : cells + 0 ≡ cells = omega arith in
      subst (λ (n : ℕ). AreCellsFrom f cells contents cs n end) same (subst (λ (k : ℕ). AreCellsFrom f k contents cs more end) at w);
}

module _ (f : Frame) (cells : ℕ) (contents : List ℕ) (cs : List CqlpEvent) (i sum : ℕ) (rest : List ℕ) (s : MeasuredSoFar f cells contents cs i sum rest) where
  pub one_measured : (d : CqlpEvent) (len : ℕ) (behind : List ℕ) → i < length cs → sum ≤ LONGEST_BODY → IsNextCell f (cells + i) (get_or cs i d) rest len behind
      → MeasuredSoFar f cells contents cs (i + 1) (sum + len) behind
  one_measured d len behind lt few next =
      let c = get_or cs i d in
      let here : drop i cs ≡ c ∷ drop (suc i) cs = drop-cons cs i d lt in
      let on : i + 1 ≡ suc i = omega arith in
      let at : cells + (i + 1) ≡ cells + i + 1 = omega arith in
      record {
        within = omega (arith, lt);
        small = omega (arith, few, next_few f (cells + i) c rest len behind next);
        goes = λ more end w.
            let behind_it : AreCellsFrom f (cells + (i + 1)) (drop (content_len c) rest) (drop (i + 1) cs) more end =
            subst (λ (b : List ℕ). AreCellsFrom f (cells + (i + 1)) b (drop (i + 1) cs) more end) next.4 w in
            let others : AreCellsFrom f (cells + i + 1) (drop (content_len c) rest) (drop (suc i) cs) more end =
            subst (λ (m : ℕ). AreCellsFrom f (cells + i + 1) (drop (content_len c) rest) (drop m cs) more end) on
            (subst (λ (k : ℕ). AreCellsFrom f k (drop (content_len c) rest) (drop (i + 1) cs) more end) at behind_it) in
            let all : AreCellsFrom f (cells + i) rest (c ∷ drop (suc i) cs) (len + more) end = (len, more, (next.0, next.1, next.2, next.3, refl), others, refl) in
            let sums : sum + (len + more) ≡ sum + len + more = omega arith in
            subst (λ (n : ℕ). AreCellsFrom f cells contents cs n end) sums
            (s.goes (len + more) end (subst (λ (xs : List CqlpEvent). AreCellsFrom f (cells + i) rest xs (len + more) end) (sym here) all));
      }

  pub all_measured : length cs ≤ i → AreCellsFrom f cells contents cs sum rest
  all_measured le =
      let none : drop i cs ≡ [] = drop_of_length-le cs le in
      let last : AreCellsFrom f (cells + i) rest (drop i cs) 0 rest = subst (λ (xs : List CqlpEvent). AreCellsFrom f (cells + i) rest xs 0 rest) (sym none) (refl, refl) in
      let sums : sum + 0 ≡ sum = omega arith in
      subst (λ (n : ℕ). AreCellsFrom f cells contents cs n rest) sums (s.goes 0 rest last)

-- ---- cells in runs

-- they have as many bytes, and can be put wherever there is room for as many
cells_ready : (f : Frame) (cells : ℕ) (contents : List ℕ) (cs : List CqlpEvent) (n : ℕ) (rest : List ℕ) → AreCellsFrom f cells contents cs n rest
    → (n ≡ length (cells_bytes contents cs)) × ((m : ℕ) → n ≤ m → AreWritable cs contents m)
cells_ready f cells contents [] n rest w = (w.1, λ m le. tt)
cells_ready f cells contents (c ∷ cs) n rest w =
    let next = w.2 in
    let behind : List ℕ = drop (content_len c) contents in
    let r = cells_ready f (cells + 1) behind cs w.1 rest w.3 in
    let both : length (cell_bytes c contents ++ cells_bytes behind cs) ≡ length (cell_bytes c contents) + length (cells_bytes behind cs) = length-append (cell_bytes c contents) (cells_bytes behind cs) in
    let short : length (cell_bytes c contents) < 2 ^ 32 + 4 = next_short f (after cells) longest_cell next.0 (cell_bytes c contents) next.2 in (
      omega (arith, w.4, next.3, r.0, both),
      λ m le. (
        (next.0, next.1, short, omega (arith, le, w.4, next.3)),
        r.1 (m - length (cell_bytes c contents)) (omega (arith, le, w.4, next.3)),
      ),
    )

-- the bytes of the cells of two runs
bytes_append : (f : Frame) (cells : ℕ) (contents : List ℕ) (cs ds : List CqlpEvent) (n : ℕ) (rest : List ℕ) → AreCellsFrom f cells contents cs n rest
    → cells_bytes contents (cs ++ ds) ≡ cells_bytes contents cs ++ cells_bytes rest ds
bytes_append f cells contents [] ds n rest w = ap (λ (b : List ℕ). cells_bytes b ds) (sym w.0)
bytes_append f cells contents (c ∷ cs) ds n rest w =
    let behind : List ℕ = drop (content_len c) contents in
    ap (λ (b : List ℕ). cell_bytes c contents ++ b) (bytes_append f (cells + 1) behind cs ds w.1 rest w.3)
    ∙ sym (append_assoc (cell_bytes c contents) (cells_bytes behind cs) (cells_bytes rest ds))

-- two runs, one after the other
cells_append : (f : Frame) (cells : ℕ) (contents : List ℕ) (cs ds : List CqlpEvent) (n m : ℕ) (rest end : List ℕ) → AreCellsFrom f cells contents cs n rest → AreCellsFrom f (cells + length cs) rest ds m end
    → AreCellsFrom f cells contents (cs ++ ds) (n + m) end
cells_append f cells contents [] ds n m rest end w x =
    let at : cells + 0 ≡ cells = omega arith in
    let sums : m ≡ n + m = omega (arith, w.1) in
    subst (λ (k : ℕ). AreCellsFrom f cells contents ds k end) sums
    (subst (λ (b : List ℕ). AreCellsFrom f cells b ds m end) w.0 (subst (λ (k : ℕ). AreCellsFrom f k rest ds m end) at x))
cells_append f cells contents (c ∷ cs) ds n m rest end w x =
    let at : cells + suc (length cs) ≡ cells + 1 + length cs = omega arith in
    let others = cells_append f (cells + 1) (drop (content_len c) contents) cs ds w.1 m rest end w.3 (subst (λ (k : ℕ). AreCellsFrom f k rest ds m end) at x) in
    (w.0, w.1 + m, w.2, others, omega (arith, w.4))

-- up to the last
all_next : (f : Frame) (cells : ℕ) (contents : List ℕ) (cs : List CqlpEvent) (n : ℕ) → AreCellsFrom f cells contents cs n [] → cells + length cs ≡ cells_wanted (frame_of f).message → AreNextCells f cells contents cs n
all_next f cells contents [] n w all = (sym w.0, omega (arith, all), w.1)
all_next f cells contents (c ∷ cs) n w all = (w.0, w.1, w.2, all_next f (cells + 1) (drop (content_len c) contents) cs w.1 w.3 (omega (arith, all)), w.4)

-- the cells of a run, as it has them
run_is : (f : Frame) (cells : ℕ) (contents : List ℕ) (cs : List CqlpEvent) (r : CellRun) (rest : List ℕ) → IsRun f cells contents cs r rest → AreCellsFrom f cells r.contents.now r.events.now r.size rest
run_is f cells contents cs r rest x =
    subst (λ (xs : List CqlpEvent). AreCellsFrom f cells r.contents.now xs r.size rest) (sym x.events)
    (subst (λ (b : List ℕ). AreCellsFrom f cells b cs r.size rest) (sym x.contents_are) x.are)

run_ready : (f : Frame) (cells : ℕ) (contents : List ℕ) (cs : List CqlpEvent) (r : CellRun) (rest : List ℕ) → IsRun f cells contents cs r rest → IsReady r
run_ready f cells contents cs r rest x =
    let w = cells_ready f cells r.contents.now r.events.now r.size rest (run_is f cells contents cs r rest x) in
    (w.0, w.1 r.size (omega arith))

run_bytes_are : (f : Frame) (cells : ℕ) (contents : List ℕ) (cs : List CqlpEvent) (r : CellRun) (rest : List ℕ) → IsRun f cells contents cs r rest → cells_bytes contents cs ≡ run_bytes r
run_bytes_are f cells contents cs r rest x = λ i. cells_bytes (sym x.contents_are i) (sym x.events i)

-- events that are split three times
pub split_in_four : (n : ℕ) (cs after_one after_two one two three four : List CqlpEvent) → one ≡ take n cs → after_one ≡ drop n cs → two ≡ take n after_one → after_two ≡ drop n after_one → three ≡ take n after_two → four ≡ drop n after_two
    → cs ≡ one ++ (two ++ (three ++ four))
split_in_four n cs after_one after_two one two three four is_one is_after_one is_two is_after_two is_three is_four =
    let all : cs ≡ one ++ after_one = sym (take-append-drop n cs) ∙ (λ i. sym is_one i ++ sym is_after_one i) in
    let behind : after_one ≡ two ++ after_two = sym (take-append-drop n after_one) ∙ (λ i. sym is_two i ++ sym is_after_two i) in
    let end : after_two ≡ three ++ four = sym (take-append-drop n after_two) ∙ (λ i. sym is_three i ++ sym is_four i) in
    all ∙ ap (λ (xs : List CqlpEvent). one ++ xs) (behind ∙ ap (λ (xs : List CqlpEvent). two ++ xs) end)

module _ (f : Frame) (contents : List ℕ) (cs : List CqlpEvent) (q : Quarters) (a : AreQuarters f contents cs q) where
  last_two : AreCellsFrom f (2 * a.len) a.after_two (a.three ++ a.four) (q.third.size + q.last.size) []
  last_two =
      let at : 3 * a.len ≡ 2 * a.len + length a.three = omega (arith, a.long_three) in
      cells_append f (2 * a.len) a.after_two a.three a.four q.third.size q.last.size a.after_three [] a.third.are (subst (λ (k : ℕ). AreCellsFrom f k a.after_three a.four q.last.size []) at a.last.are)

  last_three : AreCellsFrom f a.len a.after_one (a.two ++ (a.three ++ a.four)) (q.second.size + (q.third.size + q.last.size)) []
  last_three =
      let at : 2 * a.len ≡ a.len + length a.two = omega (arith, a.long_two) in
      cells_append f a.len a.after_one a.two (a.three ++ a.four) q.second.size (q.third.size + q.last.size) a.after_two [] a.second.are
      (subst (λ (k : ℕ). AreCellsFrom f k a.after_two (a.three ++ a.four) (q.third.size + q.last.size) []) at last_two)

  all_four : AreCellsFrom f 0 contents (a.one ++ (a.two ++ (a.three ++ a.four))) (q.first.size + (q.second.size + (q.third.size + q.last.size))) []
  all_four =
      let at : a.len ≡ 0 + length a.one = omega (arith, a.long_one) in
      cells_append f 0 contents a.one (a.two ++ (a.three ++ a.four)) q.first.size (q.second.size + (q.third.size + q.last.size)) a.after_one [] a.first.are
      (subst (λ (k : ℕ). AreCellsFrom f k a.after_one (a.two ++ (a.three ++ a.four)) (q.second.size + (q.third.size + q.last.size)) []) at last_three)

  pub quarters_next : AreNextCells f 0 contents cs (quarters_size q)
  quarters_next =
      let sums : q.first.size + (q.second.size + (q.third.size + q.last.size)) ≡ quarters_size q = omega arith in
      let all : 0 + length cs ≡ cells_wanted (frame_of f).message = omega (arith, a.come) in
      all_next f 0 contents cs (quarters_size q)
      (subst (λ (n : ℕ). AreCellsFrom f 0 contents cs n []) sums
      (subst (λ (xs : List CqlpEvent). AreCellsFrom f 0 contents xs (q.first.size + (q.second.size + (q.third.size + q.last.size))) []) (sym a.all) all_four)) all

  pub quarters_are : cells_bytes contents cs ≡ quarters_bytes q
  quarters_are =
      ap (λ (xs : List CqlpEvent). cells_bytes contents xs) a.all
      ∙ bytes_append f 0 contents a.one (a.two ++ (a.three ++ a.four)) q.first.size a.after_one a.first.are
      ∙ ap (λ (b : List ℕ). cells_bytes contents a.one ++ b) (bytes_append f a.len a.after_one a.two (a.three ++ a.four) q.second.size a.after_two a.second.are)
      ∙ ap (λ (b : List ℕ). cells_bytes contents a.one ++ (cells_bytes a.after_one a.two ++ b)) (bytes_append f (2 * a.len) a.after_two a.three a.four q.third.size a.after_three a.third.are)
      ∙ (λ i. run_bytes_are f 0 contents a.one q.first a.after_one a.first i
      ++ (run_bytes_are f a.len a.after_one a.two q.second a.after_two a.second i
      ++ (run_bytes_are f (2 * a.len) a.after_two a.three q.third a.after_three a.third i ++ run_bytes_are f (3 * a.len) a.after_three a.four q.last [] a.last i)))

  pub quarters_ready : AreReady q
  quarters_ready =
      let first : length q.first.events.now ≡ length a.one = ap length a.first.events in
      let second : length q.second.events.now ≡ length a.two = ap length a.second.events in
      let third : length q.third.events.now ≡ length a.three = ap length a.third.events in
      let last : length q.last.events.now ≡ length a.four = ap length a.last.events in
      record {
        first = run_ready f 0 contents a.one q.first a.after_one a.first;
        second = run_ready f a.len a.after_one a.two q.second a.after_two a.second;
        third = run_ready f (2 * a.len) a.after_two a.three q.third a.after_three a.third;
        last = run_ready f (3 * a.len) a.after_three a.four q.last [] a.last;
        few_first = omega (arith, first, last, a.long_one, a.long_four);
        few_second = omega (arith, second, last, a.long_two, a.long_four);
        few_third = omega (arith, third, last, a.long_three, a.long_four);
        small = omega (arith, a.first.small, a.second.small, a.third.small, a.last.small);
      }

-- ---- what is written

-- The cells before the i-th event were written.
pub record WrittenSoFar (cs : List CqlpEvent) (contents before room : List ℕ) (i at : ℕ) (rest : List ℕ) : Type 0 where
  pub out : List ℕ
  pub is : room ≡ out ++ drop (length out) before
  pub long : at ≡ length out
  pub fits : length out ≤ length before
  pub bytes : out ++ cells_bytes rest (drop i cs) ≡ cells_bytes contents cs
  pub left : AreWritable (drop i cs) rest (length before - length out)

pub none_written : (cs : List CqlpEvent) (contents before : List ℕ) → AreWritable cs contents (length before) → WrittenSoFar cs contents before before 0 0 contents
none_written cs contents before w =
    let all : length before ≡ length before - 0 = omega arith in
    record { out = []; is = refl; long = refl; fits = omega arith; bytes = refl; left = subst (λ (n : ℕ). AreWritable cs contents n) all w }

module _ (cs : List CqlpEvent) (contents before room : List ℕ) (i at : ℕ) (rest : List ℕ) (s : WrittenSoFar cs contents before room i at rest) where
  room_left : drop at room ≡ drop (length s.out) before
  room_left = (λ i. drop (s.long i) (s.is i)) ∙ drop-append_seam s.out (drop (length s.out) before)

  pub room_long : length room ≡ length before
  room_long =
      let a : length (s.out ++ drop (length s.out) before) ≡ length s.out + length (drop (length s.out) before) = length-append s.out (drop (length s.out) before) in
      omega (arith, ap length s.is, a, length-drop (length s.out) before, s.fits)

  pub at_within : at ≤ length room
  at_within = omega (arith, room_long, s.long, s.fits)

  -- with one more cell, or none after the last
  pub one_written : (at' : ℕ) (rest' room' : List ℕ) → WritesOn cs i rest at room at' rest' room' → WrittenSoFar cs contents before room' (i + 1) at' rest'
  one_written at' rest' room' w =
      let both : length (s.out ++ w.bytes) ≡ length s.out + length w.bytes = length-append s.out w.bytes in
      let less : length room - at' ≡ length before - length (s.out ++ w.bytes) = omega (arith, both, room_long, w.long, s.long) in
      record {
        out = s.out ++ w.bytes;
        is = w.is
            ∙ (λ j. ap (λ (m : ℕ). take m room) s.long j ++ (w.bytes ++ drop (length w.bytes) (room_left j)))
            ∙ (λ j. ap (λ (xs : List ℕ). take (length s.out) xs) s.is j ++ (w.bytes ++ drop-drop (length w.bytes) (length s.out) before j))
            ∙ (λ j. take-append_seam s.out (drop (length s.out) before) j ++ (w.bytes ++ drop (sym both j) before))
            ∙ sym (append_assoc s.out w.bytes (drop (length (s.out ++ w.bytes)) before));
        long = omega (arith, w.long, s.long, both);
        fits = omega (arith, w.fits, w.long, s.long, both, room_long);
        bytes = append_assoc s.out w.bytes (cells_bytes rest' (drop (i + 1) cs)) ∙ ap (λ (b : List ℕ). s.out ++ b) w.cells ∙ s.bytes;
        left = subst (λ (n : ℕ). AreWritable (drop (i + 1) cs) rest' n) less w.left;
      }

  -- what is to be written fits
  pub left_in_room : AreWritable (drop i cs) rest (length room - at)
  left_in_room =
      let same : length before - length s.out ≡ length room - at = omega (arith, room_long, s.long) in
      subst (λ (n : ℕ). AreWritable (drop i cs) rest n) same s.left

  pub all_written : length cs ≤ i → room ≡ cells_bytes contents cs ++ drop (length (cells_bytes contents cs)) before
  all_written le =
      let end : drop i cs ≡ [] = drop_of_length-le cs le in
      let all : s.out ≡ cells_bytes contents cs = sym (append-nil s.out) ∙ ap (λ (xs : List CqlpEvent). s.out ++ cells_bytes rest xs) (sym end) ∙ s.bytes in
      s.is ∙ ap (λ (xs : List ℕ). xs ++ drop (length xs) before) all

-- ---- one more cell

module _ (cs : List CqlpEvent) (at : ℕ) (contents : List ℕ) (put : ℕ) (room : List ℕ) (fits : put ≤ length room) (w : AreWritable (drop at cs) contents (length room - put)) where
  abbrev part : List ℕ
  part = mid_of put (length room - put) room

  part_long : length part ≡ length room - put
  part_long = ap length (part_is room put) ∙ length-drop put room

  module _ (c : CqlpEvent) (nth : c ≡ get_or cs at c) (lt : at < length cs) where
    here : drop at cs ≡ c ∷ drop (suc at) cs
    here = drop-cons cs at c lt ∙ ap (λ (x : CqlpEvent). x ∷ drop (suc at) cs) (sym nth)

    ready : IsWritable c contents (length room - put) × AreWritable (drop (suc at) cs) (drop (content_len c) contents) (length room - put - length (cell_bytes c contents))
    ready = subst (λ (xs : List CqlpEvent). AreWritable xs contents (length room - put)) here w

    pub writable : IsWritable c contents (length part)
    writable = subst (λ (n : ℕ). IsWritable c contents n) (sym part_long) ready.0

    pub nth_written : (len : ℕ) (behind part' : List ℕ) → len ≡ length (cell_bytes c contents) → part' ≡ cell_bytes c contents ++ drop len part → behind ≡ drop (content_len c) contents
        → WritesOn cs at contents put room (put + len) behind (put_mid put (length room - put) room part')
    nth_written len behind part' long is after =
        let bytes : List ℕ = cell_bytes c contents in
        let next : suc at ≡ at + 1 = omega arith in
        let is' : part' ≡ bytes ++ drop (length bytes) part = is ∙ ap (λ (n : ℕ). bytes ++ drop n part) long in
        let less : length room - put - length bytes ≡ length room - (put + len) = omega (arith, long) in
        record {
          bytes = bytes;
          is = part_put room put bytes part' is';
          long = ap (λ (n : ℕ). put + n) long;
          fits = omega (arith, fits, long, ready.0.3);
          cells = (λ j. bytes ++ cells_bytes (after j) (drop (sym next j) cs)) ∙ ap (λ (xs : List CqlpEvent). cells_bytes contents xs) (sym here);
          left = subst (λ (n : ℕ). AreWritable (drop (at + 1) cs) behind n) less
              (subst (λ (m : ℕ). AreWritable (drop m cs) behind (length room - put - length bytes)) next
              (subst (λ (b : List ℕ). AreWritable (drop (suc at) cs) b (length room - put - length bytes)) (sym after) ready.1));
        }

  -- where there is none
  pub no_nth : length cs ≤ at → WritesOn cs at contents put room put contents room
  no_nth le =
      let none : drop at cs ≡ [] = drop_of_length-le cs le in
      let none_after : drop (at + 1) cs ≡ [] = drop_of_length-le cs (omega (arith, le)) in
      record {
        bytes = [];
        is = sym (take-append-drop put room);
        long = omega arith;
        fits = fits;
        cells = ap (λ (xs : List CqlpEvent). cells_bytes contents xs) (none_after ∙ sym none);
        left = subst (λ (xs : List CqlpEvent). AreWritable xs contents (length room - put)) (sym none_after) tt;
      }

-- ---- four runs

-- cells that have room have it in more, too
more_writable : (cs : List CqlpEvent) (contents : List ℕ) (n m : ℕ) → n ≤ m → AreWritable cs contents n → AreWritable cs contents m
more_writable [] contents n m le w = tt
more_writable (c ∷ cs) contents n m le w = (
  (w.0.0, w.0.1, w.0.2, omega (arith, le, w.0.3)),
  more_writable cs (drop (content_len c) contents) (n - length (cell_bytes c contents)) (m - length (cell_bytes c contents)) (omega (arith, le)) w.1,
)

-- a run that has all of its room is all that is in it
run_alone : (r : CellRun) (before room : List ℕ) → IsReady r → length before ≡ r.size → room ≡ run_bytes r ++ drop (length (run_bytes r)) before → room ≡ run_bytes r
run_alone r before room ready long is =
    let none : drop (length (run_bytes r)) before ≡ [] = drop_of_length-le before (omega (arith, long, ready.0)) in
    is ∙ ap (λ (xs : List ℕ). run_bytes r ++ xs) none ∙ append-nil (run_bytes r)

-- A run is written up to the i-th of its cells, in a room of as many bytes.
pub record RunWritten (r : CellRun) (room : List ℕ) (i at : ℕ) (rest : List ℕ) : Type 0 where
  pub before : List ℕ
  pub long : length before ≡ r.size
  pub written : WrittenSoFar r.events.now r.contents.now before room i at rest

pub no_run_written : (r : CellRun) (room : List ℕ) → IsReady r → length room ≡ r.size → RunWritten r room 0 0 r.contents.now
no_run_written r room ready long = record {
  before = room;
  long = long;
  written = none_written r.events.now r.contents.now room (subst (λ (n : ℕ). AreWritable r.events.now r.contents.now n) (sym long) ready.1);
}

pub more_run_written : (r : CellRun) (room : List ℕ) (i at : ℕ) (rest : List ℕ) → RunWritten r room i at rest → (at' : ℕ) (rest' room' : List ℕ) → WritesOn r.events.now i rest at room at' rest' room' → RunWritten r room' (i + 1) at' rest'
more_run_written r room i at rest s at' rest' room' w = record {
  before = s.before;
  long = s.long;
  written = one_written r.events.now r.contents.now s.before room i at rest s.written at' rest' room' w;
}

pub run_written : (r : CellRun) (room : List ℕ) (i at : ℕ) (rest : List ℕ) → IsReady r → RunWritten r room i at rest → length r.events.now ≤ i → room ≡ run_bytes r
run_written r room i at rest ready s le = run_alone r s.before room ready s.long (all_written r.events.now r.contents.now s.before room i at rest s.written le)

pub run_left : (r : CellRun) (room : List ℕ) (i at : ℕ) (rest : List ℕ) → RunWritten r room i at rest → AreWritable (drop i r.events.now) rest (length room - at)
run_left r room i at rest s = left_in_room r.events.now r.contents.now s.before room i at rest s.written

pub run_within : (r : CellRun) (room : List ℕ) (i at : ℕ) (rest : List ℕ) → RunWritten r room i at rest → at ≤ length room
run_within r room i at rest s = at_within r.events.now r.contents.now s.before room i at rest s.written

-- as many bytes are left after the head
pub rest_long : (before mid : List ℕ) (at : ℕ) → drop at mid ≡ drop at before → length (mid_of at (length mid - at) mid) ≡ length before - at
rest_long before mid at same = ap length (part_is mid at ∙ same) ∙ length-drop at before

-- the room of the last run
pub last_room : (a b c : ℕ) (room r1 r2 r3 : List ℕ) → r1 ≡ drop a room → r2 ≡ drop b r1 → r3 ≡ drop c r2 → r3 ≡ drop (a + b + c) room
last_room a b c room r1 r2 r3 first second third =
    third ∙ ap (λ (xs : List ℕ). drop c xs) (second ∙ ap (λ (xs : List ℕ). drop b xs) first ∙ drop-drop b a room) ∙ drop-drop c (a + b) room

module _ (q : Quarters) (ready : AreReady q) (room : List ℕ) (fits : quarters_size q ≤ length room) where
  abbrev before_last : ℕ
  before_last = q.first.size + q.second.size + q.third.size

  pub no_last_written : (r : List ℕ) → r ≡ drop before_last room → WrittenSoFar q.last.events.now q.last.contents.now (drop before_last room) r 0 0 q.last.contents.now
  no_last_written r is =
      let enough : q.last.size ≤ length (drop before_last room) = omega (arith, fits, length-drop before_last room) in
      let all = more_writable q.last.events.now q.last.contents.now q.last.size (length (drop before_last room)) enough ready.last.1 in
      subst (λ (b : List ℕ). WrittenSoFar q.last.events.now q.last.contents.now (drop before_last room) b 0 0 q.last.contents.now) (sym is)
      (none_written q.last.events.now q.last.contents.now (drop before_last room) all)

  pub four_written : (r0 r1 r2 r3 : List ℕ) → r0 ≡ run_bytes q.first → r1 ≡ run_bytes q.second → r2 ≡ run_bytes q.third → r3 ≡ run_bytes q.last ++ drop (length (run_bytes q.last)) (drop before_last room)
      → r0 ++ (r1 ++ (r2 ++ r3)) ≡ quarters_bytes q ++ drop (length (quarters_bytes q)) room
  four_written r0 r1 r2 r3 e0 e1 e2 e3 =
      let b0 : List ℕ = run_bytes q.first in
      let b1 : List ℕ = run_bytes q.second in
      let b2 : List ℕ = run_bytes q.third in
      let b3 : List ℕ = run_bytes q.last in
      let end : List ℕ = drop (length (quarters_bytes q)) room in
      let long : before_last + length b3 ≡ length (quarters_bytes q) =
      omega (arith, ready.first.0, ready.second.0, ready.third.0, length-append b0 (b1 ++ (b2 ++ b3)), length-append b1 (b2 ++ b3), length-append b2 b3) in
      let left : drop (length b3) (drop before_last room) ≡ end = drop-drop (length b3) before_last room ∙ ap (λ (n : ℕ). drop n room) long in
      (λ i. e0 i ++ (e1 i ++ (e2 i ++ e3 i)))
      ∙ ap (λ (xs : List ℕ). b0 ++ (b1 ++ (b2 ++ (b3 ++ xs)))) left
      ∙ ap (λ (xs : List ℕ). b0 ++ (b1 ++ xs)) (sym (append_assoc b2 b3 end))
      ∙ ap (λ (xs : List ℕ). b0 ++ xs) (sym (append_assoc b1 (b2 ++ b3) end))
      ∙ sym (append_assoc b0 (b1 ++ (b2 ++ b3)) end)

-- ---- the page

module _ (w : WholePage) (before : List ℕ) (long : length (quarters_bytes w.cells) ≡ w.size) where
  abbrev head : List ℕ
  head = w.head.items

  abbrev cells : List ℕ
  cells = quarters_bytes w.cells

  page_long : length (page_bytes w) ≡ length head + w.size
  page_long = length-append head cells ∙ ap (λ (n : ℕ). length head + n) long

  pub no_room : length before < length head + w.size → PutsPage w numbers.NO_ROOM before before
  no_room lt =
      let short : nat_lt (length before) (length (page_bytes w)) ≡ true = lt-ltb _ _ (omega (arith, lt, page_long)) in
      subst (λ (b : Bool). PutsWhere b (page_bytes w) numbers.NO_ROOM before before) (sym short) (refl, refl)

  pub page_put : length head + w.size ≤ length before → (mid part' : List ℕ) (at : ℕ) → at ≡ 0 + length head → take at mid ≡ take 0 before ++ head → ((n : ℕ) → at ≤ n → drop n mid ≡ drop n before)
      → part' ≡ cells ++ drop (length cells) (mid_of at (length mid - at) mid) → PutsPage w numbers.DONE before (put_mid at (length mid - at) mid part')
  page_put le mid part' at is first others put =
      let enough : nat_lt (length before) (length (page_bytes w)) ≡ false = le-ltb _ _ (omega (arith, le, page_long)) in
      let at_is : at ≡ length head = omega (arith, is) in
      let same : at ≤ at = omega arith in
      let after : put_mid at (length mid - at) mid part' ≡ page_bytes w ++ drop (length (page_bytes w)) before =
      part_put mid at cells part' put
      ∙ (λ i. first i ++ (cells ++ drop (length cells) (others at same i)))
      ∙ (λ i. head ++ (cells ++ drop (length cells) (drop (at_is i) before)))
      ∙ (λ i. head ++ (cells ++ drop-drop (length cells) (length head) before i))
      ∙ (λ i. head ++ (cells ++ drop (sym (length-append head cells) i) before))
      ∙ sym (append_assoc head cells (drop (length (head ++ cells)) before))
      in
      subst (λ (b : Bool). PutsWhere b (page_bytes w) numbers.DONE before (put_mid at (length mid - at) mid part')) (sym enough) (refl, after)

-- ---- the frame

pub without_long : (others cs : List CqlpEvent) → IsWithoutEnd others cs → length cs ≤ length others
without_long others cs (inl is) = omega (arith, ap length is)
without_long others cs (inr (last, is, tag)) = omega (arith, ap length is, length-append cs (last ∷ []))

-- what is known of a page that was opened
pub page_of : (g : Global) (events : List CqlpEvent) (n : ℕ) (cs : List CqlpEvent) (contents : List ℕ) (w : WholePage) → length events ≤ LONGEST_BODY → IsWithoutEnd (drop n events) cs
    → OpensWhole (take n events) cs contents w → Page (take n events) cs contents w
page_of g events n cs contents w few without opens =
    let all : length (take n events ++ drop n events) ≡ length events = ap length (take-append-drop n events) in
    let a : length (take n events ++ drop n events) ≡ length (take n events) + length (drop n events) = length-append (take n events) (drop n events) in
    let b : length (take n events ++ cs) ≡ length (take n events) + length cs = length-append (take n events) cs in
    let next : AreNextCells opens.frame 0 opens.rest cs w.size =
    subst (λ (k : ℕ). AreNextCells opens.frame 0 opens.rest cs k) (sym opens.size) (quarters_next opens.frame opens.rest cs w.cells opens.cells) in
    whole_page g (take n events) cs contents w opens next (quarters_are opens.frame opens.rest cs w.cells opens.cells) (omega (arith, few, without_long (drop n events) cs without, all, a, b))

pub page_encoded : (events : List CqlpEvent) (n : ℕ) (cs : List CqlpEvent) (contents : List ℕ) (w : WholePage) (code : ℕ) (before after : List ℕ) (written : CqlpEncoded) → Page (take n events) cs contents w
    → IsWithoutEnd (drop n events) cs → PutsPage w code before after → written.length ≡ length w.head.items + w.size → written.event ≡ length events → PutsFrame events contents code before after written
page_encoded events n cs contents w code before after written p without put long at = (
  page_bytes w,
  subst (λ (xs : List CqlpEvent). IsEncoded xs contents (page_bytes w)) (take-append-drop n events) (p.written (drop n events) without),
  (put, long ∙ ap (λ (k : ℕ). length w.head.items + k) p.long ∙ sym (length-append w.head.items (quarters_bytes w.cells))),
  at,
)
