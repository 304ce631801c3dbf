-- What becomes of events that C passes of cells, one after the other.
use Rattle.std.proofs.Common.{◌≡◌, ℕ, suc, ◌+◌, ◌-◌, ◌<◌, ◌≤◌, ◌++◌, inl, inr, Bool, true, false, List, [], ◌∷◌, length, drop, take, get_or, Option, Some, None, Result, Ok, Err, refl, sym, ap, ◌∙◌, subst, arith, append_assoc}
use Rattle.std.proofs.Math.ListN.{drop_of_length-le}
use Rattle.std.proofs.Math.Seq.{drop-append_seam, drop-cons, take-append_seam}
use Rattle.std.specs.Prelude.{◌==◌, ◌^◌, IfNone, IfSome, if◌then◌else◌}
use Rattle.std.specs.Borrow.{Bor}
use Rattle.std.proofs.lemmas.Bool.{eq-eqb, eqb-true}
use Rattle.std.proofs.lemmas.List.{append-nil, drop-drop, length-append, length-drop, take-append-drop, take_all}
use borrow.Rule.Slice.PartMut.{mid_of, post_of, put_mid}
use Rattle.cqlp_c.specs.declared.encode.Unencoded.TheVariants as unencoded
use Rattle.cqlp_c.specs.declared.numbers.TheConstants as numbers
use Rattle.cqlp_c.specs.declared.page.Unbegun.TheVariants as unbegun
use Rattle.cqlp_kind.specs.declared.kind.Kind.{Kind}
use Rattle.cqlp_kind.specs.CellStep.{Leaf, Null}
use Rattle.cqlp_kind.specs.Scalars.{ScalarValue}
use Rattle.cqlp_kind.specs.Types.{has_no_items}
use Rattle.cqlp_grammar.specs.Events.{Event, Cell_at}
use Rattle.cqlp_build_cells.specs.Building.{ends_cell}
use Rattle.cqlp_compose.specs.declared.put.PutCells.{PutCells}
use Rattle.cqlp_compose.specs.Put.{GoesOn, PutterState, Puts, within}
use Rattle.cqlp_compose.specs.Single.{IsNextKind, IsNextScalar, IsNoNextScalar, IsRefused, PutsNull, PutsScalar}
use Rattle.cqlp_compose.proofs.Refusals.{one_kind}
use Rattle.cqlp_compose.specs.Measures.{event_size}
use Rattle.cqlp_c.specs.declared.event.CqlpEvent.{CqlpEvent}
use Rattle.cqlp_c.specs.declared.page.CqlpPut.{CqlpPut}
use Rattle.cqlp_c.specs.declared.page.Unput.{Unput}
use Rattle.cqlp_c.specs.declared.page.Unput.TheVariants as unput
use Rattle.cqlp_compose.specs.declared.error.PutError.TheVariants as put_error
use Rattle.cqlp_c.specs.declared.from_c.BadEvent.{BadEvent}
use Rattle.cqlp_compose.specs.declared.page.OpenPage.{OpenPage}
use Rattle.cqlp_c.specs.declared.encode.CqlpEncoded.{CqlpEncoded}
use Rattle.cqlp_c.specs.Pages.{Begins, BeginsAnew, BatchState, PutsAll, PutsFrom, PutsLeaf, PutsOne, RefusesLeaf, RefusesNull, after_event, at_begin, gone_on, measured, nothing_put, sized_on, sum_of, written_of, with_all_used}
use Rattle.cqlp_c.specs.FromC.{IsLeaf, IsNoLeaf, IsNull, content_len, event_from_c, found_leaf}
use Rattle.cqlp_c.proofs.Leaves.{null_len, null_read}

-- ---- sizes

module _ (cs : List CqlpEvent) (i : ℕ) (d : CqlpEvent) (lt : i < length cs) (sum : ℕ) (rest : List ℕ) where
  measured_here : measured i sum rest (drop i cs) ≡ sized_on i sum (event_from_c (get_or cs i d) rest) (λ s. measured (suc i) s (drop (content_len (get_or cs i d)) rest) (drop (suc i) cs))
  measured_here = ap (measured i sum rest) (drop-cons cs i d lt)

  pub measured_on : (e : Event) → event_from_c (get_or cs i d) rest ≡ Ok e → measured i sum rest (drop i cs) ≡ measured (suc i) (sum_of sum (event_size e)) (drop (content_len (get_or cs i d)) rest) (drop (suc i) cs)
  measured_on e written = measured_here ∙ ap (λ (r : Result Event BadEvent). sized_on i sum r (λ s. measured (suc i) s (drop (content_len (get_or cs i d)) rest) (drop (suc i) cs))) written

  pub measured_stops : (why : BadEvent) → event_from_c (get_or cs i d) rest ≡ Err why → measured i sum rest (drop i cs) ≡ Err (record { event = i; why = why })
  measured_stops why written = measured_here ∙ ap (λ (r : Result Event BadEvent). sized_on i sum r (λ s. measured (suc i) s (drop (content_len (get_or cs i d)) rest) (drop (suc i) cs))) written

  pub measured_next : (e : Event) (sum' : ℕ) (rest' : List ℕ) → Ok e ≡ event_from_c (get_or cs i d) rest → sum' ≡ sum_of sum (event_size e) → rest' ≡ drop (content_len (get_or cs i d)) rest
      → measured i sum rest (drop i cs) ≡ measured (i + 1) sum' rest' (drop (i + 1) cs)
  measured_next e sum' rest' written is behind =
      let next : suc i ≡ i + 1 = omega arith in
      measured_on e (sym written) ∙ (λ j. measured (next j) (sym is j) (sym behind j) (drop (next j) cs))

-- ---- cells

abbrev pub added : Option ℕ → ℕ
added None = 0
added (Some len) = len

fits_by : (ends : Bool) (s : PutterState) (n : ℕ) (len : Option ℕ) (bytes : List ℕ) (new : PutterState) → GoesOn ends s n (Ok len) bytes new → (length bytes ≤ n) × (added len ≡ length bytes)
fits_by true s n (Some len) bytes new g = (g.2, g.1)
fits_by true s n None bytes new g = absurd g
fits_by false s n None bytes new g = (omega (arith, ap length g.0), sym (ap length g.0))
fits_by false s n (Some len) bytes new g = absurd g

pub put_fits : (old : PutterState) (e : Event) (n : ℕ) (len : Option ℕ) (bytes : List ℕ) (new : PutterState) → Puts old e n (Ok len) bytes new → (length bytes ≤ n) × (added len ≡ length bytes)
put_fits old e n len bytes new p = fits_by (ends_cell e) (within old p.0) n len bytes new p.2

pub longer : (p : CqlpPut) (event used : ℕ) (len : Option ℕ) → (gone_on p event used len).length ≡ p.length + added len
longer p event used None = omega arith
longer p event used (Some len) = refl

-- no more contents are left than there were
pub behind_short : (old : PutterState) (c : CqlpEvent) (contents rest : List ℕ) (n : ℕ) (len : Option ℕ) (behind bytes : List ℕ) (new : PutterState) → length rest ≤ length contents
    → PutsOne old c rest n (Ok (len, behind)) bytes new → length behind ≤ length contents
behind_short old c contents rest n len behind bytes new le p = omega (arith, le, ap length p.3, length-drop (content_len c) rest)

-- The events before the n-th were taken.
pub record PutSoFar (old cells : PutterState) (cs : List CqlpEvent) (contents before room : List ℕ) (n : ℕ) (written : CqlpPut) (rest : List ℕ) : Type 0 where
  pub out : List ℕ
  pub goes : (new : BatchState) (o : Option (ℕ × Unput))
      → PutsFrom (length before) n (length contents) (record { cells = cells; rest = rest; out = out; written = written }) (drop n cs) new o
      → PutsFrom (length before) 0 (length contents) (at_begin old contents (length cs)) cs new o
  pub is : room ≡ out ++ drop (length out) before
  pub long : written.length ≡ length out
  pub fits : length out ≤ length before
  pub left : length rest ≤ length contents

pub none_put : (old : PutterState) (cs : List CqlpEvent) (contents before : List ℕ) → PutSoFar old old cs contents before before 0 (nothing_put (length cs)) contents
none_put old cs contents before = record { out = []; goes = λ new o p. p; is = refl; long = refl; fits = omega arith; left = omega arith }

module _ (old cells new : PutterState) (cs : List CqlpEvent) (contents before room : List ℕ) (n : ℕ) (written : CqlpPut) (rest : List ℕ) (s : PutSoFar old cells cs contents before room n written rest)
    (d : CqlpEvent) (lt : n < length cs) where
  room_left : drop written.length room ≡ drop (length s.out) before
  room_left = (λ i. drop (s.long i) (s.is i)) ∙ drop-append_seam s.out (drop (length s.out) before)

  left_long : length (drop written.length room) ≡ length before - length s.out
  left_long = ap length room_left ∙ length-drop (length s.out) before

  here : drop n cs ≡ get_or cs n d ∷ drop (suc n) cs
  here = drop-cons cs n d lt

  abbrev state : BatchState
  state = record { cells = cells; rest = rest; out = s.out; written = written }

  -- one more is taken
  pub one_more : (len : Option ℕ) (behind bytes room' : List ℕ) → PutsOne cells (get_or cs n d) rest (length (drop written.length room)) (Ok (len, behind)) bytes new
      → room' ≡ take written.length room ++ (bytes ++ drop (length bytes) (drop written.length room))
      → PutSoFar old new cs contents before room' (n + 1) (gone_on written n (length contents - length behind) len) behind
  one_more len behind bytes room' p is =
      let q = put_fits cells p.0 (length (drop written.length room)) len bytes new p.2 in
      let r : PutsOne cells (get_or cs n d) rest (length before - length s.out) (Ok (len, behind)) bytes new =
      subst (λ (m : ℕ). PutsOne cells (get_or cs n d) rest m (Ok (len, behind)) bytes new) left_long p in
      let next : n + 1 ≡ suc n = omega arith in
      record {
        out = s.out ++ bytes;
        goes = λ end o k.
            s.goes end o (subst (λ (xs : List CqlpEvent). PutsFrom (length before) n (length contents) state xs end o) (sym here)
            (inl (len, behind, bytes, new, r, subst (λ (m : ℕ). PutsFrom (length before) m (length contents) (after_event n (length contents) state len behind bytes new) (drop m cs) end o) next k)));
        is = is ∙ (λ i. ap (λ (m : ℕ). take m room) s.long i ++ (bytes ++ drop (length bytes) (room_left i)))
            ∙ (λ i. ap (λ (xs : List ℕ). take (length s.out) xs) s.is i ++ (bytes ++ drop-drop (length bytes) (length s.out) before i))
            ∙ (λ i. take-append_seam s.out (drop (length s.out) before) i ++ (bytes ++ drop (sym (length-append s.out bytes) i) before))
            ∙ sym (append_assoc s.out bytes (drop (length (s.out ++ bytes)) before));
        long = longer written n (length contents - length behind) len ∙ (λ i. s.long i + q.1 i) ∙ sym (length-append s.out bytes);
        fits = omega (arith, q.0, left_long, s.fits, length-append s.out bytes);
        left = behind_short cells (get_or cs n d) contents rest (length (drop written.length room)) len behind bytes new s.left p;
      }

  -- it is the first that is not
  pub one_stops : (why : Unput) (bytes : List ℕ) → PutsOne cells (get_or cs n d) rest (length (drop written.length room)) (Err why) bytes new
      → PutsFrom (length before) 0 (length contents) (at_begin old contents (length cs)) cs (record { cells = new; rest = rest; out = s.out; written = written }) (Some (n, why))
  one_stops why bytes p =
      let r : PutsOne cells (get_or cs n d) rest (length before - length s.out) (Err why) bytes new =
      subst (λ (m : ℕ). PutsOne cells (get_or cs n d) rest m (Err why) bytes new) left_long p in
      s.goes (record { cells = new; rest = rest; out = s.out; written = written }) (Some (n, why))
      (subst (λ (xs : List CqlpEvent). PutsFrom (length before) n (length contents) state xs (record { cells = new; rest = rest; out = s.out; written = written }) (Some (n, why))) (sym here)
      (inr (why, bytes, new, r, refl, refl)))

nothing_of : (old : PutterState) (c : CqlpEvent) (contents : List ℕ) (n : ℕ) (why : Unput) (bytes : List ℕ) (new : PutterState) → PutsOne old c contents n (Err why) bytes new → bytes ≡ []
nothing_of old c contents n (unput.BadEvent why) bytes new p = p.1
nothing_of old c contents n (unput.Refused (put_error.Cell why)) bytes new p = p.2.2
nothing_of old c contents n (unput.Refused (put_error.NoRoom len)) bytes new p = none_by (ends_cell p.0) p.2.2
  where
    none_by : (ends : Bool) → GoesOn ends (within old p.2.0) n (Err (put_error.NoRoom len)) bytes new → bytes ≡ []
    none_by true g = g.0
    none_by false g = absurd g

module _ (old cells : PutterState) (cs : List CqlpEvent) (contents before room : List ℕ) (n : ℕ) (written : CqlpPut) (rest : List ℕ) (s : PutSoFar old cells cs contents before room n written rest) where
  -- all are taken
  pub all_put : length cs ≤ n → PutsAll old cs contents before (written_of (length cs) written None) room cells
  all_put le = record {
    last = record { cells = cells; rest = rest; out = s.out; written = written };
    stop = None;
    puts = s.goes (record { cells = cells; rest = rest; out = s.out; written = written }) None
        (subst (λ (xs : List CqlpEvent). PutsFrom (length before) n (length contents) (record { cells = cells; rest = rest; out = s.out; written = written }) xs (record { cells = cells; rest = rest; out = s.out; written = written }) None)
        (sym (drop_of_length-le cs le)) (refl, refl));
    cells = refl;
    bytes = s.is;
    is = refl;
  }

  -- one is not
  pub some_put : (d : CqlpEvent) (why : Unput) (bytes room' : List ℕ) (new : PutterState) → n < length cs
      → PutsOne cells (get_or cs n d) rest (length (drop written.length room)) (Err why) bytes new
      → room' ≡ take written.length room ++ (bytes ++ drop (length bytes) (drop written.length room))
      → PutsAll old cs contents before (written_of (length cs) written (Some (n, why))) room' new
  some_put d why bytes room' new lt p is =
      let none : bytes ≡ [] = nothing_of cells (get_or cs n d) rest (length (drop written.length room)) why bytes new p in
      record {
        last = record { cells = new; rest = rest; out = s.out; written = written };
        stop = Some (n, why);
        puts = one_stops old cells new cs contents before room n written rest s d lt why bytes p;
        cells = refl;
        bytes = is ∙ (λ i. take written.length room ++ (none i ++ drop (length (none i)) (drop written.length room))) ∙ take-append-drop written.length room ∙ s.is;
        is = refl;
      }

-- ---- in a part of the room

module _ (room : List ℕ) (at : ℕ) where
  pub part_is : mid_of at (length room - at) room ≡ drop at room
  part_is = take_all (length room - at) (drop at room) (omega (arith, length-drop at room))

  none_behind : post_of at (length room - at) room ≡ []
  none_behind = drop_of_length-le (drop at room) (omega (arith, length-drop at room))

  pub part_put : (bytes part : List ℕ) → part ≡ bytes ++ drop (length bytes) (mid_of at (length room - at) room) → put_mid at (length room - at) room part ≡ take at room ++ (bytes ++ drop (length bytes) (drop at room))
  part_put bytes part is =
      (λ i. take at room ++ (is i ++ none_behind i)) ∙ (λ i. take at room ++ append-nil (bytes ++ drop (length bytes) (part_is i)) i)

module _ (old cells new : PutterState) (cs : List CqlpEvent) (contents before room : List ℕ) (n : ℕ) (written : CqlpPut) (rest : List ℕ) (s : PutSoFar old cells cs contents before room n written rest)
    (d : CqlpEvent) (lt_n : n < length cs) where
  abbrev part : List ℕ
  part = mid_of written.length (length room - written.length) room

  pub more_in_part : (len : Option ℕ) (behind bytes part' : List ℕ) → PutsOne cells (get_or cs n d) rest (length part) (Ok (len, behind)) bytes new → part' ≡ bytes ++ drop (length bytes) part
      → PutSoFar old new cs contents before (put_mid written.length (length room - written.length) room part') (n + 1) (gone_on written n (length contents - length behind) len) behind
  more_in_part len behind bytes part' p is =
      one_more old cells new cs contents before room n written rest s d lt_n len behind bytes (put_mid written.length (length room - written.length) room part')
      (subst (λ (r : List ℕ). PutsOne cells (get_or cs n d) rest (length r) (Ok (len, behind)) bytes new) (part_is room written.length) p) (part_put room written.length bytes part' is)

  pub adds_up : (len : Option ℕ) (behind bytes : List ℕ) → PutsOne cells (get_or cs n d) rest (length part) (Ok (len, behind)) bytes new → length before < 2 ^ 64 → IfSome len (λ k. written.length + k < 2 ^ 64)
  adds_up len behind bytes p lt =
      let q = put_fits cells p.0 (length part) len bytes new p.2 in
      let room_is : length part ≡ length before - length s.out = ap length (part_is room written.length) ∙ left_long old cells new cs contents before room n written rest s d lt_n in
      by len (omega (arith, q.0, q.1, room_is, s.long, s.fits, lt))
    where
      by : (l : Option ℕ) → written.length + added l < 2 ^ 64 → IfSome l (λ k. written.length + k < 2 ^ 64)
      by None f = tt
      by (Some k) f = f

  pub some_in_part : (why : Unput) (bytes part' : List ℕ) → PutsOne cells (get_or cs n d) rest (length part) (Err why) bytes new → part' ≡ bytes ++ drop (length bytes) part
      → PutsAll old cs contents before (written_of (length cs) written (Some (n, why))) (put_mid written.length (length room - written.length) room part') new
  some_in_part why bytes part' p is =
      some_put old cells cs contents before room n written rest s d why bytes (put_mid written.length (length room - written.length) room part') new lt_n
      (subst (λ (r : List ℕ). PutsOne cells (get_or cs n d) rest (length r) (Err why) bytes new) (part_is room written.length) p) (part_put room written.length bytes part' is)

module _ (old cells : PutterState) (cs : List CqlpEvent) (contents before room : List ℕ) (n : ℕ) (written : CqlpPut) (rest : List ℕ) (s : PutSoFar old cells cs contents before room n written rest) (le : length cs ≤ n) where
  code_by : (b : Bool) (code : ℕ) → (written.events == length cs) ≡ b → (if b then numbers.DONE else numbers.NOT_ENDED) ≡ code → PutsAll old cs contents before (written, code) room cells
  code_by b code is e =
      subst (λ (k : ℕ). PutsAll old cs contents before (written, k) room cells) (ap (λ (x : Bool). if x then numbers.DONE else numbers.NOT_ENDED) is ∙ e) (all_put old cells cs contents before room n written rest s le)

  pub all_done : written.events ≡ length cs → PutsAll old cs contents before (written, numbers.DONE) room cells
  all_done e = code_by true numbers.DONE (eq-eqb written.events (length cs) e) refl

  pub all_cut : (written.events ≡ length cs → ⊥) → PutsAll old cs contents before (written, numbers.NOT_ENDED) room cells
  all_cut n = by (written.events == length cs) refl
    where
      by : (b : Bool) → (written.events == length cs) ≡ b → PutsAll old cs contents before (written, numbers.NOT_ENDED) room cells
      by false is = code_by false numbers.NOT_ENDED is refl
      by true is = absurd (n (eqb-true written.events (length cs) is))

-- ---- the count of rows

pub all_used : (n : ℕ) (rest : List ℕ) → rest ≡ [] → Ok n ≡ with_all_used n rest
all_used n rest none = ap (with_all_used n) (sym none)

pub some_left : (n : ℕ) (rest : List ℕ) → (rest ≡ [] → ⊥) → Err (unbegun.Head unencoded.LeftOver) ≡ with_all_used n rest
some_left n [] some = absurd (some refl)
some_left n (b ∷ rest) some = refl

-- no more contents are left than there were
pub short_by : (contents rest behind : List ℕ) (k : ℕ) → length rest ≤ length contents → behind ≡ drop k rest → length behind ≤ length contents
short_by contents rest behind k le is = omega (arith, le, ap length is, length-drop k rest)

-- ---- a handle that has no page

pub anew : (cs : List CqlpEvent) (contents given : List ℕ) (size : ℕ) (old : Option OpenPage) (code : ℕ) (before after : List ℕ) (new : Option OpenPage) (was written : CqlpEncoded)
    → old ≡ None → given ≡ contents → BeginsAnew cs given size code before after new written → Begins cs contents size old code before after new was written
anew cs contents given size old code before after new was written none is begins =
    subst (λ (o : Option OpenPage). Begins cs contents size o code before after new was written) (sym none) (subst (λ (xs : List ℕ). BeginsAnew cs xs size code before after new written) is begins)

-- ---- cells of one leaf

-- the event of a leaf that is put
pub leaf_put : (old new : PutCells) (c : CqlpEvent) (contents before after : List ℕ) (k : Kind) (v : ScalarValue) (len : ℕ) (rest : Bor (List ℕ)) → IsNextKind old c.row c.column k
    → event_from_c c contents ≡ found_leaf c v → rest.now ≡ drop (content_len c) contents → PutsScalar old k v before (Some len) new after → PutsLeaf old c contents before (Some (len, rest)) new after
leaf_put old new c contents before after k v len rest next read behind p = (p.0, (Cell_at c.row c.column (Leaf 0 v), read, p.1 c.row c.column next, behind), p.2)

-- the event of a null that is put
pub null_put : (old new : PutCells) (c : CqlpEvent) (contents : Bor (List ℕ)) (before after : List ℕ) (k : Kind) (len : ℕ) → IsNextKind old c.row c.column k → IsNull c
    → PutsNull old before (Some len) new after → PutsLeaf old c contents.now before (Some (len, contents)) new after
null_put old new c contents before after k len next null p =
    let rest : contents.now ≡ drop (content_len c) contents.now = ap (λ (n : ℕ). drop n contents.now) (sym (null_len c null)) in
    (p.0, (Cell_at c.row c.column (Null 0), null_read c contents.now null, p.1 c.row c.column k next, rest), p.2)

-- ---- why none is put

scalar_in : ScalarValue → Result Event BadEvent → ScalarValue
scalar_in d (Ok (Cell_at row column (Leaf level v))) = v
scalar_in d r = d

module _ (old : PutCells) (c : CqlpEvent) (contents before : List ℕ) where
  pub none_next_leaf : IsNoNextScalar old c.row c.column → RefusesLeaf old c contents before
  none_next_leaf none j w n l is = absurd (none j n)

  pub none_next_null : IsNoNextScalar old c.row c.column → RefusesNull old c before
  none_next_null none j n is = absurd (none j n)

  pub null_unput : (new : PutCells) (after : List ℕ) → PutsNull old before None new after → RefusesNull old c before
  null_unput new after p j n is = p.2

  pub leaf_no_null : (r : Option (ℕ × Bor (List ℕ))) → c.tag ≡ numbers.TAG_LEAF → IfNone r (RefusesNull old c before)
  leaf_no_null None leaf = λ j n is. absurd (omega (arith, sym leaf ∙ is.0))
  leaf_no_null (Some found) leaf = tt

  pub null_no_leaf : (r : Option (ℕ × Bor (List ℕ))) → IsNull c → IfNone r (RefusesLeaf old c contents before)
  null_no_leaf None null = λ j w n l is. absurd (omega (arith, sym l.0 ∙ null.0))
  null_no_leaf (Some found) null = tt

  pub no_leaf_tag : (c.tag ≡ numbers.TAG_LEAF → ⊥) → RefusesLeaf old c contents before
  no_leaf_tag none j w n l is = absurd (none l.0)

  module _ (k : Kind) (next : IsNextKind old c.row c.column k) where
    kind_is : (j : Kind) → IsNextScalar old c.row c.column j → j ≡ k
    kind_is j n = one_kind _ j k n.0.4 next.4

    pub unread_leaf : IsNoLeaf c k contents → RefusesLeaf old c contents before
    unread_leaf none j w n l is = absurd (none w (subst (λ (i : Kind). IsLeaf c i) (kind_is j n) l) is)

    pub leaf_of_items : has_no_items k ≡ false → RefusesLeaf old c contents before
    leaf_of_items items j w n l is = let e : true ≡ false = sym n.1 ∙ ap has_no_items (kind_is j n) ∙ items in absurd cc

    pub leaf_unput : (v : ScalarValue) (new : PutCells) (after : List ℕ) → event_from_c c contents ≡ found_leaf c v → PutsScalar old k v before None new after → RefusesLeaf old c contents before
    unfolding scalar_in
    leaf_unput v new after read p j w n l is =
        let same : v ≡ w = ap (scalar_in v) (sym read ∙ is) in
        subst (λ (i : Kind). IsRefused old i w before) (sym (kind_is j n)) (subst (λ (x : ScalarValue). IsRefused old k x before) same p.2)

-- where none is put, nothing has changed before the event is taken as any
pub any_put : (old mid new : PutterState) (c : CqlpEvent) (contents before room after : List ℕ) (r : Result (Option ℕ × List ℕ) Unput) → mid ≡ old → room ≡ before
    → ((bytes : List ℕ) × PutsOne mid c contents (length room) r bytes new × (after ≡ bytes ++ drop (length bytes) room))
    → (bytes : List ℕ) × PutsOne old c contents (length before) r bytes new × (after ≡ bytes ++ drop (length bytes) before)
any_put old mid new c contents before room after r is same p =
    let q = subst (λ (s : PutterState). (bytes : List ℕ) × PutsOne s c contents (length room) r bytes new × (after ≡ bytes ++ drop (length bytes) room)) is p in
    subst (λ (b : List ℕ). (bytes : List ℕ) × PutsOne old c contents (length b) r bytes new × (after ≡ bytes ++ drop (length bytes) b)) same q
