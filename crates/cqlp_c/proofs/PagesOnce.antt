-- The calls on pages have one answer.
use Rattle.std.proofs.Common.{◌≡◌, ℕ, suc, ◌-◌, ◌++◌, ◌⊎◌, inl, inr, Bool, true, false, nat_lt, List, [], ◌∷◌, length, drop, Option, Some, None, Result, Ok, Err, refl, sym, ap, ◌∙◌, subst}
use Rattle.cqlp_grammar.specs.Events.{Event}
use Rattle.cqlp_message.specs.Owned.{frame_of}
use Rattle.cqlp_build.specs.declared.error.BuildError.TheVariants as build_error
use Rattle.cqlp_build_cells.specs.declared.error.CellError.TheVariants as cell_error
use Rattle.cqlp_compose.specs.Composing.{ComposerState, start}
use Rattle.cqlp_compose.specs.declared.error.PageCellError.TheVariants as page_error
use Rattle.cqlp_compose.specs.declared.error.BeginError.{BeginError}
use Rattle.cqlp_compose.specs.declared.error.BeginError.TheVariants as begin_error
use Rattle.cqlp_compose.specs.declared.error.PutError.TheVariants as put_error
use Rattle.cqlp_compose.specs.declared.page.BegunPage.{BegunPage}
use Rattle.cqlp_compose.specs.declared.page.OpenPage.{OpenPage}
use Rattle.cqlp_compose.specs.Begun as page
use Rattle.cqlp_compose.specs.BatchLaws.{AreSame, no_memory}
use Rattle.cqlp_compose.specs.Put.{Answer, PutterState, Puts as CellPuts, fresh_putter}
use Rattle.cqlp_compose.proofs.OneAnswerOfBatches.{one_answer as one_put, one_answer_of_begin as one_begin}
use Rattle.cqlp_c.specs.declared.encode.CqlpEncoded.{CqlpEncoded}
use Rattle.cqlp_c.specs.declared.encode.Stopped.{Stopped}
use Rattle.cqlp_c.specs.declared.encode.Unencoded.{Unencoded}
use Rattle.cqlp_c.specs.declared.encode.Unencoded.TheVariants as unencoded
use Rattle.cqlp_c.specs.declared.event.CqlpEvent.{CqlpEvent}
use Rattle.cqlp_c.specs.declared.numbers.TheConstants as numbers
use Rattle.cqlp_c.specs.declared.page.CqlpPut.{CqlpPut}
use Rattle.cqlp_c.specs.declared.page.Unbegun.{Unbegun}
use Rattle.cqlp_c.specs.declared.page.Unbegun.TheVariants as unbegun
use Rattle.cqlp_c.specs.declared.page.UnbegunAt.{UnbegunAt}
use Rattle.cqlp_c.specs.declared.page.Unput.{Unput}
use Rattle.cqlp_c.specs.declared.page.Unput.TheVariants as unput
use Rattle.cqlp_c.specs.declared.from_c.BadEvent.{BadEvent}
use Rattle.cqlp_c.specs.Encoding.{StopsAt, Taken, after_all, code_of_unencoded, longest}
use Rattle.cqlp_c.specs.Pages.{BatchState, Begins, BeginsNone, BeginsOne, Goes, Stops, IsHead, Opens, PutsCells, PutsFrom, PutsHead, PutsOne, ReadsHead, after_event, at_begin, code_of_unbegun, longest_cell, rows_from_c, written_of}
use Rattle.cqlp_c.specs.PagesLaws.{AreSamePages, IsOneAnswerOfPageBegin, IsOneAnswerOfPagePut}
use Rattle.cqlp_c.specs.FromC.{content_len, event_from_c}

-- ---- one event of a cell

abbrev out_of_memory : Unput
out_of_memory = unput.Refused (put_error.Cell (page_error.Cell cell_error.NoMemory))

module _ (old : PutterState) (c : CqlpEvent) (contents : List ℕ) (n : ℕ) where
  abbrev Found : Type 0
  Found = Result (Option ℕ × List ℕ) Unput

  abbrev found_of : Answer → Found
  found_of (Ok len) = Ok (len, drop (content_len c) contents)
  found_of (Err why) = Err (unput.Refused why)

  abbrev Follows : Result Event BadEvent → Found → List ℕ → PutterState → Type 0
  Follows (Err why) a x s = (a ≡ Err (unput.BadEvent why)) × (x ≡ []) × (s ≡ old)
  Follows (Ok e) a x s = (k : Answer) × CellPuts old e n k x s × (a ≡ found_of k)

  abbrev Seen : Found → List ℕ → PutterState → Type 0
  Seen a x s = (r : Result Event BadEvent) × (event_from_c c contents ≡ r) × Follows r a x s

  seen : (a : Found) (x : List ℕ) (s : PutterState) → PutsOne old c contents n a x s → Seen a x s
  seen (Ok found) x s p = (Ok p.0, p.1, (Ok found.0, p.2, ap (λ (rest : List ℕ). Ok (found.0, rest)) p.3))
  seen (Err (unput.BadEvent why)) x s p = (Err why, p.0, (refl, p.1, p.2))
  seen (Err (unput.Refused why)) x s p = (Ok p.0, p.1, (Err why, p.2, refl))

  abbrev Alike : (a b : Found) (x y : List ℕ) (s u : PutterState) → Type 0
  Alike a b x y s u = ((a ≡ b) × (x ≡ y) × (s ≡ u)) ⊎ ((a ≡ Err out_of_memory) ⊎ (b ≡ Err out_of_memory))

  follows_once : (r k : Result Event BadEvent) (a b : Found) (x y : List ℕ) (s u : PutterState) → r ≡ k → Follows r a x s → Follows k b y u → Alike a b x y s u
  follows_once (Err why) (Err other) a b x y s u same p q =
      let one : why ≡ other = cc in
      inl (p.0 ∙ ap (λ (w : BadEvent). Err (unput.BadEvent w)) one ∙ sym q.0, p.1 ∙ sym q.1, p.2 ∙ sym q.2)
  follows_once (Ok e) (Ok f) a b x y s u same p q =
      let one : e ≡ f = cc in
      by (one_put old f n p.0 q.0 x y s u (subst (λ (g : Event). CellPuts old g n p.0 x s) one p.1) q.1)
    where
      by : ((p.0 ≡ q.0) × (x ≡ y) × (s ≡ u)) ⊎ ((p.0 ≡ no_memory) ⊎ (q.0 ≡ no_memory)) → Alike a b x y s u
      by (inl e) = inl (p.2 ∙ ap found_of e.0 ∙ sym q.2, e.1, e.2)
      by (inr (inl e)) = inr (inl (p.2 ∙ ap found_of e))
      by (inr (inr e)) = inr (inr (q.2 ∙ ap found_of e))
  follows_once (Ok e) (Err other) a b x y s u same p q = absurd cc
  follows_once (Err why) (Ok f) a b x y s u same p q = absurd cc

  one_once : (a b : Found) (x y : List ℕ) (s u : PutterState) → PutsOne old c contents n a x s → PutsOne old c contents n b y u → Alike a b x y s u
  one_once a b x y s u p q =
      let v = seen a x s p in
      let w = seen b y u q in
      follows_once v.0 w.0 a b x y s u (sym v.1 ∙ w.1) v.2 w.2

-- ---- a batch

abbrev IsOut : Option (ℕ × Unput) → Type 0
IsOut o = (i : ℕ) × (o ≡ Some (i, out_of_memory))

abbrev Once : (x y : BatchState) (o k : Option (ℕ × Unput)) → Type 0
Once x y o k = ((x ≡ y) × (o ≡ k)) ⊎ (IsOut o ⊎ IsOut k)

never : {A : Type 0} (f : Option ℕ × List ℕ) (why : Unput) → ◌≡◌ {A = Result (Option ℕ × List ℕ) Unput} (Ok f) (Err why) → A
never f why e = absurd cc

the_found : (a b : Option ℕ × List ℕ) → ◌≡◌ {A = Result (Option ℕ × List ℕ) Unput} (Ok a) (Ok b) → a ≡ b
the_found a b e = cc

the_reason : (a b : Unput) → ◌≡◌ {A = Result (Option ℕ × List ℕ) Unput} (Err a) (Err b) → a ≡ b
the_reason a b e = cc

module _ (room size n : ℕ) (c : CqlpEvent) (t x y : BatchState) (o k : Option (ℕ × Unput)) (P Q : BatchState → Type 0) where
  goes_once : (p : Goes room n size t c P) (q : Goes room n size t c Q) → (P (after_event n size t q.0 q.1 q.2 q.3) → Once x y o k) → Once x y o k
  goes_once p q on = by (one_once t.cells c t.rest (room - length t.out) (Ok (p.0, p.1)) (Ok (q.0, q.1)) p.2 q.2 p.3 q.3 p.4 q.4)
    where
      by : Alike t.cells c t.rest (room - length t.out) (Ok (p.0, p.1)) (Ok (q.0, q.1)) p.2 q.2 p.3 q.3 → Once x y o k
      by (inl (found, bytes, mid)) =
          let same = the_found (p.0, p.1) (q.0, q.1) found in
          let after : after_event n size t p.0 p.1 p.2 p.3 ≡ after_event n size t q.0 q.1 q.2 q.3 = λ i. after_event n size t (same i).0 (same i).1 (bytes i) (mid i) in
          on (subst P after p.5)
      by (inr (inl e)) = never (p.0, p.1) out_of_memory e
      by (inr (inr e)) = never (q.0, q.1) out_of_memory e

  goes_or_stops : Goes room n size t c P → Stops room n t c y k → Once x y o k
  goes_or_stops p q = by (one_once t.cells c t.rest (room - length t.out) (Ok (p.0, p.1)) (Err q.0) p.2 q.1 p.3 q.2 p.4 q.3)
    where
      by : Alike t.cells c t.rest (room - length t.out) (Ok (p.0, p.1)) (Err q.0) p.2 q.1 p.3 q.2 → Once x y o k
      by (inl e) = never (p.0, p.1) q.0 e.0
      by (inr (inl e)) = never (p.0, p.1) out_of_memory e
      by (inr (inr e)) = inr (inr (n, q.5 ∙ ap (λ (u : Unput). Some (n, u)) (the_reason q.0 out_of_memory e)))

  stops_or_goes : Stops room n t c x o → Goes room n size t c Q → Once x y o k
  stops_or_goes p q = by (one_once t.cells c t.rest (room - length t.out) (Err p.0) (Ok (q.0, q.1)) p.1 q.2 p.2 q.3 p.3 q.4)
    where
      by : Alike t.cells c t.rest (room - length t.out) (Err p.0) (Ok (q.0, q.1)) p.1 q.2 p.2 q.3 → Once x y o k
      by (inl e) = never (q.0, q.1) p.0 (sym e.0)
      by (inr (inl e)) = inr (inl (n, p.5 ∙ ap (λ (u : Unput). Some (n, u)) (the_reason p.0 out_of_memory e)))
      by (inr (inr e)) = never (q.0, q.1) out_of_memory e

  stops_once : Stops room n t c x o → Stops room n t c y k → Once x y o k
  stops_once p q = by (one_once t.cells c t.rest (room - length t.out) (Err p.0) (Err q.0) p.1 q.1 p.2 q.2 p.3 q.3)
    where
      by : Alike t.cells c t.rest (room - length t.out) (Err p.0) (Err q.0) p.1 q.1 p.2 q.2 → Once x y o k
      by (inl e) =
          inl (p.4 ∙ ap (λ (s : PutterState). record t { cells = s }) e.2 ∙ sym q.4, p.5 ∙ ap (λ (u : Unput). Some (n, u)) (the_reason p.0 q.0 e.0) ∙ sym q.5)
      by (inr (inl e)) = inr (inl (n, p.5 ∙ ap (λ (u : Unput). Some (n, u)) (the_reason p.0 out_of_memory e)))
      by (inr (inr e)) = inr (inr (n, q.5 ∙ ap (λ (u : Unput). Some (n, u)) (the_reason q.0 out_of_memory e)))

put_once : (room size : ℕ) (cs : List CqlpEvent) (n : ℕ) (t x y : BatchState) (o k : Option (ℕ × Unput)) → PutsFrom room n size t cs x o → PutsFrom room n size t cs y k → Once x y o k
put_once room size [] n t x y o k p q = inl (p.0 ∙ sym q.0, p.1 ∙ sym q.1)
put_once room size (c ∷ cs) n t x y o k (inl p) (inl q) =
    goes_once room size n c t x y o k (λ on. PutsFrom room (suc n) size on cs x o) (λ on. PutsFrom room (suc n) size on cs y k) p q
    (λ on. put_once room size cs (suc n) (after_event n size t q.0 q.1 q.2 q.3) x y o k on q.5)
put_once room size (c ∷ cs) n t x y o k (inl p) (inr q) =
    goes_or_stops room size n c t x y o k (λ on. PutsFrom room (suc n) size on cs x o) (λ on. PutsFrom room (suc n) size on cs y k) p q
put_once room size (c ∷ cs) n t x y o k (inr p) (inl q) =
    stops_or_goes room size n c t x y o k (λ on. PutsFrom room (suc n) size on cs x o) (λ on. PutsFrom room (suc n) size on cs y k) p q
put_once room size (c ∷ cs) n t x y o k (inr p) (inr q) =
    stops_once room size n c t x y o k (λ on. PutsFrom room (suc n) size on cs x o) (λ on. PutsFrom room (suc n) size on cs y k) p q

module _ (p : OpenPage) (cs : List CqlpEvent) (contents before : List ℕ) (a b : ℕ) (x y : Option OpenPage) (one other : List ℕ) (t u : CqlpPut) where
  abbrev Same : Type 0
  Same = ((a ≡ b) × (x ≡ y) × (one ≡ other) × (t ≡ u)) ⊎ ((a ≡ numbers.NO_MEMORY) ⊎ (b ≡ numbers.NO_MEMORY))

  code_out : (code : ℕ) (written : CqlpPut) (last : CqlpPut) (o : Option (ℕ × Unput)) → (written, code) ≡ written_of (length cs) last o → IsOut o → code ≡ numbers.NO_MEMORY
  code_out code written last o is e =
      ap (λ (r : CqlpPut × ℕ). r.1) is ∙ ap (λ (k : Option (ℕ × Unput)). (written_of (length cs) last k).1) e.1

  cells_once : (q r : OpenPage) → x ≡ Some q → y ≡ Some r → PutsCells p cs contents before (t, a) one q → PutsCells p cs contents before (u, b) other r → Same
  cells_once q r is was v w =
      by (put_once (length before) (length contents) cs 0 (at_begin (fresh_putter p.frame p.place longest_cell) contents (length cs)) v.1.last w.1.last v.1.stop w.1.stop v.1.puts w.1.puts)
    where
      by : Once v.1.last w.1.last v.1.stop w.1.stop → Same
      by (inl (last, stop)) =
          let answer : (t, a) ≡ (u, b) = v.1.is ∙ (λ i. written_of (length cs) (ap (λ (z : BatchState). z.written) last i) (stop i)) ∙ sym w.1.is in
          let cells : v.0 ≡ w.0 = v.1.cells ∙ ap (λ (z : BatchState). z.cells) last ∙ sym w.1.cells in
          inl (
            ap (λ (z : CqlpPut × ℕ). z.1) answer,
            is ∙ ap (λ (z : OpenPage). Some z) (v.2 ∙ ap (λ (s : PutterState). record { frame = p.frame; place = s.place }) cells ∙ sym w.2) ∙ sym was,
            v.1.bytes ∙ ap (λ (z : BatchState). z.out ++ drop (length z.out) before) last ∙ sym w.1.bytes,
            ap (λ (z : CqlpPut × ℕ). z.0) answer,
          )
      by (inr (inl e)) = inr (inl (code_out a t v.1.last.written v.1.stop v.1.is e))
      by (inr (inr e)) = inr (inr (code_out b u w.1.last.written w.1.stop w.1.is e))

pub one_answer_of_put : IsOneAnswerOfPagePut
one_answer_of_put p cs contents before a b x y one other was t u v w = cells_once p cs contents before a b x y one other t u v.0 w.0 v.1 w.1 v.2 w.2

-- ---- a head

never_empty : {A : Type 0} (xs : List A) (a : A) → [] ≡ xs ++ a ∷ [] → ⊥
never_empty [] a e = absurd cc
never_empty (x ∷ xs) a e = absurd cc

last_is : {A : Type 0} (xs ys : List A) (a b : A) → xs ++ a ∷ [] ≡ ys ++ b ∷ [] → (xs ≡ ys) × (a ≡ b)
last_is [] [] a b e = (refl, cc)
last_is [] (y ∷ ys) a b e = let d : [] ≡ ys ++ b ∷ [] = cc in absurd (never_empty ys b d)
last_is (x ∷ xs) [] a b e = let d : [] ≡ xs ++ a ∷ [] = cc in absurd (never_empty xs a d)
last_is (x ∷ xs) (y ∷ ys) a b e =
    let r = last_is xs ys a b cc in
    let p : x ≡ y = cc in
    (let same : xs ≡ ys = r.0 in cc, r.1)

stop_by : (t : Taken) (cs : List CqlpEvent) (n : ℕ) (w : Unencoded) → StopsAt t cs n w → (code_of_unencoded w ≡ numbers.NO_MEMORY) ⊎ (after_all 0 t cs ≡ Err (record { event = n; why = w }))
stop_by t cs n (unencoded.Refused build_error.NoMemory) k = inl refl
stop_by t cs n (unencoded.Refused build_error.Misplaced) k = inr k
stop_by t cs n (unencoded.Refused build_error.Unbuilt) k = inr k
stop_by t cs n (unencoded.Refused build_error.TooManyFields) k = inr k
stop_by t cs n (unencoded.Refused build_error.TooDeep) k = inr k
stop_by t cs n (unencoded.Refused build_error.TooManyBytes) k = inr k
stop_by t cs n (unencoded.Refused build_error.NoFrame) k = inr k
stop_by t cs n (unencoded.BadEvent w) k = inr k
stop_by t cs n unencoded.LeftOver k = inr k

-- what a head comes to, where memory is not refused: its rows and what a composer has, or why it is none, and where
abbrev Read : Type 0
Read = Result (ComposerState × ℕ) UnbegunAt

abbrev counted : (front : List CqlpEvent) → ComposerState → Result ℕ Unbegun → Read
counted front s (Ok n) = Ok (s, n)
counted front s (Err why) = Err (record { event = length front; why = why })

abbrev read_by : (front : List CqlpEvent) → (last : CqlpEvent) → Result Taken Stopped → Read
read_by front last (Ok t) = counted front t.0 (rows_from_c last t.1)
read_by front last (Err r) = Err (record { event = r.event; why = unbegun.Head r.why })

module _ (cs : List CqlpEvent) (contents : List ℕ) where
  abbrev first : Taken
  first = (start longest, contents)

  -- it is none of no events, or this of these
  abbrev Is : Read → Type 0
  Is r =
      ((cs ≡ []) × (r ≡ Err (record { event = 0; why = unbegun.Head (unencoded.Refused build_error.Misplaced) })))
      ⊎ ((front : List CqlpEvent) × (last : CqlpEvent) × (cs ≡ front ++ last ∷ []) × (r ≡ read_by front last (after_all 0 first front)))

  is_once : (r k : Read) → Is r → Is k → r ≡ k
  is_once r k (inl p) (inl q) = p.1 ∙ sym q.1
  is_once r k (inl p) (inr q) = absurd (never_empty q.0 q.1 (sym p.0 ∙ q.2))
  is_once r k (inr p) (inl q) = absurd (never_empty p.0 p.1 (sym q.0 ∙ p.2))
  is_once r k (inr p) (inr q) =
      let same = last_is p.0 q.0 p.1 q.1 (sym p.2 ∙ q.2) in
      p.3 ∙ (λ i. read_by (same.0 i) (same.1 i) (after_all 0 first (same.0 i))) ∙ sym q.3

  is_head : (n : ℕ) (s : ComposerState) → IsHead cs contents n s → Is (Ok (s, n))
  is_head n s h = inr (h.0, h.1, h.2, sym (ap (λ (r : Result Taken Stopped). read_by h.0 h.1 r) h.4 ∙ ap (λ (r : Result ℕ Unbegun). counted h.0 s r) h.5))

  head_stops : (r : UnbegunAt) (s : ComposerState) → ReadsHead (start longest) cs contents (Err r) s → (code_of_unbegun r.why ≡ numbers.NO_MEMORY) ⊎ Is (Err r)
  head_stops r s (inl (none, at)) = inr (inl (none, λ i. Err (record { event = at.0 i; why = at.1 i })))
  head_stops r s (inr (front, last, is, inl (w, why, stops))) = by (stop_by first front r.event w stops)
    where
      by : (code_of_unencoded w ≡ numbers.NO_MEMORY) ⊎ (after_all 0 first front ≡ Err (record { event = r.event; why = w })) → (code_of_unbegun r.why ≡ numbers.NO_MEMORY) ⊎ Is (Err r)
      by (inl e) = inl (ap code_of_unbegun why ∙ e)
      by (inr e) = inr (inr (front, last, is, (λ i. Err (record { event = r.event; why = why i })) ∙ sym (ap (λ (q : Result Taken Stopped). read_by front last q) e)))
  head_stops r s (inr (front, last, is, inr (u, all, at, rows))) =
      inr (inr (front, last, is, (λ i. Err (record { event = at i; why = r.why })) ∙ sym (ap (λ (q : Result Taken Stopped). read_by front last q) all ∙ ap (λ (q : Result ℕ Unbegun). counted front u.0 q) rows)))

  -- ---- a page that is begun

  same_pages : (x y : BegunPage) → AreSame (Ok x) (Ok y) → (frame_of x.page.frame ≡ frame_of y.page.frame) × (x.page.place ≡ y.page.place) × (x.head.items ≡ y.head.items)
  same_pages x y s = s

  only_memory : (x : BegunPage) (why : BeginError) → AreSame (Ok x) (Err why) → code_of_unbegun (unbegun.Page why) ≡ numbers.NO_MEMORY
  only_memory x (begin_error.Build build_error.NoMemory) s = refl
  only_memory x why s = absurd s

  memory_only : (why : BeginError) (x : BegunPage) → AreSame (Err why) (Ok x) → code_of_unbegun (unbegun.Page why) ≡ numbers.NO_MEMORY
  memory_only (begin_error.Build build_error.NoMemory) x s = refl
  memory_only why x s = absurd s

  abbrev AreCodes : (a b : ℕ) → Type 0
  AreCodes a b = (a ≡ b) ⊎ ((a ≡ numbers.NO_MEMORY) ⊎ (b ≡ numbers.NO_MEMORY))

  same_reason : (a b : BeginError) → AreSame (Err a) (Err b) → AreCodes (code_of_unbegun (unbegun.Page a)) (code_of_unbegun (unbegun.Page b))
  same_reason (begin_error.Build build_error.NoMemory) b s = inr (inl refl)
  same_reason a (begin_error.Build build_error.NoMemory) s = inr (inr refl)
  same_reason a b s = inl (ap (λ (w : BeginError). code_of_unbegun (unbegun.Page w)) s)

  module _ (size : ℕ) where
    head_of : (a b : ComposerState × ℕ) → ◌≡◌ {A = Read} (Ok a) (Ok b) → a ≡ b
    head_of a b e = cc

    two_heads : (m n : ℕ) (s u : ComposerState) (a b : Result BegunPage BeginError) → IsHead cs contents m s → IsHead cs contents n u → page.Begins s m size a → page.Begins u n size b → AreSame a b
    two_heads m n s u a b g h x y =
        let same = head_of (s, m) (u, n) (is_once (Ok (s, m)) (Ok (u, n)) (is_head m s g) (is_head n u h)) in
        one_begin u n size a b (subst (λ (k : ComposerState × ℕ). page.Begins k.0 k.1 size a) same x) y

    never_both : (s : ComposerState × ℕ) (r : UnbegunAt) → Is (Ok s) → Is (Err r) → ⊥
    never_both s r p q = let d : ◌≡◌ {A = Read} (Ok s) (Err r) = is_once (Ok s) (Err r) p q in absurd cc

    one_page : (x y : BegunPage) → Opens cs contents size (Ok x) → Opens cs contents size (Ok y) → AreSame (Ok x) (Ok y)
    one_page x y p q = two_heads p.0 q.0 p.1 q.1 (Ok x) (Ok y) p.2 q.2 p.3 q.3

    page_or_none : (x : BegunPage) (r : UnbegunAt) → Opens cs contents size (Ok x) → Opens cs contents size (Err r) → code_of_unbegun r.why ≡ numbers.NO_MEMORY
    page_or_none x r p (inl (s, q)) = by (head_stops r s q)
      where
        by : (code_of_unbegun r.why ≡ numbers.NO_MEMORY) ⊎ Is (Err r) → code_of_unbegun r.why ≡ numbers.NO_MEMORY
        by (inl e) = e
        by (inr e) = absurd (never_both (p.1, p.0) r (is_head p.0 p.1 p.2) e)
    page_or_none x r p (inr (n, s, h, at, why, is, b)) = ap code_of_unbegun is ∙ only_memory x why (two_heads p.0 n p.1 s (Ok x) (Err why) p.2 h p.3 b)

    abbrev AreOne : (q r : UnbegunAt) → Type 0
    AreOne q r =
        ((q.event ≡ r.event) × (code_of_unbegun q.why ≡ code_of_unbegun r.why))
        ⊎ ((code_of_unbegun q.why ≡ numbers.NO_MEMORY) ⊎ (code_of_unbegun r.why ≡ numbers.NO_MEMORY))

    the_stop : (q r : UnbegunAt) → ◌≡◌ {A = Read} (Err q) (Err r) → q ≡ r
    the_stop q r e = cc

    none_once : (q r : UnbegunAt) → Opens cs contents size (Err q) → Opens cs contents size (Err r) → AreOne q r
    none_once q r (inl (s, x)) (inl (u, y)) = by (head_stops q s x) (head_stops r u y)
      where
        by : (code_of_unbegun q.why ≡ numbers.NO_MEMORY) ⊎ Is (Err q) → (code_of_unbegun r.why ≡ numbers.NO_MEMORY) ⊎ Is (Err r) → AreOne q r
        by (inl e) k = inr (inl e)
        by (inr e) (inl k) = inr (inr k)
        by (inr e) (inr k) =
            let same = the_stop q r (is_once (Err q) (Err r) e k) in
            inl (ap (λ (z : UnbegunAt). z.event) same, ap (λ (z : UnbegunAt). code_of_unbegun z.why) same)
    none_once q r (inl (s, x)) (inr (n, u, h, at, why, is, b)) = by (head_stops q s x)
      where
        by : (code_of_unbegun q.why ≡ numbers.NO_MEMORY) ⊎ Is (Err q) → AreOne q r
        by (inl e) = inr (inl e)
        by (inr e) = absurd (never_both (u, n) q (is_head n u h) e)
    none_once q r (inr (n, u, h, at, why, is, b)) (inl (s, y)) = by (head_stops r s y)
      where
        by : (code_of_unbegun r.why ≡ numbers.NO_MEMORY) ⊎ Is (Err r) → AreOne q r
        by (inl e) = inr (inr e)
        by (inr e) = absurd (never_both (u, n) r (is_head n u h) e)
    none_once q r (inr (m, s, g, at, why, is, x)) (inr (n, u, h, to, other, was, y)) = by (same_reason why other (two_heads m n s u (Err why) (Err other) g h x y))
      where
        by : AreCodes (code_of_unbegun (unbegun.Page why)) (code_of_unbegun (unbegun.Page other)) → AreOne q r
        by (inl e) = inl (at ∙ sym to, ap code_of_unbegun is ∙ e ∙ sym (ap code_of_unbegun was))
        by (inr (inl e)) = inr (inl (ap code_of_unbegun is ∙ e))
        by (inr (inr e)) = inr (inr (ap code_of_unbegun was ∙ e))

  -- ---- one answer

  module _ (before : List ℕ) (size a b : ℕ) (x y : Option OpenPage) (one other : List ℕ) (t u : CqlpEncoded) where
    abbrev SameBegun : Type 0
    SameBegun = ((a ≡ b) × AreSamePages x y × (one ≡ other) × (t ≡ u)) ⊎ ((a ≡ numbers.NO_MEMORY) ⊎ (b ≡ numbers.NO_MEMORY))

    pages_by : (p q : BegunPage) → (frame_of p.page.frame ≡ frame_of q.page.frame) × (p.page.place ≡ q.page.place) → x ≡ Some p.page → y ≡ Some q.page → AreSamePages x y
    pages_by p q same is was = subst (λ (z : Option OpenPage). AreSamePages z y) (sym is) (subst (λ (z : Option OpenPage). AreSamePages (Some p.page) z) (sym was) same)

    none_by : x ≡ None → y ≡ None → AreSamePages x y
    none_by is was = subst (λ (z : Option OpenPage). AreSamePages z y) (sym is) (subst (λ (z : Option OpenPage). AreSamePages None z) (sym was) tt)

    put_by : (short : Bool) (p q : BegunPage) → AreSame (Ok p) (Ok q) → t ≡ u → PutsHead short p a before one x → PutsHead short q b before other y → SameBegun
    put_by true p q same written v w = inl (v.0 ∙ sym w.0, none_by v.2 w.2, v.1 ∙ sym w.1, written)
    put_by false p q same written (inl v) w = inr (inl v.0)
    put_by false p q same written (inr v) (inl w) = inr (inr w.0)
    put_by false p q same written (inr v) (inr w) =
        inl (v.0 ∙ sym w.0, pages_by p q (same.0, same.1) v.2 w.2, v.1 ∙ ap (λ (h : List ℕ). h ++ drop (length h) before) same.2 ∙ sym w.1, written)

    begun_once : BeginsOne cs contents size a before one x t → BeginsOne cs contents size b before other y u → SameBegun
    begun_once v w =
        let same = one_page size v.0 w.0 v.1 w.1 in
        let written : t ≡ u = v.3 ∙ ap (λ (h : List ℕ). record { length = length h; event = length cs }) same.2 ∙ sym w.3 in
        let heads : nat_lt (length before) (length w.0.head.items) ≡ nat_lt (length before) (length v.0.head.items) = ap (λ (h : List ℕ). nat_lt (length before) (length h)) (sym same.2) in
        put_by (nat_lt (length before) (length v.0.head.items)) v.0 w.0 same written v.2 (subst (λ (short : Bool). PutsHead short w.0 b before other y) heads w.2)

    begun_or_none : BeginsOne cs contents size a before one x t → BeginsNone cs contents size b before other y u → SameBegun
    begun_or_none v w = inr (inr (w.2 ∙ page_or_none size v.0 w.0 v.1 w.1))

    none_or_begun : BeginsNone cs contents size a before one x t → BeginsOne cs contents size b before other y u → SameBegun
    none_or_begun v w = inr (inl (v.2 ∙ page_or_none size w.0 v.0 w.1 v.1))

    none_both : BeginsNone cs contents size a before one x t → BeginsNone cs contents size b before other y u → SameBegun
    none_both v w = by (none_once size v.0 w.0 v.1 w.1)
      where
        by : AreOne size v.0 w.0 → SameBegun
        by (inl (e, k)) = inl (v.2 ∙ k ∙ sym w.2, none_by v.4 w.4, v.3 ∙ sym w.3, v.5 ∙ ap (λ (n : ℕ). record { length = 0; event = n }) e ∙ sym w.5)
        by (inr (inl e)) = inr (inl (v.2 ∙ e))
        by (inr (inr e)) = inr (inr (w.2 ∙ e))

    begin_once : (was : CqlpEncoded) → Begins cs contents size None a before one x was t → Begins cs contents size None b before other y was u → SameBegun
    begin_once was (inl v) (inl w) = begun_once v w
    begin_once was (inl v) (inr w) = begun_or_none v w
    begin_once was (inr v) (inl w) = none_or_begun v w
    begin_once was (inr v) (inr w) = none_both v w

pub one_answer_of_begin : IsOneAnswerOfPageBegin
one_answer_of_begin cs contents before size a b x y one other was t u v w = begin_once cs contents before size a b x y one other t u was v w
