-- What calls on a page have put.
use Rattle.std.proofs.Common.{◌≡◌, ℕ, suc, ◌+◌, ◌-◌, ◌++◌, ◌⊎◌, inl, inr, Bool, true, false, nat_lt, List, [], ◌∷◌, length, drop, take, Option, Some, None, Result, Ok, Err, refl, sym, ap, ◌∙◌, subst, arith, append_assoc, append-nil}
use Rattle.std.specs.Prelude.{◌||◌, not, if◌then◌else◌}
use Rattle.std.proofs.Math.Seq.{take-append_seam}
use Rattle.std.proofs.lemmas.List.{length-append}
use Rattle.cqlp_note.specs.declared.field.Field.TheVariants as field
use Rattle.cqlp_note.specs.declared.header.Header.{Header}
use Rattle.cqlp_note.specs.Field.{Count}
use Rattle.cqlp_grammar.specs.Events.{Event, Frame, Holds, Node_of, Cell_at, Leave, End}
use Rattle.cqlp_message.specs.Frames.{Flat}
use Rattle.cqlp_message.specs.Owned.{frame_of}
use Rattle.cqlp_message.specs.declared.frame.Frame.{Frame as OwnedFrame}
use Rattle.cqlp_build.specs.declared.error.BuildError.{BuildError}
use Rattle.cqlp_build.specs.declared.error.BuildError.TheVariants as build_error
use Rattle.cqlp_build.specs.Building.{is_due, is_unbuilt}
use Rattle.cqlp_build.specs.Closing.{Ends, of_length}
use Rattle.cqlp_build.proofs.FrameViews.{body_of, body_events, frame_said}
use Rattle.cqlp_build.proofs.Finishing.{is_frame_of}
use Rattle.cqlp_build_cells.specs.Building.{ends_cell}
use Rattle.cqlp_compose.specs.Composing.{ComposerState, bound_of, refusal_of, start, with_next}
use Rattle.cqlp_decode.specs.Reading.{Says, Waits, start as first_state}
use Rattle.cqlp_laws.proofs.WrittenFrames.{written_is_read}
use Rattle.cqlp_compose.specs.declared.place.PageProgress.{PageProgress}
use Rattle.cqlp_compose.specs.Cells.{CellsState}
use Rattle.cqlp_compose.specs.declared.error.PutError.TheVariants as put_error
use Rattle.cqlp_compose.specs.declared.error.Unended.{Unended}
use Rattle.cqlp_compose.specs.declared.error.Unended.TheVariants as unended
use Rattle.cqlp_compose.specs.declared.page.BegunPage.{BegunPage}
use Rattle.cqlp_compose.specs.declared.page.OpenPage.{OpenPage}
use Rattle.cqlp_compose.specs.Begun.{ends, rows_event}
use Rattle.cqlp_compose.specs.BatchLaws.{AreBatches, IsBatch, IsFrameWith, PutsAll as CellsPut}
use Rattle.cqlp_compose.specs.Put.{GoesOn, PutterState, Puts as CellPuts, fresh, fresh_putter, within}
use Rattle.cqlp_compose.proofs.Written.{page_is_written}
use Rattle.cqlp_c.specs.declared.encode.CqlpEncoded.{CqlpEncoded}
use Rattle.cqlp_c.specs.declared.encode.Unencoded.{Unencoded}
use Rattle.cqlp_c.specs.declared.event.CqlpEvent.{CqlpEvent}
use Rattle.cqlp_c.specs.declared.numbers.TheConstants as numbers
use Rattle.cqlp_c.specs.declared.page.CqlpPut.{CqlpPut}
use Rattle.cqlp_c.specs.declared.page.Unput.{Unput}
use Rattle.cqlp_c.specs.declared.page.Unput.TheVariants as unput
use Rattle.cqlp_c.specs.declared.from_c.BadEvent.{BadEvent}
use Rattle.cqlp_c.specs.EncodeLaws.{IsReadAs}
use Rattle.cqlp_c.specs.Encoding.{Taken, after_all, after_one, longest, on_from, unless, with_c_event}
use Rattle.cqlp_c.specs.Pages.{BatchState, Begins, Opens, PutsCells, PutsFrom, PutsHead, PutsOne, after_event, at_begin, code_of_end, longest_cell, rows_in, written_of}
use Rattle.cqlp_c.specs.PagesLaws.{ArePuts, IsPut, PutPagesAreRead, bytes_of, events_of, events_from_c, event_then}
use Rattle.cqlp_c.specs.FromC.{content_len, event_from_c}
use Rattle.cqlp_c.proofs.OneEncoded.{body_whole}
use Rattle.cqlp_c.proofs.PagesPut.{longer, put_fits}

-- ---- one call

-- What events of C put, as events of cells: none, or so many up to the end of a cell.
abbrev Nothing : BatchState → BatchState → Type 0
Nothing t new = (new.written.events ≡ t.written.events) × (new.out ≡ t.out) × (new.cells.place ≡ t.cells.place)

record Something (n : ℕ) (cs : List CqlpEvent) (t new : BatchState) : Type 0 where
  many : ℕ
  bytes : List ℕ
  events : new.written.events ≡ n + many
  out : new.out ≡ t.out ++ bytes
  puts : CellsPut t.cells (events_from_c many cs t.rest) bytes (fresh t.cells new.cells.place)

abbrev Put : ℕ → List CqlpEvent → BatchState → BatchState → Type 0
Put n cs t new = Nothing t new ⊎ Something n cs t new

-- how a putter goes on
abbrev Next : Option ℕ → (old : PutterState) → (bytes : List ℕ) → (new : PutterState) → Type 0
Next None old bytes new = (bytes ≡ []) × (new.place ≡ old.place) × (new.frame ≡ old.frame) × (new.limits ≡ old.limits)
Next (Some len) old bytes new = new ≡ fresh old new.place

next_by : (ends : Bool) (old : PutterState) (mid : CellsState) (n : ℕ) (len : Option ℕ) (bytes : List ℕ) (new : PutterState) → GoesOn ends (within old mid) n (Ok len) bytes new → Next len old bytes new
next_by true old mid n (Some len) bytes new g = g.3 ∙ ap (λ (p : PageProgress). fresh old p) (sym (ap (λ (x : PutterState). x.place) g.3))
next_by true old mid n None bytes new g = absurd g
next_by false old mid n None bytes new g =
    (g.0, ap (λ (x : PutterState). x.place) g.1, ap (λ (x : PutterState). x.frame) g.1, ap (λ (x : PutterState). x.limits) g.1)
next_by false old mid n (Some len) bytes new g = absurd g

next : (old : PutterState) (e : Event) (n : ℕ) (len : Option ℕ) (bytes : List ℕ) (new : PutterState) → CellPuts old e n (Ok len) bytes new → Next len old bytes new
next old e n len bytes new p = next_by (ends_cell e) old p.0 n len bytes new p.2

stays : (old : PutterState) (c : CqlpEvent) (contents : List ℕ) (n : ℕ) (why : Unput) (bytes : List ℕ) (new : PutterState) → PutsOne old c contents n (Err why) bytes new → new.place ≡ old.place
stays old c contents n (unput.BadEvent why) bytes new p = ap (λ (x : PutterState). x.place) p.2
stays old c contents n (unput.Refused (put_error.Cell why)) bytes new p = ap (λ (x : PutterState). x.place) p.2.3
stays old c contents n (unput.Refused (put_error.NoRoom len)) bytes new p = by (ends_cell p.0) p.2.2
  where
    by : (ends : Bool) → GoesOn ends (within old p.2.0) n (Err (put_error.NoRoom len)) bytes new → new.place ≡ old.place
    by true g = ap (λ (x : PutterState). x.place) g.3
    by false g = absurd g

module _ (room size : ℕ) (n : ℕ) (c : CqlpEvent) (cs : List CqlpEvent) (t new : BatchState) (rest bytes : List ℕ) (mid : PutterState) (e : Event) (written : event_from_c c t.rest ≡ Ok e)
    (behind : rest ≡ drop (content_len c) t.rest) where
  written_on : (m : ℕ) → events_from_c (suc m) (c ∷ cs) t.rest ≡ e ∷ events_from_c m cs rest
  written_on m = (λ i. event_then (written i) (events_from_c m cs (sym behind i)))

  more : (len : Option ℕ) (m : ℕ) (others : List ℕ) → CellPuts t.cells e m (Ok len) bytes mid → (s : Something (suc n) cs (after_event n size t len rest bytes mid) new) → fresh mid new.cells.place ≡ fresh t.cells new.cells.place
      → Something n (c ∷ cs) t new
  more len m others p s same = record {
    many = suc s.many;
    bytes = bytes ++ s.bytes;
    events = omega (arith, s.events);
    out = s.out ∙ append_assoc t.out bytes s.bytes;
    puts = subst (λ (es : List Event). CellsPut t.cells es (bytes ++ s.bytes) (fresh t.cells new.cells.place)) (sym (written_on s.many))
        (m, len, bytes, s.bytes, mid, p, subst (λ (x : PutterState). CellsPut mid (events_from_c s.many cs rest) s.bytes x) same s.puts, refl);
  }

  goes : (len : Option ℕ) (m : ℕ) → CellPuts t.cells e m (Ok len) bytes mid → Next len t.cells bytes mid → Put (suc n) cs (after_event n size t len rest bytes mid) new → Put n (c ∷ cs) t new
  goes None m p x (inl y) = inl (y.0, y.1 ∙ ap (λ (b : List ℕ). t.out ++ b) x.0 ∙ append-nil t.out, y.2 ∙ x.1)
  goes None m p x (inr s) = inr (more None m [] p s (λ i. fresh_putter (x.2 i) new.cells.place (x.3 i)))
  goes (Some len) m p x (inl y) =
      let place : new.cells.place ≡ mid.place = y.2 in
      let none : bytes ++ [] ≡ bytes = append-nil bytes in
      inr (record {
        many = 1;
        bytes = bytes;
        events = y.0;
        out = y.1;
        puts = subst (λ (es : List Event). CellsPut t.cells es bytes (fresh t.cells new.cells.place)) (sym (written_on 0))
            (m, Some len, bytes, [], mid, p, (refl, sym (x ∙ ap (λ (q : PageProgress). fresh t.cells q) (sym place))), sym none);
      })
  goes (Some len) m p x (inr s) =
      inr (more (Some len) m [] p s (λ i. fresh_putter ((ap (λ (y : PutterState). y.frame) x) i) new.cells.place ((ap (λ (y : PutterState). y.limits) x) i)))

put_from : (room size : ℕ) (cs : List CqlpEvent) (n : ℕ) (t new : BatchState) (o : Option (ℕ × Unput)) → PutsFrom room n size t cs new o → Put n cs t new
put_from room size [] n t new o p = inl (ap (λ (x : BatchState). x.written.events) p.0, ap (λ (x : BatchState). x.out) p.0, ap (λ (x : BatchState). x.cells.place) p.0)
put_from room size (c ∷ cs) n t new o (inr s) =
    inl (
      ap (λ (x : BatchState). x.written.events) s.4,
      ap (λ (x : BatchState). x.out) s.4,
      ap (λ (x : BatchState). x.cells.place) s.4 ∙ stays t.cells c t.rest (room - length t.out) s.0 s.1 s.2 s.3,
    )
put_from room size (c ∷ cs) n t new o (inl g) =
    let q = g.4 in
    goes room size n c cs t new g.1 g.2 g.3 q.0 q.1 q.3 g.0 (room - length t.out) q.2 (next t.cells q.0 (room - length t.out) g.0 g.2 g.3 q.2)
    (put_from room size cs (suc n) (after_event n size t g.0 g.1 g.2 g.3) new o g.5)

-- what is written says how many bytes were put
long_from : (room size : ℕ) (cs : List CqlpEvent) (n : ℕ) (t new : BatchState) (o : Option (ℕ × Unput)) → PutsFrom room n size t cs new o → t.written.length ≡ length t.out → new.written.length ≡ length new.out
long_from room size [] n t new o p is = ap (λ (x : BatchState). x.written.length) p.0 ∙ is ∙ ap (λ (x : BatchState). length x.out) (sym p.0)
long_from room size (c ∷ cs) n t new o (inr s) is = ap (λ (x : BatchState). x.written.length) s.4 ∙ is ∙ ap (λ (x : BatchState). length x.out) (sym s.4)
long_from room size (c ∷ cs) n t new o (inl g) is =
    let q = g.4 in
    let fits = put_fits t.cells q.0 (room - length t.out) g.0 g.2 g.3 q.2 in
    long_from room size cs (suc n) (after_event n size t g.0 g.1 g.2 g.3) new o g.5
    (longer t.written n (size - length g.1) g.0 ∙ (λ i. is i + fits.1 i) ∙ sym (length-append t.out g.2))

written_length : (count : ℕ) (p : CqlpPut) (o : Option (ℕ × Unput)) → (written_of count p o).0.length ≡ p.length
written_length count p None = refl
written_length count p (Some s) = refl

written_events : (count : ℕ) (p : CqlpPut) (o : Option (ℕ × Unput)) → (written_of count p o).0.events ≡ p.events
written_events count p None = refl
written_events count p (Some s) = refl

none_before : (n : ℕ) → 0 + n ≡ n
none_before n = omega arith

-- a call as a batch, and its page after it
abbrev IsCall : OpenPage → List Event → List ℕ → OpenPage → Type 0
IsCall p es bytes q = IsBatch p.frame p.place es bytes q.place × (q.frame ≡ p.frame)

module _ (p q : OpenPage) (cs : List CqlpEvent) (contents before after : List ℕ) (answer : CqlpPut × ℕ) (x : PutsCells p cs contents before answer after q) where
  abbrev putter : PutterState
  putter = fresh_putter p.frame p.place longest_cell

  abbrev first : BatchState
  first = at_begin putter contents (length cs)

  place_is : q.place ≡ x.1.last.cells.place
  place_is = ap (λ (y : OpenPage). y.place) x.2 ∙ ap (λ (y : PutterState). y.place) x.1.cells

  bytes_are : take answer.0.length after ≡ x.1.last.out
  bytes_are =
      let long : answer.0.length ≡ length x.1.last.out =
      ap (λ (a : CqlpPut × ℕ). a.0.length) x.1.is ∙ written_length (length cs) x.1.last.written x.1.stop
      ∙ long_from (length before) (length contents) cs 0 first x.1.last x.1.stop x.1.puts refl in
      (λ i. take (long i) (x.1.bytes i)) ∙ take-append_seam x.1.last.out (drop (length x.1.last.out) before)

  many_are : answer.0.events ≡ x.1.last.written.events
  many_are = ap (λ (a : CqlpPut × ℕ). a.0.events) x.1.is ∙ written_events (length cs) x.1.last.written x.1.stop

  batch_by : Put 0 cs first x.1.last → IsBatch p.frame p.place (events_from_c x.1.last.written.events cs contents) x.1.last.out x.1.last.cells.place
  batch_by (inl y) = record {
    limits = longest_cell;
    puts = subst (λ (m : ℕ). CellsPut putter (events_from_c m cs contents) x.1.last.out (fresh putter x.1.last.cells.place)) (sym y.0) (y.1, ap (λ (l : PageProgress). fresh putter l) y.2);
  }
  batch_by (inr s) = record {
    limits = longest_cell;
    puts = subst (λ (m : ℕ). CellsPut putter (events_from_c m cs contents) x.1.last.out (fresh putter x.1.last.cells.place)) (sym (s.events ∙ none_before s.many))
        (subst (λ (b : List ℕ). CellsPut putter (events_from_c s.many cs contents) b (fresh putter x.1.last.cells.place)) (sym s.out) s.puts);
  }

  is_batch : IsBatch p.frame p.place (events_from_c answer.0.events cs contents) (take answer.0.length after) q.place
  is_batch =
      let b = batch_by (put_from (length before) (length contents) cs 0 first x.1.last x.1.stop x.1.puts) in
      subst (λ (m : ℕ). IsBatch p.frame p.place (events_from_c m cs contents) (take answer.0.length after) q.place) (sym many_are)
      (subst (λ (bs : List ℕ). IsBatch p.frame p.place (events_from_c x.1.last.written.events cs contents) bs q.place) (sym bytes_are)
      (subst (λ (l : PageProgress). IsBatch p.frame p.place (events_from_c x.1.last.written.events cs contents) x.1.last.out l) (sym place_is) b))

the_page : (a b : OpenPage) → Some a ≡ Some b → a ≡ b
the_page a b e = cc

call : (p q : OpenPage) (es : List Event) (bytes : List ℕ) → IsPut p es bytes q → IsCall p es bytes q
call p q es bytes c =
    let r = c.puts in
    let same : q ≡ r.0 = the_page q r.0 r.1 in
    let x : PutsCells p c.cs c.contents c.before (c.written, c.code) c.after q = subst (λ (y : OpenPage). PutsCells p c.cs c.contents c.before (c.written, c.code) c.after y) (sym same) r.2 in
    let b = is_batch p q c.cs c.contents c.before c.after (c.written, c.code) x in (
      subst (λ (xs : List Event). IsBatch p.frame p.place xs bytes q.place) (sym c.events)
          (subst (λ (bs : List ℕ). IsBatch p.frame p.place (events_from_c c.written.events c.cs c.contents) bs q.place) (sym c.are) b),
      ap (λ (y : OpenPage). y.frame) x.2,
    )

all_calls : (calls : List (List Event × List ℕ)) (p q : OpenPage) → ArePuts p calls q → AreBatches p.frame p.place calls q.place × (q.frame ≡ p.frame)
all_calls [] p q a = (ap (λ (y : OpenPage). y.place) a, ap (λ (y : OpenPage). y.frame) a)
all_calls (b ∷ bs) p q a =
    let one = call p a.0 b.0 b.1 a.1 in
    let rest = all_calls bs a.0 q a.2 in
    ((a.0.place, one.0, subst (λ (f : OwnedFrame). AreBatches f a.0.place bs q.place) one.1 rest.0), rest.1 ∙ one.1)

-- ---- the head

pub none_after : (s : ComposerState) (e : Event) → s.ended ≡ true → refusal_of s e ≡ Some build_error.Misplaced
none_after s e is = ap (λ (b : Bool). if b || not (is_due s.frame.events e) then Some build_error.Misplaced else if is_unbuilt e then Some build_error.Unbuilt else bound_of s.frame e) is

unless_ok : (o : Option BuildError) (t u : Taken) → unless o t ≡ Ok u → (o ≡ None) × (t ≡ u)
unless_ok None t u e = (refl, cc)
unless_ok (Some why) t u e = absurd cc

-- an event that is taken, and what is taken after it
pub record One (t u : Taken) (c : CqlpEvent) : Type 0 where
  pub event : Event
  pub written : event_from_c c t.1 ≡ Ok event
  pub free : refusal_of t.0 event ≡ None
  pub after : (with_next t.0 event, drop (content_len c) t.1) ≡ u

one_by : (t u : Taken) (c : CqlpEvent) (r : Result Event BadEvent) → event_from_c c t.1 ≡ r → with_c_event t.0 r (drop (content_len c) t.1) ≡ Ok u → One t u c
one_by t u c (Ok e) written is =
    let o = unless_ok (refusal_of t.0 e) (with_next t.0 e, drop (content_len c) t.1) u is in
    record { event = e; written = written; free = o.0; after = o.1 }
one_by t u c (Err why) written is = absurd cc

pub one : (t u : Taken) (c : CqlpEvent) → after_one t c ≡ Ok u → One t u c
one t u c is = one_by t u c (event_from_c c t.1) refl is

pub record First (n : ℕ) (t k : Taken) (c : CqlpEvent) (cs : List CqlpEvent) : Type 0 where
  pub mid : Taken
  pub taken : after_one t c ≡ Ok mid
  pub others : after_all (suc n) mid cs ≡ Ok k

first_by : (n : ℕ) (t k : Taken) (c : CqlpEvent) (cs : List CqlpEvent) (r : Result Taken Unencoded) → after_one t c ≡ r → on_from n r (λ u. after_all (suc n) u cs) ≡ Ok k → First n t k c cs
first_by n t k c cs (Ok m) is e = record { mid = m; taken = is; others = e }
first_by n t k c cs (Err why) is e = absurd cc

pub first_of_all : (n : ℕ) (t k : Taken) (c : CqlpEvent) (cs : List CqlpEvent) → after_all n t (c ∷ cs) ≡ Ok k → First n t k c cs
first_of_all n t k c cs e = first_by n t k c cs (after_one t c) refl e

-- after the end nothing is taken
ended_stays : (cs : List CqlpEvent) (n : ℕ) (t k : Taken) → after_all n t cs ≡ Ok k → t.0.ended ≡ true → k.0.ended ≡ true
ended_stays [] n t k e is = let same : t ≡ k = cc in subst (λ (x : Taken). x.0.ended ≡ true) same is
ended_stays (c ∷ cs) n t k e is =
    let f = first_of_all n t k c cs e in
    let o = one t f.mid c f.taken in
    let d : Some build_error.Misplaced ≡ None = sym (none_after t.0 o.event is) ∙ o.free in
    absurd cc

open_next : (s : ComposerState) (e : Event) → (with_next s e).ended ≡ false → (with_next s e).frame.events ≡ s.frame.events ++ e ∷ []
open_next s (Frame h) is = refl
open_next s (Holds f v) is = refl
open_next s (Node_of k) is = refl
open_next s (Cell_at row column c) is = refl
open_next s (Leave level items) is = refl
open_next s (End x) is = absurd cc

still_open : (cs : List CqlpEvent) (n : ℕ) (t k : Taken) → after_all n t cs ≡ Ok k → k.0.ended ≡ false → t.0.ended ≡ false
still_open cs n t k e is = by t.0.ended refl
  where
    by : (b : Bool) → t.0.ended ≡ b → t.0.ended ≡ false
    by false q = q
    by true q = let d : true ≡ false = sym (ended_stays cs n t k e q) ∙ is in absurd cc

-- the events of a composer that took all are those that were passed, and then those of others that come after them
head_from_c : (front : List CqlpEvent) (last : CqlpEvent) (n : ℕ) (t k : Taken) → after_all n t front ≡ Ok k → k.0.ended ≡ false
    → t.0.frame.events ++ events_from_c (length (front ++ last ∷ [])) (front ++ last ∷ []) t.1 ≡ k.0.frame.events ++ events_from_c 1 (last ∷ []) k.1
head_from_c [] last n t k e is = let same : t ≡ k = cc in ap (λ (x : Taken). x.0.frame.events ++ events_from_c 1 (last ∷ []) x.1) same
head_from_c (c ∷ front) last n t k e is =
    let f = first_of_all n t k c front e in
    let o = one t f.mid c f.taken in
    let after = subst (λ (u : Taken). u.0.ended ≡ false) (sym o.after) (still_open front (suc n) f.mid k f.others is) in
    let came : f.mid.0.frame.events ≡ t.0.frame.events ++ o.event ∷ [] = ap (λ (u : Taken). u.0.frame.events) (sym o.after) ∙ open_next t.0 o.event after in
    let left : drop (content_len c) t.1 ≡ f.mid.1 = ap (λ (u : Taken). u.1) o.after in
    let more = events_from_c (length (front ++ last ∷ [])) (front ++ last ∷ []) in
    (λ i. t.0.frame.events ++ event_then (o.written i) (more (left i))) ∙ sym (append_assoc t.0.frame.events (o.event ∷ []) (more f.mid.1))
    ∙ ap (λ (es : List Event). es ++ more f.mid.1) (sym came) ∙ head_from_c front last (suc n) f.mid k f.others is

-- the last event is a count of rows
rows_by : (r : Result Event BadEvent) (rest : List ℕ) (n : ℕ) → rows_in r rest ≡ Ok n → r ≡ Ok (rows_event n)
rows_by (Err why) rest n e = absurd cc
rows_by (Ok (Holds field.Rows (Count m))) [] n e = let same : m ≡ n = cc in ap (λ (k : ℕ). Ok (rows_event k)) same
rows_by (Ok (Holds field.Rows (Count m))) (b ∷ rest) n e = absurd cc
rows_by (Ok x) rest n e = absurd cc

pub is_open : (s : ComposerState) (e : Event) → refusal_of s e ≡ None → s.ended ≡ false
is_open s e free = by s.ended refl
  where
    by : (b : Bool) → s.ended ≡ b → s.ended ≡ false
    by false q = q
    by true q = let d : Some build_error.Misplaced ≡ None = sym (none_after s e q) ∙ free in absurd cc

due_by : (b d u : Bool) (m n x : Option BuildError) → m ≡ Some build_error.Misplaced → (if b || not d then m else if u then n else x) ≡ None → d ≡ true
due_by b true u m n x is e = refl
due_by true false u m n x is e = let d : Some build_error.Misplaced ≡ None = sym is ∙ e in absurd cc
due_by false false u m n x is e = let d : Some build_error.Misplaced ≡ None = sym is ∙ e in absurd cc

pub is_due_next : (s : ComposerState) (e : Event) → refusal_of s e ≡ None → is_due s.frame.events e ≡ true
is_due_next s e free = due_by s.ended (is_due s.frame.events e) (is_unbuilt e) (Some build_error.Misplaced) (Some build_error.Unbuilt) (bound_of s.frame e) refl free

-- the events that end in a frame begin with a header
pub has_header : (es : List Event) (g : OwnedFrame) → is_due es (rows_event 0) ≡ true → Ends (es ++ rows_event 0 ∷ []) (Ok g) → (h : Header) × (fields : List Event) × (es ≡ Frame h ∷ fields)
has_header [] g due x = absurd cc
has_header (Frame h ∷ es) g due x = (h, es, refl)
has_header (Holds k v ∷ es) g due x = absurd x
has_header (Node_of o ∷ es) g due x = absurd x
has_header (Cell_at row column c ∷ es) g due x = absurd x
has_header (Leave level items ∷ es) g due x = absurd x
has_header (End k ∷ es) g due x = absurd x

-- ---- the page

whole_by : (r : Result (Unit {0}) Unended) → code_of_end r ≡ numbers.DONE → r ≡ Ok tt
whole_by (Ok u) e = refl
whole_by (Err unended.CellsMissing) e = absurd cc
whole_by (Err unended.BytesMissing) e = absurd cc

-- what was put of a head, and the page of it
record Begun (cs : List CqlpEvent) (contents : List ℕ) (size : ℕ) (bytes : List ℕ) (p : OpenPage) : Type 0 where
  begun : BegunPage
  opens : Opens cs contents size (Ok begun)
  page_is : p ≡ begun.page
  bytes_are : bytes ≡ begun.head.items

put_head : (short : Bool) (b : BegunPage) (code : ℕ) (before after : List ℕ) (p : OpenPage) → PutsHead short b code before after (Some p) → (p ≡ b.page) × (after ≡ b.head.items ++ drop (length b.head.items) before)
put_head true b code before after p x = let d = x.2 in absurd cc
put_head false b code before after p (inl x) = let d = x.2 in absurd cc
put_head false b code before after p (inr x) = (the_page p b.page x.2, x.1)

begun_by : (cs : List CqlpEvent) (contents before after : List ℕ) (size code : ℕ) (was written : CqlpEncoded) (p : OpenPage) → Begins cs contents size None code before after (Some p) was written
    → Begun cs contents size (take written.length after) p
begun_by cs contents before after size code was written p (inl x) =
    let put = put_head (nat_lt (length before) (length x.0.head.items)) x.0 code before after p x.2 in
    record {
      begun = x.0;
      opens = x.1;
      page_is = put.0;
      bytes_are = (λ i. take ((ap (λ (t : CqlpEncoded). t.length) x.3) i) (put.1 i)) ∙ take-append_seam x.0.head.items (drop (length x.0.head.items) before);
    }
begun_by cs contents before after size code was written p (inr x) = let d = x.4 in absurd cc

pub read_as : (h : Header) (fields : List Event) (bytes : List ℕ) → IsFrameWith h fields bytes → IsReadAs h fields bytes
read_as h fields bytes w =
    let f = w.frame in
    let i = is_frame_of (of_length h w.size) fields 0 f 0 w.whole w.are in
    record {
      size = w.size;
      frame = f;
      are = w.written;
      said = λ l within. (
        Flat l 0 f 0,
        subst (λ (b : List ℕ). Says l first_state b (Flat l 0 f 0) Waits) (sym w.written) (written_is_read f w.range l w.spelled within),
        λ whole. frame_said l 0 f 0
            ∙ ap (λ k. Frame k ∷ body_of l 0 f ++ End 0 ∷ []) i.header
            ∙ ap (λ r. Frame (of_length h w.size) ∷ r ++ End 0 ∷ []) (body_events l 0 f (body_whole l f whole) ∙ i.parts),
      );
    }

pub put_pages_are_read : PutPagesAreRead
put_pages_are_read cs contents before after size was written p q calls begins puts whole =
    let b = begun_by cs contents before after size numbers.DONE was written p begins in
    let n = b.opens.0 in
    let s = b.opens.1 in
    let head = b.opens.2 in
    let bare = b.opens.3.1 in
    let header = has_header s.frame.events bare.1 (is_due_next s (rows_event 0) bare.0) bare.2 in
    let h = header.0 in
    let front = header.1 in
    let came : [] ++ events_from_c (length (head.0 ++ head.1 ∷ [])) (head.0 ++ head.1 ∷ []) contents ≡ s.frame.events ++ events_from_c 1 (head.1 ∷ []) head.3 =
    head_from_c head.0 head.1 0 (start longest, contents) (s, head.3) head.4 (is_open s (rows_event 0) bare.0) in
    let last : events_from_c 1 (head.1 ∷ []) head.3 ≡ rows_event n ∷ [] = ap (λ (r : Result Event BadEvent). event_then r []) (rows_by (event_from_c head.1 head.3) (drop (content_len head.1) head.3) n head.5) in
    let written_is : events_from_c (length cs) cs contents ≡ Frame h ∷ (front ++ rows_event n ∷ []) =
    ap (λ (xs : List CqlpEvent). events_from_c (length xs) xs contents) head.2 ∙ came ∙ (λ i. header.2 i ++ last i) in
    let all = all_calls calls p q puts in
    let batches : AreBatches b.begun.page.frame b.begun.page.place calls q.place = subst (λ (y : OpenPage). AreBatches y.frame y.place calls q.place) b.page_is all.0 in
    let frame : q.frame ≡ b.begun.page.frame = all.1 ∙ ap (λ (y : OpenPage). y.frame) b.page_is in
    let ended : ends (frame_of b.begun.page.frame) q.place ≡ Ok tt = ap (λ (f : OwnedFrame). ends (frame_of f) q.place) (sym frame) ∙ whole_by (ends (frame_of q.frame) q.place) whole in
    let w = page_is_written s h front n size b.begun calls q.place header.2 b.opens.3 batches ended in
    let r = read_as h (front ++ rows_event n ∷ events_of calls) (b.begun.head.items ++ bytes_of calls) w in (
      h,
      front ++ rows_event n ∷ [],
      written_is,
      subst (λ (es : List Event). IsReadAs h es (take written.length after ++ bytes_of calls)) (sym (append_assoc front (rows_event n ∷ []) (events_of calls)))
          (subst (λ (xs : List ℕ). IsReadAs h (front ++ rows_event n ∷ events_of calls) (xs ++ bytes_of calls)) (sym b.bytes_are) r),
    )
