-- Pages whose cells are each one event, of what C passes.
use Rattle.std.proofs.Common.{◌≡◌, ℕ, suc, ◌+◌, ◌-◌, ◌≤◌, ◌++◌, inl, inr, false, List, [], ◌∷◌, length, drop, Option, None, Result, Ok, refl, sym, ap, ◌∙◌, subst, arith, append_assoc, append-nil}
use Rattle.std.proofs.lemmas.List.{length-append}
use Rattle.std.specs.declared.alloc.Global.{Global}
use Rattle.cqlp_note.specs.declared.header.Header.{Header}
use Rattle.cqlp_note.specs.declared.header.TheConstants.Header.{LONGEST_BODY}
use Rattle.cqlp_grammar.specs.Events.{Event, Frame as FrameEvent, Holds, Node_of, Cell_at, Leave, End}
use Rattle.cqlp_message.specs.declared.frame.Frame.{Frame}
use Rattle.cqlp_message.specs.Owned.{frame_of}
use Rattle.cqlp_build.specs.declared.builder.BuildLimits.{BuildLimits}
use Rattle.cqlp_build.specs.declared.error.BuildError.{BuildError}
use Rattle.cqlp_build.specs.Building.{content_size}
use Rattle.cqlp_compose.specs.Bare.{after, event_bytes, longest_cell}
use Rattle.cqlp_compose.specs.Begun.{BeginsBare, rows_event, said_len}
use Rattle.cqlp_compose.specs.CellPages.{AreCells, IsCellPage, events_bytes}
use Rattle.cqlp_compose.specs.Composing.{ComposerState, refusal_of, start, with_next}
use Rattle.cqlp_compose.specs.Single as single
use Rattle.cqlp_compose.proofs.CellPages.{cell_page, cell_taken, rows_free}
use Rattle.cqlp_c.specs.declared.encode.Unencoded.{Unencoded}
use Rattle.cqlp_c.specs.declared.event.CqlpEvent.{CqlpEvent}
use Rattle.cqlp_c.specs.declared.from_c.BadEvent.{BadEvent}
use Rattle.cqlp_c.specs.declared.numbers.TheConstants as numbers
use Rattle.cqlp_c.specs.declared.whole_page.WholePage.{WholePage}
use Rattle.cqlp_c.specs.Encoding.{IsEncoded, after_all, after_one, at_first, longest, on_from, unless, with_c_event}
use Rattle.cqlp_c.specs.Encoding as encoding
use Rattle.cqlp_c.specs.FromC.{content_len, event_from_c}
use Rattle.cqlp_c.specs.WholePages.{AreNextCells, IsWithoutEnd, OpensWhole, ReadsRows, cells_bytes, found_bytes, page_bytes, quarters_bytes}
use Rattle.cqlp_c.proofs.Encoded.{all_append}
use Rattle.cqlp_c.proofs.PagesWritten.{first_of_all, has_header, is_due_next, is_open, one}

-- ---- what a composer takes

one_is : (s : ComposerState) (contents : List ℕ) (c : CqlpEvent) (e : Event) → event_from_c c contents ≡ Ok e → refusal_of s e ≡ None → after_one (s, contents) c ≡ Ok (with_next s e, drop (content_len c) contents)
one_is s contents c e read free =
    ap (λ (r : Result Event BadEvent). with_c_event s r (drop (content_len c) contents)) read
    ∙ ap (λ (o : Option BuildError). unless o (with_next s e, drop (content_len c) contents)) free

first_is : (n : ℕ) (t u : encoding.Taken) (c : CqlpEvent) (cs : List CqlpEvent) → after_one t c ≡ Ok u → after_all n t (c ∷ cs) ≡ after_all (suc n) u cs
first_is n t u c cs is = ap (λ (r : Result encoding.Taken Unencoded). on_from n r (λ u. after_all (suc n) u cs)) is

-- no more events are held than came, and the limits stay
record Held (s k : ComposerState) (n : ℕ) : Type 0 where
  few : length k.frame.events ≤ length s.frame.events + n
  room : k.frame.room ≤ s.frame.room
  limits : k.frame.limits ≡ s.frame.limits

one_held : (s : ComposerState) (e : Event) → Held s (with_next s e) 1
one_held s (End x) = record { few = omega arith; room = omega arith; limits = refl }
one_held s (FrameEvent h) = record { few = omega (arith, length-append s.frame.events (FrameEvent h ∷ [])); room = omega arith; limits = refl }
one_held s (Holds f v) = record { few = omega (arith, length-append s.frame.events (Holds f v ∷ [])); room = omega arith; limits = refl }
one_held s (Node_of k) = record { few = omega (arith, length-append s.frame.events (Node_of k ∷ [])); room = omega arith; limits = refl }
one_held s (Cell_at row column c) = record { few = omega (arith, length-append s.frame.events (Cell_at row column c ∷ [])); room = omega arith; limits = refl }
one_held s (Leave level items) = record { few = omega (arith, length-append s.frame.events (Leave level items ∷ [])); room = omega arith; limits = refl }

all_held : (cs : List CqlpEvent) (n : ℕ) (t k : encoding.Taken) → after_all n t cs ≡ Ok k → Held t.0 k.0 (length cs)
all_held [] n t k e =
    let same : t ≡ k = cc in
    subst (λ (u : encoding.Taken). Held t.0 u.0 0) same (record { few = omega arith; room = omega arith; limits = refl })
all_held (c ∷ cs) n t k e =
    let f = first_of_all n t k c cs e in
    let o = one t f.mid c f.taken in
    let next = subst (λ (u : encoding.Taken). Held t.0 u.0 1) o.after (one_held t.0 o.event) in
    let rest = all_held cs (suc n) f.mid k f.others in
    record { few = omega (arith, next.few, rest.few); room = omega (arith, next.room, rest.room); limits = rest.limits ∙ next.limits }

-- ---- the cells

-- all cells were taken
record CellsTaken (n : ℕ) (s : ComposerState) (contents : List ℕ) (cs : List CqlpEvent) (es : List Event) : Type 0 where
  new : ComposerState
  all : after_all n (s, contents) cs ≡ Ok (new, [])
  events : new.frame.events ≡ s.frame.events ++ es
  going : new.ended ≡ false

-- the events of cells, of which a composer takes all
record CellsOf (f : Frame) (k : ℕ) (contents : List ℕ) (cs : List CqlpEvent) (size : ℕ) : Type 0 where
  es : List Event
  are : AreCells f k es
  bytes : events_bytes es ≡ cells_bytes contents cs
  long : size ≡ length (events_bytes es)
  taken : (n : ℕ) (s : ComposerState) (x : Event) (xs : List Event) → s.ended ≡ false → s.frame.events ≡ x ∷ xs → length s.frame.events + length cs ≤ suc s.frame.limits.fields → size ≤ s.frame.room
      → CellsTaken n s contents cs es

cells_of : (f : Frame) (cs : List CqlpEvent) (k : ℕ) (contents : List ℕ) (size : ℕ) → AreNextCells f k contents cs size → CellsOf f k contents cs size
cells_of f [] k contents size w = record {
  es = [];
  are = w.1;
  bytes = refl;
  long = w.2;
  taken = λ n s x xs going first few fits. record { new = s; all = ap (λ (r : List ℕ). Ok (s, r)) w.0; events = sym (append-nil s.frame.events); going = going };
}
cells_of f (c ∷ cs) k contents size w =
    let next = w.2 in
    let e : Event = next.0 in
    let read : event_from_c c contents ≡ Ok e = next.1 in
    let here : found_bytes (event_from_c c contents) ≡ event_bytes e = ap found_bytes read in
    let cell : single.IsNextCell f (after k) longest_cell e (event_bytes e) = subst (λ (b : List ℕ). single.IsNextCell f (after k) longest_cell e b) here next.2 in
    let behind : List ℕ = drop (content_len c) contents in
    let r = cells_of f cs (k + 1) behind w.1 w.3 in
    let all_long : length (event_bytes e ++ events_bytes r.es) ≡ length (event_bytes e) + length (events_bytes r.es) = length-append (event_bytes e) (events_bytes r.es) in
    let one_long : w.0 ≡ length (event_bytes e) = next.3 ∙ ap length here in
    record {
      es = e ∷ r.es;
      are = (cell, r.are);
      bytes = λ i. sym here i ++ r.bytes i;
      long = omega (arith, w.4, one_long, r.long, all_long);
      taken = λ n s x xs going first few fits.
          let t = cell_taken s going (omega (arith, few)) f k e x xs cell first (omega (arith, fits, w.4, one_long)) in
          let next_events : (with_next s e).frame.events ≡ s.frame.events ++ e ∷ [] = ap (λ (q : ComposerState). q.frame.events) t.next in
          let next_first : (with_next s e).frame.events ≡ x ∷ (xs ++ e ∷ []) = next_events ∙ ap (λ (es : List Event). es ++ e ∷ []) first in
          let next_room : (with_next s e).frame.room ≡ s.frame.room - content_size e = ap (λ (q : ComposerState). q.frame.room) t.next in
          let next_fields : (with_next s e).frame.limits.fields ≡ s.frame.limits.fields = ap (λ (q : ComposerState). q.frame.limits.fields) t.next in
          let next_long : length (with_next s e).frame.events ≡ length s.frame.events + 1 = ap length next_events ∙ length-append s.frame.events (e ∷ []) in
          let q = r.taken (suc n) (with_next s e) x (xs ++ e ∷ []) (ap (λ (q : ComposerState). q.ended) t.next ∙ going) next_first (omega (arith, few, next_long, next_fields)) (omega (arith, fits, w.4, one_long, next_room, t.small)) in
          record {
            new = q.new;
            all = first_is n (s, contents) (with_next s e, behind) c cs (one_is s contents c e read t.free) ∙ q.all;
            events = q.events ∙ ap (λ (es : List Event). es ++ r.es) next_events ∙ append_assoc s.frame.events (e ∷ []) r.es;
            going = q.going;
          };
    }

-- ---- the head

-- the count of rows is taken, too
record HeadTaken (cs : List CqlpEvent) (contents : List ℕ) (rest : List ℕ) (rows : ℕ) (s : ComposerState) : Type 0 where
  new : ComposerState
  all : after_all 0 (at_first contents) cs ≡ Ok (new, rest)
  events : new.frame.events ≡ s.frame.events ++ rows_event rows ∷ []
  room : new.frame.room ≡ s.frame.room
  going : new.ended ≡ false

head_taken : (cs : List CqlpEvent) (contents rest : List ℕ) (rows : ℕ) (s : ComposerState) → ReadsRows (start longest) cs contents rows rest s → refusal_of s (rows_event 0) ≡ None → HeadTaken cs contents rest rows s
head_taken cs contents rest rows s r free =
    let front = r.0 in
    let last = r.1 in
    let mid = r.3 in
    let e : Event = rows_event rows in
    let next = one_is s mid last e r.5 (rows_free s rows free) in
    let whole : after_all 0 (at_first contents) (front ++ last ∷ []) ≡ Ok (with_next s e, drop (content_len last) mid) =
    all_append (last ∷ []) (s, mid) 0 (at_first contents) front r.4 ∙ first_is (0 + length front) (s, mid) (with_next s e, drop (content_len last) mid) last [] next in
    let less : s.frame.room - 0 ≡ s.frame.room = omega arith in
    record {
      new = with_next s e;
      all = ap (λ (ds : List CqlpEvent). after_all 0 (at_first contents) ds) r.2 ∙ whole ∙ ap (λ (x : List ℕ). Ok (with_next s e, x)) (sym r.6);
      events = refl;
      room = less;
      going = is_open s (rows_event 0) free;
    }

-- ---- the end

end_read : (c : CqlpEvent) → c.tag ≡ numbers.TAG_END → (event_from_c c [] ≡ Ok (End 0)) × (content_len c ≡ 0)
end_read c tag = (rw tag refl, rw tag refl)

end_free : (s : ComposerState) (x : Event) (xs : List Event) → s.ended ≡ false → s.frame.events ≡ x ∷ xs → refusal_of s (End 0) ≡ None
end_free s x xs going first = rw (going, first) refl

-- a state with the same events, of which all of these are taken
record AllTaken (cs : List CqlpEvent) (contents : List ℕ) (es : List Event) : Type 0 where
  new : ComposerState
  all : after_all 0 (at_first contents) cs ≡ Ok (new, [])
  events : new.frame.events ≡ es

with_end : (cs : List CqlpEvent) (last : CqlpEvent) (contents : List ℕ) (s : ComposerState) (x : Event) (xs : List Event) → after_all 0 (at_first contents) cs ≡ Ok (s, []) → s.ended ≡ false → s.frame.events ≡ x ∷ xs
    → last.tag ≡ numbers.TAG_END → AllTaken (cs ++ last ∷ []) contents s.frame.events
with_end cs last contents s x xs all going first tag =
    let r = end_read last tag in
    let none : drop (content_len last) [] ≡ [] = ap (λ (n : ℕ). drop n []) r.1 in
    let next = one_is s [] last (End 0) r.0 (end_free s x xs going first) ∙ ap (λ (x : List ℕ). Ok (with_next s (End 0), x)) none in
    record {
      new = with_next s (End 0);
      all = all_append (last ∷ []) (s, []) 0 (at_first contents) cs all ∙ first_is (0 + length cs) (s, []) (with_next s (End 0), []) last [] next;
      events = refl;
    }

-- ---- the page

-- What becomes of the events of a page whose cells were looked at.
pub record Page (head cs : List CqlpEvent) (contents : List ℕ) (w : WholePage) : Type 0 where
  pub written : (others : List CqlpEvent) → IsWithoutEnd others cs → IsEncoded (head ++ others) contents (page_bytes w)
  pub long : w.size ≡ length (quarters_bytes w.cells)

module _ (g : Global) (head cs : List CqlpEvent) (contents : List ℕ) (w : WholePage) (o : OpensWhole head cs contents w) (next : AreNextCells o.frame 0 o.rest cs w.size)
    (are : cells_bytes o.rest cs ≡ quarters_bytes w.cells) (few : length (head ++ cs) ≤ LONGEST_BODY) where
  abbrev rest : List ℕ
  rest = o.rest

  abbrev cells : CellsOf o.frame 0 rest cs w.size
  cells = cells_of o.frame cs 0 rest w.size next

  abbrev at_rows : HeadTaken head contents rest o.rows o.state
  at_rows = head_taken head contents rest o.rows o.state o.opens.0 o.opens.1.0

  abbrev header : (h : Header) × (fields : List Event) × (o.state.frame.events ≡ FrameEvent h ∷ fields)
  header = has_header o.state.frame.events o.opens.1.1 (is_due_next o.state (rows_event 0) o.opens.1.0) o.opens.1.2

  first : at_rows.new.frame.events ≡ FrameEvent header.0 ∷ (header.1 ++ rows_event o.rows ∷ [])
  first = at_rows.events ∙ ap (λ (es : List Event). es ++ rows_event o.rows ∷ []) header.2

  abbrev taken : CellsTaken (0 + length head) at_rows.new rest cs cells.es
  taken =
      let held = all_held head 0 (at_first contents) (at_rows.new, rest) at_rows.all in
      let both : length (head ++ cs) ≡ length head + length cs = length-append head cs in
      let fields : at_rows.new.frame.limits.fields ≡ LONGEST_BODY = ap (λ (l : BuildLimits). l.fields) held.limits in
      cells.taken (0 + length head) at_rows.new (FrameEvent header.0) (header.1 ++ rows_event o.rows ∷ []) at_rows.going first (omega (arith, held.few, both, fields, few)) (omega (arith, o.room, at_rows.room))

  all_cells : after_all 0 (at_first contents) (head ++ cs) ≡ Ok (taken.new, [])
  all_cells = all_append cs (at_rows.new, rest) 0 (at_first contents) head at_rows.all ∙ taken.all

  events_are : taken.new.frame.events ≡ o.state.frame.events ++ rows_event o.rows ∷ cells.es
  events_are = taken.events ∙ ap (λ (es : List Event). es ++ cells.es) at_rows.events ∙ append_assoc o.state.frame.events (rows_event o.rows ∷ []) cells.es

  begins_first : taken.new.frame.events ≡ FrameEvent header.0 ∷ (header.1 ++ rows_event o.rows ∷ cells.es)
  begins_first = events_are ∙ ap (λ (es : List Event). es ++ rows_event o.rows ∷ cells.es) header.2

  all_taken : (others : List CqlpEvent) → IsWithoutEnd others cs → AllTaken (head ++ others) contents taken.new.frame.events
  all_taken others (inl is) = record { new = taken.new; all = ap (λ (ds : List CqlpEvent). after_all 0 (at_first contents) (head ++ ds)) is ∙ all_cells; events = refl }
  all_taken others (inr (last, is, tag)) =
      let end = with_end (head ++ cs) last contents taken.new (FrameEvent header.0) (header.1 ++ rows_event o.rows ∷ cells.es) all_cells taken.going begins_first tag in
      subst (λ (ds : List CqlpEvent). AllTaken ds contents taken.new.frame.events) (append_assoc head cs (last ∷ []) ∙ ap (λ (ds : List CqlpEvent). head ++ ds) (sym is)) end

  page_is : IsCellPage taken.new.frame.events (page_bytes w)
  page_is =
      let room : at_rows.new.frame.room ≤ LONGEST_BODY = (all_held head 0 (at_first contents) (at_rows.new, rest) at_rows.all).room in
      let small : length (events_bytes cells.es) ≤ LONGEST_BODY = omega (arith, cells.long, o.room, at_rows.room, room) in
      let begins = subst (λ (n : ℕ). BeginsBare (frame_of o.frame) (said_len n) (Ok o.begun)) cells.long o.begins in
      let p = cell_page g o.state header.0 header.1 o.rows o.frame o.begun cells.es header.2 o.opens.1 cells.are small begins in
      subst (λ (es : List Event). IsCellPage es (page_bytes w)) (sym events_are)
      (subst (λ (bytes : List ℕ). IsCellPage (o.state.frame.events ++ rows_event o.rows ∷ cells.es) bytes) (λ i. sym o.bytes i ++ (cells.bytes ∙ are) i) p)

  pub whole_page : Page head cs contents w
  whole_page = record {
    written = λ others is.
        let a = all_taken others is in
        (a.new, a.all, inr (subst (λ (es : List Event). IsCellPage es (page_bytes w)) (sym a.events) page_is));
    long = cells.long ∙ ap length (cells.bytes ∙ are);
  }
