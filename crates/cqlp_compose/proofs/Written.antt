-- What is written of a page that is put in batches.
use Rattle.std.proofs.Common.{◌≡◌, ℕ, ◌++◌, ◌⊎◌, inl, inr, Bool, true, false, List, [], ◌∷◌, Option, Some, None, Ok, refl, sym, ap, ◌∙◌, subst, append_assoc, append-nil}
use Rattle.std.specs.Prelude.{not, pos, ◌&&◌, ◌==◌}
use Rattle.std.specs.List.{list_all}
use Rattle.std.proofs.lemmas.Grind.{flat_map-append}
use Rattle.std.proofs.lemmas.List.Folds.{list_all-append}
use Rattle.cqlp_note.specs.declared.field.Field.TheVariants as field
use Rattle.cqlp_note.specs.declared.header.Header.{Header}
use Rattle.cqlp_grammar.specs.Events.{Event, Frame, End}
use Rattle.cqlp_value.specs.Values.{Values}
use Rattle.cqlp_message.specs.declared.frame.Frame.{Frame as OwnedFrame}
use Rattle.cqlp_message.specs.FrameValues.{FrameValue, Message, Rows}
use Rattle.cqlp_message.specs.Agreement.{is_response, opcode_of}
use Rattle.cqlp_message.specs.Bodies.{count, int, metadata_parts}
use Rattle.cqlp_message.specs.Frames.{FrameIsInRange, announced_parts, frame_parts, header_of}
use Rattle.cqlp_message.specs.Owned.{frame_of}
use Rattle.cqlp_message.specs.Pages.{cells_wanted, filled, is_bare, page_head, page_unfit_of, with_cells}
use Rattle.cqlp_message.specs.Parts.{Part, parts_size}
use Rattle.cqlp_message.proofs.PageFrames.{head_parts, page_rows, parts_bare}
use Rattle.cqlp_message.proofs.PageFrames.{is_page as can_begin}
use Rattle.cqlp_message.proofs.Ranges.{page_range}
use Rattle.cqlp_build.specs.Building.{AreEventsOf, HaveNoParts, is_built, is_unbuilt}
use Rattle.cqlp_build.specs.Closing.{ClosesAt, Ends, closed, of_length}
use Rattle.cqlp_build.specs.Emitted.{emitted}
use Rattle.cqlp_build.proofs.Finishing.{is_frame_of}
use Rattle.cqlp_build.proofs.FrameViews.{none_both}
use Rattle.cqlp_build.proofs.Several.{join}
use Rattle.cqlp_build.proofs.Steps.{emitted_append}
use Rattle.cqlp_build_cells.specs.declared.builder.CellLimits.{CellLimits}
use Rattle.cqlp_build_cells.specs.Building.{ends_cell}
use Rattle.cqlp_compose.specs.declared.place.PageProgress.{PageProgress}
use Rattle.cqlp_compose.specs.Cells.{CellsState, Takes, begun, within as cell_within}
use Rattle.cqlp_compose.specs.Cells as cells
use Rattle.cqlp_compose.specs.PageLaws.{ArePieces, IsPageOf, IsPiece, TakesAll, all_bytes, all_events}
use Rattle.cqlp_compose.specs.Places.{is_done}
use Rattle.cqlp_compose.proofs.Whole.{has_its_events}
use Rattle.cqlp_compose.specs.Begun.{ends, ends_where, frame_with_rows, is_page, rows_event, said_len, with_rows}
use Rattle.cqlp_compose.specs.BatchLaws.{AreBatches, IsFrameWith, PageIsWritten, PutsAll, bytes_of, events_of}
use Rattle.cqlp_compose.specs.Put.{GoesOn, PutterState, Puts, fresh, fresh_putter, within}

-- ---- ends of lists

never_empty : {A : Type 0} (xs : List A) (a : A) → [] ≡ xs ++ a ∷ [] → ⊥
never_empty [] a e = absurd cc
never_empty (x ∷ xs) a e = absurd cc

front_is : {A : Type 0} (xs ys : List A) (a b : A) → xs ++ a ∷ [] ≡ ys ++ b ∷ [] → xs ≡ ys
front_is [] [] a b e = refl
front_is [] (y ∷ ys) a b e = let d : [] ≡ ys ++ b ∷ [] = cc in absurd (never_empty ys b d)
front_is (x ∷ xs) [] a b e = let d : [] ≡ xs ++ a ∷ [] = cc in absurd (never_empty xs a d)
front_is (x ∷ xs) (y ∷ ys) a b e =
    let r : xs ≡ ys = front_is xs ys a b cc in
    let p : x ≡ y = cc in
    cc

-- ---- the head

same_bare : (n : ℕ) (m : Message) → is_bare (with_rows n m) ≡ is_bare m
same_bare n (Rows p) = refl
same_bare n m = refl

same_response : (n : ℕ) (m : Message) → is_response (with_rows n m) ≡ is_response m
same_response n (Rows p) = refl
same_response n m = refl

same_opcode : (n : ℕ) (m : Message) → opcode_of (with_rows n m) ≡ opcode_of m
same_opcode n (Rows p) = refl
same_opcode n m = refl

filled_response : (m : Message) (vs : List Values) → is_response (filled m vs) ≡ is_response m
filled_response (Rows p) vs = refl
filled_response m vs = refl

filled_opcode : (m : Message) (vs : List Values) → opcode_of (filled m vs) ≡ opcode_of m
filled_opcode (Rows p) vs = refl
filled_opcode m vs = refl

filled_built : (m : Message) (vs : List Values) → is_built (filled m vs) ≡ is_built m
filled_built (Rows p) vs = refl
filled_built m vs = refl

same_built : (n : ℕ) (m : Message) → is_built (with_rows n m) ≡ is_built m
same_built n (Rows p) = refl
same_built n m = refl

-- the parts before a page's count of rows
abbrev CountsLast : Message → Type 0
CountsLast m =
    (front : List Part)
    × ((n : ℕ) → head_parts (with_rows n m) ≡ front ++ count field.Rows n ∷ [])
    × (head_parts m ≡ front ++ count field.Rows (page_rows m) ∷ [])

counts_last : (m : Message) → is_page m ≡ true → CountsLast m
counts_last (Rows p) e = (int field.ResultKind (pos 2) ∷ metadata_parts p.meta, (λ n. refl), refl)
counts_last m e = absurd cc

emitted_front : (announced front : List Part) (n : ℕ) → emitted (announced ++ (front ++ count field.Rows n ∷ [])) ≡ emitted (announced ++ front) ++ rows_event n ∷ []
emitted_front announced front n = ap emitted (sym (append_assoc announced front (count field.Rows n ∷ []))) ∙ emitted_append (announced ++ front) (count field.Rows n ∷ [])

no_parts : (xs ys : List Event) → HaveNoParts xs → HaveNoParts ys → HaveNoParts (xs ++ ys)
no_parts xs ys a b = list_all-append (λ e. not (is_unbuilt e)) xs ys ∙ join (list_all (λ e. not (is_unbuilt e)) xs) (list_all (λ e. not (is_unbuilt e)) ys) a b

module _ (h : Header) (fields : List Event) (n : ℕ) (g : FrameValue) (page : is_page g.message ≡ true) (k : ℕ) (begins : page_unfit_of (frame_with_rows n g) k ≡ None)
    (size : ℕ) (are : AreEventsOf (closed h size (fields ++ rows_event 0 ∷ [])) g 0) (whole : HaveNoParts (fields ++ rows_event 0 ∷ [])) (built : is_built g.message ≡ true) where
  abbrev f : FrameValue
  f = frame_with_rows n g

  bare_f : is_bare f.message ≡ true
  bare_f = (can_begin f k begins).bare

  bare_g : is_bare g.message ≡ true
  bare_g = sym (same_bare n g.message) ∙ bare_f

  head : CountsLast g.message
  head = counts_last g.message page

  fields_are : emitted (announced_parts g ++ head.0) ≡ fields
  fields_are =
      let i = is_frame_of (of_length h size) (fields ++ rows_event 0 ∷ []) 0 g 0 whole are in
      let without : emitted (frame_parts g) ≡ emitted (announced_parts g ++ head.0) ++ rows_event (page_rows g.message) ∷ [] =
      ap emitted (parts_bare g bare_g ∙ ap (λ (ps : List Part). announced_parts g ++ ps) head.2) ∙ emitted_front (announced_parts g) head.0 (page_rows g.message) in
      front_is (emitted (announced_parts g ++ head.0)) fields (rows_event (page_rows g.message)) (rows_event 0) (sym without ∙ i.parts)

  emitted_head : emitted (frame_parts f) ≡ fields ++ rows_event n ∷ []
  emitted_head =
      ap emitted (parts_bare f bare_f ∙ ap (λ (ps : List Part). announced_parts g ++ ps) (head.1 n)) ∙ emitted_front (announced_parts g) head.0 n
      ∙ ap (λ (es : List Event). es ++ rows_event n ∷ []) fields_are

  header_is : (vs : List Values) (m : ℕ) → header_of (with_cells f vs) m ≡ of_length h m
  header_is vs m =
      let i = is_frame_of (of_length h size) (fields ++ rows_event 0 ∷ []) 0 g 0 whole are in
      (λ i. record (header_of f m) { response = filled_response f.message vs i; opcode = filled_opcode f.message vs i })
      ∙ (λ i. record (header_of g m) { response = same_response n g.message i; opcode = same_opcode n g.message i })
      ∙ ap (λ (x : Header). of_length x m) i.header

  built_f : is_built f.message ≡ true
  built_f = same_built n g.message ∙ built

  framed : (es : List Event) (bytes : List ℕ) → FrameIsInRange f → HaveNoParts es → IsPageOf f k es bytes → IsFrameWith h (fields ++ rows_event n ∷ es) bytes
  framed es bytes range none p =
      let g = with_cells f p.cells in
      let m = parts_size (frame_parts g) in
      let all : emitted (frame_parts f) ++ es ≡ fields ++ rows_event n ∷ es = ap (λ (xs : List Event). xs ++ es) emitted_head ∙ append_assoc fields (rows_event n ∷ []) es in
      record {
        frame = g;
        size = m;
        are = subst (λ (x : Header). AreEventsOf (Frame x ∷ (fields ++ rows_event n ∷ es) ++ End 0 ∷ []) g 0) (header_is p.cells m)
            (subst (λ (xs : List Event). AreEventsOf (Frame (header_of g m) ∷ xs ++ End 0 ∷ []) g 0) all p.are);
        spelled = p.spelled;
        built = filled_built f.message p.cells ∙ built_f;
        written = p.written;
        whole = no_parts fields (rows_event n ∷ es) (none_both fields (rows_event 0 ∷ []) whole).0 none;
        range = page_range f p.cells bare_f range p.range;
      }

-- ---- batches

takes_more : (s m new : CellsState) (es : List Event) (e : Event) → TakesAll s es m → Takes m e (Ok tt) new → TakesAll s (es ++ e ∷ []) new
takes_more s m new [] e t k = (new, subst (λ (x : CellsState). Takes x e (Ok tt) new) t k, refl)
takes_more s m new (x ∷ es) e t k = (t.0, t.1, takes_more t.0 m new es e t.2 k)

whole_of : (s new : CellsState) (e : Event) → Takes s e (Ok tt) new → not (is_unbuilt e) ≡ true
whole_of s new e t = ap not t.2.1

cut_by : (ends : Bool) (s new : CellsState) → ends ≡ false → cells.GoesOn ends s (Ok tt) new → new.cut ≡ true
cut_by false s new e g = ap (λ (x : CellsState). x.cut) g
cut_by true s new e g = absurd cc

are_whole : (es : List Event) (s end : PutterState) (bytes : List ℕ) → PutsAll s es bytes end → HaveNoParts es
are_whole [] s end bytes p = refl
are_whole (e ∷ es) s end bytes p =
    join (not (is_unbuilt e)) (list_all (λ x. not (is_unbuilt x)) es) (whole_of s.cells p.5.0 e p.5.1) (are_whole es p.4 end p.3 p.6)

module _ (f : OwnedFrame) (limits : CellLimits) where
  -- after the whole cells these events of the next came
  record Conforms (s : PutterState) (under : List Event) : Type 0 where
    frame : s.frame ≡ f
    limits_are : s.limits ≡ limits
    taken : TakesAll (begun f s.place limits) under s.cells
    cut : (under ≡ []) ⊎ (s.cells.cut ≡ true)

  abbrev Next : PutterState → List Event → Option ℕ → (bytes : List ℕ) → PutterState → Type 0
  Next s came None bytes new = (bytes ≡ []) × (new.place ≡ s.place) × Conforms new came
  Next s came (Some len) bytes new = IsPiece f s.place came bytes new.place × Conforms new []

  module _ (s : PutterState) (under : List Event) (e : Event) (w : Conforms s under) (mid : CellsState) (t : Takes s.cells e (Ok tt) mid) where
    more : TakesAll (begun f s.place limits) (under ++ e ∷ []) mid
    more = takes_more (begun f s.place limits) s.cells mid under e w.taken t

    fresh_conforms : (p : PageProgress) → Conforms (fresh s p) []
    fresh_conforms p = record {
      frame = w.frame;
      limits_are = w.limits_are;
      taken = λ i. begun (w.frame i) p (w.limits_are i);
      cut = inl refl;
    }

    next_by : (ends : Bool) (n : ℕ) (len : Option ℕ) (bytes : List ℕ) (new : PutterState) → ends_cell e ≡ ends → GoesOn ends (within s mid) n (Ok len) bytes new → Next s (under ++ e ∷ []) len bytes new
    next_by false n None bytes new is g =
        let on : Conforms (within s mid) (under ++ e ∷ []) = record {
          frame = w.frame;
          limits_are = w.limits_are;
          taken = more;
          cut = inr (cut_by (ends_cell e) (cell_within s.cells t.1) mid is t.3);
        } in
        (g.0, ap (λ (x : PutterState). x.place) g.1, subst (λ (x : PutterState). Conforms x (under ++ e ∷ [])) (sym g.1) on)
    next_by false n (Some len) bytes new is g = absurd g
    next_by true n None bytes new is g = absurd g
    next_by true n (Some len) bytes new is g =
        let place : new.place ≡ mid.place = ap (λ (x : PutterState). x.place) g.3 in (
          record {
            limits = limits;
            end = mid;
            taken = more;
            cells = g.4.0;
            given = g.4.1;
            place = place ∙ sym g.4.1.1;
            bytes_are = g.0 ∙ sym g.4.1.2;
          },
          subst (λ (x : PutterState). Conforms x []) (sym g.3) (fresh_conforms mid.place),
        )

  next : (s : PutterState) (under : List Event) (e : Event) (n : ℕ) (len : Option ℕ) (bytes : List ℕ) (new : PutterState) → Conforms s under → Puts s e n (Ok len) bytes new → Next s (under ++ e ∷ []) len bytes new
  next s under e n len bytes new w p = next_by s under e w p.0 p.1 (ends_cell e) n len bytes new refl p.2

  -- The pieces of the events that came, the first with those of the cell under way.
  record Cut (old new : PageProgress) (es : List Event) (bytes : List ℕ) : Type 0 where
    pieces : List (List Event × List ℕ)
    are : ArePieces f old pieces new
    events : all_events pieces ≡ es
    all : all_bytes pieces ≡ bytes

  never_cut : (s : PutterState) (under : List Event) (new : PageProgress) → s ≡ fresh_putter f new limits → (under ≡ []) ⊎ (s.cells.cut ≡ true) → under ≡ []
  never_cut s under new is (inl e) = e
  never_cut s under new is (inr e) = let d : true ≡ false = sym e ∙ ap (λ (x : PutterState). x.cells.cut) is in absurd cc

  pieces_on : (len : Option ℕ) (s mid : PutterState) (new : PageProgress) (came es : List Event) (bytes others : List ℕ) → Next s came len bytes mid
      → ((under : List Event) → Conforms mid under → Cut mid.place new (under ++ es) others) → Cut s.place new (came ++ es) (bytes ++ others)
  pieces_on None s mid new came es bytes others x rest =
      let c = rest came x.2 in
      record {
        pieces = c.pieces;
        are = subst (λ (p : PageProgress). ArePieces f p c.pieces new) x.1 c.are;
        events = c.events;
        all = c.all ∙ ap (λ (b : List ℕ). b ++ others) (sym x.0);
      }
  pieces_on (Some len) s mid new came es bytes others x rest =
      let c = rest [] x.1 in
      record {
        pieces = (came, bytes) ∷ c.pieces;
        are = (mid.place, x.0, c.are);
        events = ap (λ (xs : List Event). came ++ xs) c.events;
        all = ap (λ (b : List ℕ). bytes ++ b) c.all;
      }

  cut_all : (es : List Event) (s : PutterState) (under : List Event) (bytes : List ℕ) (new : PageProgress) → Conforms s under → PutsAll s es bytes (fresh_putter f new limits)
      → Cut s.place new (under ++ es) bytes
  cut_all [] s under bytes new w p =
      let is : s ≡ fresh_putter f new limits = sym p.1 in
      let none : under ≡ [] = never_cut s under new is w.cut in
      record {
        pieces = [];
        are = ap (λ (x : PutterState). x.place) p.1;
        events = sym (append-nil under ∙ none);
        all = sym p.0;
      }
  cut_all (e ∷ es) s under bytes new w p =
      let c = pieces_on p.1 s p.4 new (under ++ e ∷ []) es p.2 p.3 (next s under e p.0 p.1 p.2 p.4 w p.5) (λ on conforms. cut_all es p.4 on p.3 new conforms p.6) in
      subst (λ (xs : List Event). Cut s.place new xs bytes) (append_assoc under (e ∷ []) es)
      (subst (λ (b : List ℕ). Cut s.place new ((under ++ e ∷ []) ++ es) b) (sym p.7) c)

at_first : (f : OwnedFrame) (limits : CellLimits) (p : PageProgress) → Conforms f limits (fresh_putter f p limits) []
at_first f limits p = record { frame = refl; limits_are = refl; taken = refl; cut = inl refl }

pieces_append : (f : OwnedFrame) (ps qs : List (List Event × List ℕ)) (a b c : PageProgress) → ArePieces f a ps b → ArePieces f b qs c → ArePieces f a (ps ++ qs) c
pieces_append f [] qs a b c x y = subst (λ (p : PageProgress). ArePieces f p qs c) x y
pieces_append f (p ∷ ps) qs a b c x y = (x.0, x.1, pieces_append f ps qs x.0 b c x.2 y)

-- Batches as pieces.
record InPieces (f : OwnedFrame) (old new : PageProgress) (es : List Event) (bytes : List ℕ) : Type 0 where
  pieces : List (List Event × List ℕ)
  are : ArePieces f old pieces new
  events : all_events pieces ≡ es
  all : all_bytes pieces ≡ bytes
  whole : HaveNoParts es

in_pieces : (f : OwnedFrame) (bs : List (List Event × List ℕ)) (old new : PageProgress) → AreBatches f old bs new → InPieces f old new (events_of bs) (bytes_of bs)
in_pieces f [] old new a = record { pieces = []; are = a; events = refl; all = refl; whole = refl }
in_pieces f (b ∷ bs) old new a =
    let one = cut_all f a.1.limits b.0 (fresh_putter f old a.1.limits) [] b.1 a.0 (at_first f a.1.limits old) a.1.puts in
    let rest = in_pieces f bs a.0 new a.2 in
    record {
      pieces = one.pieces ++ rest.pieces;
      are = pieces_append f one.pieces rest.pieces old a.0 new one.are rest.are;
      events = flat_map-append (λ p. p.0) one.pieces rest.pieces ∙ (λ i. one.events i ++ rest.events i);
      all = flat_map-append (λ p. p.1) one.pieces rest.pieces ∙ (λ i. one.all i ++ rest.all i);
      whole = no_parts b.0 (events_of bs) (are_whole b.0 (fresh_putter f old a.1.limits) (fresh_putter f a.0 a.1.limits) b.1 a.1.puts) rest.whole;
    }

-- ---- the page

done_by : (a b : Bool) → ends_where a b ≡ Ok tt → (a && b) ≡ true
done_by true true e = refl
done_by true false e = absurd cc
done_by false b e = absurd cc

done : (f : FrameValue) (p : PageProgress) → ends f p ≡ Ok tt → is_done f p ≡ true
done f p e = done_by (p.cells == cells_wanted f.message) (p.free == 0) e

-- the events of the frame without rows begin with the header
closes_at : (es : List Event) (h : Header) (fields : List Event) (g : OwnedFrame) → es ≡ Frame h ∷ fields → Ends (es ++ rows_event 0 ∷ []) (Ok g) → ClosesAt h (fields ++ rows_event 0 ∷ []) (Ok g)
closes_at es h fields g is e = subst (λ (xs : List Event). Ends (xs ++ rows_event 0 ∷ []) (Ok g)) is e

pub page_is_written : PageIsWritten
page_is_written s h fields rows len b bs end first begins batches ended =
    let g = begins.1.1 in
    let closes = closes_at s.frame.events h fields g first begins.1.2 in
    let v = frame_of b.page.frame in
    let k = said_len len in
    let is : v ≡ frame_with_rows rows (frame_of g) = begins.2.1 ∙ begins.1.3.1 in
    let can : page_unfit_of v k ≡ None = ap (λ (f : FrameValue). page_unfit_of f k) begins.2.1 ∙ begins.2.0 in
    let cut = in_pieces b.page.frame bs b.page.place end batches in
    let from = subst (λ (p : PageProgress). ArePieces b.page.frame p cut.pieces end) begins.2.2 cut.are in
    let law = has_its_events b.page.frame k cut.pieces end can from (done v end ended) in
    let bytes : page_head v k ++ all_bytes cut.pieces ≡ b.head.items ++ bytes_of bs =
    (λ i. ap (λ (f : FrameValue). page_head f k) begins.2.1 i ++ cut.all i) ∙ ap (λ (xs : List ℕ). xs ++ bytes_of bs) (sym begins.2.3) in
    let of_page : IsPageOf v k (events_of bs) (b.head.items ++ bytes_of bs) =
    subst (λ (es : List Event). IsPageOf v k es (b.head.items ++ bytes_of bs)) cut.events
    (subst (λ (xs : List ℕ). IsPageOf v k (all_events cut.pieces) xs) bytes law) in
    framed h fields rows (frame_of g) begins.1.3.0 k (subst (λ (f : FrameValue). page_unfit_of f k ≡ None) is can) closes.size closes.are closes.whole closes.can.1
    (events_of bs) (b.head.items ++ bytes_of bs) (subst FrameIsInRange begins.1.3.1 begins.2.4) cut.whole (subst (λ (f : FrameValue). IsPageOf f k (events_of bs) (b.head.items ++ bytes_of bs)) is of_page)
