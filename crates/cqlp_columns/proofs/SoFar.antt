-- What was read into columns so far.
use Rattle.std.proofs.Common.{◌≡◌, ℕ, ◌+◌, ◌≤◌, List, [], ◌∷◌, ◌++◌, length, take, drop, refl, sym, ap, subst, ◌∙◌, append_assoc, inl, inr, arith}
use Rattle.std.specs.Prelude.{false, Option, Some, None}
use Rattle.std.proofs.lemmas.List.{append-nil, length-drop, length-append, nil_from_length, take-append-drop, length-take-le}
use Rattle.cqlp_note.specs.declared.refusal.Refusal.{Refusal}
use Rattle.cqlp_cell.specs.Reading.{AreBytes, length_under, seen_under}
use Rattle.cqlp_grammar.specs.declared.sink.Sink as sink
use Rattle.cqlp_decode.specs.declared.step.Step.TheVariants as steps
use Rattle.cqlp_decode.specs.Reading.{Event, Gifts, Reads, Says, Waits, start_with}
use Rattle.cqlp_decode.specs.Progress.{StreamState, Pending, Kept, Skipped, Valued, IsHeld, IsPending}
use Rattle.cqlp_decode.specs.Streams.{AfterBy, AfterGifts, LeadsAfter, Refuses, Conforms}
use Rattle.cqlp_decode.specs.Sinks.{Gets, Fails}
use Rattle.cqlp_decode.specs.Cells.{Item, TakesItems, GetsAll, HandsOut, FailsAfter, bytes_of, emitted_of}
use Rattle.cqlp_decode.proofs.Gets.{take_two}
use Rattle.cqlp_decode.proofs.Taken.{takes_conforms, takes_within, emitted_append}
use Rattle.cqlp_columns.specs.Batches.{Batch, is_full}
use Rattle.cqlp_columns.specs.Findings.{found_in}
use Rattle.cqlp_columns.specs.Sorting.{TakesCell, SortsTo, IsOver, takes}
use Rattle.cqlp_columns.specs.Filling.{TakesCells, Fills, EndsAtEvent, IsRead, refusal_after, stop_of, stopped_at, went_of}
use Rattle.cqlp_columns.specs.declared.page_columns.Went.{Went}
use Rattle.cqlp_columns.specs.declared.page_columns.Went.TheVariants as went

-- ---- cells

pub cells_append : (a b c : Batch) (xs ys : List (ℕ × Event)) → TakesCells a xs b → TakesCells b ys c → TakesCells a (xs ++ ys) c
cells_append a b c [] ys t u = subst (λ (z : Batch). TakesCells z ys c) t u
cells_append a b c (x ∷ xs) ys t u = (t.0, t.1, cells_append t.0 b c xs ys t.2 u)

pub cells_snoc : (a b c : Batch) (xs : List (ℕ × Event)) (x : ℕ × Event) → TakesCells a xs b → TakesCell b x.1 c → TakesCells a (xs ++ x ∷ []) c
cells_snoc a b c xs x t u = cells_append a b c xs (x ∷ []) t (c, u, refl)

-- ---- nothing is under way

no_bytes : (o : Option ℕ) (seen b : List ℕ) → AreBytes o seen [] → AreBytes o seen b → b ≡ []
no_bytes None seen b none is = is ∙ sym none
no_bytes (Some n) seen b none is = absurd (let long = none.1 in omega (arith, long, ap length none.3, length-append none.0 seen))

nothing_pending : (p : Pending) (b : List ℕ) → IsPending p [] → IsPending p b → b ≡ []
nothing_pending (Kept bytes) b none is = is ∙ sym none
nothing_pending (Skipped n) b none is = nil_from_length b (omega (arith, none, is))
nothing_pending (Valued u seen) b none is = no_bytes (length_under u) (seen_under u seen) b none is

pub ends_there : (gifts : Gifts) (d : StreamState) (s : List ℕ) (es : List (ℕ × Event)) → d.refusal ≡ None → IsPending d.pending [] → AfterGifts gifts d s es → IsRead gifts d.rules s es
ends_there gifts d s es none begun a =
    let st : Conforms gifts d s es = subst (λ (o : Option Refusal). AfterBy o gifts d s es) none a in
    (st.place, subst (λ (b : List ℕ). Reads d.rules (start_with gifts) s es st.place b) (nothing_pending d.pending st.bytes begun st.pending) st.read)

-- ---- items

begun_last : (old new : StreamState) (input : List ℕ) (x : Item) (xs : List Item) → TakesItems old input (x ∷ xs) new → IsPending new.pending [] × (new.refusal ≡ None)
begun_last old new input x [] t = subst (λ (z : StreamState). IsPending z.pending [] × (z.refusal ≡ None)) (sym t.3) (t.2.3.begun, t.2.0 ∙ t.1)
begun_last old new input x (y ∷ ys) t = begun_last t.0 new (drop x.used input) y ys t.3

-- ---- cells so far

-- So far only cells came of this much of the input, and the columns took them.
pub record IsSoFar (gifts : Gifts) (d : StreamState) (s input : List ℕ) (es : List (ℕ × Event)) (columns columns' : Batch) (used : ℕ) : Type 0 where
  pub cells : List (ℕ × Event)
  pub taken : TakesCells columns cells columns'
  pub after : AfterGifts gifts d (s ++ take used input) (es ++ cells)
  pub ends : EndsAtEvent gifts d.rules s (take used input) (es ++ cells)

pub read_none : (gifts : Gifts) (d : StreamState) (s input : List ℕ) (es : List (ℕ × Event)) (columns : Batch) → AfterGifts gifts d s es → IsSoFar gifts d s input es columns columns 0
read_none gifts d s input es columns a = record { cells = []; taken = refl; after = rw (append-nil s, append-nil es) a; ends = inl refl }

-- one more piece of the input after what was used
pub onward : (gifts : Gifts) (d : StreamState) (s input : List ℕ) (used taken : ℕ) (es : List (ℕ × Event)) → AfterGifts gifts d ((s ++ take used input) ++ take taken (drop used input)) es → AfterGifts gifts d (s ++ take (used + taken) input) es
onward gifts d s input used taken es a = rw (take_two used taken input, ← (append_assoc s (take used input) (take taken (drop used input)))) a

pub read_one : (gifts : Gifts) (old new : StreamState) (s input : List ℕ) (es : List (ℕ × Event)) (a b c : Batch) (used taken at : ℕ) (e : Event) → (r : IsSoFar gifts old s input es a b used) → TakesCell b e c → new.refusal ≡ None → IsPending new.pending []
    → AfterGifts gifts new ((s ++ take used input) ++ take taken (drop used input)) ((es ++ r.cells) ++ (at, e) ∷ []) → IsSoFar gifts new s input es a c (used + taken)
read_one gifts old new s input es a b c used taken at e r t none begun after =
    let conforms : AfterGifts gifts new (s ++ take (used + taken) input) (es ++ (r.cells ++ (at, e) ∷ [])) =
    rw (← (append_assoc es r.cells ((at, e) ∷ []))) (onward gifts new s input used taken ((es ++ r.cells) ++ (at, e) ∷ []) after) in record {
      cells = r.cells ++ (at, e) ∷ [];
      taken = cells_snoc a b c r.cells (at, e) r.taken t;
      after = conforms;
      ends = inr (ends_there gifts new (s ++ take (used + taken) input) (es ++ (r.cells ++ (at, e) ∷ [])) none begun conforms);
    }

-- ---- items that were handed out

-- of items the last content is held that does not lie in the bytes of its item
pub last_held : (old new : StreamState) (input : List ℕ) (xs : List Item) (y : Item) → TakesItems old input (xs ++ y ∷ []) new → IsHeld y.event y.used new.held
last_held old new input [] y t = subst (λ (z : StreamState). IsHeld y.event y.used z.held) (sym t.3) t.2.3.kept
last_held old new input (x ∷ xs) y t = last_held t.0 new (drop x.used input) xs y t.3

bytes_last : (xs : List Item) (y : Item) → y.used ≤ bytes_of (xs ++ y ∷ [])
bytes_last [] y = omega arith
bytes_last (x ∷ xs) y = let more = bytes_last xs y in omega (arith, more)

begun_end : (old new : StreamState) (input : List ℕ) (xs : List Item) (y : Item) → TakesItems old input (xs ++ y ∷ []) new → IsPending new.pending [] × (new.refusal ≡ None)
begun_end old new input [] y t = begun_last old new input y [] t
begun_end old new input (x ∷ xs) y t = begun_end t.0 new (drop x.used input) xs y t.3

ends_on : (gifts : Gifts) (old new : StreamState) (s input : List ℕ) (es cells : List (ℕ × Event)) (used : ℕ) (xs : List Item) → TakesItems old (drop used input) xs new → EndsAtEvent gifts old.rules s (take used input) (es ++ cells)
    → AfterGifts gifts new (s ++ take (used + bytes_of xs) input) (es ++ (cells ++ emitted_of xs)) → EndsAtEvent gifts new.rules s (take (used + bytes_of xs) input) (es ++ (cells ++ emitted_of xs))
ends_on gifts old new s input es cells used [] t ends after =
    let more : used ≡ used + 0 = omega arith in
    subst (λ (n : ℕ). EndsAtEvent gifts new.rules s (take n input) (es ++ (cells ++ []))) more
    (subst (λ (z : List (ℕ × Event)). EndsAtEvent gifts new.rules s (take used input) (es ++ z)) (sym (append-nil cells)) (subst (λ (z : StreamState). EndsAtEvent gifts z.rules s (take used input) (es ++ cells)) (sym t) ends))
ends_on gifts old new s input es cells used (x ∷ xs) t ends after =
    let last = begun_last old new (drop used input) x xs t in inr (ends_there gifts new _ _ last.1 last.0 after)

-- what is held beside more bytes, too
pub held_longer : (e : Event) (held : List ℕ) (n k : ℕ) → n ≤ k → IsHeld e n held → IsHeld e k held
held_longer e held n k more h = λ short. h (omega (arith, short, more))

module _ {P S : Type 0} (Got : P → ℕ → Event → P → Type 0) (columns : P → Batch) (other : P → S)
    (sorts : (p q : P) (at : ℕ) (e : Event) → Got p at e q → TakesCell (columns p) e (columns q) × (is_full (columns q) ≡ false) × (other q ≡ other p)) where
  pub all_cells : (p q : P) (xs : List Item) → GetsAll Got p xs q → is_full (columns p) ≡ false → TakesCells (columns p) (emitted_of xs) (columns q) × (is_full (columns q) ≡ false) × (other q ≡ other p)
  all_cells p q [] g free = (ap columns g, ap (λ (z : P). is_full (columns z)) g ∙ free, ap other g)
  all_cells p q (x ∷ xs) g free =
      let one = sorts p g.0 x.at x.event g.1 in
      let more = all_cells g.0 q xs g.2 one.1 in ((columns g.0, one.0, more.0), more.1, more.2 ∙ one.2)

  module _ (old new : StreamState) (input : List ℕ) (used taken : ℕ) (p q : P) (free : is_full (columns p) ≡ false) where
    -- the columns have them, and are not full
    pub handed_on : HandsOut Got old new (drop used input) taken p q → (is_full (columns q) ≡ false) × (other q ≡ other p)
        × ((gifts : Gifts) (s : List ℕ) (es : List (ℕ × Event)) (a : Batch) → IsSoFar gifts old s input es a (columns p) used → IsSoFar gifts new s input es a (columns q) (used + taken))
    handed_on h =
        let all = all_cells p q h.items h.got free in (
          all.1,
          all.2,
          λ gifts s es a r.
              let conforms = takes_conforms gifts old new (s ++ take used input) (drop used input) (es ++ r.cells) h.items h.takes r.after in
              let after : AfterGifts gifts new (s ++ take (used + bytes_of h.items) input) (es ++ (r.cells ++ emitted_of h.items)) =
              rw (← (append_assoc es r.cells (emitted_of h.items))) (onward gifts new s input used (bytes_of h.items) ((es ++ r.cells) ++ emitted_of h.items) conforms) in record {
                cells = r.cells ++ emitted_of h.items;
                taken = cells_append a (columns p) (columns q) r.cells (emitted_of h.items) r.taken all.0;
                after = rw h.all after;
                ends = rw h.all (ends_on gifts old new s input es r.cells used h.items h.takes r.ends after);
              },
        )

-- ---- where the last event went

pub went_back : (w : Went) → w ≡ went_of (stop_of w)
went_back went.Cell = refl
went_back went.Last = refl
went_back went.Other = refl
went_back went.Failed = refl

pub refusal_over : (w : Went) (before after : Option Refusal) → IsOver w → before ≡ None → after ≡ None → after ≡ refusal_after before (stop_of w)
refusal_over went.Cell before after over b a = absurd over
refusal_over went.Last before after over b a = a ∙ sym b
refusal_over went.Other before after over b a = a
refusal_over went.Failed before after over b a = a

-- while another is taken after each, there is room
module _ {P : Type 0} (Got : P → ℕ → Event → P → Type 0) (gone : P → Went) (room : (p q : P) (at : ℕ) (e : Event) → Got p at e q → gone q ≡ went.Cell) where
  pub went_on : (p q : P) (xs : List Item) → GetsAll Got p xs q → gone p ≡ went.Cell → gone q ≡ went.Cell
  went_on p q [] g is = ap gone g ∙ is
  went_on p q (x ∷ xs) g is = went_on g.0 q xs g.2 (room p g.0 x.at x.event g.1)

-- before a refusal there is none
pub never : (o : Option Refusal) → ((r : Refusal) → o ≡ Some r → ⊥) → o ≡ None
never None some = refl
never (Some r) some = absurd (some r refl)

-- ---- how a call stops

module _ {S : Type 0} (m : sink.Ghosts S) where
  -- at an event, of which the columns took what came before
  pub ends : (gifts : Gifts) (old new : StreamState) (s input : List ℕ) (es cells : List (ℕ × Event)) (a b c : Batch) (x y z : S) → TakesCells a cells b → is_full b ≡ false → y ≡ x → (end at : ℕ) (e : Event) (w : Went) → IsOver w → SortsTo m w b y at e c z
      → new.refusal ≡ None → IsPending new.pending [] → AfterGifts gifts new (s ++ take end input) ((es ++ cells) ++ (at, e) ∷ []) → IsHeld e (length (take end input)) new.held → Fills (Gets m) (Fails m) gifts old new s input es a c x z (stopped_at w end)
  ends gifts old new s input es cells a b c x y z taken free same end at e went.Cell over sorts none begun after held = absurd over
  ends gifts old new s input es cells a b c x y z taken free same end at e went.Last over sorts none begun after held =
      let conforms : AfterGifts gifts new (s ++ take end input) (es ++ (cells ++ (at, e) ∷ [])) = rw (← (append_assoc es cells ((at, e) ∷ []))) after in record {
        cells = cells ++ (at, e) ∷ [];
        taken = cells_snoc a b c cells (at, e) taken sorts.0;
        stops = (sorts.1, sorts.2 ∙ same, conforms, inr (ends_there gifts new _ _ none begun conforms));
      }
  ends gifts old new s input es cells a b c x y z taken free same end at e went.Other over sorts none begun after held = record {
    cells = cells;
    taken = subst (λ (q : Batch). TakesCells a cells q) (sym sorts.1) taken;
    stops = (
      ap is_full sorts.1 ∙ free,
      record { at = at; event = e; apart = ap (λ (q : Batch). takes q (found_in e)) sorts.1 ∙ sorts.0; after = after; ends = ends_there gifts new _ _ none begun after; held = held; holds = rw same at sorts.2 },
    );
  }
  ends gifts old new s input es cells a b c x y z taken free same end at e went.Failed over sorts none begun after held = record {
    cells = cells;
    taken = subst (λ (q : Batch). TakesCells a cells q) (sym sorts.1) taken;
    stops = (
      ap is_full sorts.1 ∙ free,
      record { at = at; event = e; apart = ap (λ (q : Batch). takes q (found_in e)) sorts.1 ∙ sorts.0; after = after; ends = ends_there gifts new _ _ none begun after; held = held; holds = rw same at sorts.2 },
    );
  }

-- at the last of the items that were handed out
module _ {P S : Type 0} (m : sink.Ghosts S) (Got Failed : P → ℕ → Event → P → Type 0) (columns : P → Batch) (other : P → S) (gone : P → Went)
    (sorts : (p q : P) (at : ℕ) (e : Event) → Got p at e q → TakesCell (columns p) e (columns q) × (is_full (columns q) ≡ false) × (other q ≡ other p))
    (last : (p q : P) (at : ℕ) (e : Event) → Failed p at e q → IsOver (gone q) × SortsTo m (gone q) (columns p) (other p) at e (columns q) (other q)) where
  pub failed_after : (gifts : Gifts) (free old new : StreamState) (s input : List ℕ) (es : List (ℕ × Event)) (a : Batch) (o : S) (used taken : ℕ) (p q : P) → used ≤ length input → is_full (columns p) ≡ false → other p ≡ o
      → FailsAfter Got Failed old new (drop used input) taken p q → IsSoFar gifts old s input es a (columns p) used → Fills (Gets m) (Fails m) gifts free new s input es a (columns q) o (other q) (stopped_at (gone q) (used + taken))
  failed_after gifts free old new s input es a o used taken p q within room same h r =
      let all = all_cells Got columns other sorts p h.mid h.items h.got room in
      let over = last h.mid q h.last.at h.last.event h.fault in
      let x : ℕ × Event = (h.last.at, h.last.event) in
      let cells = r.cells ++ emitted_of h.items in
      let conforms = takes_conforms gifts old new (s ++ take used input) (drop used input) (es ++ r.cells) (h.items ++ h.last ∷ []) h.takes r.after in
      let emitted : (es ++ r.cells) ++ emitted_of (h.items ++ h.last ∷ []) ≡ (es ++ cells) ++ x ∷ [] =
      ap (λ (z : List (ℕ × Event)). (es ++ r.cells) ++ z) (emitted_append h.items (h.last ∷ [])) ∙ sym (append_assoc (es ++ r.cells) (emitted_of h.items) (x ∷ [])) ∙ ap (λ (z : List (ℕ × Event)). z ++ x ∷ []) (append_assoc es r.cells (emitted_of h.items)) in
      let bytes = takes_within old new (drop used input) (h.items ++ h.last ∷ []) h.takes in
      let few = bytes_last h.items h.last in
      let begun = begun_end old new (drop used input) h.items h.last h.takes in
      let long = length-take-le (used + taken) input (omega (arith, bytes, h.all, within, length-drop used input)) in
      ends m gifts free new s input es cells a (columns h.mid) (columns q) o (other h.mid) (other q) (cells_append a (columns p) (columns h.mid) r.cells (emitted_of h.items) r.taken all.0) all.1 (all.2 ∙ same) (used + taken) h.last.at h.last.event (gone q) over.0 over.1
      begun.1 begun.0
      (rw h.all (onward gifts new s input used (bytes_of (h.items ++ h.last ∷ [])) ((es ++ cells) ++ x ∷ []) (rw emitted at conforms)))
      (held_longer h.last.event new.held h.last.used _ (omega (arith, few, h.all, long)) (last_held old new (drop used input) h.items h.last h.takes))

all_of : (s input : List ℕ) (used : ℕ) → (s ++ take used input) ++ drop used input ≡ s ++ input
all_of s input used = append_assoc s (take used input) (drop used input) ∙ ap (λ (z : List ℕ). s ++ z) (take-append-drop used input)

refuses_free : (o : Option Refusal) (gifts : Gifts) (free old : StreamState) (s input : List ℕ) (es : List (ℕ × Event)) (used : ℕ) (r : Refusal) → old.rules ≡ free.rules
    → Refuses o gifts old (s ++ take used input) es (drop used input) r → Refuses o gifts free s es input r
refuses_free None gifts free old s input es used r rules h = rw (all_of s input used, rules) at h
refuses_free (Some before) gifts free old s input es used r rules h = h

-- a refusal, of the whole input
pub refuses_on : (gifts : Gifts) (free old : StreamState) (s input : List ℕ) (es : List (ℕ × Event)) (used : ℕ) (r : Refusal) → old.rules ≡ free.rules → old.refusal ≡ free.refusal
    → Refuses old.refusal gifts old (s ++ take used input) es (drop used input) r → Refuses free.refusal gifts free s es input r
refuses_on gifts free old s input es used r rules same h =
    refuses_free free.refusal gifts free old s input es used r rules (subst (λ (o : Option Refusal). Refuses o gifts old (s ++ take used input) es (drop used input) r) same h)

-- more is wanted after all of the input
pub waits_on : (gifts : Gifts) (old new : StreamState) (s input : List ℕ) (es : List (ℕ × Event)) (used taken : ℕ) → LeadsAfter gifts old (s ++ take used input) es (drop used input) (steps.More taken) new
    → (taken ≡ length (drop used input)) × (new.refusal ≡ None) × AfterGifts gifts new (s ++ input) es × Says new.rules (start_with gifts) (s ++ input) es Waits
waits_on gifts old new s input es used taken h = rw (all_of s input used) at h

-- a step from where nothing is refused leaves it so
pub same_refusal : (mid old : Option Refusal) → mid ≡ old → (new : Option Refusal) → new ≡ None → ((r : Refusal) → mid ≡ Some r → ⊥) → new ≡ old
same_refusal None old is new none some = none ∙ is
same_refusal (Some r) old is new none some = absurd (some r refl)
