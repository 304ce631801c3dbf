-- What is used of a piece ends with an event.
use Rattle.std.proofs.Common.{◌≡◌, ℕ, ◌+◌, List, [], ◌∷◌, ◌++◌, length, take, drop, refl, sym, ap, ◌∙◌, subst, append_assoc, inr, arith}
use Rattle.std.specs.Prelude.{Option, Some, None}
use Rattle.std.proofs.lemmas.List.{length-append, nil_from_length, take-append-drop}
use Rattle.cqlp_note.specs.declared.refusal.Refusal.{Refusal}
use Rattle.cqlp_note.specs.Limits.{Rules}
use Rattle.cqlp_cell.specs.Reading.{AreBytes, length_under, seen_under}
use Rattle.cqlp_grammar.specs.declared.sink.Sink as sink
use Rattle.cqlp_decode.specs.declared.feeding.Fed.{Fed}
use Rattle.cqlp_decode.specs.declared.feeding.Fed.TheVariants as fed
use Rattle.cqlp_decode.specs.declared.step.Step.TheVariants as steps
use Rattle.cqlp_decode.specs.Reading.{Event, Gifts, Place, Reads, start_with}
use Rattle.cqlp_decode.specs.Progress.{StreamState, Pending, Kept, Skipped, Valued, IsPending}
use Rattle.cqlp_decode.specs.Streams.{AfterBy, AfterGifts, Conforms, LeadsAfter, Goes}
use Rattle.cqlp_decode.specs.Sinks.{Gets}
use Rattle.cqlp_decode.specs.Cells.{Item, TakesItems, GetsAll, HandsOut, FailsAfter, bytes_of}
use Rattle.cqlp_decode.specs.Draining.{Drains, DrainsAll, DrainsPiece, DrainsTo, EndsAtEvent, FailsWithin, HasRefused}
use Rattle.cqlp_decode.proofs.Gets.{drains_rest, refuses_new}
use Rattle.cqlp_decode.proofs.Taken.{drained}

-- ---- nothing is under way

no_bytes : (o : Option ℕ) (seen b : List ℕ) → AreBytes o seen [] → AreBytes o seen b → b ≡ []
no_bytes None seen b none is = is ∙ sym none
no_bytes (Some n) seen b none is = absurd (let long = none.1 in omega (arith, long, ap length none.3, length-append none.0 seen))

pub nothing_pending : (p : Pending) (b : List ℕ) → IsPending p [] → IsPending p b → b ≡ []
nothing_pending (Kept bytes) b none is = is ∙ sym none
nothing_pending (Skipped n) b none is = nil_from_length b (omega (arith, none, is))
nothing_pending (Valued u seen) b none is = no_bytes (length_under u) (seen_under u seen) b none is

pub ends_there : (gifts : Gifts) (d : StreamState) (s : List ℕ) (es : List (ℕ × Event)) → d.refusal ≡ None → IsPending d.pending [] → AfterGifts gifts d s es → (q : Place) × Reads d.rules (start_with gifts) s es q []
ends_there gifts d s es none begun a =
    let st : Conforms gifts d s es = subst (λ (o : Option Refusal). AfterBy o gifts d s es) none a in
    (st.place, subst (λ (b : List ℕ). Reads d.rules (start_with gifts) s es st.place b) (nothing_pending d.pending st.bytes begun st.pending) st.read)

pub is_none : (o : Option Refusal) → ((r : Refusal) → o ≡ Some r → ⊥) → o ≡ None
is_none None never = refl
is_none (Some r) never = absurd (never r refl)

pub refused_first : (used : ℕ) (q r : Refusal) → used ≡ 0 → q ≡ r → ◌≡◌ {A = Fed} (fed.Refused used q) (fed.Refused 0 r)
refused_first used q r none same = rw (none, same) refl

-- ---- items

begun_last : (old new : StreamState) (input : List ℕ) (x : Item) (xs : List Item) → TakesItems old input (x ∷ xs) new → IsPending new.pending [] × (new.refusal ≡ None)
begun_last old new input x [] t = subst (λ (z : StreamState). IsPending z.pending [] × (z.refusal ≡ None)) (sym t.3) (t.2.3.begun, t.2.0 ∙ t.1)
begun_last old new input x (y ∷ ys) t = begun_last t.0 new (drop x.used input) y ys t.3

some_last : (xs : List Item) (x : Item) → (y : Item) × (ys : List Item) × (xs ++ x ∷ [] ≡ y ∷ ys)
some_last [] x = (x, [], refl)
some_last (y ∷ ys) x = (y, ys ++ x ∷ [], refl)

pub begun_at_fault : {S : Type 0} (Got Failed : S → ℕ → Event → S → Type 0) (old new : StreamState) (input : List ℕ) (used : ℕ) (s t : S) → FailsAfter Got Failed old new input used s t → IsPending new.pending []
begun_at_fault Got Failed old new input used s t h =
    let l = some_last h.items h.last in
    (begun_last old new input l.0 l.1 (subst (λ (z : List Item). TakesItems old input z new) l.2 h.takes)).0

module _ {S : Type 0} (m : sink.Ghosts S) (gifts : Gifts) (s input : List ℕ) (es : List (ℕ × Event)) (v : m.View) where
  -- what was drained, and where what was used ends
  abbrev pub Drained : StreamState → ℕ → S → Type 0
  Drained d n w = (r : Drains m.after gifts d s es (take n input) v (m.view w)) × EndsAtEvent d.rules gifts (s ++ take n input) es r.more n

  module _ (old mid : StreamState) (used taken : ℕ) (t u : S) where
    still_there : mid ≡ old → taken ≡ 0 → u ≡ t → Drained old used t → Drained mid (used + taken) u
    still_there same none seen d =
        let all : used ≡ used + taken = omega (arith, none) in
        subst (λ (z : StreamState). Drained z (used + taken) u) (sym same) (subst (λ (n : ℕ). Drained old n u) all (subst (λ (w : S). Drained old used w) (sym seen) d))

    by_items : (xs : List Item) → TakesItems old (drop used input) xs mid → taken ≡ bytes_of xs → GetsAll (Gets m) t xs u → HandsOut (Gets m) old mid (drop used input) taken t u → m.reports t → Drained old used t → Drained mid (used + taken) u
    by_items [] takes all got h is d = still_there takes all got d
    by_items (x ∷ xs) takes all got h is d =
        let last = begun_last old mid (drop used input) x xs takes in
        let more = drained m old mid (drop used input) taken t u h is gifts (s ++ take used input) (es ++ d.0.more) d.0.conforms in
        let r = drains_rest m.after gifts old mid s input used taken es v (m.view t) (m.view u) d.0 more in
        (r, inr (ends_there gifts mid (s ++ take (used + taken) input) (es ++ r.more) last.1 last.0 r.conforms))

    pub hands_on : HandsOut (Gets m) old mid (drop used input) taken t u → m.reports t → Drained old used t → Drained mid (used + taken) u
    hands_on h is d = by_items h.items h.takes h.all h.got h is d

-- ---- a refusal

module _ {V : Type 0} (f : V → ℕ → Event → V) (gifts : Gifts) (free old new : StreamState) (s input : List ℕ) (used : ℕ) (es : List (ℕ × Event)) (v w : V) (d : Drains f gifts old s es (take used input) v w) where
  all : (s ++ take used input) ++ drop used input ≡ s ++ input
  all = append_assoc s (take used input) (drop used input) ∙ ap (λ (z : List ℕ). s ++ z) (take-append-drop used input)

  pub ends_refused : (free.refusal ≡ None → old.refusal ≡ None) → (r : Refusal) → Goes old (steps.Refused r) new → LeadsAfter gifts old (s ++ take used input) (es ++ d.more) (drop used input) (steps.Refused r) new → EndsAtEvent old.rules gifts (s ++ take used input) es d.more used
      → (x : DrainsAll f gifts free new s es input (take used input) v w) × EndsAtEvent new.rules gifts (s ++ take used input) es x.drains.more used
  ends_refused clear r goes leads ends = (
    record {
      drains = record { more = d.more; conforms = leads.1; got = d.got };
      says = λ none. rw (goes.0, goes.1) (rw all at (refuses_new old.refusal gifts old (s ++ take used input) (es ++ d.more) (drop used input) r (clear none) leads.2));
    },
    subst (λ (l : Rules). EndsAtEvent l gifts (s ++ take used input) es d.more used) (sym goes.0) ends,
  )

-- ---- how a piece ends

module _ {V : Type 0} (f : V → ℕ → Event → V) (faulted : V → ℕ → Event → V → Type 0) (old new : StreamState) (input : List ℕ) (used : ℕ) (v w : V) where
  pub refused_piece : (r : Refusal) → DrainsTo f faulted old input (fed.Refused used r) new v w → (n : ℕ) × DrainsPiece f old new input (take n input) v w
  refused_piece r e = (used, λ gifts s es a. (e gifts s es a).0)

  pub failed_piece : DrainsTo f faulted old input (fed.Fault used) new v w → (n : ℕ) × FailsWithin f faulted old new (take n input) v w
  failed_piece e = (used, λ gifts s es a. (e gifts s es a).0)

pub refused_now : (d : StreamState) (r : Refusal) → d.refusal ≡ Some r → HasRefused d
refused_now d r is = (r, is)
