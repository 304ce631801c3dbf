-- From one history and one input there is one answer.
use Rattle.std.proofs.Common.{◌≡◌, ℕ, ◌+◌, ◌-◌, ◌≤◌, List, [], ◌∷◌, ◌++◌, length, take, drop, refl, sym, ap, subst, ◌∙◌, append_assoc, inl, inr, arith}
use Rattle.std.specs.Prelude.{Option, Some, None}
use Rattle.std.proofs.lemmas.Bool.{cases_lt}
use Rattle.std.proofs.lemmas.List.{append-nil, append_cancel_left, length-append, length-drop, length-take-le, take-append-drop, nil_from_length}
use Rattle.cqlp_note.specs.declared.refusal.Refusal.{Refusal}
use Rattle.cqlp_note.specs.Limits.{Rules, rules_of}
use Rattle.cqlp_note.proofs.Runs.{runs_compare, runs_stay}
use Rattle.cqlp_cell.specs.Reading as cells
use Rattle.cqlp_decode.specs.declared.step.Step.{Step}
use Rattle.cqlp_decode.specs.declared.step.Step.TheVariants as steps
use Rattle.cqlp_grammar.specs.declared.event.Event as events
use Rattle.cqlp_grammar.specs.declared.event.Finish.{Finish}
use Rattle.cqlp_grammar.specs.declared.event.Finish.TheVariants as finish
use Rattle.cqlp_decode.specs.Reading.{Event, Place, Verdict, Waits, Refused, Gifts, gifts_now, held_after_all, retired, settled, Reads, Says, start_with, step}
use Rattle.cqlp_grammar.specs.Events.{event_of}
use Rattle.cqlp_decode.specs.Progress.{StreamState, Pending, Kept, Skipped, Valued, IsPending}
use Rattle.cqlp_decode.specs.Streams.{Decoding, state, AfterGifts, AfterBy, Conforms, LeadsAfter, Goes, Answers, FinishesBy}
use Rattle.cqlp_laws.specs.OneAnswer as one
use Rattle.cqlp_laws.specs.OneAnswer.{answer_of, AreAlike, IsAtStart, StartAlike, IsHeld, IsOneAnswerOfNew, IsOneAnswerOfRestart, IsOneAnswerOfNext, IsOneAnswerOfFinish, IsOneAnswerOfHeld}
use Rattle.cqlp_laws.proofs.Whole.{no_step, says_once}
use Rattle.cqlp_decode.proofs.Leads.{repeated}
use Rattle.cqlp_decode.proofs.Gets.{take_two, refuses_new}

-- ---- one place

none_more : {X : Type 0} (xs more : List X) → xs ≡ xs ++ more → more ≡ []
none_more xs more same = nil_from_length more (let e = ap length same in omega (arith, e, length-append xs more))

module _ (gifts : Gifts) where
  -- of one stream the same events lead to one place
  pub place_once : (l : Rules) (s : List ℕ) (es : List (ℕ × Event)) (p q : Place) (b c : List ℕ) → Reads l (start_with gifts) s es p b → Reads l (start_with gifts) s es q c → (q ≡ p) × (c ≡ b)
  place_once l s es p q b c x y =
      let r = runs_compare (step l) (start_with gifts) p q s b c es es x y (omega arith) in
      rw (none_more es r.0 r.1) at r.2

  -- no reading of a stream goes further than what it says
  pub no_further : (l : Rules) (s : List ℕ) (es fs : List (ℕ × Event)) (v : Verdict) (p : Place) (b : List ℕ) → Says l (start_with gifts) s es v → Reads l (start_with gifts) s fs p b → length fs ≤ length es
  no_further l s es fs v p b all run = elim (cases_lt (length es) (length fs)) [
    | inl lt ↦
        let c = runs_compare (step l) (start_with gifts) all.0 p s all.1 b es fs all.2 run (omega arith) in
        let none = no_step l all.0 p all.1 b v c.0 all.3 c.2 in
        absurd (omega (arith, ap length (c.1 ∙ ap (λ (x : List (ℕ × Event)). es ++ x) none ∙ append-nil es)))
    | inr le ↦ le
  ]

-- ---- after an event nothing has come

head_none : (head seen : List ℕ) → length head ≡ 4 → [] ≡ head ++ seen → ⊥
head_none head seen four none = omega (arith, ap length none, length-append head seen)

bytes_none : (n : Option ℕ) (seen b : List ℕ) → cells.AreBytes n seen [] → cells.AreBytes n seen b → b ≡ []
bytes_none None seen b none is = is ∙ sym none
bytes_none (Some n) seen b none is = absurd (head_none none.0 seen none.1 none.3)

pub pending_none : (p : Pending) (b : List ℕ) → IsPending p [] → IsPending p b → b ≡ []
pending_none (Kept bytes) b none is = is ∙ sym none
pending_none (Skipped n) b none is = nil_from_length b (is ∙ sym none)
pending_none (Valued u seen) b none is = bytes_none (cells.length_under u) (cells.seen_under u seen) b none is

-- ---- next

take_more : (k n : ℕ) (bytes : List ℕ) → k ≤ n → n ≤ length bytes → (t : List ℕ) × (take n bytes ≡ take k bytes ++ t) × (k + length t ≡ n)
take_more k n bytes le within = (
  take (n - k) (drop k bytes),
  subst (λ (m : ℕ). take m bytes ≡ take k bytes ++ take (n - k) (drop k bytes)) (let e : k + (n - k) ≡ n = omega arith in e) (take_two k (n - k) bytes),
  omega (arith, length-take-le (n - k) (drop k bytes) (omega (arith, length-drop k bytes))),
)

same_head : {X : Type 0} (x y : X) (xs ys : List X) → x ∷ xs ≡ y ∷ ys → x ≡ y
same_head x y xs ys same = cc

module _ (gifts : Gifts) where
  module _ (l : Rules) (s input : List ℕ) (es : List (ℕ × Event)) where
    -- an event ends at one byte
    pub event_once : (p q : Place) (used used' : ℕ) (e e' : ℕ × Event) → used ≤ used' → used' ≤ length input → Reads l (start_with gifts) (s ++ take used input) (es ++ e ∷ []) p [] → Reads l (start_with gifts) (s ++ take used' input) (es ++ e' ∷ []) q [] → (q ≡ p) × (used' ≡ used) × (e' ≡ e)
    event_once p q used used' e e' le within x y =
        let more = take_more used used' input le within in
        let t = more.0 in
        let there : s ++ take used' input ≡ s ++ take used input ++ t = ap (λ (z : List ℕ). s ++ z) more.1 ∙ sym (append_assoc s (take used input) t) in
        let x' = runs_stay (step l) (start_with gifts) (s ++ take used input) t (es ++ e ∷ []) p [] x in
        let y' : Reads l (start_with gifts) (s ++ take used input ++ t) (es ++ e' ∷ []) q [] = subst (λ (z : List ℕ). Reads l (start_with gifts) z (es ++ e' ∷ []) q []) there y in
        let r = runs_compare (step l) (start_with gifts) p q (s ++ take used input ++ t) t [] (es ++ e ∷ []) (es ++ e' ∷ []) x' y' (omega (arith, length-append es (e ∷ []), length-append es (e' ∷ []))) in
        let none : r.0 ≡ [] = nil_from_length r.0 (omega (arith, ap length r.1, length-append (es ++ e ∷ []) r.0, length-append es (e ∷ []), length-append es (e' ∷ []))) in
        let end = rw none at r.2 in
        let same : es ++ e' ∷ [] ≡ es ++ e ∷ [] = r.1 ∙ ap (λ (z : List (ℕ × Event)). es ++ e ∷ [] ++ z) none ∙ append-nil (es ++ e ∷ []) in
        (end.0, omega (arith, more.2, ap length end.1), same_head e' e [] [] (append_cancel_left es (e' ∷ []) (e ∷ []) same))

    -- where all events of the bytes were handed out there is none more
    pub no_event : (v : Verdict) (p : Place) (used : ℕ) (e : ℕ × Event) → Says l (start_with gifts) (s ++ input) es v → Reads l (start_with gifts) (s ++ take used input) (es ++ e ∷ []) p [] → ⊥
    no_event v p used e all run =
        let there : s ++ take used input ++ drop used input ≡ s ++ input = append_assoc s (take used input) (drop used input) ∙ ap (λ (z : List ℕ). s ++ z) (take-append-drop used input) in
        let on = runs_stay (step l) (start_with gifts) (s ++ take used input) (drop used input) (es ++ e ∷ []) p [] run in
        let few = no_further gifts l (s ++ input) es (es ++ e ∷ []) v p (drop used input) all (subst (λ (z : List ℕ). Reads l (start_with gifts) z (es ++ e ∷ []) p (drop used input)) there on) in
        omega (arith, few, length-append es (e ∷ []))

  -- ---- two decoders

  alike_same : (d d' : StreamState) → d' ≡ d → AreAlike d d'
  alike_same d d' same = record { rules = ap (λ (z : StreamState). z.rules) same; refusal = ap (λ (z : StreamState). z.refusal) same; nodes = ap (λ (z : StreamState). z.place.nodes) same; given = ap (λ (z : StreamState). z.given) same; held = ap (λ (z : StreamState). z.place.given) same }

  -- what was read, where nothing has come of what is next
  reads_to : (l : Rules) (d : StreamState) (s : List ℕ) (es : List (ℕ × Event)) → d.rules ≡ l → d.refusal ≡ None → IsPending d.pending [] → AfterGifts gifts d s es → (p : Place) × Reads l (start_with gifts) s es p [] × (d.place ≡ settled p)
  reads_to l d s es rules none begun a =
      let st : Conforms gifts d s es = subst (λ (o : Option Refusal). AfterBy o gifts d s es) none a in
      (st.place, subst (λ (z : Rules). Reads z (start_with gifts) s es st.place []) rules (subst (λ (b : List ℕ). Reads d.rules (start_with gifts) s es st.place b) (pending_none d.pending st.bytes begun st.pending) st.read), st.here)

  same_nodes : (l : Rules) (d d' : StreamState) (s : List ℕ) (es : List (ℕ × Event)) → d.rules ≡ l → d'.rules ≡ l → (o o' : Option Refusal) → AfterBy o gifts d s es → AfterBy o' gifts d' s es → d'.place.nodes ≡ d.place.nodes
  same_nodes l d d' s es is is' None None a a' =
      ap (λ (p : Place). p.nodes) a'.here ∙ ap (λ (p : Place). p.nodes) (place_once gifts l s es a.place a'.place a.bytes a'.bytes (rw is at a.read) (rw is' at a'.read)).0 ∙ sym (ap (λ (p : Place). p.nodes) a.here)
  same_nodes l d d' s es is is' None (Some r) a a' =
      a'.nodes ∙ ap (λ (p : Place). p.nodes) (place_once gifts l s es a.place a'.place a.bytes a'.bytes (rw is at a.read) (rw is' at a'.read)).0 ∙ sym (ap (λ (p : Place). p.nodes) a.here)
  same_nodes l d d' s es is is' (Some r) None a a' =
      ap (λ (p : Place). p.nodes) a'.here ∙ ap (λ (p : Place). p.nodes) (place_once gifts l s es a.place a'.place a.bytes a'.bytes (rw is at a.read) (rw is' at a'.read)).0 ∙ sym a.nodes
  same_nodes l d d' s es is is' (Some r) (Some r') a a' =
      a'.nodes ∙ ap (λ (p : Place). p.nodes) (place_once gifts l s es a.place a'.place a.bytes a'.bytes (rw is at a.read) (rw is' at a'.read)).0 ∙ sym a.nodes

  same_held : (l : Rules) (d d' : StreamState) (s : List ℕ) (es : List (ℕ × Event)) → d.rules ≡ l → d'.rules ≡ l → (o o' : Option Refusal) → o' ≡ o → AfterBy o gifts d s es → AfterBy o' gifts d' s es → d'.place.given ≡ d.place.given
  same_held l d d' s es is is' None None same a a' =
      ap (λ (p : Place). p.given) a'.here ∙ ap (λ (p : Place). (settled p).given) (place_once gifts l s es a.place a'.place a.bytes a'.bytes (rw is at a.read) (rw is' at a'.read)).0 ∙ sym (ap (λ (p : Place). p.given) a.here)
  same_held l d d' s es is is' None (Some r) same a a' = absurd cc
  same_held l d d' s es is is' (Some r) None same a a' = absurd cc
  same_held l d d' s es is is' (Some r) (Some r') same a a' =
      a'.given ∙ ap (λ (p : Place). held_after_all (gifts_now p.gifts) (retired p.given)) (place_once gifts l s es a.place a'.place a.bytes a'.bytes (rw is at a.read) (rw is' at a'.read)).0 ∙ sym a.given

  same_refusal : (r r' : Refusal) → ◌≡◌ {A = Verdict} (Refused r'.at r'.why) (Refused r.at r.why) → r' ≡ r
  same_refusal r r' same = let at : r'.at ≡ r.at = cc in let why : r'.why ≡ r.why = cc in λ i. record { at = at i; why = why i }

  -- ---- next

  module _ (old new new' : StreamState) (s input : List ℕ) (es : List (ℕ × Event)) where
    event_event : (at at' used used' : ℕ) (e e' : events.Event) → Goes old (steps.Event at used e) new → Goes old (steps.Event at' used' e') new' → LeadsAfter gifts old s es input (steps.Event at used e) new → LeadsAfter gifts old s es input (steps.Event at' used' e') new'
        → (answer_of (steps.Event at' used' e') ≡ answer_of (steps.Event at used e)) × AreAlike new new'
    event_event at at' used used' e e' g g' a a' =
        let x = reads_to old.rules new (s ++ take used input) (es ++ (at, event_of e) ∷ []) g.2 a.1 a.2 a.3 in
        let y = reads_to old.rules new' (s ++ take used' input) (es ++ (at', event_of e') ∷ []) g'.2 a'.1 a'.2 a'.3 in
        let once : (y.0 ≡ x.0) × (used' ≡ used) × ◌≡◌ {A = ℕ × Event} (at', event_of e') (at, event_of e) = elim (cases_lt used' used) [
          | inl lt ↦ let r = event_once old.rules s input es y.0 x.0 used' used (at', event_of e') (at, event_of e) (omega arith) a.0 y.1 x.1 in (sym r.0, sym r.1, sym r.2)
          | inr le ↦ event_once old.rules s input es x.0 y.0 used used' (at, event_of e) (at', event_of e') le a'.0 x.1 y.1
        ] in (
          λ i. one.Hands ((once.2 i).0) (once.1 i) ((once.2 i).1),
          record { rules = g'.2 ∙ sym g.2; refusal = a'.1 ∙ sym a.1; nodes = ap (λ (p : Place). p.nodes) y.2 ∙ ap (λ (p : Place). p.nodes) once.0 ∙ sym (ap (λ (p : Place). p.nodes) x.2); given = g'.4 ∙ sym g.4; held = ap (λ (p : Place). p.given) y.2 ∙ ap (λ (p : Place). (settled p).given) once.0 ∙ sym (ap (λ (p : Place). p.given) x.2) },
        )

    event_and_all : (l : Rules) → old.rules ≡ l → (v : Verdict) (at used : ℕ) (e : events.Event) → Goes old (steps.Event at used e) new → LeadsAfter gifts old s es input (steps.Event at used e) new → Says l (start_with gifts) (s ++ input) es v → ⊥
    event_and_all l is v at used e g a all =
        let x = reads_to l new (s ++ take used input) (es ++ (at, event_of e) ∷ []) (g.2 ∙ is) a.1 a.2 a.3 in
        no_event l s input es v x.0 used (at, event_of e) all x.1

    more_more : (used used' : ℕ) → Goes old (steps.More used) new → Goes old (steps.More used') new' → LeadsAfter gifts old s es input (steps.More used) new → LeadsAfter gifts old s es input (steps.More used') new'
        → (answer_of (steps.More used') ≡ answer_of (steps.More used)) × AreAlike new new'
    more_more used used' g g' a a' = (
      ap one.Wants (a'.0 ∙ sym a.0),
      record { rules = g'.0 ∙ sym g.0; refusal = a'.1 ∙ sym a.1; nodes = same_nodes old.rules new new' (s ++ input) es g.0 g'.0 new.refusal new'.refusal a.2 a'.2; given = g'.2 ∙ sym g.2; held = same_held old.rules new new' (s ++ input) es g.0 g'.0 new.refusal new'.refusal (a'.1 ∙ sym a.1) a.2 a'.2 },
    )

    refused_refused : (r r' : Refusal) → old.refusal ≡ None → Goes old (steps.Refused r) new → Goes old (steps.Refused r') new' → LeadsAfter gifts old s es input (steps.Refused r) new → LeadsAfter gifts old s es input (steps.Refused r') new'
        → (answer_of (steps.Refused r') ≡ answer_of (steps.Refused r)) × AreAlike new new'
    refused_refused r r' none g g' a a' =
        let x = refuses_new old.refusal gifts old s es input r none a.2 in
        let y = refuses_new old.refusal gifts old s es input r' none a'.2 in
        let same = same_refusal r r' (says_once old.rules (start_with gifts) (s ++ input) es es (Refused r.at r.why) (Refused r'.at r'.why) x y).1 in (
          ap one.Refuses same,
          record { rules = g'.0 ∙ sym g.0; refusal = a'.0 ∙ ap Some same ∙ sym a.0; nodes = same_nodes old.rules new new' s es g.0 g'.0 new.refusal new'.refusal a.1 a'.1; given = g'.2 ∙ sym g.2; held = same_held old.rules new new' s es g.0 g'.0 new.refusal new'.refusal (a'.0 ∙ ap Some same ∙ sym a.0) a.1 a'.1 },
        )

    more_refused : (used : ℕ) (r : Refusal) → old.refusal ≡ None → Goes old (steps.More used) new → LeadsAfter gifts old s es input (steps.More used) new → LeadsAfter gifts old s es input (steps.Refused r) new' → ⊥
    more_refused used r none g a a' =
        let x : Says old.rules (start_with gifts) (s ++ input) es Waits = rw g.0 at a.3 in
        let same = (says_once old.rules (start_with gifts) (s ++ input) es es Waits (Refused r.at r.why) x (refuses_new old.refusal gifts old s es input r none a'.2)).1 in
        cc

  next_new : (old new new' : StreamState) (s input : List ℕ) (es : List (ℕ × Event)) (x y : Step) → old.refusal ≡ None → AfterGifts gifts old s es → Answers old input x new → Answers old input y new' → (answer_of y ≡ answer_of x) × AreAlike new new'
  next_new old new new' s input es (steps.Event at used e) (steps.Event at' used' e') none a ax ay = event_event old new new' s input es at at' used used' e e' ax.0 ay.0 (ax.1 gifts s es a) (ay.1 gifts s es a)
  next_new old new new' s input es (steps.Event at used e) (steps.More used') none a ax ay = absurd (event_and_all old new new' s input es new'.rules (sym ay.0.0) Waits at used e ax.0 (ax.1 gifts s es a) (ay.1 gifts s es a).3)
  next_new old new new' s input es (steps.Event at used e) (steps.Refused r) none a ax ay = absurd (event_and_all old new new' s input es old.rules refl (Refused r.at r.why) at used e ax.0 (ax.1 gifts s es a) (refuses_new old.refusal gifts old s es input r none (ay.1 gifts s es a).2))
  next_new old new new' s input es (steps.More used) (steps.Event at used' e) none a ax ay = absurd (event_and_all old new' new s input es new.rules (sym ax.0.0) Waits at used' e ay.0 (ay.1 gifts s es a) (ax.1 gifts s es a).3)
  next_new old new new' s input es (steps.More used) (steps.More used') none a ax ay = more_more old new new' s input es used used' ax.0 ay.0 (ax.1 gifts s es a) (ay.1 gifts s es a)
  next_new old new new' s input es (steps.More used) (steps.Refused r) none a ax ay = absurd (more_refused old new new' s input es used r none ax.0 (ax.1 gifts s es a) (ay.1 gifts s es a))
  next_new old new new' s input es (steps.Refused r) (steps.Event at used e) none a ax ay = absurd (event_and_all old new' new s input es old.rules refl (Refused r.at r.why) at used e ay.0 (ay.1 gifts s es a) (refuses_new old.refusal gifts old s es input r none (ax.1 gifts s es a).2))
  next_new old new new' s input es (steps.Refused r) (steps.More used) none a ax ay = absurd (more_refused old new' new s input es used r none ay.0 (ay.1 gifts s es a) (ax.1 gifts s es a))
  next_new old new new' s input es (steps.Refused r) (steps.Refused r') none a ax ay = refused_refused old new new' s input es r r' none ax.0 ay.0 (ax.1 gifts s es a) (ay.1 gifts s es a)

pub one_next : IsOneAnswerOfNext
one_next gifts old new new' s input es x y a ax ay = by_refusal old.refusal refl
  where
    by_refusal : (o : Option Refusal) → old.refusal ≡ o → (answer_of y ≡ answer_of x) × AreAlike new new'
    by_refusal None none = next_new gifts old new new' s input es x y none a ax ay
    by_refusal (Some r) is =
        let p = repeated old new x old.refusal r is ax.2 in
        let q = repeated old new' y old.refusal r is ay.2 in
        (ap answer_of (q.0 ∙ sym p.0), alike_same gifts new new' (q.1 ∙ sym p.1))

-- ---- new, finish, held

pub one_start : (l : Rules) (d d' : Decoding) → IsAtStart l d → IsAtStart l d' → StartAlike d d'
one_start l d d' n n' =
    let st : Conforms [] (state d) [] [] = subst (λ (o : Option Refusal). AfterBy o [] (state d) [] []) n.unrefused n.fresh in
    let st' : Conforms [] (state d') [] [] = subst (λ (o : Option Refusal). AfterBy o [] (state d') [] []) n'.unrefused n'.fresh in (
      record { rules = n'.rules ∙ sym n.rules; refusal = n'.unrefused ∙ sym n.unrefused; nodes = n'.nothing_held.1 ∙ sym n.nothing_held.1; given = n'.nothing_given ∙ sym n.nothing_given; held = ap (λ (p : Place). p.given) (st'.here ∙ ap settled st'.read.0) ∙ sym (ap (λ (p : Place). p.given) (st.here ∙ ap settled st.read.0)) },
      st.here ∙ ap settled st.read.0,
      st'.here ∙ ap settled st'.read.0,
      (n'.nothing_held.0 ∙ sym n.nothing_held.0, n'.nothing_held.2 ∙ sym n.nothing_held.2),
    )

pub one_new : IsOneAnswerOfNew
one_new limits d d' n n' = one_start (rules_of limits) d d' n n'

pub one_restart : IsOneAnswerOfRestart
one_restart limits old new made same n m = one_start (rules_of limits) made new m (subst (λ (l : Rules). IsAtStart l new) same n)

pub finish_by : (o : Option Refusal) (s : List ℕ) (es : List (ℕ × Event)) (f f' : Finish) → FinishesBy o s es f → FinishesBy o s es f' → f' ≡ f
finish_by (Some r) s es f f' h h' = h' ∙ sym h
finish_by None s es (finish.Whole b) (finish.Whole b') h h' = ap (λ (n : ℕ). finish.Whole n) (h'.0 ∙ sym h.0)
finish_by None s es (finish.Whole b) (finish.Cut k b') h h' = absurd (omega (arith, h.2, h'.2 h.1))
finish_by None s es (finish.Whole b) (finish.Refused r) h h' = absurd h'
finish_by None s es (finish.Cut k b) (finish.Whole b') h h' = absurd (omega (arith, h'.2, h.2 h'.1))
finish_by None s es (finish.Cut k b) (finish.Cut k' b') h h' = let at : k' ≡ k = h'.1 ∙ sym h.1 in let long : b' ≡ b = h'.0 ∙ sym h.0 in λ i. finish.Cut (at i) (long i)
finish_by None s es (finish.Cut k b) (finish.Refused r) h h' = absurd h'
finish_by None s es (finish.Refused r) f' h h' = absurd h

pub one_finish : IsOneAnswerOfFinish
one_finish d s es f f' h h' = finish_by d.refusal s es f f' h h'

pub one_held : IsOneAnswerOfHeld
one_held d h h' a a' =
    let bytes = a'.bytes ∙ sym a.bytes in
    let entries = a'.entries ∙ sym a.entries in
    let levels = a'.levels ∙ sym a.levels in
    λ i. record { bytes = bytes i; entries = entries i; levels = levels i }
