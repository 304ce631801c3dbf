-- What one call does, over the whole stream.
use Rattle.std.proofs.Common.{◌≡◌, ℕ, ◌+◌, ◌≤◌, Bool, false, List, [], ◌∷◌, ◌++◌, length, take, drop, refl, sym, ap, subst, ◌∙◌, arith}
use Rattle.std.specs.Prelude.{Option, Some, None, if◌then◌else◌}
use Rattle.std.proofs.lemmas.List.{length-append, length-take-le, drop_all}
use Rattle.cqlp_note.specs.declared.refusal.Refusal.{Refusal}
use Rattle.cqlp_note.specs.Limits.{Rules}
use Rattle.cqlp_note.specs.Reader.{Got, says}
use Rattle.cqlp_note.specs.Step.{Emitted}
use Rattle.cqlp_note.proofs.Yields.{says_exact, emitted_is}
use Rattle.cqlp_note.proofs.Runs.{runs_then, runs_stay}
use Rattle.cqlp_decode.specs.declared.advance.EventAdvance.TheVariants as advance
use Rattle.cqlp_decode.specs.declared.advance.EventOutline.{EventOutline}
use Rattle.cqlp_grammar.specs.declared.event.Event.{Event}
use Rattle.cqlp_decode.specs.declared.step.Step.{Step}
use Rattle.cqlp_decode.specs.declared.step.Step.TheVariants as steps
use Rattle.cqlp_decode.specs.Reading as reading
use Rattle.cqlp_decode.specs.Reading.{Gifts, Place, gifts_now, gifts_later, settled, retired, start_with, step, Reads}
use Rattle.cqlp_grammar.specs.Events.{event_of}
use Rattle.cqlp_decode.specs.Progress.{StreamState, AdvancesFrom, Hands, event_at, frame_after, due_after}
use Rattle.cqlp_decode.specs.Streams.{AfterGifts, AfterBy, LeadsAfter, Goes, Refuses, Repeats, frame_from, open_after, open_from}
use Rattle.cqlp_decode.proofs.Gifts.{settled_none, settled_step, retired_all}

-- ---- one more event

frame_more : (frame : ℕ) (es : List (ℕ × reading.Event)) (at : ℕ) (e : reading.Event) → frame_from frame (es ++ (at, e) ∷ []) ≡ frame_after (frame_from frame es) at e
frame_more frame [] at e = refl
frame_more frame (x ∷ es) at e = frame_more (frame_after frame x.0 x.1) es at e

open_more : (b : Bool) (es : List (ℕ × reading.Event)) (at : ℕ) (e : reading.Event) → open_from b (es ++ (at, e) ∷ []) ≡ open_after e
open_more b [] at e = refl
open_more b (x ∷ es) at e = open_more (open_after x.1) es at e

due_is : (e : reading.Event) → due_after e ≡ (if open_after e then 1 else 0)
due_is (reading.End n) = refl
due_is e = refl

run_more : (l : Rules) (gifts : Gifts) (p q : Place) (s b t : List ℕ) (es : List (ℕ × reading.Event)) (at : ℕ) (e : reading.Event) (x : Emitted reading.Event Place) → Reads l (start_with gifts) s es p b
    → says (step l p) 0 (b ++ t) ≡ Got x (length b + length t) → x.at ≡ at → x.event ≡ e → x.after (length b + length t) ≡ q → Reads l (start_with gifts) (s ++ t) (es ++ (at, e) ∷ []) q []
run_more l gifts p q s b t es at e x run said a w after =
    let k = length b + length t in
    let none : drop k (b ++ t) ≡ [] = drop_all k (b ++ t) (omega (arith, length-append b t)) in
    runs_then (step l) (start_with gifts) p q (s ++ t) (b ++ t) [] es ((at, e) ∷ []) (runs_stay (step l) (start_with gifts) s t es p b run) (k, x.after, said ∙ ap (λ (z : Emitted reading.Event Place). Got z k) (emitted_is x at e a w), (sym after, sym none))

-- ---- after a refusal

pub repeated : (old new : StreamState) (x : Step) (o : Option Refusal) (r : Refusal) → o ≡ Some r → Repeats o old x new → (x ≡ steps.Refused r) × (new ≡ old)
repeated old new x None r is h = absurd cc
repeated old new x (Some b) r is h = let same : b ≡ r = cc in (h.0 ∙ ap (λ (z : Refusal). steps.Refused z) same, h.1)

pub unrefused : (old new : StreamState) (x : Step) (o : Option Refusal) → o ≡ None → Repeats o old x new
unrefused old new x None is = tt
unrefused old new x (Some r) is = absurd cc

-- ---- one call

-- where nothing is given later, the reading's step at a place is the decoder's
same_said : (l : Rules) (p q : Place) (bytes : List ℕ) → q ≡ settled p → gifts_later p.gifts ≡ [] → says (step l p) 0 bytes ≡ says (step l q) 0 bytes
same_said l p q bytes here none = ap (λ r. says r 0 bytes) (settled_step l p none ∙ ap (λ (z : Place). step l z) (sym here))

module _ (old new : StreamState) (input s : List ℕ) (es : List (ℕ × reading.Event)) where
  module _ (gifts : Gifts) where
    pub more_leads : (o : Option Refusal) (used : ℕ) → AdvancesFrom o old input (advance.More used) new → AfterBy o gifts old s es → LeadsAfter gifts old s es input (steps.More used) new
    more_leads (Some r) used a after = absurd (let e = a.0 in cc)
    more_leads None used a after =
        let m = a.0.waits after.bytes after.pending in
        let run = runs_stay (step old.rules) (start_with gifts) s input es after.place after.bytes after.read in
        let waits = same_said old.rules after.place old.place (after.bytes ++ input) after.here after.all ∙ m.0 in
        rw (a.1, a.2) (
          a.0.all,
          refl,
          record {
            place = after.place;
            bytes = after.bytes ++ input;
            pending = m.1;
            read = run;
            here = a.0.place ∙ after.here;
            all = after.all;
            count = rw a.0.place (omega (arith, after.count, length-append s input, length-append after.bytes input));
            frame = a.0.frame ∙ after.frame;
            due = rw a.0.place after.due;
          },
          (after.place, after.bytes ++ input, run, rw waits tt),
        )

    pub hands_conforms : (at used : ℕ) (e : reading.Event) → Hands old input at used e new → new.refusal ≡ None → new.rules ≡ old.rules → AfterBy None gifts old s es → AfterGifts gifts new (s ++ take used input) (es ++ (at, e) ∷ [])
    hands_conforms at used e h none rules after =
        let t = take used input in
        let g = h.gives after.bytes after.pending in
        let long : length t ≡ used = length-take-le used input h.within in
        let given = same_said old.rules after.place old.place (after.bytes ++ input) after.here after.all ∙ g.1 in
        let one = says_exact (step old.rules after.place) after.bytes input g.0 used given in
        let run = run_more old.rules gifts after.place new.place s after.bytes t es at e g.0 after.read (rw long one) g.2 g.3 (rw long g.4) in
        rw (none, rules) (record {
          place = new.place;
          bytes = [];
          pending = h.begun;
          read = run;
          here = settled_none new.place h.gifts;
          all = ap gifts_later h.gifts;
          count = omega (arith, h.offset after.bytes after.pending, after.count, length-append s t, long);
          frame = h.frame ∙ ap (λ (f : ℕ). frame_after f at e) after.frame ∙ sym (frame_more 0 es at e);
          due = h.due ∙ due_is e ∙ ap (λ (b : Bool). if b then 1 else 0) (sym (open_more false es at e));
        })

    pub hands_leads : (at used : ℕ) (e : Event) → Hands old input at used (event_of e) new → new.refusal ≡ None → new.rules ≡ old.rules → AfterBy None gifts old s es → LeadsAfter gifts old s es input (steps.Event at used e) new
    hands_leads at used e h none rules after = (h.within, none, h.begun, hands_conforms at used (event_of e) h none rules after)

    pub event_leads : (o : Option Refusal) (at used : ℕ) (w : EventOutline) (e : Event) → event_of e ≡ event_at new.held input w → AdvancesFrom o old input (advance.Event at used w) new → AfterBy o gifts old s es → LeadsAfter gifts old s es input (steps.Event at used e) new
    event_leads (Some r) at used w e is a after = absurd (let e = a.0 in cc)
    event_leads None at used w e is a after = hands_leads at used e (rw is a.0.1) a.1 a.2 after

    pub refused_leads : (o : Option Refusal) → old.refusal ≡ o → (r : Refusal) → new.place.nodes ≡ old.place.nodes → AdvancesFrom o old input (advance.Refused r) new → AfterBy o gifts old s es → LeadsAfter gifts old s es input (steps.Refused r) new
    refused_leads (Some before) eq r nodes a after =
        let same : r ≡ before = let e = a.0 in cc in
        subst (λ (z : StreamState). (z.refusal ≡ Some r) × AfterGifts gifts z s es × Refuses old.refusal gifts old s es input r) (sym a.1) (
          eq ∙ ap Some (sym same),
          subst (λ (o : Option Refusal). AfterBy o gifts old s es) (sym eq) after,
          subst (λ (o : Option Refusal). Refuses o gifts old s es input r) (sym eq) same,
        )
    refused_leads None eq r nodes a after =
        let bad = same_said old.rules after.place old.place (after.bytes ++ input) after.here after.all ∙ a.0 after.bytes after.pending in
        let run = runs_stay (step old.rules) (start_with gifts) s input es after.place after.bytes after.read in
        let held = a.4 ∙ ap (λ (z : Place). retired z.given) after.here ∙ retired_all (gifts_now after.place.gifts) after.place.given in
        rw (a.1, a.2, eq) (
          refl,
          record {
            place = after.place;
            bytes = after.bytes;
            read = after.read;
            looked = input;
            refused = bad;
            all = after.all;
            nodes = nodes ∙ ap (λ (z : Place). z.nodes) after.here;
            given = held;
          },
          (after.place, after.bytes ++ input, run, rw bad refl),
        )

  pub more_uses : (o : Option Refusal) (used : ℕ) → AdvancesFrom o old input (advance.More used) new → used ≡ length input
  more_uses (Some r) used a = absurd (let e = a.0 in cc)
  more_uses None used a = a.0.all

  pub event_uses : (o : Option Refusal) (at used : ℕ) (w : EventOutline) → AdvancesFrom o old input (advance.Event at used w) new → used ≤ length input
  event_uses (Some r) at used w a = absurd (let e = a.0 in cc)
  event_uses None at used w a = a.0.1.within

  pub more_goes : (o : Option Refusal) (used : ℕ) → AdvancesFrom o old input (advance.More used) new → Goes old (steps.More used) new
  more_goes (Some r) used a = absurd (let e = a.0 in cc)
  more_goes None used a = (a.2, a.1, a.3)

  pub event_goes : (o : Option Refusal) (at used : ℕ) (w : EventOutline) (e : Event) → event_of e ≡ event_at new.held input w → AdvancesFrom o old input (advance.Event at used w) new → Goes old (steps.Event at used e) new
  event_goes (Some r) at used w e is a = absurd (let e = a.0 in cc)
  event_goes None at used w e is a = (a.0.1.pays, rw is a.0.1.lent, a.2, a.1, a.3, rw is a.0.1.kept)

  pub refused_goes : (o : Option Refusal) → old.refusal ≡ o → (r : Refusal) → AdvancesFrom o old input (advance.Refused r) new → Goes old (steps.Refused r) new
  refused_goes (Some before) eq r a =
      let same : r ≡ before = let e = a.0 in cc in
      (ap (λ (z : StreamState). z.rules) a.1, ap (λ (z : StreamState). z.refusal) a.1 ∙ eq ∙ ap Some (sym same), ap (λ (z : StreamState). z.given) a.1)
  refused_goes None eq r a = (a.2, a.1, a.3)

  -- after a refusal
  pub event_repeats : (o : Option Refusal) (at used : ℕ) (w : EventOutline) (e : Event) → AdvancesFrom o old input (advance.Event at used w) new → Repeats o old (steps.Event at used e) new
  event_repeats (Some r) at used w e a = absurd (let e = a.0 in cc)
  event_repeats None at used w e a = tt

  pub more_repeats : (o : Option Refusal) (used : ℕ) → AdvancesFrom o old input (advance.More used) new → Repeats o old (steps.More used) new
  more_repeats (Some r) used a = absurd (let e = a.0 in cc)
  more_repeats None used a = tt

  pub refused_repeats : (o : Option Refusal) (r : Refusal) → AdvancesFrom o old input (advance.Refused r) new → Repeats o old (steps.Refused r) new
  refused_repeats (Some before) r a =
      let same : r ≡ before = let e = a.0 in cc in
      (ap (λ (x : Refusal). steps.Refused x) same, a.1)
  refused_repeats None r a = tt
