-- One list of stretches, and one end of it.
use Rattle.std.proofs.Common.{◌≡◌, ℕ, zero, suc, ◌+◌, ◌-◌, ◌<◌, ◌≤◌, ◌^◌, Bool, List, [], ◌∷◌, ◌++◌, length, drop, min, Option, Some, None, refl, sym, ap, inl, inr, ◌∙◌, subst, append-nil, arith}
use Rattle.std.specs.Prelude.{◌⊎◌}
use Rattle.std.proofs.lemmas.Bool.{cases_lt}
use Rattle.cqlp_note.specs.declared.refusal.Refusal.{Refusal}
use Rattle.cqlp_note.specs.Limits.{Rules}
use Rattle.cqlp_grammar.specs.declared.event.Finish.{Finish}
use Rattle.cqlp_grammar.specs.declared.event.Finish.TheVariants as finish
use Rattle.cqlp_decode.specs.Reading.{Event, Verdict, Gifts, Waits, Refused, Says, start_with}
use Rattle.cqlp_decode.specs.Streams.{FinishesBy}
use Rattle.cqlp_laws.proofs.Whole.{says_once}
use Rattle.cqlp_render.specs.declared.text_form.TextForm.{TextForm}
use Rattle.cqlp_render.specs.Showing.{Concludes}
use Rattle.cqlp_skip.specs.declared.frame.OpenFrame.{OpenFrame}
use Rattle.cqlp_skip.specs.Pieces.{refusal_from}
use Rattle.cqlp_skip.specs.Skipping.{Skipping, FinishesAs, finish_from, stream}
use Rattle.cqlp_skip.specs.Stretches.{Stretch, GivenUp, base_after, frame_under_way, stream_offset}
use Rattle.cqlp_skip_laws.specs.Laws.{gifts_of}
use Rattle.cqlp_skip_laws.proofs.Once.{once, refused_same}
use Rattle.cqlp_text.specs.declared.ending.Ending.TheVariants as ending
use Rattle.cqlp_text.specs.Outputs.{Output, with_text}
use Rattle.cqlp_render_skip.specs.Reporting.{Outputs}
use Rattle.cqlp_render_skip.specs.Showing.{FinishesIn, Shows, status_after}
use Rattle.cqlp_render_skip.specs.Texts.{AreGivenNothing, IsLast, any, lines_before, text_with}
use Rattle.cqlp_tool_laws.specs.Skipping.{IsOneAnswer, IsOneCheck, IsOneReport, IsPlain}

-- ---- two lists of stretches

nothing_same : (a b : List Stretch) → AreGivenNothing a → AreGivenNothing b → length b ≡ length a → gifts_of b ≡ gifts_of a
nothing_same [] [] p q long = refl
nothing_same [] (y ∷ ys) p q long = absurd (omega arith)
nothing_same (x ∷ xs) [] p q long = absurd (omega arith)
nothing_same (x ∷ xs) (y ∷ ys) p q long =
    let here : y.gifts ≡ x.gifts = q.0 ∙ sym p.0 in
    let rest : gifts_of ys ≡ gifts_of xs = nothing_same xs ys p.1 q.1 (omega (arith, long)) in
    λ i. here i ∷ rest i

module _ (l : Rules) (xs : List ℕ) where
  -- one more stretch was given up
  pub record GoesFurther (a : List Stretch) : Type 0 where
    pub next : Stretch
    pub given_up : GivenUp l xs (next ∷ a)
    pub plain : AreGivenNothing (next ∷ a)

  further : (a b : List Stretch) (k : ℕ) → length b ≡ suc k + length a → GivenUp l xs a → GivenUp l xs b → AreGivenNothing a → AreGivenNothing b → GoesFurther a
  further a [] k long ga gb p q = absurd (omega (arith, long))
  further a (y ∷ ys) zero long ga gb p q =
      let same : ys ≡ a = once l xs a ys ga gb.2 (nothing_same a ys p q.1 (omega (arith, long))) in
      record {
        next = y;
        given_up = subst (λ (z : List Stretch). GivenUp l xs (y ∷ z)) same gb;
        plain = (q.0, p);
      }
  further a (y ∷ ys) (suc k) long ga gb p q = further a ys k (omega (arith, long)) ga gb.2 p q.1

  -- what the bytes of the stretch after these say
  abbrev Reported : List Stretch → List (ℕ × Event) → Verdict → Type 0
  Reported a es v = Says l (start_with []) (drop (base_after a) xs) es v

  reported_further : (a : List Stretch) (g : GoesFurther a) → Reported a g.next.events (Refused g.next.refusal.at g.next.refusal.why) × (frame_under_way g.next.events ≡ Some g.next.frame)
  reported_further a g =
      let from : g.next.from ≡ base_after a = g.given_up.0 in
      let says = g.given_up.1.0 in (
        subst (λ (n : ℕ). Says l (start_with []) (drop n xs) g.next.events (Refused g.next.refusal.at g.next.refusal.why)) from
            (subst (λ (z : Gifts). Says l (start_with z) (drop g.next.from xs) g.next.events (Refused g.next.refusal.at g.next.refusal.why)) g.plain.0 says),
        g.given_up.1.1,
      )

  -- a reading is at its end there: no frame can be passed over
  abbrev pub EndsAt : List Stretch → List (ℕ × Event) → Verdict → Type 0
  EndsAt a es v = Reported a es v × ((v ≡ Waits) ⊎ (frame_under_way es ≡ None))

  no_further : (a : List Stretch) (es : List (ℕ × Event)) (v : Verdict) → EndsAt a es v → GoesFurther a → ⊥
  no_further a es v ends g =
      let t = reported_further a g in
      let one = says_once l (start_with []) (drop (base_after a) xs) es g.next.events v (Refused g.next.refusal.at g.next.refusal.why) ends.0 t.0 in
      elim ends.1 [
        | inl waits ↦ let no : ◌≡◌ {A = Verdict} (Refused g.next.refusal.at g.next.refusal.why) Waits = one.1 ∙ waits in cc
        | inr none ↦ let no : ◌≡◌ {A = Option OpenFrame} (Some g.next.frame) None = sym t.1 ∙ ap frame_under_way one.0 ∙ none in cc
      ]

  pub one_list : (a b : List Stretch) (es es' : List (ℕ × Event)) (v v' : Verdict) → GivenUp l xs a → GivenUp l xs b → AreGivenNothing a → AreGivenNothing b → EndsAt a es v → EndsAt b es' v' → (b ≡ a) × (es' ≡ es) × (v' ≡ v)
  one_list a b es es' v v' ga gb p q ea eb =
      let same_length : length b ≡ length a = elim (cases_lt (length a) (length b)) [
        | inl lt ↦ absurd (no_further a es v ea (further a b (length b - length a - 1) (omega (arith, lt)) ga gb p q))
        | inr le ↦ elim (cases_lt (length b) (length a)) [
          | inl lt ↦ absurd (no_further b es' v' eb (further b a (length a - length b - 1) (omega (arith, lt)) gb ga q p))
          | inr ge ↦ omega (arith, le, ge)
        ]
      ] in
      let same : b ≡ a = once l xs a b ga gb (nothing_same a b p q same_length) in
      let there : Reported a es' v' = subst (λ (z : List Stretch). Reported z es' v') same eb.0 in
      let one = says_once l (start_with []) (drop (base_after a) xs) es es' v v' ea.0 there in
      (same, one.0, one.1)

-- ---- one end of a stream that is not refused

ends_once : (s : List ℕ) (es : List (ℕ × Event)) (f f' : Finish) → FinishesBy None s es f → FinishesBy None s es f' → f' ≡ f
ends_once s es (finish.Whole n) (finish.Whole m) a b = ap finish.Whole (b.0 ∙ sym a.0)
ends_once s es (finish.Whole n) (finish.Cut at m) a b = absurd (let less = b.2 a.1 in omega (arith, less, a.2))
ends_once s es (finish.Cut at n) (finish.Whole m) a b = absurd (let less = a.2 b.1 in omega (arith, less, b.2))
ends_once s es (finish.Cut at n) (finish.Cut at' m) a b = let x : at' ≡ at = b.1 ∙ sym a.1 in let y : m ≡ n = b.0 ∙ sym a.0 in λ i. finish.Cut (x i) (y i)
ends_once s es (finish.Refused r) f' a b = absurd a
ends_once s es f (finish.Refused r) a b = absurd b

from_same : (d d' : Skipping) (own : Finish) → d'.used ≡ d.used → d'.base ≡ d.base → finish_from d' own ≡ finish_from d own
from_same d d' (finish.Whole n) used base = ap finish.Whole used
from_same d d' (finish.Cut at n) used base = λ i. finish.Cut (stream_offset (base i) at) (used i)
from_same d d' (finish.Refused r) used base = ap (λ (n : ℕ). finish.Refused (refusal_from n r)) base

last_same : (a : List Stretch) (m n : ℕ) → 0 < base_after a → IsLast a m → IsLast a n → n ≡ m
last_same [] m n some p q = absurd (omega (arith, some))
last_same (x ∷ xs) m n some p q = q ∙ sym p

cut_same : (at at' n n' : ℕ) → at' ≡ at → n' ≡ n → ◌≡◌ {A = Finish} (finish.Cut at' n') (finish.Cut at n)
cut_same at at' n n' a b = λ i. finish.Cut (a i) (b i)

module _ (form : TextForm) (l : Rules) (xs : List ℕ) (before : Outputs) where
  -- what the stream that was read to its end says there
  record Closed (f : Finish) (passed : Bool) (after : Outputs) : Type 0 where
    pub x : Shows form l xs before passed after
    pub v : Verdict
    pub ends : EndsAt l xs x.stretches x.events v
    pub how : ((v ≡ Waits) × (x.s ≡ xs) × FinishesAs x.d f × ((stream x.d).refusal ≡ None))
        ⊎ ((own : Refusal) × (v ≡ Refused own.at own.why) × (f ≡ finish.Refused (refusal_from (base_after x.stretches) own)))

  unrefused_by : (o : Option Refusal) → ((r : Refusal) → o ≡ Some r → ⊥) → o ≡ None
  unrefused_by None never = refl
  unrefused_by (Some r) never = absurd (never r refl)

  module _ (passed : Bool) (after : Outputs) (x : Shows form l xs before passed after) where
    -- the refusal, if there is one, is that of the stretch
    says_refused : (own : Refusal) → (stream x.d).refusal ≡ Some own → Reported l xs x.stretches x.events (Refused own.at own.why)
    says_refused own is =
        subst (λ (n : ℕ). Says l (start_with []) (drop n xs) x.events (Refused own.at own.why)) x.conforms.after.base
        (subst (λ (k : Rules). Says k (start_with []) (drop x.d.base xs) x.events (Refused own.at own.why)) x.conforms.rules (x.conforms.after.refused own is))

    at_the_end : (f : Finish) → Says l (start_with []) (drop x.d.base x.s) x.events Waits → x.s ≡ xs → FinishesAs x.d f → Closed f passed after
    at_the_end f says all fin =
        let waits : Reported l xs x.stretches x.events Waits =
        subst (λ (n : ℕ). Says l (start_with []) (drop n xs) x.events Waits) x.conforms.after.base
        (subst (λ (z : List ℕ). Says l (start_with []) (drop x.d.base z) x.events Waits) all says) in
        let free = unrefused_by (stream x.d).refusal (λ r is. let one = says_once l (start_with []) (drop (base_after x.stretches) xs) x.events x.events Waits (Refused r.at r.why) waits (says_refused r is) in let no = one.1 in cc) in
        record { x = x; v = Waits; ends = (waits, inl refl); how = inl (refl, all, fin, free) }

    refused_there : (r own : Refusal) → (stream x.d).refusal ≡ Some own → r ≡ refusal_from x.d.base own → x.d.frame ≡ None → Closed (finish.Refused r) passed after
    refused_there r own is reported none = record {
      x = x;
      v = Refused own.at own.why;
      ends = (says_refused own is, inr (sym x.conforms.after.frame ∙ none));
      how = inr (own, refl, ap finish.Refused (reported ∙ ap (λ (n : ℕ). refusal_from n own) x.conforms.after.base));
    }

  no_rest : (s rest : List ℕ) (left : Option (List ℕ)) → xs ≡ s ++ rest → left ≡ Some rest → left ≡ Some [] → s ≡ xs
  no_rest s rest left parts is none =
      let same : ◌≡◌ {A = Option (List ℕ)} (Some rest) (Some []) = sym is ∙ none in
      let nothing : rest ≡ [] = cc in
      sym (parts ∙ ap (λ (z : List ℕ). s ++ z) nothing ∙ append-nil s)

  closed : (f : Finish) (passed : Bool) (after : Outputs) (left : Option (List ℕ)) (a : FinishesIn form l xs before f passed after left) → IsPlain form l xs before f passed after left a → Closed f passed after
  closed (finish.Whole n) passed after left a plain = at_the_end passed after a.0.0 (finish.Whole n) a.0.1 (no_rest a.0.0.s a.0.2 left a.0.3 a.0.4 a.1) a.2
  closed (finish.Cut at n) passed after left a plain = at_the_end passed after a.0.0 (finish.Cut at n) a.0.1 (no_rest a.0.0.s a.0.2 left a.0.3 a.0.4 a.1) a.2
  closed (finish.Refused r) passed after left a plain = refused_there passed after a.0 r a.1.0 a.1.1 a.1.2 plain

  module _ (f f' : Finish) (passed passed' : Bool) (after after' : Outputs) (a : Closed f passed after) (b : Closed f' passed' after') where
    one : (b.x.stretches ≡ a.x.stretches) × (b.x.events ≡ a.x.events) × (b.v ≡ a.v)
    one = one_list l xs a.x.stretches b.x.stretches a.x.events b.x.events a.v b.v
        (subst (λ (k : Rules). GivenUp k xs a.x.stretches) a.x.conforms.rules a.x.conforms.after.given_up)
        (subst (λ (k : Rules). GivenUp k xs b.x.stretches) b.x.conforms.rules b.x.conforms.after.given_up)
        a.x.conforms.plain b.x.conforms.plain a.ends b.ends

    -- where each is
    base_same : b.x.d.base ≡ a.x.d.base
    base_same = b.x.conforms.after.base ∙ ap base_after one.0 ∙ sym a.x.conforms.after.base

    module _ (all : a.x.s ≡ xs) (all' : b.x.s ≡ xs) (free : (stream a.x.d).refusal ≡ None) (free' : (stream b.x.d).refusal ≡ None) (fin : FinishesAs a.x.d f) (fin' : FinishesAs b.x.d f') where
      used_same : b.x.d.used ≡ a.x.d.used
      used_same = b.x.conforms.after.used ∙ ap (λ (z : List ℕ). min (length z) (2 ^ 64 - 1)) (all' ∙ sym all) ∙ sym a.x.conforms.after.used

      within : a.x.d.used < a.x.d.base → f' ≡ f
      within lt =
          let last : b.x.d.last ≡ a.x.d.last =
          last_same a.x.stretches a.x.d.last b.x.d.last (omega (arith, lt, a.x.conforms.after.base)) a.x.conforms.last (subst (λ (z : List Stretch). IsLast z b.x.d.last) one.0 b.x.conforms.last) in
          fin'.within (omega (arith, lt, used_same, base_same)) ∙ cut_same a.x.d.last b.x.d.last a.x.d.used b.x.d.used last used_same ∙ sym (fin.within lt)

      behind : a.x.d.base ≤ a.x.d.used → f' ≡ f
      behind le =
          let p = fin.behind le in
          let q = fin'.behind (omega (arith, le, used_same, base_same)) in
          let by : FinishesBy None (drop a.x.d.base xs) a.x.events p.0 =
          subst (λ (z : List ℕ). FinishesBy None (drop a.x.d.base z) a.x.events p.0) all
          (subst (λ (o : Option Refusal). FinishesBy o (drop a.x.d.base a.x.s) a.x.events p.0) free (p.1 [] (drop a.x.d.base a.x.s) a.x.events a.x.conforms.after.conforms)) in
          let by' : FinishesBy None (drop a.x.d.base xs) a.x.events q.0 =
          subst (λ (es : List (ℕ × Event)). FinishesBy None (drop a.x.d.base xs) es q.0) one.1
          (subst (λ (n : ℕ). FinishesBy None (drop n xs) b.x.events q.0) base_same
          (subst (λ (z : List ℕ). FinishesBy None (drop b.x.d.base z) b.x.events q.0) all'
          (subst (λ (o : Option Refusal). FinishesBy o (drop b.x.d.base b.x.s) b.x.events q.0) free' (q.1 [] (drop b.x.d.base b.x.s) b.x.events b.x.conforms.after.conforms)))) in
          let own : q.0 ≡ p.0 = ends_once (drop a.x.d.base xs) a.x.events p.0 q.0 by by' in
          q.2 ∙ from_same a.x.d b.x.d q.0 used_same base_same ∙ ap (finish_from a.x.d) own ∙ sym p.2

      at_end : f' ≡ f
      at_end = elim (cases_lt a.x.d.used a.x.d.base) [ inl lt ↦ within lt | inr le ↦ behind le ]

    finish_same : f' ≡ f
    finish_same = elim a.how [
      | inl p ↦ elim b.how [
        | inl q ↦ at_end p.1 q.1 p.3 q.3 p.2 q.2
        | inr q ↦ absurd (let no : ◌≡◌ {A = Verdict} (Refused q.0.at q.0.why) Waits = sym q.1 ∙ one.2 ∙ p.0 in cc)
      ]
      | inr p ↦ elim b.how [
        | inl q ↦ absurd (let no : ◌≡◌ {A = Verdict} Waits (Refused p.0.at p.0.why) = sym q.0 ∙ one.2 ∙ p.1 in cc)
        | inr q ↦
            let own : q.0 ≡ p.0 = refused_same p.0 q.0 (sym q.1 ∙ one.2 ∙ p.1) in
            q.2 ∙ ap (λ (z : List Stretch). finish.Refused (refusal_from (base_after z) q.0)) one.0 ∙ ap (λ (r : Refusal). finish.Refused (refusal_from (base_after a.x.stretches) r)) own ∙ sym p.2
      ]
    ]

    all_same : (f' ≡ f) × (passed' ≡ passed) × (after' ≡ after)
    all_same =
        let out : after'.out ≡ after.out = b.x.out ∙ ap (λ (z : List Stretch). with_text before.out (text_with form z b.x.events)) one.0 ∙ ap (λ (es : List (ℕ × Event)). with_text before.out (text_with form a.x.stretches es)) one.1 ∙ sym a.x.out in
        let err : after'.err ≡ after.err = b.x.err ∙ ap (λ (z : List Stretch). with_text before.err (lines_before z)) one.0 ∙ sym a.x.err in
        (finish_same, b.x.any_passed ∙ ap any one.0 ∙ sym a.x.any_passed, λ i. record { out = out i; err = err i })

pub one_answer : IsOneAnswer
one_answer form l xs before f f' passed passed' after after' left left' a b p q =
    all_same form l xs before f f' passed passed' after after' (closed form l xs before f passed after left a p) (closed form l xs before f' passed' after' left' b q)

-- ---- what is reported

pub one_report : IsOneReport
one_report f passed before own own' after after' (inl a) (inl b) sound sound' = (ap (status_after passed) (b.0 ∙ sym a.0), b.1 ∙ sym a.1)
one_report f passed before own own' after after' (inr a) b sound sound' = absurd (sound a.0)
one_report f passed before own own' after after' (inl a) (inr b) sound sound' = absurd (sound' b.0)

-- a fault line has the status of a fault
fault_status : (before after : Output) (own : ℕ) → Concludes ending.WriteFault before own after → own ≡ 3
fault_status before after own (inl a) = a.0
fault_status before after own (inr a) = a.0

pub one_check : IsOneCheck
one_check f passed out err own own' out' out'' err' err'' (inl a) (inl b) sound sound' = (ap (status_after passed) (b.0 ∙ sym a.0), b.1 ∙ sym a.1, b.2 ∙ sym a.2)
one_check f passed out err own own' out' out'' err' err'' (inr a) b sound sound' = absurd (sound (fault_status err err' own a.1))
one_check f passed out err own own' out' out'' err' err'' (inl a) (inr b) sound sound' = absurd (sound' (fault_status err err'' own' b.1))
