-- Two answers of one call are the same.
use Rattle.std.proofs.Common.{◌≡◌, ℕ, ◌-◌, ◌<◌, ◌≤◌, List, [], ◌∷◌, ◌++◌, length, take, drop, Result, Ok, Err, refl, sym, ap, subst, ◌∙◌, append_assoc, inl, inr, arith}
use Rattle.std.specs.Prelude.{◌↔◌, IsErrOf, Option, Some, None}
use Rattle.std.proofs.lemmas.Bool.{cases_lt}
use Rattle.std.proofs.lemmas.List.{append-nil, length-append, length-drop, take-append-drop}
use Rattle.cqlp_note.specs.Reader.{Said, More, Got, Bad, says}
use Rattle.cqlp_note.proofs.Runs.{same_got}
use Rattle.cqlp_capture.specs.declared.event.CaptureStep.{CaptureStep}
use Rattle.cqlp_capture.specs.declared.event.CaptureStep.TheVariants as answer
use Rattle.cqlp_capture.specs.declared.limits.CaptureLimits.{CaptureLimits}
use Rattle.cqlp_capture.specs.declared.refusal.CaptureRefusal.{CaptureRefusal}
use Rattle.cqlp_capture.specs.declared.refusal.NewReaderError.{NewReaderError}
use Rattle.cqlp_capture.specs.declared.refusal.NewReaderError.TheVariants.{BadLimits, NoMemory}
use Rattle.cqlp_capture.specs.Reading.{Event, Emitted, Spot, heard, heard_first, step, Reads}
use Rattle.cqlp_capture.specs.Progress.{CaptureState, AnswersFrom, Fails, FailsThere, Goes, GoesOn, Hands, HandsOut, Moves, event_of}
use Rattle.cqlp_capture.specs.Laws.{IsMade, answer_of}
use Rattle.cqlp_capture.specs.Laws as laws
use Rattle.cqlp_capture.proofs.Runs.{heard-append, reads_compare, reads_stay}
use Rattle.cqlp_capture.proofs.Moving.{nothing}

pub one_made : (limits : CaptureLimits) (a b : Result CaptureState NewReaderError) → IsMade limits a → IsMade limits b → (IsErrOf a NoMemory ↔ IsErrOf b NoMemory) → a ≡ b
one_made limits (Ok x) (Ok y) a b memory = ap (λ (z : CaptureState). Ok z) (a.fresh ∙ sym b.fresh)
one_made limits (Ok x) (Err BadLimits) a b memory = a.bad.1 (b.bad.0 refl)
one_made limits (Ok x) (Err NoMemory) a b memory = memory.1 refl
one_made limits (Err BadLimits) b' a b memory = sym (b.bad.1 (a.bad.0 refl))
one_made limits (Err NoMemory) b' a b memory = sym (memory.0 refl)

-- ---- the steps before it

-- no step without an event is taken
abbrev pub IsHeard : Said Emitted CaptureRefusal → Type 0
IsHeard d = (x : Emitted) (k : ℕ) → d ≡ Got x k → x.event ≡ None → ⊥

silent_first : (at : ℕ) (o : Option Event) (es : List (ℕ × Event)) → heard_first at o es ≡ [] → o ≡ None
silent_first at None es is = refl
silent_first at (Some e) es is = absurd (omega (arith, ap length is))

-- where the steps before end
pub record SameMid (n n' : ℕ) (q q' : Spot) (rest rest' : List ℕ) : Type 0 where
  pub count : n' ≡ n
  pub spot : q' ≡ q
  pub left : rest' ≡ rest

same_back : (n n' : ℕ) (q q' : Spot) (rest rest' : List ℕ) → SameMid n n' q q' rest rest' → SameMid n' n q' q rest' rest
same_back n n' q q' rest rest' s = record { count = sym s.count; spot = sym s.spot; left = sym s.left }

module _ (l : CaptureLimits) (p : Spot) (pending input : List ℕ) where
  whole_bytes : (n : ℕ) → (pending ++ take n input) ++ drop n input ≡ pending ++ input
  whole_bytes n = append_assoc pending (take n input) (drop n input) ∙ ap (λ (x : List ℕ). pending ++ x) (take-append-drop n input)

  stays : (n : ℕ) (q : Spot) (rest : List ℕ) (a : Moves l p pending input n q rest) → Reads l p (pending ++ input) a.steps q (rest ++ drop n input)
  stays n q rest a = subst (λ (x : List ℕ). Reads l p x a.steps q (rest ++ drop n input)) (whole_bytes n) (reads_stay l p (pending ++ take n input) (drop n input) a.steps q rest a.reads)

  module _ (n n' : ℕ) (q q' : Spot) (rest rest' : List ℕ) (a : Moves l p pending input n q rest) (b : Moves l p pending input n' q' rest') where
    -- the same steps end at the same place
    same_steps : b.steps ≡ a.steps → q' ≡ q → rest' ++ drop n' input ≡ rest ++ drop n input → (k : ℕ) → length a.steps ≡ k → SameMid n n' q q' rest rest'
    same_steps is spot bytes k size = elim (cases_lt 0 k) [
      | inl some ↦
          let none = a.later (omega arith) in
          let none' = b.later (omega (arith, ap length is)) in
          let left = none' ∙ sym none in
          let count : n' ≡ n = omega (arith, ap length bytes, ap length left, length-append rest' (drop n' input), length-append rest (drop n input), length-drop n' input, length-drop n input, a.within, b.within) in
          record { count = count; spot = spot; left = left }
      | inr few ↦
          let empty = nothing a.steps (omega arith) in
          let none = a.first empty in
          let none' = b.first (is ∙ empty) in
          let count : n' ≡ n = none' ∙ sym none in
          let here = subst (λ (z : List (ℕ × Option Event)). Reads l p (pending ++ take n input) z q rest) empty a.reads in
          let here' = subst (λ (z : List (ℕ × Option Event)). Reads l p (pending ++ take n' input) z q' rest') (is ∙ empty) b.reads in
          let left : rest' ≡ rest = here'.1 ∙ ap (λ (i : ℕ). pending ++ take i input) count ∙ sym here.1 in
          record { count = count; spot = spot; left = left }
    ]

    not_more : IsHeard (says (step l q) 0 (rest ++ drop n input)) → (more : List (ℕ × Option Event)) → heard more ≡ [] → Reads l q (rest ++ drop n input) more q' (rest' ++ drop n' input) → more ≡ []
    not_more loud [] none run = refl
    not_more loud (x ∷ xs) none run = absurd (loud _ run.0 run.2 (silent_first x.0 x.1 (heard xs) none))

    ends_same : IsHeard (says (step l q) 0 (rest ++ drop n input)) → length a.steps ≤ length b.steps → SameMid n n' q q' rest rest'
    ends_same loud le =
        let c = reads_compare l p q q' (pending ++ input) (rest ++ drop n input) (rest' ++ drop n' input) a.steps b.steps (stays n q rest a) (stays n' q' rest' b) le in
        let silent : heard c.0 ≡ [] = sym (ap (λ (x : List (ℕ × Event)). x ++ heard c.0) a.silent) ∙ sym (heard-append a.steps c.0) ∙ sym (ap heard c.1) ∙ b.silent in
        let none = not_more loud c.0 silent c.2 in
        let there = rw none at c.2 in
        same_steps (c.1 ∙ ap (λ (x : List (ℕ × Option Event)). a.steps ++ x) none ∙ append-nil a.steps) there.0 there.1 (length a.steps) refl

  -- Two runs of steps that say no event end at the same place, where no such step is taken after either.
  pub same_mid : (n n' : ℕ) (q q' : Spot) (rest rest' : List ℕ) → Moves l p pending input n q rest → Moves l p pending input n' q' rest' → IsHeard (says (step l q) 0 (rest ++ drop n input)) → IsHeard (says (step l q') 0 (rest' ++ drop n' input)) → SameMid n n' q q' rest rest'
  same_mid n n' q q' rest rest' a b loud loud' = elim (cases_lt (length b.steps) (length a.steps)) [
    | inl lt ↦ same_back n' n q' q rest' rest (ends_same n' n q' q rest' rest b a loud' (omega arith))
    | inr le ↦ ends_same n n' q q' rest rest' a b loud le
  ]

-- ---- the answers

-- the step after them, and what is left
abbrev Mid : Type 0
Mid = Spot × List ℕ × ℕ

mid_path : (n n' : ℕ) (q q' : Spot) (rest rest' : List ℕ) → SameMid n n' q q' rest rest' → ◌≡◌ {A = Mid} (q', rest', n') (q, rest, n)
mid_path n n' q q' rest rest' s = λ i. (s.spot i, s.left i, s.count i)

loud_more : (d : Said Emitted CaptureRefusal) → d ≡ More → IsHeard d
loud_more d is = λ x k got none. absurd (let no : ◌≡◌ {A = Said Emitted CaptureRefusal} More (Got x k) = sym is ∙ got in cc)

loud_bad : (d : Said Emitted CaptureRefusal) (r : CaptureRefusal) → d ≡ Bad r → IsHeard d
loud_bad d r is = λ x k got none. absurd (let no : ◌≡◌ {A = Said Emitted CaptureRefusal} (Bad r) (Got x k) = sym is ∙ got in cc)

loud_event : (d : Said Emitted CaptureRefusal) (at used : ℕ) (e : Event) (after : Spot) → d ≡ Got (record { at = at; event = Some e; after = after }) used → IsHeard d
loud_event d at used e after is = λ x k got none.
    let same = same_got _ _ _ _ (sym is ∙ got) in
    let some : Some e ≡ x.event = ap (λ (y : Emitted). y.event) same.0 in
    absurd (let no : ◌≡◌ {A = Option Event} (Some e) None = some ∙ none in cc)

module _ (l : CaptureLimits) (new new' : CaptureState) (q : Spot) (pending input : List ℕ) where
  same_held : (used used' at at' : ℕ) (e e' : Event) (before : List ℕ) → pending ≡ before → used' ≡ used → Hands l q pending input at used e new → Hands l q pending input at' used' e' new' → new'.held ≡ new.held
  same_held used used' at at' e e' [] none same a b = b.lent none ∙ sym (a.lent none)
  same_held used used' at at' e e' (x ∷ xs) some same a b =
      let more : 0 < length pending = let n = ap length some in omega arith in
      b.kept more ∙ ap (λ (n : ℕ). pending ++ take n input) same ∙ sym (a.kept more)

  one_event : (used used' at at' : ℕ) (e e' : Event) → Hands l q pending input at used e new → Hands l q pending input at' used' e' new' → (at' ≡ at) × (used' ≡ used) × (e' ≡ e) × (new' ≡ new)
  one_event used used' at at' e e' a b =
      let got = same_got _ _ _ _ (sym b.is ∙ a.is) in
      let count : used' ≡ used = let n = got.1 in omega arith in
      let spot : new'.spot ≡ new.spot = ap (λ (x : Emitted). x.after) got.0 in
      let where_at : at' ≡ at = ap (λ (x : Emitted). x.at) got.0 in
      let some : Some e' ≡ Some e = ap (λ (x : Emitted). x.event) got.0 in
      let event : e' ≡ e = cc in
      let held = same_held used used' at at' e e' pending refl count a b in
      let state : ◌≡◌ {A = CaptureState} (record { limits = l; spot = new'.spot; pending = []; held = new'.held; refusal = None }) (record { limits = l; spot = new.spot; pending = []; held = new.held; refusal = None }) = λ i. record { limits = l; spot = spot i; pending = []; held = held i; refusal = None } in
      (where_at, count, event, b.left ∙ state ∙ sym a.left)

module _ (old new new' : CaptureState) (input : List ℕ) where
  one_more : (used used' : ℕ) → GoesOn old input used new → GoesOn old input used' new' → new' ≡ new
  one_more used used' a b =
      let same = same_mid old.limits old.spot old.pending input a.from b.from a.mid b.mid a.rest b.rest a.moves b.moves (loud_more _ a.goes.is) (loud_more _ b.goes.is) in
      let there = subst (λ (m : Mid). Goes old.limits m.0 m.1 (drop m.2 input) (used' - m.2) new') (mid_path a.from b.from a.mid b.mid a.rest b.rest same) b.goes in
      there.left ∙ sym a.goes.left

  one_handed : (used used' at at' : ℕ) (e e' : Event) → HandsOut old input at used e new → HandsOut old input at' used' e' new' → (at' ≡ at) × (used' ≡ used) × (e' ≡ e) × (new' ≡ new)
  one_handed used used' at at' e e' a b =
      let same = same_mid old.limits old.spot old.pending input a.from b.from a.mid b.mid a.rest b.rest a.moves b.moves (loud_event _ _ _ _ _ a.hands.is) (loud_event _ _ _ _ _ b.hands.is) in
      let there = subst (λ (m : Mid). Hands old.limits m.0 m.1 (drop m.2 input) at' (used' - m.2) e' new') (mid_path a.from b.from a.mid b.mid a.rest b.rest same) b.hands in
      let one = one_event old.limits new new' a.mid a.rest (drop a.from input) (used - a.from) (used' - a.from) at at' e e' a.hands there in
      let count : used' ≡ used = let n = one.1 in let x = a.order in let y = b.order in let z = same.count in omega arith in
      (one.0, count, one.2, one.3)

  one_refused : (r r' : CaptureRefusal) → FailsThere old input r new → FailsThere old input r' new' → (r' ≡ r) × (new' ≡ new)
  one_refused r r' a b =
      let same = same_mid old.limits old.spot old.pending input a.from b.from a.mid b.mid a.rest b.rest a.moves b.moves (loud_bad _ _ a.fails.is) (loud_bad _ _ b.fails.is) in
      let there = subst (λ (m : Mid). Fails old.limits m.0 m.1 (drop m.2 input) r' new') (mid_path a.from b.from a.mid b.mid a.rest b.rest same) b.fails in
      let reason : r' ≡ r = let bad = sym there.is ∙ a.fails.is in cc in
      (reason, there.left ∙ ap (λ (z : CaptureRefusal). record { limits = old.limits; spot = a.mid; pending = []; held = []; refusal = Some z }) reason ∙ sym a.fails.left)

  -- a call does not do two things
  not_both : (d d' : Said Emitted CaptureRefusal) (n n' : ℕ) (q q' : Spot) (rest rest' : List ℕ) → Moves old.limits old.spot old.pending input n q rest → Moves old.limits old.spot old.pending input n' q' rest' → says (step old.limits q) 0 (rest ++ drop n input) ≡ d → says (step old.limits q') 0 (rest' ++ drop n' input) ≡ d' → IsHeard d → IsHeard d' → d' ≡ d
  not_both d d' n n' q q' rest rest' a b is is' loud loud' =
      let same = same_mid old.limits old.spot old.pending input n n' q q' rest rest' a b (subst IsHeard (sym is) loud) (subst IsHeard (sym is') loud') in
      sym is' ∙ ap (λ (m : Mid). says (step old.limits m.0) 0 (m.1 ++ drop m.2 input)) (mid_path n n' q q' rest rest' same) ∙ is

  one_by : (o : Option CaptureRefusal) (x y : CaptureStep) → AnswersFrom o old input x new → AnswersFrom o old input y new' → (answer_of y ≡ answer_of x) × (new' ≡ new)
  one_by (Some r) x y a b = (ap answer_of (b.0 ∙ sym a.0), b.1 ∙ sym a.1)
  one_by None (answer.Event at used e) (answer.Event at' used' e') a b =
      let one = one_handed used used' at at' (event_of e) (event_of e') a b in
      (λ i. laws.Hands (one.0 i) (one.1 i) (one.2 i), one.3)
  one_by None (answer.Event at used e) (answer.More used') a b = absurd (let no = not_both _ _ a.from b.from a.mid b.mid a.rest b.rest a.moves b.moves a.hands.is b.goes.is (loud_event _ _ _ _ _ refl) (loud_more _ refl) in cc)
  one_by None (answer.Event at used e) (answer.Refused r') a b = absurd (let no = not_both _ _ a.from b.from a.mid b.mid a.rest b.rest a.moves b.moves a.hands.is b.fails.is (loud_event _ _ _ _ _ refl) (loud_bad _ _ refl) in cc)
  one_by None (answer.More used) (answer.Event at' used' e') a b = absurd (let no = not_both _ _ a.from b.from a.mid b.mid a.rest b.rest a.moves b.moves a.goes.is b.hands.is (loud_more _ refl) (loud_event _ _ _ _ _ refl) in cc)
  one_by None (answer.More used) (answer.More used') a b = (ap laws.Wants (b.all ∙ sym a.all), one_more used used' a b)
  one_by None (answer.More used) (answer.Refused r') a b = absurd (let no = not_both _ _ a.from b.from a.mid b.mid a.rest b.rest a.moves b.moves a.goes.is b.fails.is (loud_more _ refl) (loud_bad _ _ refl) in cc)
  one_by None (answer.Refused r) (answer.Event at' used' e') a b = absurd (let no = not_both _ _ a.from b.from a.mid b.mid a.rest b.rest a.moves b.moves a.fails.is b.hands.is (loud_bad _ _ refl) (loud_event _ _ _ _ _ refl) in cc)
  one_by None (answer.Refused r) (answer.More used') a b = absurd (let no = not_both _ _ a.from b.from a.mid b.mid a.rest b.rest a.moves b.moves a.fails.is b.goes.is (loud_bad _ _ refl) (loud_more _ refl) in cc)
  one_by None (answer.Refused r) (answer.Refused r') a b =
      let one = one_refused r r' a b in
      (ap laws.Refuses one.0, one.1)

  pub one_answer : (x y : CaptureStep) → AnswersFrom old.refusal old input x new → AnswersFrom old.refusal old input y new' → (answer_of y ≡ answer_of x) × (new' ≡ new)
  one_answer x y a b = one_by old.refusal x y a b
