-- What one call does, over the whole file.
use Rattle.std.proofs.Common.{◌≡◌, ℕ, ◌+◌, ◌-◌, ◌≤◌, true, List, [], ◌∷◌, ◌++◌, length, take, drop, refl, sym, ap, subst, ◌∙◌, append_assoc, arith}
use Rattle.std.specs.Prelude.{Option, Some, None}
use Rattle.std.proofs.lemmas.List.{length-append, length-drop, length-take-le, drop_all, take-append-drop}
use Rattle.cqlp_note.specs.Reader.{says}
use Rattle.cqlp_note.proofs.Yields.{says_exact}
use Rattle.cqlp_capture.specs.declared.event.CaptureEnd.TheVariants as end
use Rattle.cqlp_capture.specs.declared.event.CaptureEvent.{CaptureEvent}
use Rattle.cqlp_capture.specs.declared.event.CaptureStep.{CaptureStep}
use Rattle.cqlp_capture.specs.declared.event.CaptureStep.TheVariants as answer
use Rattle.cqlp_capture.specs.declared.event.EventOutline.{EventOutline}
use Rattle.cqlp_capture.specs.declared.gathered.BytesPlace.{BytesPlace}
use Rattle.cqlp_capture.specs.declared.limits.CaptureLimits.{CaptureLimits}
use Rattle.cqlp_capture.specs.declared.place.Stage.{Stage}
use Rattle.cqlp_capture.specs.declared.place.Stage.TheVariants.{Magic, FileHead, RecordHead, Data, Rest, SectionLength, SectionBody, BlockHead, InterfaceBody, OptionHead, TimeUnit, TimeOffset, EnhancedBody, PacketBody, SimpleBody, BlockData, Pass, BlockEnd}
use Rattle.cqlp_capture.specs.declared.reader.CaptureAdvance.TheVariants as advance
use Rattle.cqlp_capture.specs.declared.refusal.CaptureRefusal.{CaptureRefusal}
use Rattle.cqlp_capture.specs.Gathering.{bytes_at}
use Rattle.cqlp_capture.specs.Places.{IsNear, ComesAfterHead, is_between, began, began_at}
use Rattle.cqlp_capture.specs.Reading.{Event, Spot, Verdict, Waits, Refused, Ends, Says, event_with, step, start, Hears}
use Rattle.cqlp_capture.specs.Progress.{CaptureState, AdvancesFrom, AnswersFrom, AfterBy, After, Answers, EndsAs, FinishesBy, Hands, Leads, Moves, Refuses, Uses, event_of}
use Rattle.cqlp_capture.proofs.Tests.{Fits}
use Rattle.cqlp_capture.proofs.Runs.{hears_then, hears_stay, reads_at}
use Rattle.cqlp_capture.proofs.Moving.{moves_hear, take_two}
use Rattle.cqlp_capture.proofs.Whole.{at_start}

-- bytes after steps that say no event
more_bytes : (s input : List ℕ) (n : ℕ) → (s ++ take n input) ++ drop n input ≡ s ++ input
more_bytes s input n = append_assoc s (take n input) (drop n input) ∙ ap (λ (x : List ℕ). s ++ x) (take-append-drop n input)

used_bytes : (s input : List ℕ) (n used : ℕ) → n ≤ used → (s ++ take n input) ++ take (used - n) (drop n input) ≡ s ++ take used input
used_bytes s input n used le =
    let all : n + (used - n) ≡ used = omega arith in
    append_assoc s (take n input) (take (used - n) (drop n input)) ∙ ap (λ (x : List ℕ). s ++ x) (sym (take_two n (used - n) input) ∙ ap (λ (k : ℕ). take k input) all)

module _ (l : CaptureLimits) (p q : Spot) (pending rest input s : List ℕ) (es : List (ℕ × Event)) (n : ℕ) (moves : Moves l p pending input n q rest) (after : Hears l start s es p pending) where
  -- all of the input leads there
  moved_all : Hears l start (s ++ input) es q (rest ++ drop n input)
  moved_all = subst (λ (x : List ℕ). Hears l start x es q (rest ++ drop n input)) (more_bytes s input n) (hears_stay l start (s ++ take n input) (drop n input) es q rest (moves_hear l p q pending input n rest start s es moves after))

  -- and says so much
  moved_says : (v : Verdict) → Ends (says (step l q) 0 (rest ++ drop n input)) v → Says l start (s ++ input) es v
  moved_says v ends = (q, rest ++ drop n input, moved_all, ends)

  -- an event after it
  moved_event : (at used : ℕ) (e : Event) (new : CaptureState) → n ≤ used → Hands l q rest (drop n input) at (used - n) e new → Hears l start (s ++ take used input) (es ++ (at, e) ∷ []) new.spot []
  moved_event at used e new order h =
      let left = drop n input in
      let t = take (used - n) left in
      let k = length rest + (used - n) in
      let exact = says_exact (step l q) rest left _ (used - n) h.is in
      let none : drop k (rest ++ t) ≡ [] = drop_all k (rest ++ t) (omega (arith, length-append rest t, length-take-le (used - n) left h.within)) in
      let one : Hears l q (rest ++ t) ((at, e) ∷ []) new.spot [] = record { steps = (at, Some e) ∷ []; events = refl; reads = (k, new.spot, exact, (refl, sym none)) } in
      let before = hears_stay l start (s ++ take n input) t es q rest (moves_hear l p q pending input n rest start s es moves after) in
      subst (λ (x : List ℕ). Hears l start x (es ++ (at, e) ∷ []) new.spot []) (used_bytes s input n used order) (hears_then l start q new.spot ((s ++ take n input) ++ t) (rest ++ t) [] es ((at, e) ∷ []) before one)

module _ (old new : CaptureState) (input s : List ℕ) (es : List (ℕ × Event)) where
  more_leads : (o : Option CaptureRefusal) (used : ℕ) → AnswersFrom o old input (answer.More used) new → AfterBy o old s es → Leads old s es input (answer.More used) new
  more_leads (Some r) used a after = absurd (let e = a.0 in cc)
  more_leads None used a after =
      let all = moved_all old.limits old.spot a.mid old.pending a.rest input s es a.from a.moves after in
      let waits = moved_says old.limits old.spot a.mid old.pending a.rest input s es a.from a.moves after Waits (rw a.goes.is tt) in
      subst (λ (z : CaptureState). Leads old s es input (answer.More used) z) (sym a.goes.left) (a.all, refl, all, waits)

  event_leads : (o : Option CaptureRefusal) (at used : ℕ) (e : CaptureEvent) → AnswersFrom o old input (answer.Event at used e) new → AfterBy o old s es → Leads old s es input (answer.Event at used e) new
  event_leads (Some r) at used e a after = absurd (let e = a.0 in cc)
  event_leads None at used e a after =
      let run = moved_event old.limits old.spot a.mid old.pending a.rest input s es a.from a.moves after at used (event_of e) new a.order a.hands in
      let within : used ≤ length input = let x = a.hands.within in let y = a.moves.within in let z = a.order in omega (arith, length-drop a.from input) in
      subst (λ (z : CaptureState). Leads old s es input (answer.Event at used e) z) (sym a.hands.left) (within, refl, refl, run)

  refused_leads : (o : Option CaptureRefusal) (r : CaptureRefusal) → old.refusal ≡ o → AnswersFrom o old input (answer.Refused r) new → AfterBy o old s es → Leads old s es input (answer.Refused r) new
  refused_leads (Some before) r is a after =
      let same : r ≡ before = let e = a.0 in cc in
      subst (λ (z : CaptureState). Leads old s es input (answer.Refused r) z) (sym a.1) (
        is ∙ ap Some (sym same),
        subst (λ (o : Option CaptureRefusal). AfterBy o old s es) (sym is) after,
        subst (λ (o : Option CaptureRefusal). Refuses o old s es input r) (sym is) same,
      )
  refused_leads None r is a after =
      let said = moved_says old.limits old.spot a.mid old.pending a.rest input s es a.from a.moves after (Refused r) (rw a.fails.is refl) in
      subst (λ (z : CaptureState). Leads old s es input (answer.Refused r) z) (sym a.fails.left) (
        refl,
        record { at = old.spot; rest = old.pending; read = after; looked = input; refused = said },
        subst (λ (o : Option CaptureRefusal). Refuses o old s es input r) (sym is) said,
      )

  leads : (x : CaptureStep) → AnswersFrom old.refusal old input x new → After old s es → Leads old s es input x new
  leads (answer.Event at used e) a after = event_leads old.refusal at used e a after
  leads (answer.More used) a after = more_leads old.refusal used a after
  leads (answer.Refused r) a after = refused_leads old.refusal r refl a after

module _ (old new : CaptureState) (input : List ℕ) where
  -- what holds of one answer holds of any file that led here
  pub answers : (x : CaptureStep) → AnswersFrom old.refusal old input x new → Answers old input x new
  answers x a = (a, λ s es after. leads old new input s es x a after)

  pub uses : (x : CaptureStep) → AnswersFrom old.refusal old input x new → Uses input x
  uses x a = by old.refusal x a
    where
      by : (o : Option CaptureRefusal) (x : CaptureStep) → AnswersFrom o old input x new → Uses input x
      by (Some r) (answer.Event at used e) a = absurd (let e = a.0 in cc)
      by (Some r) (answer.More used) a = absurd (let e = a.0 in cc)
      by o (answer.Refused r) a = tt
      by None (answer.Event at used e) a = let x = a.hands.within in let y = a.moves.within in let z = a.order in omega (arith, length-drop a.from input)
      by None (answer.More used) a = a.all

  pub more_answers : (o : Option CaptureRefusal) (used : ℕ) → AdvancesFrom o old input (advance.More used) new → AnswersFrom o old input (answer.More used) new
  more_answers (Some r) used a = absurd (let e = a.0 in cc)
  more_answers None used a = a

  pub event_answers : (o : Option CaptureRefusal) (at from used : ℕ) (w : EventOutline) (lies : BytesPlace) (e : CaptureEvent) → event_of e ≡ event_with w (bytes_at lies (drop from input) new.held) → AdvancesFrom o old input (advance.Event at from used w lies) new → AnswersFrom o old input (answer.Event at used e) new
  event_answers (Some r) at from used w lies e is a = absurd (let e = a.0 in cc)
  event_answers None at from used w lies e is a = rw is a.0

  pub refused_answers : (o : Option CaptureRefusal) (r : CaptureRefusal) → AdvancesFrom o old input (advance.Refused r) new → AnswersFrom o old input (answer.Refused r) new
  refused_answers (Some s) r a = (let same : r ≡ s = let e = a.0 in cc in ap (λ (x : CaptureRefusal). answer.Refused x) same, a.1)
  refused_answers None r a = a

-- ---- the end of the file

module _ (l : CaptureLimits) where
  -- what is under way began before
  pub began_before : (offset : ℕ) (s : Stage) → IsNear l offset s × ComesAfterHead offset s → began_at offset s ≤ offset
  began_before offset Magic here = omega arith
  began_before offset (FileHead f) here = omega arith
  began_before offset (RecordHead r) here = omega arith
  began_before offset (Data r n) here = omega arith
  began_before offset (Rest r start left) here = let after = here.1 in omega arith
  began_before offset SectionLength here = omega arith
  began_before offset (SectionBody e) here = omega arith
  began_before offset (BlockHead o) here = omega arith
  began_before offset (InterfaceBody b) here = let block = here.0 in let after = block.after in omega arith
  began_before offset (OptionHead b) here = let block = here.0 in let after = block.after in omega arith
  began_before offset (TimeUnit b) here = let block = here.0 in let after = block.after in omega arith
  began_before offset (TimeOffset b) here = let block = here.0 in let after = block.after in omega arith
  began_before offset (EnhancedBody b) here = let body = here.0 in let after = body.block.after in omega arith
  began_before offset (PacketBody b) here = let body = here.0 in let after = body.block.after in omega arith
  began_before offset (SimpleBody b) here = let body = here.0 in let after = body.block.after in omega arith
  began_before offset (BlockData b n) here = let packet = here.0 in let after = packet.block.after in omega arith
  began_before offset (Pass b until) here = let pass = here.0 in let after = pass.block.after in omega arith
  began_before offset (BlockEnd b) here = let end = here.0 in let after = end.block.after in omega arith

module _ (d : CaptureState) (fits : Fits d.limits) where
  pub ends_whole : (n : ℕ) → is_between d.spot.place.stage ≡ true → d.pending ≡ [] → n ≡ d.spot.place.offset + length d.pending → d.refusal ≡ None → EndsAs d (end.Whole n)
  ends_whole n between none is unrefused = λ s es after. by s es d.refusal unrefused after
    where
      by : (s : List ℕ) (es : List (ℕ × Event)) (o : Option CaptureRefusal) → o ≡ None → AfterBy o d s es → FinishesBy o d s (end.Whole n)
      by s es (Some r) unrefused after = absurd cc
      by s es None unrefused after =
          let at = reads_at d.limits fits start d.spot s d.pending after.steps (at_start d.limits) after.reads in
          (omega (arith, at.count), (es, d.spot, subst (λ (x : List ℕ). Hears d.limits start s es d.spot x) none after, between))

  pub ends_cut : (at n : ℕ) → at ≡ began d.spot.place → n ≡ d.spot.place.offset + length d.pending → d.refusal ≡ None → EndsAs d (end.Cut at n)
  ends_cut at n begins is unrefused = λ s es after. by s es d.refusal unrefused after
    where
      by : (s : List ℕ) (es : List (ℕ × Event)) (o : Option CaptureRefusal) → o ≡ None → AfterBy o d s es → FinishesBy o d s (end.Cut at n)
      by s es (Some r) unrefused after = absurd cc
      by s es None unrefused after =
          let to = reads_at d.limits fits start d.spot s d.pending after.steps (at_start d.limits) after.reads in
          (omega (arith, to.count), omega (arith, began_before d.limits d.spot.place.offset d.spot.place.stage to.near.place), begins)
