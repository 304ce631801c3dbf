-- When the last read was made.
use Rattle.std.proofs.Common.{◌≡◌, ℕ, ◌+◌, ◌-◌, ◌≤◌, List, [], ◌∷◌, ◌++◌, length, Option, Some, None, refl, sym, ap, inl, inr, ◌∙◌, subst, arith}
use Rattle.cqlp_note.specs.Streams.{CountsUp}
use Rattle.cqlp_decode.specs.declared.running.Outcome.{Outcome}
use Rattle.cqlp_decode.specs.declared.running.Outcome.TheVariants as outcome
use Rattle.cqlp_decode.specs.Reading.{Event}
use Rattle.cqlp_decode.specs.Progress.{StreamState}
use Rattle.cqlp_decode.specs.Streams.{After, AfterGifts}
use Rattle.cqlp_decode.specs.Draining.{Calls, Feeds, FeedsInto, GoesOnTo, InReads, LastRead, MakesReads, ReadsInTime, RunsTo, fold_events, idle_reads}
use Rattle.cqlp_decode.proofs.Gets.{has_all_still}
use Rattle.cqlp_text.specs.Outputs.{Output, output, StopsWithin}
use Rattle.cqlp_text.specs.Written.{Written, bare, taken}
use Rattle.cqlp_render.specs.declared.text_form.TextForm.{TextForm}
use Rattle.cqlp_render.specs.Forms.{text, text_of}
use Rattle.cqlp_render.specs.Rendering.{Rendering, with_event, StopsWithinEvent, FallsShortAtEvent, GoesOn, ReadsOnlyAfterText}
use Rattle.cqlp_render.proofs.Renders.{fold-text, known_nothing}
use Rattle.cqlp_render.proofs.Buffering.{goes_by, goes_then}

empty : (zs : List ℕ) → length zs ≤ 0 → zs ≡ []
empty [] short = refl
empty (z ∷ zs) short = absurd (omega arith)

-- no bytes were read by no reads
none_read : (xs rest : List ℕ) (reads : ℕ) → reads ≡ 0 → InReads reads xs (Some rest) → rest ≡ xs
none_read xs rest reads zero d =
    let few = d.few in
    let short : length d.read ≤ 0 = omega arith in
    let nothing : d.read ≡ [] = empty d.read short in
    let same : rest ≡ d.rest = cc in
    same ∙ sym (d.parts ∙ ap (λ (z : List ℕ). z ++ d.rest) nothing)

module _ (form : TextForm) (turns : ℕ) (old : StreamState) (xs : List ℕ) (was : ℕ) (before : Output) where
  -- no read more, and more was given
  pub still_in_time : (now now' : ℕ) (left left' given given' : Option (List ℕ)) → ReadsOnlyAfterText form turns old xs was now left before given → now' ≡ now → left' ≡ left → GoesOn given given' → ReadsOnlyAfterText form turns old xs was now' left' before given'
  still_in_time now now' left left' given given' (inl none) same here goes = inl (same ∙ none.0, here ∙ none.1)
  still_in_time now now' left left' given given' (inr r) same here goes = inr (record {
    earlier = r.earlier;
    counted = subst (λ (n : ℕ). CountsUp (r.earlier + 1) was n) (sym same) r.counted;
    within = r.within;
    mid = r.mid;
    rest = r.rest;
    sent = r.sent;
    wrote = r.wrote;
    gave = r.gave;
    free = r.free;
    rules = r.rules;
    front = goes_then r.sent.given given given' r.front goes;
    last = (r.last.0, r.last.1, subst (λ (l : Option (List ℕ)). InReads r.last.0 r.rest l) (sym here) r.last.2);
  })

-- One more read, when all text so far was passed on.
module _ (turns turn : ℕ) (old mid new : StreamState) (xs : List ℕ) (was now : Calls) (then : ℕ) (first before before' after : Rendering) (at_first left left' given : Option (List ℕ)) where
  pub more_in_time : (o : Outcome) (ran : RunsTo with_event FallsShortAtEvent turn outcome.Turns old mid xs left first before) → at_first ≡ Some xs → MakesReads turn outcome.Turns was now at_first left → mid.refusal ≡ None → mid.rules ≡ old.rules → turn + 1 ≤ turns → LastRead with_event FallsShortAtEvent 1 o mid new ran.0.rest now.reads then left' before' after → GoesOn before.output.given given
      → ReadsOnlyAfterText first.form turns old xs was.reads then left' first.output given
  more_in_time o ran is reads waits rules more last goes =
      let all : reads.giving ≡ turn = reads.all refl in
      let within = last.within in
      let zero : last.earlier ≡ 0 = omega arith in
      let same : last.rest ≡ ran.0.rest = none_read ran.0.rest last.rest last.earlier zero last.gave in
      inr (record {
        earlier = turn;
        counted = λ fits. let a = reads.counted (omega arith) in let b = last.counted (omega arith) in omega arith;
        within = more;
        mid = mid;
        rest = ran.0.rest;
        sent = before.output;
        wrote = (before.form, (ran.0, refl, ran.2, has_all_still with_event old mid xs left (Some ran.0.rest) first before ran.0 ran.1 ran.3));
        gave = subst (λ (n : ℕ). InReads n xs (Some ran.0.rest)) all (subst (λ (l : Option (List ℕ)). InReads reads.giving xs l) ran.1 (reads.gives xs is));
        free = waits;
        rules = rules;
        front = goes;
        last = (1 - idle_reads o, omega arith, subst (λ (z : List ℕ). InReads (1 - idle_reads o) z left') same last.gives);
      })

-- ---- over a target

module _ (mid new : StreamState) (rest : List ℕ) (left : Option (List ℕ)) (seen after : Rendering) (s : List ℕ) (es : List (ℕ × Event)) (a : AfterGifts [] mid s es) where
  feeds_goes : Feeds with_event mid new rest seen after → GoesOn seen.output.given after.output.given
  feeds_goes d =
      let w = d.drained [] s es a in
      goes_by seen.output.given after.output.given (text seen.form w.more) (ap (λ r. r.output.given) (w.got ∙ fold-text seen.output seen.form w.more))

  breaks_goes : FeedsInto with_event StopsWithinEvent mid new rest left seen after → GoesOn seen.output.given after.output.given
  breaks_goes d =
      let w = d.failed [] s es a in
      let more = fold_events with_event seen w.more in
      let wrote = ap (λ (r : Rendering). r.output.given) (fold-text seen.output seen.form w.more) in
      let stops : StopsWithin more.output (text_of more.form w.at w.event) after.output = w.fault in
      goes_then seen.output.given more.output.given after.output.given (goes_by seen.output.given more.output.given (text seen.form w.more) wrote) (goes_by more.output.given after.output.given stops.sent stops.given)

  onward_goes : (o : Outcome) → GoesOnTo with_event StopsWithinEvent o mid new rest left seen after → GoesOn seen.output.given after.output.given
  onward_goes (outcome.Finished f) d = feeds_goes d
  onward_goes outcome.ReadFault d = feeds_goes d
  onward_goes outcome.Turns d = feeds_goes d
  onward_goes outcome.SinkFault d = breaks_goes d

-- a run over a target
pub in_time_at_once : (turns : ℕ) (o : Outcome) (old new : StreamState) (xs : List ℕ) (was now : ℕ) (left : Option (List ℕ)) (before after : Rendering) → After old [] [] → ReadsInTime with_event StopsWithinEvent turns o old new xs was now left before after → ReadsOnlyAfterText before.form turns old xs was now left before.output after.output.given
in_time_at_once turns o old new xs was now left before after fresh (inl none) = inl none
in_time_at_once turns o old new xs was now left before after fresh (inr l) =
    let w = l.ran.0.drained [] [] [] fresh in
    inr (record {
      earlier = l.earlier;
      counted = l.counted;
      within = l.within;
      mid = l.mid;
      rest = l.rest;
      sent = l.seen.output;
      wrote = (l.seen.form, l.ran);
      gave = l.gave;
      free = l.free;
      rules = l.rules;
      front = onward_goes l.mid new l.rest left l.seen after ([] ++ l.ran.0.bytes) ([] ++ w.more) w.conforms o l.onward;
      last = (1 - idle_reads o, omega arith, l.gives);
    })

-- a run over a buffer that had taken nothing
pub after_a_buffer : (form : TextForm) (turns : ℕ) (old : StreamState) (xs : List ℕ) (was now : ℕ) (left given given' : Option (List ℕ)) (f : ℕ) (a b : Written) → a ≡ bare given f → ReadsOnlyAfterText form turns old xs was now left (output (taken a) a.failures) b.given → GoesOn b.given given' → ReadsOnlyAfterText form turns old xs was now left (output given f) given'
after_a_buffer form turns old xs was now left given given' f a b starts reads goes =
    let first : output (taken a) a.failures ≡ output given f = ap (λ w. output (taken w) w.failures) starts ∙ ap (λ g. output g f) (known_nothing given) in
    still_in_time form turns old xs was (output given f) now now left left b.given given' (subst (λ (o : Output). ReadsOnlyAfterText form turns old xs was now left o b.given) first reads) refl refl goes
