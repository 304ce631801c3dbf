-- From one decoder over one reader's bytes there is one run.
use Rattle.std.proofs.Common.{◌≡◌, ℕ, ◌+◌, ◌≤◌, Bool, true, false, List, [], ◌∷◌, ◌++◌, length, refl, sym, ap, subst, ◌∙◌, append_assoc, inl, inr, arith}
use Rattle.std.specs.Prelude.{Option, Some, None}
use Rattle.std.proofs.lemmas.Bool.{cases_lt}
use Rattle.std.proofs.lemmas.List.{append-nil, append_cancel_left, append_cancel_right}
use Rattle.cqlp_note.specs.declared.refusal.Refusal.{Refusal}
use Rattle.cqlp_note.specs.Limits.{Rules}
use Rattle.cqlp_note.specs.declared.refusal.Reason.{Reason}
use Rattle.cqlp_note.specs.Reader.{says}
use Rattle.cqlp_note.proofs.Readers.{says_stays}
use Rattle.cqlp_note.proofs.Runs.{runs_compare, runs_stay, stays_bad}
use Rattle.cqlp_grammar.specs.declared.event.Finish.{Finish}
use Rattle.cqlp_grammar.specs.declared.event.Finish.TheVariants as finish
use Rattle.cqlp_decode.specs.declared.running.Outcome.{Outcome}
use Rattle.cqlp_decode.specs.declared.running.Outcome.TheVariants as outcome
use Rattle.cqlp_decode.specs.Reading.{Event, Place, Verdict, Waits, Refused, Gifts, Reads, Says, start, start_with, step}
use Rattle.cqlp_decode.specs.Progress.{StreamState}
use Rattle.cqlp_decode.specs.Streams.{state, AfterGifts, AfterBy, FinishesBy}
use Rattle.cqlp_decode.specs.Draining.{Feeds, HasAll, RunsTo, WaitsAt, fold_events, idle_reads, verdict_of}
use Rattle.cqlp_laws.specs.OneAnswer.{IsFrontEitherWay, IsSound, Ran, is_read_fault, handed, AreOneRun, IsOneAnswerOfRun, RunsRight, EndsBy}
use Rattle.cqlp_laws.proofs.Whole.{is_bad, says_once}
use Rattle.cqlp_laws.proofs.OneAnswer.{finish_by}

module _ (gifts : Gifts) where
  -- ---- what was read, by the events so far

  pub after_reads : (d : StreamState) (s : List ℕ) (es : List (ℕ × Event)) → AfterGifts gifts d s es → (p : Place) × (b : List ℕ) × Reads d.rules (start_with gifts) s es p b
  after_reads d s es a = by d.refusal a
    where
      by : (o : Option Refusal) → AfterBy o gifts d s es → (p : Place) × (b : List ℕ) × Reads d.rules (start_with gifts) s es p b
      by None a = (a.place, a.bytes, a.read)
      by (Some r) a = (a.place, a.bytes, a.read)

  -- two readings of fronts of one stream are fronts of one another
  either_way : (l : Rules) (s a b c d xs : List ℕ) (es fs gs : List (ℕ × Event)) (p q : Place) (x y : List ℕ) → xs ≡ a ++ b → xs ≡ c ++ d → Reads l (start_with gifts) (s ++ a) (es ++ fs) p x → Reads l (start_with gifts) (s ++ c) (es ++ gs) q y → IsFrontEitherWay fs gs
  either_way l s a b c d xs es fs gs p q x y is is' run run' =
      let on : Reads l (start_with gifts) (s ++ xs) (es ++ fs) p (x ++ b) = subst (λ (z : List ℕ). Reads l (start_with gifts) z (es ++ fs) p (x ++ b)) (append_assoc s a b ∙ ap (λ (z : List ℕ). s ++ z) (sym is)) (runs_stay (step l) (start_with gifts) (s ++ a) b (es ++ fs) p x run) in
      let on' : Reads l (start_with gifts) (s ++ xs) (es ++ gs) q (y ++ d) = subst (λ (z : List ℕ). Reads l (start_with gifts) z (es ++ gs) q (y ++ d)) (append_assoc s c d ∙ ap (λ (z : List ℕ). s ++ z) (sym is')) (runs_stay (step l) (start_with gifts) (s ++ c) d (es ++ gs) q y run') in
      elim (cases_lt (length (es ++ gs)) (length (es ++ fs))) [
        | inl lt ↦ let r = runs_compare (step l) (start_with gifts) q p (s ++ xs) (y ++ d) (x ++ b) (es ++ gs) (es ++ fs) on' on (omega arith) in inr (r.0, append_cancel_left es fs (gs ++ r.0) (r.1 ∙ append_assoc es gs r.0))
        | inr le ↦ let r = runs_compare (step l) (start_with gifts) p q (s ++ xs) (x ++ b) (y ++ d) (es ++ fs) (es ++ gs) on on' le in inl (r.0, append_cancel_left es gs (fs ++ r.0) (r.1 ∙ append_assoc es fs r.0))
      ]

-- a stream that ends with no idle read is refused
idle_is_refused : (w : Option Refusal) (s : List ℕ) (es : List (ℕ × Event)) (end : Finish) → FinishesBy w s es end → idle_reads (outcome.Finished end) ≡ 0 → w ≡ None → ⊥
idle_is_refused (Some r) s es end h idle none = absurd (let e = none in cc)
idle_is_refused None s es (finish.Whole n) h idle none = absurd (omega (arith, idle))
idle_is_refused None s es (finish.Cut at n) h idle none = absurd (omega (arith, idle))
idle_is_refused None s es (finish.Refused r) h idle none = absurd h

module _ {V : Type 0} (f : V → ℕ → Event → V) (faulted : V → ℕ → Event → V → Type 0) where
  module _ (gifts : Gifts) where
    -- what a run handed to its sink is the reading of a front of the bytes
    record Given (old new : StreamState) (xs : List ℕ) (s : List ℕ) (es given : List (ℕ × Event)) : Type 0 where
      bytes : List ℕ
      rest : List ℕ
      parts : xs ≡ bytes ++ rest
      place : Place
      left : List ℕ
      read : Reads old.rules (start_with gifts) (s ++ bytes) (es ++ given) place left

    given_fed : (old new : StreamState) (xs : List ℕ) (before after : V) (s : List ℕ) (es : List (ℕ × Event)) (a : AfterGifts gifts old s es) → new.rules ≡ old.rules → (d : Feeds f old new xs before after) → Given old new xs s es (d.drained gifts s es a).more
    given_fed old new xs before after s es a rules d =
        let e = d.drained gifts s es a in
        let r = after_reads gifts new (s ++ d.bytes) (es ++ e.more) e.conforms in
        record { bytes = d.bytes; rest = d.rest; parts = d.parts; place = r.0; left = r.1; read = subst (λ (l : Rules). Reads l (start_with gifts) (s ++ d.bytes) (es ++ e.more) r.0 r.1) rules r.2 }

    given_by : (turns : ℕ) (o : Outcome) (old new : StreamState) (xs : List ℕ) (left : Option (List ℕ)) (before after : V) (s : List ℕ) (es : List (ℕ × Event)) (a : AfterGifts gifts old s es) (rules : new.rules ≡ old.rules) (ran : RunsTo f faulted turns o old new xs left before after) → Given old new xs s es (handed f faulted turns o old new xs left before after ran gifts s es a)
    given_by turns (outcome.Finished end) old new xs left before after s es a rules ran = given_fed old new xs before after s es a rules ran.0
    given_by turns outcome.ReadFault old new xs left before after s es a rules ran = given_fed old new xs before after s es a rules ran.0
    given_by turns outcome.Turns old new xs left before after s es a rules ran = given_fed old new xs before after s es a rules ran.0
    given_by turns outcome.SinkFault old new xs left before after s es a rules ran =
        let d = ran.failed gifts s es a in
        let all = es ++ (d.more ++ (d.at, d.event) ∷ []) in
        let r = after_reads gifts new (s ++ ran.bytes) all (subst (λ (z : List (ℕ × Event)). AfterGifts gifts new (s ++ ran.bytes) z) (append_assoc es d.more ((d.at, d.event) ∷ [])) d.conforms) in
        record { bytes = ran.bytes; rest = ran.rest; parts = ran.parts; place = r.0; left = r.1; read = subst (λ (l : Rules). Reads l (start_with gifts) (s ++ ran.bytes) all r.0 r.1) rules r.2 }

    -- a run whose sink did not fail has handed out all events of what was read
    record AllOf (old new : StreamState) (xs : List ℕ) (left : Option (List ℕ)) (before after : V) : Type 0 where
      fed : Feeds f old new xs before after
      has : HasAll f old new xs left before after fed

    all_of : (turns : ℕ) (o : Outcome) (old new : StreamState) (xs : List ℕ) (left : Option (List ℕ)) (before after : V) → IsSound o → RunsTo f faulted turns o old new xs left before after → AllOf old new xs left before after
    all_of turns (outcome.Finished end) old new xs left before after sound ran = record { fed = ran.0; has = ran.3 }
    all_of turns outcome.ReadFault old new xs left before after sound ran = record { fed = ran.0; has = ran.2 }
    all_of turns outcome.Turns old new xs left before after sound ran = record { fed = ran.0; has = ran.3 }
    all_of turns outcome.SinkFault old new xs left before after sound ran = absurd sound

    module _ (old new : StreamState) (xs : List ℕ) (left : Option (List ℕ)) (before after : V) where
      read_of : (unread : List ℕ) (d : AllOf old new xs left before after) → left ≡ Some unread → xs ≡ d.fed.bytes ++ d.has.looked ++ unread
      read_of unread d is =
          let same : d.has.unread ≡ unread = let e = sym d.has.others ∙ is in cc in
          d.fed.parts ∙ ap (λ (z : List ℕ). d.fed.bytes ++ z) (d.has.parts ∙ ap (λ (z : List ℕ). d.has.looked ++ z) same) ∙ sym (append_assoc d.fed.bytes d.has.looked unread)

      -- all that the bytes read say
      said_of : (s : List ℕ) (es : List (ℕ × Event)) (a : AfterGifts gifts old s es) → old.refusal ≡ None → new.rules ≡ old.rules → (d : AllOf old new xs left before after) → Says old.rules (start_with gifts) (s ++ (d.fed.bytes ++ d.has.looked)) (es ++ (d.fed.drained gifts s es a).more) (verdict_of new.refusal)
      said_of s es a none rules d =
          let more = (d.fed.drained gifts s es a).more in
          subst (λ (z : List ℕ). Says old.rules (start_with gifts) z (es ++ more) (verdict_of new.refusal)) (append_assoc s d.fed.bytes d.has.looked) (subst (λ (l : Rules). Says l (start_with gifts) (s ++ d.fed.bytes ++ d.has.looked) (es ++ more) (verdict_of new.refusal)) rules (d.has.says none gifts s es a))

    same_verdict : (o o' : Option Refusal) → verdict_of o' ≡ verdict_of o → o' ≡ o
    same_verdict None None same = refl
    same_verdict None (Some r) same = cc
    same_verdict (Some r) None same = cc
    same_verdict (Some r) (Some r') same = ap Some (let at : r'.at ≡ r.at = cc in let why : r'.why ≡ r.why = cc in λ i. record { at = at i; why = why i })

    -- where both read the same bytes
    sinks_alike : (old new new' : StreamState) (xs : List ℕ) (left left' : Option (List ℕ)) (before after after' : V) (s : List ℕ) (es : List (ℕ × Event)) (a : AfterGifts gifts old s es) → old.refusal ≡ None → new.rules ≡ old.rules → new'.rules ≡ old.rules
        → (d : AllOf old new xs left before after) (d' : AllOf old new' xs left' before after') → left' ≡ left → (after' ≡ after) × (new'.refusal ≡ new.refusal)
    sinks_alike old new new' xs left left' before after after' s es a none rules rules' d d' same =
        let x = read_of old new xs left before after d.has.unread d d.has.others in
        let y = read_of old new' xs left' before after' d.has.unread d' (same ∙ d.has.others) in
        let bytes : d'.fed.bytes ++ d'.has.looked ≡ d.fed.bytes ++ d.has.looked = append_cancel_right (d'.fed.bytes ++ d'.has.looked) (d.fed.bytes ++ d.has.looked) d.has.unread (sym y ∙ x) in
        let e = d.fed.drained gifts s es a in
        let e' = d'.fed.drained gifts s es a in
        let all = said_of old new xs left before after s es a none rules d in
        let all' = subst (λ (z : List ℕ). Says old.rules (start_with gifts) (s ++ z) (es ++ e'.more) (verdict_of new'.refusal)) bytes (said_of old new' xs left' before after' s es a none rules' d') in
        let once = says_once old.rules (start_with gifts) (s ++ (d.fed.bytes ++ d.has.looked)) (es ++ e.more) (es ++ e'.more) (verdict_of new.refusal) (verdict_of new'.refusal) all all' in
        let more : e'.more ≡ e.more = append_cancel_left es e'.more e.more once.0 in
        (e'.got ∙ ap (λ (z : List (ℕ × Event)). fold_events f before z) more ∙ sym e.got, same_verdict new.refusal new'.refusal once.1)

    -- ---- a run that finishes

    refused_on : (l : Rules) (bytes t : List ℕ) (es : List (ℕ × Event)) (k : ℕ) (why : Reason) → Says l (start_with gifts) bytes es (Refused k why) → Says l (start_with gifts) (bytes ++ t) es (Refused k why)
    refused_on l bytes t es k why all =
        let bad = is_bad (says (step l all.0) 0 all.1) k why all.3 in
        (all.0, all.1 ++ t, runs_stay (step l) (start_with gifts) bytes t es all.0 all.1 all.2, rw (stays_bad (k, why) (says_stays (step l all.0) 0 all.1 t) bad) refl)

    -- it has handed out all that the stream says, and ends as it does
    record Finishing (l : Rules) (refusal : Option Refusal) (end : Finish) (xs : List ℕ) (before after : V) (s : List ℕ) (es : List (ℕ × Event)) : Type 0 where
      more : List (ℕ × Event)
      all : Says l (start_with gifts) (s ++ xs) (es ++ more) (verdict_of refusal)
      ends : FinishesBy refusal (s ++ xs) (es ++ more) end
      got : after ≡ fold_events f before more

    finishing_by : (o : Option Refusal) (turns : ℕ) (end : Finish) (old new : StreamState) (xs : List ℕ) (left : Option (List ℕ)) (before after : V) (s : List ℕ) (es : List (ℕ × Event)) (a : AfterGifts gifts old s es) → old.refusal ≡ None → new.rules ≡ old.rules → new.refusal ≡ o
        → RunsTo f faulted turns (outcome.Finished end) old new xs left before after → Finishing old.rules o end xs before after s es
    finishing_by None turns end old new xs left before after s es a none rules is ran =
        let e = ran.0.drained gifts s es a in
        let rest : ran.0.rest ≡ [] = elim ran.1 [ inl end ↦ end | inr refused ↦ absurd (let some = refused.1 in cc) ] in
        let bytes : ran.0.bytes ≡ xs = sym (append-nil ran.0.bytes) ∙ sym (ran.0.parts ∙ ap (λ (z : List ℕ). ran.0.bytes ++ z) rest) in
        let looked : ran.0.bytes ++ ran.3.looked ≡ xs = ap (λ (z : List ℕ). ran.0.bytes ++ z) (ran.3.none is) ∙ append-nil ran.0.bytes ∙ bytes in
        let said = said_of old new xs left before after s es a none rules (record { fed = ran.0; has = ran.3 }) in
        let finishes = ran.2 gifts (s ++ ran.0.bytes) (es ++ e.more) e.conforms in record {
          more = e.more;
          all = subst (λ (z : List ℕ). Says old.rules (start_with gifts) (s ++ z) (es ++ e.more) Waits) looked (subst (λ (z : Option Refusal). Says old.rules (start_with gifts) (s ++ (ran.0.bytes ++ ran.3.looked)) (es ++ e.more) (verdict_of z)) is said);
          ends = subst (λ (z : List ℕ). FinishesBy None (s ++ z) (es ++ e.more) end) bytes (subst (λ (z : Option Refusal). FinishesBy z (s ++ ran.0.bytes) (es ++ e.more) end) is finishes);
          got = e.got;
        }
    finishing_by (Some r) turns end old new xs left before after s es a none rules is ran =
        let e = ran.0.drained gifts s es a in
        let d : AllOf old new xs left before after = record { fed = ran.0; has = ran.3 } in
        let said = subst (λ (z : Option Refusal). Says old.rules (start_with gifts) (s ++ (ran.0.bytes ++ ran.3.looked)) (es ++ e.more) (verdict_of z)) is (said_of old new xs left before after s es a none rules d) in
        let all : s ++ (ran.0.bytes ++ ran.3.looked) ++ ran.3.unread ≡ s ++ xs = append_assoc s (ran.0.bytes ++ ran.3.looked) ran.3.unread ∙ ap (λ (z : List ℕ). s ++ z) (sym (read_of old new xs left before after ran.3.unread d ran.3.others)) in
        let finishes = ran.2 gifts (s ++ ran.0.bytes) (es ++ e.more) e.conforms in record {
          more = e.more;
          all = subst (λ (z : List ℕ). Says old.rules (start_with gifts) z (es ++ e.more) (Refused r.at r.why)) all (refused_on old.rules (s ++ (ran.0.bytes ++ ran.3.looked)) ran.3.unread (es ++ e.more) r.at r.why said);
          ends = subst (λ (z : Option Refusal). FinishesBy z (s ++ ran.0.bytes) (es ++ e.more) end) is finishes;
          got = e.got;
        }

    finishing_alike : (l : Rules) (o o' : Option Refusal) (end end' : Finish) (xs : List ℕ) (before after after' : V) (s : List ℕ) (es : List (ℕ × Event)) → Finishing l o end xs before after s es → Finishing l o' end' xs before after' s es → (end' ≡ end) × (after' ≡ after)
    finishing_alike l o o' end end' xs before after after' s es x y =
        let once = says_once l (start_with gifts) (s ++ xs) (es ++ x.more) (es ++ y.more) (verdict_of o) (verdict_of o') x.all y.all in
        let refusal = same_verdict o o' once.1 in
        let more = append_cancel_left es y.more x.more once.0 in (
          finish_by o (s ++ xs) (es ++ x.more) end end' x.ends (subst (λ (z : Option Refusal). FinishesBy z (s ++ xs) (es ++ x.more) end') refusal (subst (λ (z : List (ℕ × Event)). FinishesBy o' (s ++ xs) (es ++ z) end') more y.ends)),
          y.got ∙ ap (λ (z : List (ℕ × Event)). fold_events f before z) more ∙ sym x.got,
        )

    ends_right : (o : Option Refusal) (v : Verdict) (end : Finish) (xs : List ℕ) (es : List (ℕ × Event)) → verdict_of o ≡ v → FinishesBy o xs es end → EndsBy v xs es end
    ends_right None v end xs es is h = rw (← is) h
    ends_right (Some r) v end xs es is h = rw (← is) h

    -- ---- the laws

    finished_with : (o : Outcome) (end : Finish) → o ≡ outcome.Finished end → (turns : ℕ) (old new : StreamState) (xs : List ℕ) (left : Option (List ℕ)) (before after : V) → RunsTo f faulted turns o old new xs left before after → RunsTo f faulted turns (outcome.Finished end) old new xs left before after
    finished_with o end is turns old new xs left before after ran = subst (λ (z : Outcome). RunsTo f faulted turns z old new xs left before after) is ran

    fails_apart : (o o' : Outcome) → is_read_fault o ≡ true → is_read_fault o' ≡ false → is_read_fault o ≡ is_read_fault o' → ⊥
    fails_apart o o' here there same = let e : ◌≡◌ {A = Bool} true false = sym here ∙ same ∙ there in cc

    -- a run that finished with every turn spent was refused, and one whose turns ran out over the same bytes was not
    spent : (turns : ℕ) (end : Finish) (o o' : Outcome) (old new new' : StreamState) (xs : List ℕ) (left left' : Option (List ℕ)) (before after after' : V) (s : List ℕ) (es : List (ℕ × Event)) (a : AfterGifts gifts old s es) (ran : Ran f faulted turns o old new xs left before after) (ran' : Ran f faulted turns o' old new' xs left' before after') → o ≡ outcome.Finished end → o' ≡ outcome.Turns → ran'.reads.giving ≡ ran.reads.giving → new'.refusal ≡ new.refusal → ⊥
    spent turns end o o' old new new' xs left left' before after after' s es a ran ran' is is' giving refusal =
        let fin = finished_with o end is turns old new xs left before after ran.runs in
        let d = fin.0.drained gifts s es a in
        let finishes : FinishesBy new.refusal (s ++ fin.0.bytes) (es ++ d.more) end = fin.2 gifts (s ++ fin.0.bytes) (es ++ d.more) d.conforms in
        let every : ran'.reads.giving ≡ turns = ran'.reads.all is' in
        let within : ran.reads.giving + idle_reads (outcome.Finished end) ≤ turns = subst (λ (z : Outcome). ran.reads.giving + idle_reads z ≤ turns) is ran.reads.within in
        let waits : new'.refusal ≡ None = subst (λ (z : Outcome). WaitsAt z new') is' ran'.waits in
        idle_is_refused new.refusal (s ++ fin.0.bytes) (es ++ d.more) end finishes (omega arith) (sym refusal ∙ waits)

    module _ (turns : ℕ) (o o' : Outcome) (old new new' : StreamState) (xs : List ℕ) (left left' : Option (List ℕ)) (before after after' : V) (s : List ℕ) (es : List (ℕ × Event)) (a : AfterGifts gifts old s es) (ran : Ran f faulted turns o old new xs left before after) (ran' : Ran f faulted turns o' old new' xs left' before after') where
      sinks_by : (w : Option Refusal) → old.refusal ≡ w → IsSound o → IsSound o' → left' ≡ left → (after' ≡ after) × (new'.refusal ≡ new.refusal)
      sinks_by None none sound sound' same =
          sinks_alike old new new' xs left left' before after after' s es a none ran.rules ran'.rules (all_of turns o old new xs left before after sound ran.runs) (all_of turns o' old new' xs left' before after' sound' ran'.runs) same
      sinks_by (Some r) is sound sound' same =
          let p = ran.refused r is in
          let q = ran'.refused r is in
          (q.2 ∙ sym p.2, ap (λ (z : StreamState). z.refusal) (q.1 ∙ sym p.1))

      ends_by : (w : Option Refusal) → old.refusal ≡ w → (end end' : Finish) → o ≡ outcome.Finished end → o' ≡ outcome.Finished end' → (end' ≡ end) × (after' ≡ after)
      ends_by None none end end' is is' =
          finishing_alike old.rules new.refusal new'.refusal end end' xs before after after' s es
          (finishing_by new.refusal turns end old new xs left before after s es a none ran.rules refl (finished_with o end is turns old new xs left before after ran.runs))
          (finishing_by new'.refusal turns end' old new' xs left' before after' s es a none ran'.rules refl (finished_with o' end' is' turns old new' xs left' before after' ran'.runs))
      ends_by (Some r) refused end end' is is' =
          let p = ran.refused r refused in
          let q = ran'.refused r refused in
          let x : end ≡ finish.Refused r = let e = sym is ∙ p.0 in cc in
          let y : end' ≡ finish.Refused r = let e = sym is' ∙ q.0 in cc in
          (y ∙ sym x, q.2 ∙ sym p.2)

      outcomes_by : (p p' : Outcome) → o ≡ p → o' ≡ p' → IsSound o → IsSound o' → left' ≡ left → ran'.reads.giving ≡ ran.reads.giving → is_read_fault o' ≡ is_read_fault o → o' ≡ o
      outcomes_by (outcome.Finished e) (outcome.Finished e') is is' sound sound' same giving fails = is' ∙ ap (λ (z : Finish). outcome.Finished z) (ends_by old.refusal refl e e' is is').0 ∙ sym is
      outcomes_by (outcome.Finished e) outcome.ReadFault is is' sound sound' same giving fails = absurd (fails_apart o' o (ap is_read_fault is') (ap is_read_fault is) fails)
      outcomes_by (outcome.Finished e) outcome.Turns is is' sound sound' same giving fails = absurd (spent turns e o o' old new new' xs left left' before after after' s es a ran ran' is is' giving (sinks_by old.refusal refl sound sound' same).1)
      outcomes_by (outcome.Finished e) outcome.SinkFault is is' sound sound' same giving fails = absurd (subst (λ (z : Outcome). IsSound z) is' sound')
      outcomes_by outcome.ReadFault (outcome.Finished e) is is' sound sound' same giving fails = absurd (fails_apart o o' (ap is_read_fault is) (ap is_read_fault is') (sym fails))
      outcomes_by outcome.ReadFault outcome.ReadFault is is' sound sound' same giving fails = is' ∙ sym is
      outcomes_by outcome.ReadFault outcome.Turns is is' sound sound' same giving fails = absurd (fails_apart o o' (ap is_read_fault is) (ap is_read_fault is') (sym fails))
      outcomes_by outcome.ReadFault outcome.SinkFault is is' sound sound' same giving fails = absurd (subst (λ (z : Outcome). IsSound z) is' sound')
      outcomes_by outcome.Turns (outcome.Finished e) is is' sound sound' same giving fails = absurd (spent turns e o' o old new' new xs left' left before after' after s es a ran' ran is' is (sym giving) (sym (sinks_by old.refusal refl sound sound' same).1))
      outcomes_by outcome.Turns outcome.ReadFault is is' sound sound' same giving fails = absurd (fails_apart o' o (ap is_read_fault is') (ap is_read_fault is) fails)
      outcomes_by outcome.Turns outcome.Turns is is' sound sound' same giving fails = is' ∙ sym is
      outcomes_by outcome.Turns outcome.SinkFault is is' sound sound' same giving fails = absurd (subst (λ (z : Outcome). IsSound z) is' sound')
      outcomes_by outcome.SinkFault p' is is' sound sound' same giving fails = absurd (subst (λ (z : Outcome). IsSound z) is sound)

      one : AreOneRun f faulted turns o o' old new new' xs left left' before after after' gifts s es a ran ran'
      one = record {
        events =
            let x = given_by turns o old new xs left before after s es a ran.rules ran.runs in
            let y = given_by turns o' old new' xs left' before after' s es a ran'.rules ran'.runs in
            either_way gifts old.rules s x.bytes x.rest y.bytes y.rest xs es (handed f faulted turns o old new xs left before after ran.runs gifts s es a) (handed f faulted turns o' old new' xs left' before after' ran'.runs gifts s es a) x.place y.place x.left y.left x.parts y.parts x.read y.read;
        sinks = sinks_by old.refusal refl;
        outcomes = λ sound sound' same giving fails. outcomes_by o o' refl refl sound sound' same giving fails;
        ends = ends_by old.refusal refl;
      }

  pub one_run : IsOneAnswerOfRun f faulted
  one_run turns o o' old new new' xs left left' before after after' gifts s es a ran ran' = one gifts turns o o' old new new' xs left left' before after after' s es a ran ran'

  pub runs_right : RunsRight f faulted
  runs_right limits d new turns xs left before after es v end fresh says ran =
      let x = finishing_by [] new.refusal turns end (state d) new xs left before after [] [] fresh.fresh fresh.unrefused ran.rules refl ran.runs in
      let said = subst (λ (l : Rules). Says l start xs es v) (sym fresh.rules) says in
      let once = says_once (state d).rules start xs x.more es (verdict_of new.refusal) v x.all said in (
        x.got ∙ ap (λ (z : List (ℕ × Event)). fold_events f before z) (sym once.0),
        ends_right [] new.refusal v end xs es (sym once.1) (subst (λ (z : List (ℕ × Event)). FinishesBy new.refusal xs z end) (sym once.0) x.ends),
      )
