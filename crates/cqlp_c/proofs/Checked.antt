-- The check of a whole stream.
use Rattle.std.proofs.Common.{◌≡◌, ◌↔◌, ℕ, List, [], ◌++◌, take, drop, Ok, Err, refl, sym, ap, subst, ◌∙◌, inl, inr, arith}
use Rattle.std.specs.Prelude.{Option, Some, None, Result}
use Rattle.std.specs.Ptr.{Ptr}
use Rattle.std.proofs.lemmas.List.{take-append-drop, take_all}
use Rattle.cqlp_note.specs.declared.limits.BadLimits.{BadLimits}
use Rattle.cqlp_note.specs.declared.limits.Limits.{Limits}
use Rattle.cqlp_note.specs.declared.refusal.Refusal.{Refusal}
use Rattle.cqlp_note.specs.Limits.{first_bad, rules_of}
use Rattle.cqlp_grammar.specs.declared.event.Finish.{Finish}
use Rattle.cqlp_grammar.specs.declared.event.Finish.TheVariants as finish
use Rattle.cqlp_decode.specs.declared.decoder.NewError.{NewError}
use Rattle.cqlp_decode.specs.declared.decoder.NewError.TheVariants as error
use Rattle.cqlp_decode.specs.Reading.{Event, Says, Waits, Refused, start}
use Rattle.cqlp_decode.specs.Progress.{StreamState}
use Rattle.cqlp_decode.specs.Streams.{After, EndsAs, FinishesBy}
use Rattle.cqlp_decode.proofs.Gets.{refuses_new}
use Rattle.cqlp_c.specs.declared.batch.Batch.{Batch}
use Rattle.cqlp_c.specs.declared.batch.Stop.{Stop}
use Rattle.cqlp_c.specs.declared.batch.Stop.TheVariants as stop
use Rattle.cqlp_c.specs.declared.event.CqlpEvent.{CqlpEvent}
use Rattle.cqlp_c.specs.declared.shown.CqlpEnd.{CqlpEnd}
use Rattle.cqlp_c.specs.declared.numbers.TheConstants as numbers
use Rattle.cqlp_c.specs.Numbers.{code_of_error}
use Rattle.cqlp_c.specs.Batches.{Buffer, Fills, StopsBy, events_of}
use Rattle.cqlp_c.specs.Checks.{ChecksBy, HasVerdict, IsDone}
use Rattle.cqlp_c.specs.Shown.{end_of}

done_waits : (o : Option Refusal) → o ≡ None → (new : StreamState) (stream : List ℕ) (es : List (ℕ × Event)) → After new stream es → Says new.rules start stream es Waits → IsDone o new stream es
done_waits None none new stream es a says = (a, says)
done_waits (Some r) none new stream es a says = absurd cc

done_refused : (o : Option Refusal) (r : Refusal) → o ≡ Some r → (new : StreamState) (stream : List ℕ) (es : List (ℕ × Event)) → Says new.rules start stream es (Refused r.at r.why) → IsDone o new stream es
done_refused None r some new stream es says = absurd cc
done_refused (Some z) r some new stream es says = let same : z ≡ r = cc in rw same says

module _ (mid new : StreamState) (stream : List ℕ) (used room : ℕ) (begins : Ptr) (buffer : Buffer) (b : Batch) (events : List CqlpEvent) (es : List (ℕ × Event)) (f : Fills [] mid new (take used stream) (drop used stream) begins buffer es room b events) where
  whole : take used stream ++ drop used stream ≡ stream
  whole = take-append-drop used stream

  stops_at : (x : Stop) → b.stop ≡ x → StopsBy [] mid new (take used stream) (drop used stream) es room b.used f.puts x
  stops_at x is = subst (λ (z : Stop). StopsBy [] mid new (take used stream) (drop used stream) es room b.used f.puts z) is f.stops

  pub drained_more : b.stop ≡ stop.More → (fs : List (ℕ × Event)) × IsDone new.refusal new stream fs
  drained_more is =
      let st = stops_at stop.More is in
      let all : take used stream ++ take b.used (drop used stream) ≡ stream = ap (λ (z : List ℕ). take used stream ++ z) (take_all b.used (drop used stream) (omega (arith, st.0))) ∙ whole in
      let fs = es ++ events_of f.puts in (
        fs,
        done_waits new.refusal st.3 new stream fs (subst (λ (z : List ℕ). After new z fs) all f.after) (subst (λ (z : List ℕ). Says new.rules start z fs Waits) whole st.4),
      )

  pub drained_refused : (r : Refusal) → b.stop ≡ stop.Refused r → mid.refusal ≡ None → new.rules ≡ mid.rules → (fs : List (ℕ × Event)) × IsDone new.refusal new stream fs
  drained_refused r is none rules =
      let st = stops_at (stop.Refused r) is in
      let fs = es ++ events_of f.puts in
      let says = refuses_new mid.refusal [] mid (take used stream) fs (drop used stream) r none st.4 in (
        fs,
        done_refused new.refusal r st.3 new stream fs (rw (rules, ← whole) says),
      )

verdict_by : (new : StreamState) (stream : List ℕ) (es : List (ℕ × Event)) (f : Finish) (o : Option Refusal) → new.refusal ≡ o → IsDone o new stream es → EndsAs new f → ((r : Refusal) → new.refusal ≡ Some r → f ≡ finish.Refused r) → HasVerdict new.rules stream f
verdict_by new stream es f None is done ends refused = (es, Waits, done.1, subst (λ (o : Option Refusal). FinishesBy o stream es f) is (ends [] stream es done.0))
verdict_by new stream es f (Some r) is done ends refused = (es, Refused r.at r.why, done, refused r is)

pub verdict : (l : Limits) (new : StreamState) (stream : List ℕ) (f : Finish) → new.rules ≡ rules_of l → (es : List (ℕ × Event)) × IsDone new.refusal new stream es → EndsAs new f → ((r : Refusal) → new.refusal ≡ Some r → f ≡ finish.Refused r) → HasVerdict (rules_of l) stream f
verdict l new stream f rules done ends refused = rw rules at (verdict_by new stream done.0 f new.refusal refl done.1 ends refused)

checked_by : (l : Limits) (b : Result Unit BadLimits) → first_bad l ≡ b → ((z : BadLimits) → first_bad l ≡ Err z → ⊥) → (stream : List ℕ) (f : Finish) (was written : CqlpEnd) → written ≡ end_of f → HasVerdict (rules_of l) stream f → ChecksBy l b stream numbers.DONE was written
checked_by l (Ok u) is none stream f was written shown has = inr (refl, f, shown, has)
checked_by l (Err z) is none stream f was written shown has = absurd (none z is)

pub checked : (l : Limits) → ((z : BadLimits) → first_bad l ≡ Err z → ⊥) → (stream : List ℕ) (f : Finish) (was written : CqlpEnd) → written ≡ end_of f → HasVerdict (rules_of l) stream f → ChecksBy l (first_bad l) stream numbers.DONE was written
checked l none stream f was written shown has = checked_by l (first_bad l) refl none stream f was written shown has

not_checked_by : (l : Limits) (b : Result Unit BadLimits) → first_bad l ≡ b → (e : NewError) → ((z : BadLimits) → (e ≡ error.BadLimits z) ↔ (first_bad l ≡ Err z)) → (stream : List ℕ) (was : CqlpEnd) → ChecksBy l b stream (code_of_error e) was was
not_checked_by l (Err z) is e bad stream was = (ap code_of_error ((bad z).1 is), refl)
not_checked_by l (Ok u) is error.NoMemory bad stream was = inl (refl, refl)
not_checked_by l (Ok u) is (error.BadLimits z) bad stream was = absurd (let e = sym is ∙ (bad z).0 refl in cc)

pub not_checked : (l : Limits) (e : NewError) → ((z : BadLimits) → (e ≡ error.BadLimits z) ↔ (first_bad l ≡ Err z)) → (stream : List ℕ) (was : CqlpEnd) → ChecksBy l (first_bad l) stream (code_of_error e) was was
not_checked l e bad stream was = not_checked_by l (first_bad l) refl e bad stream was
