-- The bytes that decide an event.
use Rattle.std.proofs.Common.{◌≡◌, ℕ, ◌≤◌, List, [], ◌∷◌, ◌++◌, length, take, drop, Option, None, sym, ap, subst, ◌∙◌, inl, inr, arith}
use Rattle.std.proofs.lemmas.Bool.{cases_lt}
use Rattle.std.proofs.lemmas.List.{length-take-le, nil_from_length, take-append-drop, take_at}
use Rattle.cqlp_note.specs.declared.refusal.Refusal.{Refusal}
use Rattle.cqlp_note.specs.Limits.{Rules}
use Rattle.cqlp_note.proofs.Runs.{runs_stay}
use Rattle.cqlp_grammar.specs.Events.{event_of}
use Rattle.cqlp_decode.specs.Progress.{StreamState, IsPending}
use Rattle.cqlp_decode.specs.Streams.{AfterBy, AfterGifts, Conforms}
use Rattle.cqlp_decode.specs.Reading.{Place, Event, Gifts, Reads, start_with, step}
use Rattle.cqlp_laws.specs.Due.{SayAtLeast, IsDue, DueIsTheEndOfItsBytes, HasNoMoreEventsThanDue, UsesWhatIsDue}
use Rattle.cqlp_laws.proofs.EventCounts.{events_paid}
use Rattle.cqlp_laws.proofs.OneAnswer.{pending_none, place_once}
use Rattle.cqlp_laws.proofs.Offsets.{offset_is}
use Rattle.cqlp_laws.proofs.OwnBytes.{ends_with_own}
use Rattle.cqlp_laws.proofs.RunsBack.{runs_exact}

pub no_more_than_due : HasNoMoreEventsThanDue
no_more_than_due l gifts s es due some d =
    let r = d.decided in
    omega (arith, events_paid l some es (start_with gifts) r.0 (take due s) r.1 r.2, length-take-le due s d.within)

module _ (l : Rules) (gifts : Gifts) (s : List ℕ) (es : List (ℕ × Event)) (p : Place) (rest : List ℕ) (r : Reads l (start_with gifts) s es p rest) where
  -- fewer bytes that say the events lead to the same place
  no_fewer : (n : ℕ) → n ≤ length s → SayAtLeast l gifts (take n s) es → p.offset ≤ n
  no_fewer n le f =
      let longer = runs_stay (step l) (start_with gifts) (take n s) (drop n s) es f.0 f.1 f.2 in
      let whole : Reads l (start_with gifts) s es f.0 (f.1 ++ drop n s) = rw (take-append-drop n s) at longer in
      let same : f.0 ≡ p = (place_once gifts l s es p f.0 rest (f.1 ++ drop n s) r whole).0 in
      let conforms = offset_is l gifts es f.0 (take n s) f.1 f.2 in
      omega (arith, ap (λ (q : Place). q.offset) same, conforms, length-take-le n s le)

  conforms_within : p.offset ≤ length s
  conforms_within = omega (arith, offset_is l gifts es p s rest r)

  pub due_there : IsDue l gifts s es p.offset
  due_there =
      let e = runs_exact (step l) (start_with gifts) p s rest es r in
      let long : length e.0 ≡ p.offset = omega (arith, offset_is l gifts es p e.0 [] e.2) in
      let front : e.0 ≡ take p.offset s = sym (take_at e.0 rest p.offset long) ∙ ap (take p.offset) (sym e.1) in
      record {
        within = conforms_within;
        decided = (p, [], subst (λ (b : List ℕ). Reads l (start_with gifts) b es p []) front e.2);
        fewer = λ n lt f. absurd (omega (arith, lt, no_fewer n (omega (arith, lt, conforms_within)) f));
      }

-- they are as many as are due
module _ (l : Rules) (gifts : Gifts) (s : List ℕ) (es : List (ℕ × Event)) (due : ℕ) (d : IsDue l gifts s es due) where
  due_exactly : (p : Place) × Reads l (start_with gifts) (take due s) es p []
  due_exactly =
      let r = d.decided in
      let longer = runs_stay (step l) (start_with gifts) (take due s) (drop due s) es r.0 r.1 r.2 in
      let whole : Reads l (start_with gifts) s es r.0 (r.1 ++ drop due s) = rw (take-append-drop due s) at longer in
      let conforms = due_there l gifts s es r.0 (r.1 ++ drop due s) whole in
      let none : r.1 ≡ [] = elim (cases_lt r.0.offset due) [
        | inl lt ↦ absurd (d.fewer r.0.offset lt conforms.decided)
        | inr le ↦ nil_from_length r.1 (omega (arith, le, offset_is l gifts es r.0 (take due s) r.1 r.2, length-take-le due s d.within))
      ] in
      (r.0, subst (λ (z : List ℕ). Reads l (start_with gifts) (take due s) es r.0 z) none r.2)

pub due_ends_with_own : DueIsTheEndOfItsBytes
due_ends_with_own l gifts s es at e due d =
    let r = due_exactly l gifts s (es ++ (at, e) ∷ []) due d in
    ends_with_own l gifts (take due s) es at e r.0 r.1

-- what a decoder used up to an event is due
used_is_due : (gifts : Gifts) (d : StreamState) (s : List ℕ) (es : List (ℕ × Event)) → d.refusal ≡ None → IsPending d.pending [] → AfterGifts gifts d s es → IsDue d.rules gifts s es (length s)
used_is_due gifts d s es is begun after =
    let a : Conforms gifts d s es = subst (λ (o : Option Refusal). AfterBy o gifts d s es) is after in
    let long : a.place.offset ≡ length s = omega (arith, offset_is d.rules gifts es a.place s a.bytes a.read, ap length (pending_none d.pending a.bytes begun a.pending)) in
    subst (λ (n : ℕ). IsDue d.rules gifts s es n) long (due_there d.rules gifts s es a.place a.bytes a.read)

pub uses_what_is_due : UsesWhatIsDue
uses_what_is_due gifts old s es input at used e new h = used_is_due gifts new (s ++ take used input) (es ++ (at, event_of e) ∷ []) h.1 h.2 h.3
