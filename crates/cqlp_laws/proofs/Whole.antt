-- What a stream says is one list of events with one verdict, which goes on where more bytes come.
use Rattle.std.proofs.Common.{◌≡◌, ℕ, List, [], ◌∷◌, ◌++◌, length, refl, sym, ap, ◌∙◌, inl, inr, arith}
use Rattle.std.proofs.lemmas.List.{append-nil}
use Rattle.std.proofs.lemmas.Bool.{cases_lt}
use Rattle.cqlp_note.specs.declared.refusal.Reason.{Reason}
use Rattle.cqlp_note.specs.Limits.{Rules}
use Rattle.cqlp_note.specs.Reader.{Said, More, Got, Bad, says}
use Rattle.cqlp_note.specs.Step.{Emitted}
use Rattle.cqlp_decode.specs.Reading.{Event, Place, step, Reads, Verdict, Waits, Refused, Ends, Says}
use Rattle.cqlp_note.proofs.Readers.{says_stays}
use Rattle.cqlp_note.proofs.Runs.{stays_bad, runs_stay, runs_compare}

pub no_step : (l : Rules) (q r : Place) (rest rest' : List ℕ) (v : Verdict) (es : List (ℕ × Event)) → Ends (says (step l q) 0 rest) v → Reads l q rest es r rest' → es ≡ []
no_step l q r rest rest' v [] ends run = refl
no_step l q r rest rest' v (e ∷ es) ends run = absurd (rw run.2 at ends)

same_verdict : (d : Said (Emitted Event Place) (ℕ × Reason)) (v w : Verdict) → Ends d v → Ends d w → v ≡ w
same_verdict More Waits Waits a b = refl
same_verdict More Waits (Refused k why) a b = absurd b
same_verdict More (Refused k why) w a b = absurd a
same_verdict (Bad f) Waits w a b = absurd a
same_verdict (Bad f) (Refused k why) Waits a b = absurd b
same_verdict (Bad f) (Refused k why) (Refused j how) a b = ap (λ (x : ℕ × Reason). Refused x.0 x.1) (sym a ∙ b)
same_verdict (Got x used) v w a b = absurd a

pub is_bad : (d : Said (Emitted Event Place) (ℕ × Reason)) (k : ℕ) (why : Reason) → Ends d (Refused k why) → d ≡ Bad (k, why)
is_bad More k why h = absurd h
is_bad (Bad f) k why h = ap Bad h
is_bad (Got x used) k why h = absurd h

module _ (l : Rules) (p : Place) (bytes t : List ℕ) (es es' : List (ℕ × Event)) (v v' : Verdict) (a : Says l p bytes es v) (b : Says l p (bytes ++ t) es' v') where
  -- The events of a stream go on those of its front.
  goes_on : (more : List (ℕ × Event)) × (es' ≡ es ++ more) × Reads l a.0 (a.1 ++ t) more b.0 b.1
  goes_on =
      let a' = runs_stay (step l) p bytes t es a.0 a.1 a.2 in
      elim (cases_lt (length es') (length es)) [
        | inl lt ↦
            let c = runs_compare (step l) p b.0 a.0 (bytes ++ t) b.1 (a.1 ++ t) es' es b.2 a' (omega arith) in
            let none = no_step l b.0 a.0 b.1 (a.1 ++ t) v' c.0 b.3 c.2 in
            let same : es ≡ es' = c.1 ∙ ap (λ (x : List (ℕ × Event)). es' ++ x) none ∙ append-nil es' in
            absurd (omega (arith, ap length same))
        | inr le ↦ runs_compare (step l) p a.0 b.0 (bytes ++ t) (a.1 ++ t) b.1 es es' a' b.2 le
      ]

  pub events_go_on : (more : List (ℕ × Event)) × (es' ≡ es ++ more)
  events_go_on = (goes_on.0, goes_on.1)

  -- A refusal stays.
  pub refusal_stays : (k : ℕ) (why : Reason) → v ≡ Refused k why → (es' ≡ es) × (v' ≡ Refused k why)
  refusal_stays k why is =
      let bad : says (step l a.0) 0 a.1 ≡ Bad (k, why) = is_bad (says (step l a.0) 0 a.1) k why (rw is at a.3) in
      let still : says (step l a.0) 0 (a.1 ++ t) ≡ Bad (k, why) = stays_bad (k, why) (says_stays (step l a.0) 0 a.1 t) bad in
      let ends : Ends (says (step l a.0) 0 (a.1 ++ t)) (Refused k why) = rw still refl in
      let none = no_step l a.0 b.0 (a.1 ++ t) b.1 (Refused k why) goes_on.0 ends goes_on.2 in
      let there = rw none at goes_on.2 in
      (goes_on.1 ∙ ap (λ (x : List (ℕ × Event)). es ++ x) none ∙ append-nil es, same_verdict (says (step l a.0) 0 (a.1 ++ t)) v' (Refused k why) (rw (there.0, there.1) at b.3) ends)

-- One list of events and one verdict.
pub says_once : (l : Rules) (p : Place) (bytes : List ℕ) (es es' : List (ℕ × Event)) (v v' : Verdict) → Says l p bytes es v → Says l p bytes es' v' → (es' ≡ es) × (v' ≡ v)
says_once l p bytes es es' v v' a b = elim (cases_lt (length es') (length es)) [
  | inl lt ↦
      let c = runs_compare (step l) p b.0 a.0 bytes b.1 a.1 es' es b.2 a.2 (omega arith) in
      let none = no_step l b.0 a.0 b.1 a.1 v' c.0 b.3 c.2 in
      absurd (omega (arith, ap length (c.1 ∙ ap (λ (x : List (ℕ × Event)). es' ++ x) none ∙ append-nil es')))
  | inr le ↦
      let c = runs_compare (step l) p a.0 b.0 bytes a.1 b.1 es es' a.2 b.2 le in
      let none = no_step l a.0 b.0 a.1 b.1 v c.0 a.3 c.2 in
      let there = rw none at c.2 in
      (c.1 ∙ ap (λ (x : List (ℕ × Event)). es ++ x) none ∙ append-nil es, same_verdict (says (step l a.0) 0 a.1) v' v (rw (there.0, there.1) at b.3) a.3)
]
