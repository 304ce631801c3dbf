-- What the bytes of one step say.
use Rattle.std.proofs.Common.{◌≡◌, ℕ, ◌+◌, ◌<◌, ◌≤◌, List, ◌++◌, length, take, drop, Result, Ok, Err, refl, sym, ap, ◌∙◌, arith}
use Rattle.std.proofs.Math.Seq.{take-append-add}
use Rattle.std.proofs.lemmas.Bool.{lt-ltb, le-ltb}
use Rattle.std.proofs.lemmas.List.{length-append}
use Rattle.cqlp_note.specs.Reader.{Said, More, Bad, Got, says}
use Rattle.cqlp_capture.specs.declared.event.Emission.{Emission}
use Rattle.cqlp_capture.specs.declared.interfaces.KnownInterface.{KnownInterface}
use Rattle.cqlp_capture.specs.declared.limits.CaptureLimits.{CaptureLimits}
use Rattle.cqlp_capture.specs.declared.refusal.CaptureRefusal.{CaptureRefusal}
use Rattle.cqlp_capture.specs.Reading.{Emitted, Spot, event_if, after_emission, wanted, emission, emitted, step}

-- what a reading says that took n bytes, of what they hold
abbrev pub said_of : List KnownInterface → (n : ℕ) → List ℕ → Result Emission CaptureRefusal → Said Emitted CaptureRefusal
said_of known n b (Ok t) = Got (record { at = t.at; event = event_if t.what b; after = after_emission known t }) n
said_of known n b (Err r) = Bad r

emitted_said : (known : List KnownInterface) (n : ℕ) (b rest : List ℕ) (d : Result Emission CaptureRefusal) → says (emitted known b d) n rest ≡ said_of known n b d
emitted_said known n b rest (Ok t) = refl
emitted_said known n b rest (Err r) = refl

module _ (l : CaptureLimits) (p : Spot) where
  pub step_waits : (bytes : List ℕ) → length bytes < wanted p.place.stage → says (step l p) 0 bytes ≡ More
  step_waits bytes lt = rw (lt-ltb _ _ lt) refl

  pub step_says : (bytes : List ℕ) → wanted p.place.stage ≤ length bytes → says (step l p) 0 bytes ≡ said_of p.known (wanted p.place.stage) (take (wanted p.place.stage) bytes) (emission l p (take (wanted p.place.stage) bytes))
  step_says bytes le =
      let n = wanted p.place.stage in
      let b = take n bytes in
      let all : 0 + n ≡ n = omega arith in
      rw (le-ltb _ _ le) (emitted_said p.known (0 + n) b (drop n bytes) (emission l p b) ∙ ap (λ (k : ℕ). said_of p.known k b (emission l p b)) all)

  -- where these bytes came before, and so many of the input were wanted
  pub step_said : (pending input b : List ℕ) (used : ℕ) → length pending + used ≡ wanted p.place.stage → used ≤ length input → b ≡ pending ++ take used input → says (step l p) 0 (pending ++ input) ≡ said_of p.known (length pending + used) b (emission l p b)
  step_said pending input b used count within is =
      let enough : wanted p.place.stage ≤ length (pending ++ input) = omega (arith, length-append pending input) in
      let same : take (wanted p.place.stage) (pending ++ input) ≡ b = ap (λ (n : ℕ). take n (pending ++ input)) (sym count) ∙ take-append-add pending input used ∙ sym is in
      step_says (pending ++ input) enough ∙ rw (same, count) refl
