-- What a buffer in front of a target has taken, and what the target was given of it.
use Rattle.std.proofs.Common.{◌≡◌, ℕ, List, [], ◌∷◌, ◌++◌, Option, Some, None, IsSome, Result, Ok, Err, refl, sym, ap, ◌∙◌, subst, append_assoc, append-nil}
use Rattle.std.specs.Io.KnownBytes.{append_known}
use Rattle.cqlp_grammar.specs.declared.sink.SinkFault.{SinkFault}
use Rattle.cqlp_text.specs.Outputs.{output}
use Rattle.cqlp_text.specs.Written.{Written, Receives, BreaksOff, Writes, taken}
use Rattle.cqlp_decode.specs.Cells.{Item, GetsAll}
use Rattle.cqlp_decode.specs.Draining.{Passes}
use Rattle.cqlp_render.specs.Rendering.{rendering, rendered, Buffering, FallsShort, GoesOn, GoesOnAtEvent}
use Rattle.cqlp_render.proofs.Renders.{known_nothing}

pub known_taken : (given : Option (List ℕ)) (waiting : List ℕ) → IsSome (append_known given waiting) → IsSome given
known_taken None waiting known = known
known_taken (Some t) waiting known = refl

-- ---- one more byte, and another

pub goes_nowhere : (given : Option (List ℕ)) → GoesOn given given
goes_nowhere given text is = ([], is ∙ ap (λ t. Some t) (sym (append-nil text)))

pub goes_same : (a b : Option (List ℕ)) → a ≡ b → GoesOn a b
goes_same a b same = subst (λ (g : Option (List ℕ)). GoesOn a g) same (goes_nowhere a)

pub goes_then : (a b c : Option (List ℕ)) → GoesOn a b → GoesOn b c → GoesOn a c
goes_then a b c first second text is =
    let p = first text is in
    let q = second (text ++ p.0) p.1 in
    (p.0 ++ q.0, q.1 ∙ ap (λ t. Some t) (append_assoc text p.0 q.0))

pub goes_by : (a b : Option (List ℕ)) (x : List ℕ) → b ≡ append_known a x → GoesOn a b
goes_by a b x is text known = (x, is ∙ ap (λ g. append_known g x) known)

pub writes_goes : (a b : Written) (x : List ℕ) (r : Result (Unit {0}) SinkFault) → Writes a x r b → GoesOn a.given b.given
writes_goes a b x (Ok u) writes text is = let p = writes.passed text is in (p.0, p.1)
writes_goes a b x (Err e) writes text is = let p = writes.passed text is in (p.0, p.1)

all_go : (s t : Buffering) (items : List Item) → GetsAll GoesOnAtEvent s items t → GoesOn s.written.given t.written.given
all_go s t [] same = rw same (goes_nowhere s.written.given)
all_go s t (x ∷ xs) got = goes_then s.written.given got.0.written.given t.written.given got.1 (all_go got.0 t xs got.2)

pub passes_go : (s t : Buffering) → Passes GoesOnAtEvent s t → GoesOn s.written.given t.written.given
passes_go s t passed = all_go s t passed.0 passed.1

-- ---- all that was taken

module _ (a b : Written) (x : List ℕ) where
  receives_at : Receives a x b → (g : Option (List ℕ)) → a.given ≡ g → IsSome g → IsSome b.given × (taken b ≡ append_known (taken a) x)
  receives_at r None is known = cc
  receives_at r (Some t) is known =
      let p = r.passed t is in (
        subst (λ (g : Option (List ℕ)). IsSome g) (sym p.1) refl,
        ap (λ g. append_known g b.waiting) p.1 ∙ ap (λ k. Some k) (append_assoc t p.0 b.waiting ∙ ap (λ k. t ++ k) p.2 ∙ sym (append_assoc t a.waiting x)) ∙ sym (ap (λ g. append_known (append_known g a.waiting) x) is),
      )

  -- a text was taken
  pub receives_taken : Receives a x b → IsSome a.given → IsSome b.given × (taken b ≡ append_known (taken a) x)
  receives_taken r known = receives_at r a.given refl known

  short_at : BreaksOff a x b → (g : Option (List ℕ)) → a.given ≡ g → IsSome g → FallsShort (output (taken a) a.failures) x (output b.given b.failures)
  short_at r None is known = cc
  short_at r (Some t) is known =
      let p = r.passed t is in
      record {
        lost = r.lost;
        later = r.later;
        front = ap (λ g. append_known g (r.lost ∷ r.later)) p.1 ∙ ap (λ k. Some k) (append_assoc t p.0 (r.lost ∷ r.later) ∙ ap (λ k. t ++ k) p.2 ∙ sym (append_assoc t a.waiting x)) ∙ sym (ap (λ g. append_known (append_known g a.waiting) x) is);
        failures = r.failures;
      }

  -- the target failed
  pub breaks_short : BreaksOff a x b → IsSome a.given → FallsShort (output (taken a) a.failures) x (output b.given b.failures)
  breaks_short r known = short_at r a.given refl known

  nothing_waits : b.waiting ≡ [] → taken b ≡ b.given
  nothing_waits none = ap (append_known b.given) none ∙ known_nothing b.given

  pub breaks_short_taken : BreaksOff a x b → IsSome a.given → FallsShort (output (taken a) a.failures) x (output (taken b) b.failures)
  breaks_short_taken r known = subst (λ (g : Option (List ℕ)). FallsShort (output (taken a) a.failures) x (output g b.failures)) (sym (nothing_waits r.waiting)) (breaks_short r known)

-- all that waits was passed on
pub flushes : (a b : Written) → Receives a [] b → b.waiting ≡ [] → IsSome a.given → output (taken a) a.failures ≡ output b.given b.failures
flushes a b r none known =
    let same : taken a ≡ b.given = sym (known_nothing (taken a)) ∙ sym (receives_taken a b [] r known).1 ∙ nothing_waits a b [] none in
    ap (λ g. output g a.failures) same ∙ ap (λ n. output b.given n) (sym r.failures)

-- and so nothing else changed
pub still_rendered : (a b : Buffering) → Receives a.written [] b.written → b.form ≡ a.form → IsSome a.written.given → rendered b ≡ rendered a
still_rendered a b r same known =
    let all : taken b.written ≡ taken a.written = (receives_taken a.written b.written [] r known).1 ∙ known_nothing (taken a.written) in
    ap (λ g. rendering (output g b.written.failures) b.form) all ∙ ap (λ n. rendering (output (taken a.written) n) b.form) r.failures ∙ ap (λ f. rendering (output (taken a.written) a.written.failures) f) same
