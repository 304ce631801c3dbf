-- What a listener has got, one thing after the other.
use Rattle.std.proofs.Common.{◌≡◌, ◌∙◌, ℕ, ◌+◌, length, length-append, List, [], ◌∷◌, ◌++◌, OnOk, IfErr, Result, Ok, Err, refl, sym, ap, subst, inl, inr, append_assoc, arith}
use Rattle.cqlp_capture_streams.specs.declared.fault.StreamsFault.{StreamsFault}
use Rattle.cqlp_capture_streams.specs.declared.listener.Listener as listener
use Rattle.cqlp_capture_streams.specs.ConnectionEvents.{ConnectionEvent}
use Rattle.cqlp_capture_streams.specs.Listening.{AreEndless, FailsAtLast, GetsAll, GetsOne, after_all}

-- with more before it, it is endless still
pub endless_more : {X : Type 0} (xs ys : List X) → AreEndless ys → AreEndless (xs ++ ys)
endless_more xs ys many = let all = length-append xs ys in omega (arith, many, all)

pub one_longer : {X : Type 0} (xs : List X) (x : X) (n : ℕ) → length xs ≡ n → length (xs ++ x ∷ []) ≡ n + 1
one_longer xs x n is = let all = length-append xs (x ∷ []) in omega (arith, is, all)

module _ {V : Type 0} (after : V → ConnectionEvent → V) where
  pub after_more : (v : V) (ss : List ConnectionEvent) (s : ConnectionEvent) → after_all after v (ss ++ s ∷ []) ≡ after (after_all after v ss) s
  after_more v [] s = refl
  after_more v (x ∷ xs) s = after_more (after v x) xs s

  pub after_others : (v : V) (ss ts : List ConnectionEvent) → after_all after v (ss ++ ts) ≡ after_all after (after_all after v ss) ts
  after_others v [] ts = refl
  after_others v (x ∷ xs) ts = after_others (after v x) xs ts

  -- after these events others, at the last of which it failed
  pub fails_others : (faulted : V → ConnectionEvent → StreamsFault → V → Type 0) (few many : Type 0) (v mid w : V) (ss ts : List ConnectionEvent) (e : StreamsFault) → (few → many) → mid ≡ after_all after v ss → FailsAtLast after faulted few mid ts e w → FailsAtLast after faulted many v (ss ++ ts) e w
  fails_others faulted few many v mid w ss ts e more is (inl (turns, endless, a)) = inl (turns, more endless, a ∙ ap (λ z. after_all after z ts) is ∙ sym (after_others v ss ts))
  fails_others faulted few many v mid w ss ts e more is (inr (inl (refused, a))) = inr (inl (refused, a ∙ ap (λ z. after_all after z ts) is ∙ sym (after_others v ss ts)))
  fails_others faulted few many v mid w ss ts e more is (inr (inr (front, s, parts, a))) =
      inr (inr (
        ss ++ front,
        s,
        ap (λ z. ss ++ z) parts ∙ sym (append_assoc ss front (s ∷ [])),
        subst (λ z. faulted z s e w) (ap (λ z. after_all after z front) is ∙ sym (after_others v ss front)) a,
      ))

module _ {L : Type 0} (m : listener.Ghosts L) where
  -- what a call of it leads to
  pub heard : (old new : L) (s : ConnectionEvent) (r : Result (Unit {0}) StreamsFault) → OnOk r (m.reports old → m.reports new × (m.view new ≡ m.after (m.view old) s)) → IfErr r (λ e. m.reports old → m.faulted (m.view old) s e (m.view new)) → m.reports old → GetsOne m old s r new
  heard old new s (Ok u) ok err reports = ok reports
  heard old new s (Err e) ok err reports = err reports

  -- one event
  pub gets_single : (old new : L) (s : ConnectionEvent) (r : Result (Unit {0}) StreamsFault) → GetsOne m old s r new → GetsAll m old (s ∷ []) r new
  gets_single old new s (Ok u) a = a
  gets_single old new s (Err e) a = inr (inr ([], s, refl, a))

  -- after these events one that it gets, or fails at
  pub gets_more : (old mid new : L) (ss : List ConnectionEvent) (s : ConnectionEvent) (r : Result (Unit {0}) StreamsFault) → m.view mid ≡ after_all m.after (m.view old) ss → GetsOne m mid s r new → GetsAll m old (ss ++ s ∷ []) r new
  gets_more old mid new ss s (Ok u) is a = (a.0, a.1 ∙ ap (λ z. m.after z s) is ∙ sym (after_more m.after (m.view old) ss s))
  gets_more old mid new ss s (Err e) is a = inr (inr (ss, s, refl, subst (λ z. m.faulted z s e (m.view new)) is a))

  -- after these events others
  pub gets_others : (old mid new : L) (ss ts : List ConnectionEvent) (r : Result (Unit {0}) StreamsFault) → m.view mid ≡ after_all m.after (m.view old) ss → GetsAll m mid ts r new → GetsAll m old (ss ++ ts) r new
  gets_others old mid new ss ts (Ok u) is a = (a.0, a.1 ∙ ap (λ z. after_all m.after z ts) is ∙ sym (after_others m.after (m.view old) ss ts))
  gets_others old mid new ss ts (Err e) is a = fails_others m.after m.faulted (AreEndless ts) (AreEndless (ss ++ ts)) (m.view old) (m.view mid) (m.view new) ss ts e (endless_more ss ts) is a
