-- What becomes of events that C passes, one after the other.
use Rattle.std.proofs.Common.{◌≡◌, ℕ, zero, suc, ◌+◌, ◌<◌, ◌≤◌, inl, inr, List, [], ◌∷◌, ◌++◌, length, take, drop, get_or, refl, sym, ap, ◌∙◌, arith, Ok, Err, Some, None}
use Rattle.std.specs.Prelude.{Bool, true, ◌==◌, Result, IsOk, is_ok}
use Rattle.std.proofs.Math.Seq.{drop-cons, take-suc}
use Rattle.std.proofs.lemmas.Bool.{eqb-true}
use Rattle.std.proofs.lemmas.List.{take_all, take-append-drop}
use Rattle.cqlp_build.specs.declared.error.BuildError.{BuildError}
use Rattle.cqlp_build.specs.declared.error.BuildError.TheVariants as error
use Rattle.cqlp_grammar.specs.Events.{Event}
use Rattle.cqlp_compose.specs.Composing.{ComposerState, IsOfNone, IsWrittenOf, Takes, refusal_of, with_next}
use Rattle.cqlp_c.specs.declared.encode.Stopped.{Stopped}
use Rattle.cqlp_c.specs.declared.encode.Unencoded.{Unencoded}
use Rattle.cqlp_c.specs.declared.encode.Unencoded.TheVariants as unencoded
use Rattle.cqlp_c.specs.declared.event.CqlpEvent.{CqlpEvent}
use Rattle.cqlp_c.specs.Encoding.{HasNone, IsEncoded, IsMisfitAt, IsPlaced, IsUnencodedAt, StopsAt, StopsFor, Taken, TakesOne, after_all, after_one, at_first, on_from, unless, with_c_event}
use Rattle.cqlp_c.specs.declared.from_c.BadEvent.{BadEvent}
use Rattle.cqlp_c.specs.FromC.{content_len, event_from_c}

-- ---- one after the other

ok_of : (r : Result Taken Unencoded) → IsOk r → (t : Taken) × (r ≡ Ok t)
ok_of (Ok t) k = (t, refl)
ok_of (Err why) k = absurd cc

on_ok : (n : ℕ) (r : Result Taken Unencoded) (f : Taken → Result Taken Stopped) (k : Taken) → on_from n r f ≡ Ok k → (m : Taken) × (r ≡ Ok m) × (f m ≡ Ok k)
on_ok n (Ok m) f k e = (m, refl, e)
on_ok n (Err why) f k e = absurd cc

module _ (ds : List CqlpEvent) (k : Taken) where
  pub all_append : (n : ℕ) (t : Taken) (cs : List CqlpEvent) → after_all n t cs ≡ Ok k → after_all n t (cs ++ ds) ≡ after_all (n + length cs) k ds
  all_append n t [] e =
      let same : t ≡ k = cc in
      let here : n ≡ n + 0 = omega arith in
      ap (λ (u : Taken). after_all n u ds) same ∙ ap (λ (m : ℕ). after_all m k ds) here
  all_append n t (c ∷ cs) e =
      let o = on_ok n (after_one t c) (λ u. after_all (suc n) u cs) k e in
      let here : suc n + length cs ≡ n + suc (length cs) = omega arith in
      ap (λ (r : Result Taken Unencoded). on_from n r (λ u. after_all (suc n) u (cs ++ ds))) o.1 ∙ all_append (suc n) o.0 cs o.2 ∙ ap (λ (m : ℕ). after_all m k ds) here

front_long : (cs : List CqlpEvent) (i : ℕ) → i < length cs → length (take i cs) ≡ i
front_long [] i lt = absurd (omega (arith, lt))
front_long (c ∷ cs) zero lt = refl
front_long (c ∷ cs) (suc i) lt = ap suc (front_long cs i (omega (arith, lt)))

module _ (t : Taken) (cs : List CqlpEvent) (i : ℕ) (d : CqlpEvent) (u : Taken) (lt : i < length cs) (front : after_all 0 t (take i cs) ≡ Ok u) where
  pub all_next : (v : Taken) → after_one u (get_or cs i d) ≡ Ok v → after_all 0 t (take (i + 1) cs) ≡ Ok v
  all_next v e =
      let next : i + 1 ≡ suc i = omega arith in
      let more : take (i + 1) cs ≡ take i cs ++ get_or cs i d ∷ [] = ap (λ (n : ℕ). take n cs) next ∙ take-suc cs i d lt in
      ap (λ (ds : List CqlpEvent). after_all 0 t ds) more ∙ all_append (get_or cs i d ∷ []) u 0 t (take i cs) front
      ∙ ap (λ (r : Result Taken Unencoded). on_from (0 + length (take i cs)) r (λ w. Ok w)) e

  all_stop : (why : Unencoded) → after_one u (get_or cs i d) ≡ Err why → after_all 0 t cs ≡ Err (record { event = i; why = why })
  all_stop why e =
      let here : 0 + length (take i cs) ≡ i = omega (arith, front_long cs i lt) in
      let rest : drop i cs ≡ get_or cs i d ∷ drop (suc i) cs = drop-cons cs i d lt in
      let all : cs ≡ take i cs ++ get_or cs i d ∷ drop (suc i) cs = sym (take-append-drop i cs) ∙ ap (λ (ds : List CqlpEvent). take i cs ++ ds) rest in
      ap (λ (ds : List CqlpEvent). after_all 0 t ds) all ∙ all_append (get_or cs i d ∷ drop (suc i) cs) u 0 t (take i cs) front
      ∙ ap (λ (r : Result Taken Unencoded). on_from (0 + length (take i cs)) r (λ w. after_all (suc (0 + length (take i cs))) w (drop (suc i) cs))) e
      ∙ ap (λ (n : ℕ). Err (record { event = n; why = why })) here

  pub stops_at : (why : Unencoded) (new : ComposerState) → TakesOne u (get_or cs i d) (Err why) new → StopsAt t cs i why
  stops_at (unencoded.Refused error.NoMemory) new k = let o = ok_of (after_one u (get_or cs i d)) k in (lt, ap is_ok (all_next o.0 o.1))
  stops_at (unencoded.Refused error.Misplaced) new k = all_stop _ k
  stops_at (unencoded.Refused error.Unbuilt) new k = all_stop _ k
  stops_at (unencoded.Refused error.TooManyFields) new k = all_stop _ k
  stops_at (unencoded.Refused error.TooDeep) new k = all_stop _ k
  stops_at (unencoded.Refused error.TooManyBytes) new k = all_stop _ k
  stops_at (unencoded.Refused error.NoFrame) new k = all_stop _ k
  stops_at (unencoded.BadEvent w) new k = all_stop _ k
  stops_at unencoded.LeftOver new k = all_stop _ k

pub all_taken : (t : Taken) (cs : List CqlpEvent) (i : ℕ) (u : Taken) → length cs ≤ i → after_all 0 t (take i cs) ≡ Ok u → after_all 0 t cs ≡ Ok u
all_taken t cs i u le front = ap (λ (ds : List CqlpEvent). after_all 0 t ds) (sym (take_all i cs le)) ∙ front

-- ---- one

module _ (old : ComposerState) (c : CqlpEvent) (contents : List ℕ) (e : Event) (written : Ok e ≡ event_from_c c contents) where
  with_event_from_c : after_one (old, contents) c ≡ unless (refusal_of old e) (with_next old e, drop (content_len c) contents)
  with_event_from_c = ap (λ (r : Result Event BadEvent). with_c_event old r (drop (content_len c) contents)) (sym written)

  pub one_taken : (new : ComposerState) (rest : List ℕ) → rest ≡ drop (content_len c) contents → Takes old e (Ok tt) new → TakesOne (old, contents) c (Ok rest) new
  one_taken new rest is k =
      with_event_from_c ∙ ap (λ o. unless o (with_next old e, drop (content_len c) contents)) k.0
      ∙ ap (λ (s : ComposerState). Ok (s, drop (content_len c) contents)) (sym k.1) ∙ ap (λ (r : List ℕ). Ok (new, r)) (sym is)

  one_refused : (why : BuildError) → refusal_of old e ≡ Some why → after_one (old, contents) c ≡ Err (unencoded.Refused why)
  one_refused why k = with_event_from_c ∙ ap (λ o. unless o (with_next old e, drop (content_len c) contents)) k

  one_forgotten : refusal_of old e ≡ None → IsOk (after_one (old, contents) c)
  one_forgotten k = ap is_ok (with_event_from_c ∙ ap (λ o. unless o (with_next old e, drop (content_len c) contents)) k)

  pub one_not_taken : (why : BuildError) (new : ComposerState) → Takes old e (Err why) new → TakesOne (old, contents) c (Err (unencoded.Refused why)) new
  one_not_taken error.NoMemory new k = one_forgotten k.0
  one_not_taken error.Misplaced new k = one_refused error.Misplaced k.0
  one_not_taken error.Unbuilt new k = one_refused error.Unbuilt k.0
  one_not_taken error.TooManyFields new k = one_refused error.TooManyFields k.0
  one_not_taken error.TooDeep new k = one_refused error.TooDeep k.0
  one_not_taken error.TooManyBytes new k = one_refused error.TooManyBytes k.0
  one_not_taken error.NoFrame new k = one_refused error.NoFrame k.0

pub one_bad_event : (old new : ComposerState) (c : CqlpEvent) (contents : List ℕ) (why : BadEvent) → Err why ≡ event_from_c c contents → TakesOne (old, contents) c (Err (unencoded.BadEvent why)) new
one_bad_event old new c contents why written = ap (λ (r : Result Event BadEvent). with_c_event old r (drop (content_len c) contents)) (sym written)

-- ---- all

pub unencoded_by : (cs : List CqlpEvent) (contents : List ℕ) (n : ℕ) (why : Unencoded) → StopsAt (at_first contents) cs n why → IsUnencodedAt cs contents n why
unencoded_by cs contents n (unencoded.Refused error.NoMemory) k = (omega (arith, k.0), k.1)
unencoded_by cs contents n (unencoded.Refused error.Misplaced) k = inl k
unencoded_by cs contents n (unencoded.Refused error.Unbuilt) k = inl k
unencoded_by cs contents n (unencoded.Refused error.TooManyFields) k = inl k
unencoded_by cs contents n (unencoded.Refused error.TooDeep) k = inl k
unencoded_by cs contents n (unencoded.Refused error.TooManyBytes) k = inl k
unencoded_by cs contents n (unencoded.Refused error.NoFrame) k = inl k
unencoded_by cs contents n (unencoded.BadEvent w) k = inl k
unencoded_by cs contents n unencoded.LeftOver k = inl k

pub all_used : (rest : List ℕ) (b : Bool) → b ≡ (length rest == 0) → b ≡ true → rest ≡ []
all_used [] b e t = refl
all_used (x ∷ xs) b e t = absurd (omega (arith, eqb-true (length (x ∷ xs)) 0 (sym e ∙ t)))

some_left : (s : ComposerState) (rest : List ℕ) → (rest ≡ [] → ⊥) → HasNone (s, rest) unencoded.LeftOver
some_left s [] n = absurd (n refl)
some_left s (b ∷ bs) n = tt

module _ (cs : List CqlpEvent) (contents : List ℕ) (s : ComposerState) (rest : List ℕ) (all : after_all 0 (at_first contents) cs ≡ Ok (s, rest)) where
  pub left_over : (rest ≡ [] → ⊥) → IsUnencodedAt cs contents (length cs) unencoded.LeftOver
  left_over n = inr ((s, rest), all, refl, some_left s rest n)

  none_left : rest ≡ [] → after_all 0 (at_first contents) cs ≡ Ok (s, [])
  none_left e = all ∙ ap (λ (r : List ℕ). Ok (s, r)) e

  pub encoded_by : (bytes : List ℕ) → rest ≡ [] → IsWrittenOf s.frame.events bytes → IsEncoded cs contents bytes
  encoded_by bytes e w = (s, none_left e, inl w)

  ended : (why : BuildError) → IsPlaced (unencoded.Refused why) (length cs) (length cs) → rest ≡ [] → IsOfNone s.frame.events why
      → StopsFor cs contents (record { event = length cs; why = unencoded.Refused why })
  ended why p e w = inr ((s, []), none_left e, p, w)

  pub not_encoded : (why : BuildError) → rest ≡ [] → IsOfNone s.frame.events why → IsUnencodedAt cs contents (length cs) (unencoded.Refused why)
  not_encoded error.NoMemory e w =
      (omega arith, ap is_ok (ap (λ (ds : List CqlpEvent). after_all 0 (at_first contents) ds) (take_all (length cs + 1) cs (omega arith)) ∙ all))
  not_encoded error.Misplaced e w = ended error.Misplaced refl e w
  not_encoded error.Unbuilt e w = ended error.Unbuilt refl e w
  not_encoded error.TooManyFields e w = ended error.TooManyFields refl e w
  not_encoded error.TooDeep e w = ended error.TooDeep refl e w
  not_encoded error.TooManyBytes e w = ended error.TooManyBytes refl e w
  not_encoded error.NoFrame e w = ended error.NoFrame (omega arith) e w

  pub misfits : (n : ℕ) (why : Unencoded) → rest ≡ [] → IsOfNone s.frame.events error.NoFrame → IsMisfitAt why n (length cs) → IsUnencodedAt cs contents n why
  misfits n (unencoded.Refused error.NoFrame) e w m = inr ((s, []), none_left e, m, w)
  misfits n (unencoded.Refused error.NoMemory) e w m =
      (omega (arith, m), ap is_ok (ap (λ (ds : List CqlpEvent). after_all 0 (at_first contents) ds) (take_all (n + 1) cs (omega (arith, m))) ∙ all))
  misfits n (unencoded.Refused error.Misplaced) e w m = absurd m
  misfits n (unencoded.Refused error.Unbuilt) e w m = absurd m
  misfits n (unencoded.Refused error.TooManyFields) e w m = absurd m
  misfits n (unencoded.Refused error.TooDeep) e w m = absurd m
  misfits n (unencoded.Refused error.TooManyBytes) e w m = absurd m
  misfits n (unencoded.BadEvent b) e w m = absurd m
  misfits n unencoded.LeftOver e w m = absurd m

-- what ends at the frame, or before it
pub ruleset ends_here = (unencoded_by, left_over, encoded_by, not_encoded, misfits)
