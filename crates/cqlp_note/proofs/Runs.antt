-- Runs of steps: one run for each list of events, which goes on, and stays whatever bytes follow.
use Rattle.std.proofs.Common.{◌≡◌, ℕ, ◌≤◌, List, [], ◌∷◌, ◌++◌, length, drop, refl, sym, ap, ◌∙◌, arith}
use Rattle.std.proofs.lemmas.List.{drop-append-le}
use Rattle.cqlp_note.specs.Reader.{Said, Got, Bad}
use Rattle.cqlp_note.specs.Step.{Emitted, Step, Runs}
use Rattle.cqlp_note.proofs.Readers.{Stays, waits, fails, gets, says_stays}

pub stays_got : {A F : Type 0} {n : ℕ} {d e : Said A F} (v : A) (k : ℕ) → Stays n d e → d ≡ Got v k → (e ≡ Got v k) × (k ≤ n)
stays_got v k waits h = absurd cc
stays_got v k fails h = absurd cc
stays_got v k (gets {v = w} {k = m} le) h = let same : m ≡ k = cc in (h, omega arith)

pub stays_bad : {A F : Type 0} {n : ℕ} {d e : Said A F} (why : F) → Stays n d e → d ≡ Bad why → e ≡ Bad why
stays_bad why waits h = absurd cc
stays_bad why fails h = h
stays_bad why (gets le) h = absurd cc

pub same_got : {A F : Type 0} (x y : A) (j k : ℕ) → ◌≡◌ {A = Said A F} (Got x j) (Got y k) → (x ≡ y) × (j ≡ k)
same_got x y j k h = (cc, cc)

same_cons : {X : Type 0} (x y : X) (xs ys : List X) → x ≡ y → xs ≡ ys → x ∷ xs ≡ y ∷ ys
same_cons x y xs ys a b = cc

module _ {E P : Type 0} (step : P → Step E P) where
  -- one run after another
  pub runs_then : (p q r : P) (bytes rest rest' : List ℕ) (es fs : List (ℕ × E)) → Runs step p bytes es q rest → Runs step q rest fs r rest' → Runs step p bytes (es ++ fs) r rest'
  runs_then p q r bytes rest rest' [] fs a b = rw (a.0, a.1) at b
  runs_then p q r bytes rest rest' (e ∷ es) fs a b = (a.0, a.1, a.2, runs_then (a.1 a.0) q r (drop a.0 bytes) rest rest' es fs a.3 b)

  -- of two runs from one place one goes on where the other ends
  pub runs_compare : (p q q' : P) (bytes rest rest' : List ℕ) (es es' : List (ℕ × E)) → Runs step p bytes es q rest → Runs step p bytes es' q' rest' → length es ≤ length es'
      → (more : List (ℕ × E)) × (es' ≡ es ++ more) × Runs step q rest more q' rest'
  runs_compare p q q' bytes rest rest' [] es' a b le = (es', refl, rw (a.0, a.1) b)
  runs_compare p q q' bytes rest rest' (e ∷ es) [] a b le = absurd (omega arith)
  runs_compare p q q' bytes rest rest' (e ∷ es) (e' ∷ es') a b le =
      let same = same_got _ _ _ _ (sym b.2 ∙ a.2) in
      let mid : b.1 ≡ a.1 = ap (λ (x : Emitted E P). x.after) same.0 in
      let first : e' ≡ e = ap (λ (x : Emitted E P). (x.at, x.event)) same.0 in
      let r = runs_compare (a.1 a.0) q q' (drop a.0 bytes) rest rest' es es' a.3 (rw (same.1, mid) at b.3) (omega arith) in
      (r.0, same_cons _ _ _ _ first r.1, r.2)

  -- a run stays, whatever bytes follow
  pub runs_stay : (p : P) (bytes t : List ℕ) (es : List (ℕ × E)) (q : P) (rest : List ℕ) → Runs step p bytes es q rest → Runs step p (bytes ++ t) es q (rest ++ t)
  runs_stay p bytes t [] q rest r = (r.0, ap (λ (x : List ℕ). x ++ t) r.1)
  runs_stay p bytes t (e ∷ es) q rest r =
      let s = stays_got _ r.0 (says_stays (step p) 0 bytes t) r.2 in
      (r.0, r.1, s.0, rw (drop-append-le r.0 bytes t (omega (arith, s.1))) (runs_stay (r.1 r.0) (drop r.0 bytes) t es q rest r.3))
