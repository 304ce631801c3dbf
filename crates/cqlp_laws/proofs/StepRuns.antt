-- A step that takes these bytes is a run of one event, and runs over joined bytes are joined.
use Rattle.std.proofs.Common.{◌≡◌, ℕ, ◌+◌, List, [], ◌∷◌, ◌++◌, length, drop, refl, sym, ap, ◌∙◌, arith}
use Rattle.std.proofs.lemmas.List.{append-nil, drop_at}
use Rattle.cqlp_note.specs.Field.{FieldValue, FieldReader}
use Rattle.cqlp_note.specs.Reader.{Gives, Refuses, Takes, Idles}
use Rattle.cqlp_note.specs.Step.{Emitted, Step, after_field, Runs}
use Rattle.cqlp_note.proofs.Yields.{Yields, yields_says}
use Rattle.cqlp_note.proofs.Runs.{same_got, runs_then, runs_stay}

pub after_yields : {E P : Type 0} (at : ℕ) (r : FieldReader) (next : FieldValue → Step E P) (v : FieldValue) (x : Emitted E P) (b : List ℕ) → Yields r v b → Yields (next v) x [] → Yields (after_field at r next) x b
after_yields at (Gives w) next v x b y z = rw (y.0, y.1) z
after_yields at (Refuses why) next v x b y z = absurd y
after_yields at Idles next v x b y z = absurd y
after_yields at (Takes n f) next v x b y z = (y.0, y.1, y.2, y.3, after_yields at (f y.0) next v x y.1 y.4 z)

module _ {E P : Type 0} (step : P → Step E P) where
  pub step_runs : (p : P) (x : Emitted E P) (b : List ℕ) → Yields (step p) x b → Runs step p b ((x.at, x.event) ∷ []) (x.after (length b)) []
  step_runs p x b y =
      let s = yields_says (step p) 0 x b [] y in
      let none : 0 + length b ≡ length b = omega arith in
      let over : drop (length b) (b ++ []) ≡ [] = drop_at b [] (length b) refl in
      (length b, x.after, rw (append-nil b, none) at s, (refl, sym (rw (append-nil b) at over)))

  -- runs over a front and over a back are one over both
  pub runs_join : (p q r : P) (b c : List ℕ) (es fs : List (ℕ × E)) → Runs step p b es q [] → Runs step q c fs r [] → Runs step p (b ++ c) (es ++ fs) r []
  runs_join p q r b c es fs x y = runs_then step p q r (b ++ c) c [] es fs (runs_stay step p b c es q [] x) y

  -- what a run says after a front of its events, it says from where they lead
  pub runs_from : (p q r : P) (b left rest : List ℕ) (es fs : List (ℕ × E)) → Runs step p b es q left → Runs step p b (es ++ fs) r rest → Runs step q left fs r rest
  runs_from p q r b left rest [] fs x y = rw (x.0, x.1) y
  runs_from p q r b left rest (e ∷ es) fs x y =
      let same = same_got _ _ _ _ (sym y.2 ∙ x.2) in
      let mid : y.1 ≡ x.1 = ap (λ (z : Emitted E P). z.after) same.0 in
      runs_from (x.1 x.0) q r (drop x.0 b) left rest es fs x.3 (rw (same.1, mid) at y.3)

  -- one run over these events leads to one place
  pub one_place : (p q r : P) (b left rest : List ℕ) (es : List (ℕ × E)) → Runs step p b es q left → Runs step p b es r rest → q ≡ r
  one_place p q r b left rest es x y = sym (runs_from p q r b left rest es [] x (rw (append-nil es) y)).0
