-- What is read within limits is what is read within wider ones, up to where a limit refuses.
use Rattle.std.proofs.Common.{ℕ, ◌≤◌, List, [], ◌∷◌, ◌++◌, length, drop, ap, ◌∙◌, inl, inr, append-nil, arith}
use Rattle.std.proofs.lemmas.Bool.{cases_lt}
use Rattle.cqlp_note.specs.Reader.{says}
use Rattle.cqlp_note.specs.Limits.{Rules}
use Rattle.cqlp_note.proofs.Runs.{runs_compare}
use Rattle.cqlp_laws.specs.Excess.{with_limits, Exceeds}
use Rattle.cqlp_laws.specs.Limits.{IsSameOrCut}
use Rattle.cqlp_decode.specs.Reading.{Event, Place, Gifts, start_with, Reads, Says, Verdict, Ends, step}
use Rattle.cqlp_laws.proofs.Whole.{no_step, says_once}
use Rattle.cqlp_laws.proofs.Refusals.{AtLimit}
use Rattle.cqlp_laws.proofs.StepCuts.{Cut, same, stops, AtFirst, also_got, step_cut, excess_of_limit}
use Rattle.cqlp_laws.proofs.Cuts.{refused_by}

module _ (l : Rules) (text cell entries depth : ℕ) (texts : l.text ≤ text) (cells : l.cell ≤ cell) (nodes : l.entries ≤ entries) (levels : l.depth ≤ depth) where
  abbrev wide : Rules
  wide = with_limits l text cell entries depth

  abbrev CutAt : Place → List ℕ → Type 0
  CutAt p rest = Cut AtLimit (AtFirst p.offset (Exceeds l p rest)) (says (step l p) 0 rest) (says (step wide p) 0 rest)

  cut_at : (p : Place) (rest : List ℕ) → CutAt p rest
  cut_at p rest = step_cut l text cell entries depth texts cells nodes levels p rest p.symbols

  reads_widely : (es : List (ℕ × Event)) (p q : Place) (bytes rest : List ℕ) → Reads l p bytes es q rest → Reads wide p bytes es q rest
  reads_widely [] p q bytes rest r = r
  reads_widely (e ∷ es) p q bytes rest r = (r.0, r.1, also_got AtLimit _ _ _ _ r.0 (cut_at p bytes) r.2, reads_widely es (r.1 r.0) q (drop r.0 bytes) rest r.3)

  module _ (gifts : Gifts) (bytes : List ℕ) (es fs : List (ℕ × Event)) (v w : Verdict) (p : Place) (rest : List ℕ) (read : Reads wide (start_with gifts) bytes es p rest) (ends : Ends (says (step l p) 0 rest) v) (b : Says wide (start_with gifts) bytes fs w) where
    cut_by : CutAt p rest → IsSameOrCut es fs v w
    cut_by (same eq clean none) = inl (says_once wide (start_with gifts) bytes es fs v w (p, rest, read, rw eq at ends) b)
    cut_by (stops f over bad) = elim (cases_lt (length fs) (length es)) [
      | inl lt ↦
          let c = runs_compare (step wide) (start_with gifts) b.0 p bytes b.1 rest fs es b.2 read (omega arith) in
          let none = no_step wide b.0 p b.1 rest w c.0 b.3 c.2 in
          absurd (omega (arith, lt, ap length (c.1 ∙ ap (λ (x : List (ℕ × Event)). fs ++ x) none ∙ append-nil fs)))
      | inr le ↦
          let c = runs_compare (step wide) (start_with gifts) p b.0 bytes rest b.1 es fs read b.2 le in
          inr (c.0, f.0, f.1, c.1, refused_by f v (rw bad at ends), excess_of_limit l p rest p.symbols f.1 over.1)
    ]

  pub only_cut : (gifts : Gifts) (bytes : List ℕ) (es fs : List (ℕ × Event)) (v w : Verdict) → Says l (start_with gifts) bytes es v → Says wide (start_with gifts) bytes fs w → IsSameOrCut es fs v w
  only_cut gifts bytes es fs v w a b = cut_by gifts bytes es fs v w a.0 a.1 (reads_widely es (start_with gifts) a.0 bytes a.1 a.2) a.3 b (cut_at a.0 a.1)
