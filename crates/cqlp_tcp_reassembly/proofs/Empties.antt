-- A queue of which nothing is left.
use Rattle.std.proofs.Common.{◌≡◌, true, false, List, [], ◌∷◌, length, refl, sym, ◌∙◌, arith}
use Rattle.std.specs.Prelude.{◌==◌}
use Rattle.std.proofs.lemmas.Bool.{ne_eqb}
use Rattle.cqlp_tcp_reassembly.specs.Runs.{EarlyRun}

no_yes : false ≡ true → ⊥
no_yes e = absurd cc

pub none_left : (runs : List EarlyRun) → (length runs == 0) ≡ true → runs ≡ []
none_left [] h = refl
none_left (r ∷ runs) h = absurd (no_yes (sym (ne_eqb (length (r ∷ runs)) 0 (λ e. omega arith)) ∙ h))
