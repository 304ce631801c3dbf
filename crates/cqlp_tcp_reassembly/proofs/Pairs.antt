-- One more beside one.
use Rattle.std.proofs.Common.{◌≡◌, ◌≤◌, ℕ, zero, suc, [], ◌∷◌, refl, arith}
use Rattle.std.specs.Prelude.{◌==◌, insert, if◌then◌else◌}
use Rattle.cqlp_tcp_reassembly.specs.Runs.{EarlyRun}

pub both_in_order : (one other : EarlyRun) (i : ℕ) → i ≤ 1
    → (if i == 0 then other ∷ one ∷ [] else one ∷ other ∷ []) ≡ insert (one ∷ []) i other
both_in_order one other zero few = refl
both_in_order one other (suc zero) few = refl
both_in_order one other (suc (suc i)) few = absurd (omega arith)
