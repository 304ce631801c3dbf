-- What runs count, after one more.
use Rattle.std.proofs.Common.{◌≡◌, ℕ, zero, suc, ◌+◌, List, [], ◌∷◌, ◌++◌, length, take, drop, refl, arith}
use Rattle.std.specs.Prelude.{insert}
use Rattle.cqlp_tcp_reassembly.specs.Runs.{EarlyRun, size_of}

size_append : (a b : List EarlyRun) → size_of (a ++ b) ≡ size_of a + size_of b
size_append [] b = omega arith
size_append (r ∷ a) b = let h = size_append a b in omega arith

size_parts : (runs : List EarlyRun) (i : ℕ) → size_of (take i runs) + size_of (drop i runs) ≡ size_of runs
size_parts [] zero = refl
size_parts [] (suc i) = refl
size_parts (r ∷ runs) zero = omega arith
size_parts (r ∷ runs) (suc i) = let h = size_parts runs i in omega arith

pub size_insert : (runs : List EarlyRun) (i : ℕ) (r : EarlyRun) → size_of (insert runs i r) ≡ size_of runs + (length r.bytes + 144)
size_insert runs i r =
    let parts = size_parts runs i in
    let whole = size_append (take i runs) (r ∷ drop i runs) in
    omega arith
