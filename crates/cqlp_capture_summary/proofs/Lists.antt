-- Places of lists.
use Rattle.std.proofs.Common.{◌≡◌, ◌+◌, ◌-◌, ◌<◌, ◌≤◌, ℕ, suc, [], ◌∷◌, refl, arith}
use Rattle.cqlp_capture_summary.specs.Order.{upto}

-- the first of so many numbers
pub upto_next : (i n : ℕ) → i < n → upto i (n - i) ≡ i ∷ upto (i + 1) (n - (i + 1))
upto_next i n less =
    let e : n - i ≡ suc (n - (i + 1)) = omega arith in
    rw e refl

pub upto_none : (i n : ℕ) → n ≤ i → upto i (n - i) ≡ []
upto_none i n all =
    let e : n - i ≡ 0 = omega arith in
    rw e refl
