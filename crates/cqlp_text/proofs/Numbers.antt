-- The last four digits of a number.
use Rattle.std.proofs.Common.{◌≡◌, ℕ, ◌+◌, ◌/◌, ◌%◌, ◌^◌, ◌<◌, ◌≤◌, ◌++◌, length, refl, sym, ap, ◌∙◌, arith}
use Rattle.std.specs.Fmt.{decimal}
use Rattle.itoa.proofs.Decimal.{decimal_four, decimal_pair, decimal_two, length_four, pair}
use Rattle.cqlp_text.specs.CellText.{digits}

pub four_digits : (n : ℕ) → n < 10000 → digits 4 n ≡ pair (n / 100) ++ pair (n % 100)
four_digits n few =
    let a : n / 10 / 10 / 10 % 10 ≡ n / 100 / 10 = omega arith in
    let b : n / 10 / 10 % 10 ≡ n / 100 % 10 = omega arith in
    let c : n / 10 % 10 ≡ n % 100 / 10 = omega arith in
    let d : n % 10 ≡ n % 100 % 10 = omega arith in
    rw (a, b, c, ← d) refl

pub decimal_then_four : (n : ℕ) → 10000 ≤ n → n < 2 ^ 64 → decimal n ≡ decimal (n / 10000) ++ digits 4 (n % 10000)
decimal_then_four n lo hi = decimal_four n lo hi ∙ ap (λ t. decimal (n / 10000) ++ t) (sym (four_digits (n % 10000) (omega arith)))

-- the last eight digits, four and four
pub decimal_then_eight : (n : ℕ) → 100000000 ≤ n → n < 2 ^ 64 → decimal n ≡ (decimal (n / 10000 / 10000) ++ digits 4 (n / 10000 % 10000)) ++ digits 4 (n % 10000)
decimal_then_eight n lo hi = decimal_then_four n (omega arith) hi ∙ ap (λ t. t ++ digits 4 (n % 10000)) (decimal_then_four (n / 10000) (omega arith) (omega arith))

pub length_eight : (n : ℕ) → 100000000 ≤ n → n < 2 ^ 64 → length (decimal n) ≡ length (decimal (n / 10000 / 10000)) + 8
length_eight n lo hi = omega (arith, length_four n (omega arith) hi, length_four (n / 10000) (omega arith) (omega arith))

pub decimal_of_four : (n : ℕ) → 1000 ≤ n → n < 10000 → decimal n ≡ digits 4 n
decimal_of_four n lo hi = decimal_pair n (omega arith) (omega arith) ∙ ap (λ t. t ++ pair (n % 100)) (decimal_two (n / 100) (omega arith) (omega arith)) ∙ sym (four_digits n hi)
