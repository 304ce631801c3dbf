use Rattle.std.proofs.Common.{◌≡◌, ◌+◌, ◌/◌, ◌%◌, ◌<◌, ◌∷◌, ◌++◌, decimal, ap, ◌∙◌, arith}
use Rattle.std.proofs.lemmas.Fmt.{decimal_digit}
use Rattle.itoa.proofs.Decimal.{length_one, decimal_pair, length_pair, pair}
use Rattle.cqlp_text.proofs.Placed.{front_three}
use Rattle.cqlp_text.proofs.digits.write_three.Goals as goal

pub returns-clause-len : goal.returns-clause-len
returns-clause-len c =
    let n = c.args.number in
    omega (arith, length_pair n c.requires.0 (omega (arith, c.requires.1)), length_one (n / 100) (omega (arith, c.requires.1)))

pub returns-clause-written : goal.returns-clause-written
returns-clause-written c =
    let n = c.args.number in
    let few : n / 100 < 10 = omega (arith, c.requires.1) in
    let is : decimal n ≡ (48 + n / 100) ∷ pair (n % 100) = decimal_pair n c.requires.0 (omega (arith, c.requires.1)) ∙ ap (λ t. t ++ pair (n % 100)) (decimal_digit (n / 100) few) in
    rw (c.pair.ensures, is) (front_three c.args.room.now (48 + n / 100) (48 + n % 100 / 10) (48 + n % 100 % 10) (omega (arith, c.told-room)))
