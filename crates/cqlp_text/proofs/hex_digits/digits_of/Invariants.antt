use Rattle.std.proofs.Common.{◌≡◌, ◌*◌, ◌++◌, length, take, drop}
use Rattle.hex.specs.Hex.{encode_lower}
use Rattle.cqlp_text.proofs.hex_digits.digits_of.Given as goal

abbrev pub invariant-loop-at : goal.invariant-loop-at
invariant-loop-at l =
    (take (2 * l.at) l.digits ++ encode_lower (drop l.at l.block) ≡ encode_lower l.block) × (length l.digits ≡ 128)
