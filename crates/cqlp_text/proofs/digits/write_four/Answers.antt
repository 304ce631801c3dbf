use Rattle.std.proofs.Common.{◌≡◌, ◌/◌, ◌%◌, ◌++◌, sym, ap, ◌∙◌}
use Rattle.itoa.proofs.Decimal.{pair}
use Rattle.cqlp_text.proofs.Numbers.{four_digits}
use Rattle.cqlp_text.proofs.Placed.{mid_placed, placed}
use Rattle.cqlp_text.proofs.digits.write_four.Goals as goal

pub returns : goal.returns
returns c =
    let n = c.args.number in
    let is : c.copy_from_slice.new.self ≡ pair (n / 100) ++ pair (n % 100) = rw (c.pair.ensures, c.pair-2.ensures) at c.copy_from_slice.ensures.after in
    mid_placed c.args.room.now c.copy_from_slice.new.self c.args.at 4 ∙ ap (placed c.args.room.now c.args.at 4) (is ∙ sym (four_digits n c.requires.short))
