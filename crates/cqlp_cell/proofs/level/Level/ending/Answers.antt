use Rattle.std.proofs.Common.{◌≡◌, ◌∙◌, length, sym, arith}
use Rattle.cqlp_cell.proofs.WholeItems.{left_whole}
use Rattle.cqlp_cell.proofs.level.Level.ending.Goals as goal

pub returns-clause-is : goal.returns-clause-is
returns-clause-is c = λ nodes d here conforms.
    let one : length d.open_values ≡ 1 = omega (arith, c.if-self-gt1.false, here.level, here.some) in
    left_whole nodes d c.args.self.now here one (sym c.is_over.ensures ∙ c.if-not-is_over.false) (omega (arith, c.if-at-self.false)) conforms
