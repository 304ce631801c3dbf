use Rattle.std.proofs.Common.{refl}
use Rattle.cqlp_cell.specs.Progress.{state_of}
use Rattle.cqlp_cell.proofs.Closing.{close_fails, close_hands}
use Rattle.cqlp_cell.proofs.progress.CellProgress.close.Goals as goal

pub returns-then-at-value-clause-closes : goal.returns-then-at-value-clause-closes
returns-then-at-value-clause-closes g c = λ nodes p input conforms idle.
    rw c.refuse.ensures.answer (close_fails nodes (state_of c.args.self.now) c.args.value p input conforms c.requires.due idle (state_of c.refuse.new.self) c.requires.over c.if-at-value.true c.refuse.ensures.state)

pub returns-clause-closes : goal.returns-clause-closes
returns-clause-closes g c = λ nodes p input conforms idle.
    close_hands nodes (state_of c.args.self.now) c.args.value p input conforms c.requires.due idle _ c.len.result c.requires.fresh c.if-at-value.false (rw c.pop.ensures refl) (rw c.pop.ensures at c.len.ensures.is)
