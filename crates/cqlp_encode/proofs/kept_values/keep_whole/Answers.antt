use Rattle.std.proofs.Common.{arith}
use Rattle.cqlp_encode.proofs.Kept.{kept_cut, kept_is, kept_longer}
use Rattle.cqlp_encode.proofs.kept_values.keep_whole.Goals as goal

pub cut-requires : goal.cut-requires
cut-requires g c = omega (arith, c.waiting-start.ensures, kept_longer _ _ _ _ c.keep_nested.ensures)

pub returns-then-keep_nested-clause-kept : goal.returns-then-keep_nested-clause-kept
returns-then-keep_nested-clause-kept g c = λ e. kept_is _ _ _ (rw c.if-keep_nested.true at c.keep_nested.ensures)

pub returns-clause-none : goal.returns-clause-none
returns-clause-none g c = λ e. kept_cut _ _ _ _ _ _ c.waiting-start.ensures c.keep_nested.ensures c.cut.ensures
