use Rattle.std.proofs.Common.{◌∙◌, sym, arith}
use Rattle.cqlp_capture_exchanges.proofs.Parts.{begins_so, one_further}
use Rattle.cqlp_capture_exchanges.proofs.part.is_part.Goals as goal

pub loop-at-preserved : goal.loop-at-preserved
loop-at-preserved c =
    one_further c.args.part.now c.args.text.now c.loop-at.at (omega (arith, c.loop-at-test.true)) (sym c.is_front_at.ensures ∙ c.if-is_front_at.false)
    ∙ c.loop-at.invariant

pub returns-then-is_front_at : goal.returns-then-is_front_at
returns-then-is_front_at c =
    sym (begins_so c.args.part.now c.args.text.now c.loop-at.at (omega (arith, c.loop-at-test.true)) (sym c.is_front_at.ensures ∙ c.if-is_front_at.true))
    ∙ c.loop-at.invariant
