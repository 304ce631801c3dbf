use Rattle.std.proofs.Common.{◌∙◌, ◌++◌, drop, sym}
use Rattle.cqlp_pattern.specs.Matching.{end}
use Rattle.cqlp_pattern.proofs.Found.{found_here}
use Rattle.cqlp_pattern.proofs.pattern.Pattern.has_match.Goals as goal

pub returns-then-is_done : goal.returns-then-is_done
returns-then-is_done c =
    sym (found_here c.args.self.now c.loop-at.active (drop c.loop-at.at c.args.text.now ++ end c.args.is_whole) (sym c.is_done.ensures ∙ c.if-is_done.true))
    ∙ c.loop-at.invariant
