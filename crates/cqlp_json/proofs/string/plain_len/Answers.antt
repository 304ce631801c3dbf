use Rattle.std.proofs.Common.{sym, ◌∙◌, arith}
use Rattle.std.proofs.lemmas.List.Sums.{prefix_len_is}
use Rattle.cqlp_json.specs.Strings.{is_plain}
use Rattle.cqlp_json.proofs.string.plain_len.Goals as goal

pub returns-else-is_plain : goal.returns-else-is_plain
returns-else-is_plain c = sym (prefix_len_is is_plain c.args.bytes.now c.loop-at.at 0 c.loop-at.invariant.0 c.loop-at.invariant.1 (λ _. sym c.is_plain.ensures ∙ c.if-is_plain.false))

pub returns-after-loop-at : goal.returns-after-loop-at
returns-after-loop-at c = sym (prefix_len_is is_plain c.args.bytes.now c.loop-at.at 0 c.loop-at.invariant.0 c.loop-at.invariant.1 (λ lt. absurd (omega arith)))
