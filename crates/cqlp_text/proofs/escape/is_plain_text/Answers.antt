use Rattle.std.proofs.Common.{◌≤◌, length, arith}
use Rattle.std.proofs.lemmas.Bool.Decides.{nat_tests}
use Rattle.cqlp_text.proofs.ItemText.{all_plain}
use Rattle.cqlp_text.proofs.escape.is_plain_text.Goals as goal

pub returns : goal.returns
returns c = λ holds.
    let whole : length c.args.bytes.now ≤ c.plain_len.result = grind (arith, nat_tests) in
    all_plain c.args.bytes.now c.plain_len.result c.plain_len.ensures whole
