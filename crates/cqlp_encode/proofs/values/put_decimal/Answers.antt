use Rattle.std.proofs.Common.{◌≡◌, ◌++◌, length, arith}
use Rattle.std.proofs.lemmas.List.{length-append}
use Rattle.cqlp_encode.proofs.Contents.{decimal_put}
use Rattle.cqlp_encode.proofs.values.put_decimal.Goals as goal

pub returns : goal.returns
returns g c =
    let count : c.saturating_add.result ≡ length (c.args.scale ++ c.args.unscaled.now) = grind (arith, length-append) in
    decimal_put _ _ _ _ _ _ _ count c.put_count32.ensures c.put.ensures c.put-2.ensures
