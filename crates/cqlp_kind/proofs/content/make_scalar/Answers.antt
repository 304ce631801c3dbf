use Rattle.std.proofs.Common.{◌≡◌, take, length, arith}
use Rattle.std.proofs.lemmas.Bool.{eqb-true}
use Rattle.std.proofs.lemmas.List.{take_all}
use Rattle.cqlp_kind.proofs.Texts.{timeuuid_known}
use Rattle.cqlp_kind.proofs.content.make_scalar.Goals as goal

pub returns-in-Timeuuid : goal.returns-in-Timeuuid
returns-in-Timeuuid c =
    let bytes = c.args.bytes.now in
    let size : length bytes ≡ 16 = eqb-true _ _ (rw c.in-Timeuuid.is at c.requires.size) in
    let whole : take 16 bytes ≡ bytes = take_all 16 bytes (omega arith) in
    rw (c.read_array-in-Timeuuid.ensures, whole, c.in-Timeuuid.is) (timeuuid_known bytes (rw c.in-Timeuuid.is at c.requires.accepted))
