use Rattle.std.proofs.Common.{◌+◌, ◌-◌, length, ap, arith}
use Rattle.std.proofs.lemmas.Slice.{drop-put_mid}
use Rattle.cqlp_c.proofs.versions.put.Goals as goal

pub returns-clause-others : goal.returns-clause-others
returns-clause-others c = λ n le.
    drop-put_mid c.args.at (c.args.at + length c.args.bytes.now - c.args.at) c.args.room.now c.copy_from_slice.new.self n (omega (arith, le)) (omega (arith, c.requires)) (omega (arith, ap length c.copy_from_slice.ensures.after))
