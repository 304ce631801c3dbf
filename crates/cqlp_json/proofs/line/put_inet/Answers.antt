use Rattle.std.proofs.Common.{FitsSigned, w32}
use Rattle.std.proofs.lemmas.Int.{to_z-of_z}
use Rattle.cqlp_json.proofs.line.put_inet.Goals as goal

pub returns : goal.returns
returns g c =
    let fits : FitsSigned w32 c.args.port = c.ranges.port in
    rw (c.field_name.ensures, simp to_z-of_z at c.int.ensures) at c.put_members.ensures
