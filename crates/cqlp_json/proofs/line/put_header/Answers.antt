use Rattle.std.proofs.Common.{rules, SFits, w16}
use Rattle.std.proofs.lemmas.Int.{to_z-of_z}
use Rattle.cqlp_json.proofs.line.put_header.Goals as goal

pub returns : goal.returns
returns g c =
    let fits : SFits w16 c.args.header.stream = search rules in
    let stream = rw (to_z-of_z w16 c.args.header.stream fits) at c.smallint.ensures in
    rw (c.direction.ensures, c.from.ensures, stream, c.opcode_name.ensures, c.from-2.ensures) at c.put_members.ensures
