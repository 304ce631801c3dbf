use Rattle.std.proofs.Common.{arith, rules}
use Rattle.cqlp_note.proofs.Fronts.{inet_taken}
use Rattle.cqlp_note.proofs.Pieces.{rest_is}
use Rattle.cqlp_note.proofs.head.read_address_and_port.Goals as goal

pub returns : goal.returns
returns c =
    let first = rw rest_is at c.read_array.ensures in
    let port = c.from_be_bytes-port.ensures in
    rw (c.end_field.ensures, c.read_address.ensures) (omega (arith, c.if-rest-size.false), λ t. let said = inet_taken c.args.size c.args.wanted.room c.args.rest.now t c.if-wanted-size.false c.if-rest-size.false in search (rules, said, first, port), tt)
