use Rattle.cqlp_json.proofs.line.put_leave.Goals as goal

pub returns : goal.returns
returns g c = rw (c.from.ensures, c.from-2.ensures) at c.put_members.ensures
