use Rattle.cqlp_json.proofs.line.put_end.Goals as goal

pub returns : goal.returns
returns g c = rw c.from.ensures at c.put_members.ensures
