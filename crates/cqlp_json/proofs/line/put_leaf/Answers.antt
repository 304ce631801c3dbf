use Rattle.cqlp_json.proofs.line.put_leaf.Goals as goal

pub returns : goal.returns
returns g c = rw (c.from.ensures, c.from-2.ensures, c.from-3.ensures, c.kind_name.ensures, c.kind_of.ensures) at c.put_members.ensures
