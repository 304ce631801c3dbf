use Rattle.cqlp_json.proofs.line.put_node.Goals as goal

pub returns : goal.returns
returns g c = rw c.kind_name.ensures at c.put_members.ensures
