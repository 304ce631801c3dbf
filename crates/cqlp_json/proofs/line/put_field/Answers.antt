use Rattle.cqlp_json.proofs.line.put_field.Goals as goal

pub returns : goal.returns
returns g c = rw c.field_name.ensures at c.put_members.ensures
