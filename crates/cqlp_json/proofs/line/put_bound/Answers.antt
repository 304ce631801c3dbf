use Rattle.cqlp_json.proofs.line.put_bound.Goals as goal

pub returns-in-Null : goal.returns-in-Null
returns-in-Null g c = rw c.in-Null.is c.put_set.ensures

pub returns-in-Unset : goal.returns-in-Unset
returns-in-Unset g c = rw c.in-Unset.is c.put_set-in-Unset.ensures

pub returns-in-Bytes : goal.returns-in-Bytes
returns-in-Bytes g c = rw c.in-Bytes.is c.put_set-in-Bytes.ensures
