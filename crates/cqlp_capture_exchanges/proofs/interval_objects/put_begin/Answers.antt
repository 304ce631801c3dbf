use Rattle.cqlp_capture_exchanges.proofs.interval_objects.put_begin.Goals as goal

pub returns : goal.returns
returns g c = rw c.begin_or_null.ensures at c.put_members.ensures
