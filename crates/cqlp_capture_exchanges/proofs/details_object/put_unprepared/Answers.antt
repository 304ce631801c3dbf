use Rattle.cqlp_capture_exchanges.proofs.details_object.put_unprepared.Goals as goal

pub returns : goal.returns
returns g c = rw c.hex_or_null.ensures at c.put_members.ensures
