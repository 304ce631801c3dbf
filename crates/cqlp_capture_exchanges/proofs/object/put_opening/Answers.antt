use Rattle.cqlp_capture_exchanges.proofs.object.put_opening.Goals as goal

pub returns : goal.returns
returns g c = rw (c.seconds_or_null.ensures.value, c.time_between-since.ensures, c.utc_or_null.ensures.value, c.protocol_name.ensures, c.version_or_null.ensures.value) at c.put_members.ensures
