use Rattle.cqlp_capture_exchanges.proofs.details_object.put_read_failure.Goals as goal

pub returns : goal.returns
returns g c = rw (c.consistency_or_null.ensures.value, c.signed_or_null.ensures.value, c.signed_or_null-2.ensures.value, c.signed_or_null-3.ensures.value, c.flag_or_null.ensures.value) at c.put_members.ensures
