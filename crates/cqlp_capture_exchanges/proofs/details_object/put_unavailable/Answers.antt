use Rattle.cqlp_capture_exchanges.proofs.details_object.put_unavailable.Goals as goal

pub returns : goal.returns
returns g c = rw (c.consistency_or_null.ensures.value, c.signed_or_null.ensures.value, c.signed_or_null-2.ensures.value) at c.put_members.ensures
