use Rattle.cqlp_capture_exchanges.proofs.details_object.put_function_failure.Goals as goal

pub returns : goal.returns
returns g c = rw (c.text_or_null.ensures, c.text_or_null-2.ensures) at c.put_members.ensures
