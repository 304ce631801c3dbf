use Rattle.cqlp_capture_exchanges.proofs.csv_record.put_result.Goals as goal

pub returns : goal.returns
returns g c = rw (c.signed_or_null.ensures.field, c.signed_or_null-2.ensures.field, c.flag_or_null.ensures.field, c.number_or_null.ensures.field) at c.put_fields.ensures
