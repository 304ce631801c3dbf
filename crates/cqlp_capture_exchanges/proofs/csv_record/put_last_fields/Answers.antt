use Rattle.cqlp_capture_exchanges.proofs.csv_record.put_last_fields.Goals as goal

pub returns : goal.returns
returns g c = rw (c.seconds_or_null.ensures.field, c.end_or_null.ensures.field) at c.put_fields.ensures
