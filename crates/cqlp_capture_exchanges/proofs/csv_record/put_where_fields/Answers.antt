use Rattle.cqlp_capture_exchanges.proofs.csv_record.put_where_fields.Goals as goal

pub returns : goal.returns
returns g c = rw (c.seconds_or_null.ensures.field, c.time_between-since.ensures, c.utc_or_null.ensures.field) at c.put_fields.ensures
