use Rattle.cqlp_capture_exchanges.proofs.csv_record.put_tracing.Goals as goal

pub returns : goal.returns
returns g c = rw c.uuid_or_null.ensures.field at c.put_fields.ensures
