use Rattle.cqlp_capture_exchanges.proofs.csv_record.put_protocol.Goals as goal

pub returns : goal.returns
returns g c = rw (c.protocol_name.ensures, c.version_or_null.ensures.field) at c.put_fields.ensures
