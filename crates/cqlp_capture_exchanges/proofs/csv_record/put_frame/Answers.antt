use Rattle.cqlp_capture_exchanges.proofs.csv_record.put_frame.Goals as goal

pub returns : goal.returns
returns g c = rw (c.opcode_name.ensures, c.is_whole.ensures, c.has.ensures) at c.put_fields.ensures
