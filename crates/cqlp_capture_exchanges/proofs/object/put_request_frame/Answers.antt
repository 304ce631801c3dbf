use Rattle.cqlp_capture_exchanges.proofs.object.put_request_frame.Goals as goal

pub returns : goal.returns
returns g c = rw (c.opcode_name.ensures, c.is_whole.ensures, c.has.ensures) at c.put_members.ensures
