use Rattle.cqlp_capture_exchanges.proofs.end.put_ip.Goals as goal

pub returns-in-V6 : goal.returns-in-V6
returns-in-V6 g c = rw (c.in-V6.is, ← c.from-ip.ensures) c.put_ipv6.ensures
