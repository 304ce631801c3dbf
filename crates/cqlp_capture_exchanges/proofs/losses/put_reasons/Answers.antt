use Rattle.cqlp_capture_exchanges.proofs.losses.put_reasons.Goals as goal

pub returns : goal.returns
returns g c = rw (c.mebibytes-text.ensures, c.mebibytes-early.ensures) at c.put_each.ensures
