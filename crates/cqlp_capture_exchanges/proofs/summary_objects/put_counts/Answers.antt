use Rattle.cqlp_capture_exchanges.proofs.summary_objects.put_counts.Goals as goal

pub returns : goal.returns
returns g c = rw c.text_or_null.ensures at c.put_members.ensures
