use Rattle.cqlp_render.proofs.render.render_rows.Goals as goal

pub returns-clause-text : goal.returns-clause-text
returns-clause-text g c = λ xs left reports. rw c.into_inner.ensures (_, (rw (c.new-sink.ensures, c.new.ensures) at c.run-outcome.ensures.runs) xs left reports)

pub returns-clause-in_time : goal.returns-clause-in_time
returns-clause-in_time g c = λ xs left reports. rw c.into_inner.ensures (_, (rw (c.new-sink.ensures, c.new.ensures) at c.run-outcome.ensures.in_time) xs left reports)
