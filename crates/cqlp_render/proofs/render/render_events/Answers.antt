use Rattle.cqlp_render.proofs.render.render_events.Goals as goal

pub returns-clause-lines : goal.returns-clause-lines
returns-clause-lines g c = λ xs left reports. rw c.into_inner.ensures (_, rw c.new-sink.ensures at c.run-outcome.ensures.runs xs left reports)

pub returns-clause-in_time : goal.returns-clause-in_time
returns-clause-in_time g c = λ xs left reports. rw c.into_inner.ensures (_, rw c.new-sink.ensures at c.run-outcome.ensures.in_time xs left reports)
