use Rattle.std.proofs.Common.{inr}
use Rattle.cqlp_render.proofs.Shows.{counts_passed_on, passed_on, passed_on_goes, reads_passed_on, reports_at_first, shows_by}
use Rattle.cqlp_render.proofs.Timely.{after_a_buffer}
use Rattle.cqlp_render.proofs.showing.show_in.Goals as goal

pub returns-clause-shows : goal.returns-clause-shows
returns-clause-shows g c = λ xs left known err_known.
    let at_first = reports_at_first _ _ _ c.new.ensures known in
    let fresh = c.in-Some.ensures.fresh in
    let passed = c.pass_on-outcome.ensures in
    let ran = rw (← c.into_inner.ensures) at ((rw c.new-sink.ensures at c.run_flushing-outcome.ensures.renders) xs left at_first fresh) in
    let reads = rw (← c.into_inner.ensures) at ((rw c.new-sink.ensures at c.run_flushing-outcome.ensures.in_time) xs left at_first fresh) in
    let renders = passed_on _ _ _ _ _ _ _ _ _ _ c.into_inner.result c.new.ensures fresh ran _ _ known passed in (
      c.ending_of.result,
      rw c.ending_of.ensures (shows_by _ _ _ _ _ _ _ _ _ _ fresh c.in-Some.ensures.unrefused c.in-Some.ensures.rules c.run_flushing-outcome.ensures.rules renders),
      rw c.ending_of.ensures (counts_passed_on _ _ _ _ _ _ c.run_flushing-outcome.ensures.failures passed),
      c.conclude-status-2.ensures.concludes err_known,
      rw c.ending_of.ensures (reads_passed_on _ _ _ _ _ _ _ c.run_flushing-outcome.ensures.reads passed),
      inr (_, fresh, c.in-Some.ensures.unrefused, c.in-Some.ensures.rules, after_a_buffer _ _ _ xs _ _ _ _ _ _ c.new.result c.into_inner.result c.new.ensures reads (passed_on_goes _ _ _ _ passed)),
    )
