use Rattle.std.proofs.Common.{inr, refl, sym, ap}
use Rattle.cqlp_render.proofs.Buffering.{goes_same}
use Rattle.cqlp_render.proofs.Shows.{reads_by, renders_at_once, shows_by}
use Rattle.cqlp_render.proofs.Timely.{in_time_at_once, still_in_time}
use Rattle.cqlp_render.proofs.showing.read_through.Goals as goal

pub returns-clause-shows : goal.returns-clause-shows
returns-clause-shows g c = λ xs left known.
    let ran = (rw c.new-sink.ensures at c.run-outcome.ensures.runs) xs left known in
    rw (c.ending_of.ensures, c.into_inner.ensures) (shows_by _ _ _ _ _ _ _ _ _ _ c.in-Some.ensures.fresh c.in-Some.ensures.unrefused c.in-Some.ensures.rules c.run-outcome.ensures.rules (renders_at_once _ _ _ _ _ _ c.in-Some.ensures.fresh _ _ ran))

pub returns-clause-reads : goal.returns-clause-reads
returns-clause-reads g c = rw c.ending_of.ensures (reads_by _ _ _ _ c.run-outcome.ensures.reads)

pub returns-clause-in_time : goal.returns-clause-in_time
returns-clause-in_time g c = λ xs left known.
    let ran = (rw c.new-sink.ensures at c.run-outcome.ensures.in_time) xs left known in
    let reads = in_time_at_once _ _ _ _ xs _ _ _ _ _ c.in-Some.ensures.fresh ran in
    inr (_, c.in-Some.ensures.fresh, c.in-Some.ensures.unrefused, c.in-Some.ensures.rules, still_in_time _ _ _ xs _ _ _ _ _ _ _ _ reads refl refl (goes_same _ _ (sym (ap (λ o. o.given) c.into_inner.ensures))))
