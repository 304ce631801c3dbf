use Rattle.cqlp_capture_exchanges.proofs.Missing.{noted}
use Rattle.cqlp_capture_exchanges.proofs.capturing.conclude.Goals as goal

pub returns-clause-concludes : goal.returns-clause-concludes
returns-clause-concludes g c = λ known.
    noted c.args.streams c.args.limits c.args.ports.now c.losses_of.result c.args.counts.now.sums c.args.counts.now.missed c.args.answer.now _ _ _ c.losses_of.ensures (c.conclude_capture.ensures.concludes known)
