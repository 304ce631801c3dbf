use Rattle.cqlp_text.proofs.Writing.{breaks_at, takes_at}
use Rattle.cqlp_text.proofs.sending.send.Goals as goal

pub returns-then-offer-bytes : goal.returns-then-offer-bytes
returns-then-offer-bytes g c = breaks_at _ _ _ _ _ _ c.if-offer-bytes.true c.offer.ensures.offered.given c.offer.ensures.offered.failures

pub returns-else-offer-bytes : goal.returns-else-offer-bytes
returns-else-offer-bytes g c = takes_at _ _ _ _ _ _ c.offer.ensures.offered.bound c.if-offer-bytes.false c.offer.ensures.offered.given c.offer.ensures.offered.failures
