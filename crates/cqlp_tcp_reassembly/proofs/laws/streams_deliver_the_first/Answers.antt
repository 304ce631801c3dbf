use Rattle.std.proofs.Common.{refl, subst, sym}
use Rattle.cqlp_tcp_reassembly.specs.Segments.{begins_stream}
use Rattle.cqlp_tcp_reassembly.specs.Streams.{Delivery}
use Rattle.cqlp_tcp_reassembly.specs.StreamLaws.{Follows, Delivers}
use Rattle.cqlp_tcp_reassembly.proofs.Streamed.{begins_empty, loses_acknowledged, loses_at_close, passes_held, delivers}
use Rattle.cqlp_tcp_reassembly.proofs.laws.streams_deliver_the_first.Goals as goal

pub returns-clause-begins : goal.returns-clause-begins
returns-clause-begins c = λ old g origin begins numbers. begins_empty (begins_stream g) old g origin refl begins numbers

pub returns-clause-segments : goal.returns-clause-segments
returns-clause-segments c = λ old origin segments start g room t s at holds near goes numbers is.
    subst (λ (x : Delivery). Delivers x.step segments origin old.position start g x.state) (sym is) (delivers old origin start segments g room at holds near goes numbers)

pub returns-clause-acknowledgements : goal.returns-clause-acknowledgements
returns-clause-acknowledgements c = λ old origin segments number t s at holds is.
    subst (λ (x : Delivery). Follows x.step segments origin old.position x.state) (sym is) (loses_acknowledged old origin segments number at holds)

pub returns-clause-close : goal.returns-clause-close
returns-clause-close c = λ old origin segments t s at holds is.
    subst (λ (x : Delivery). Follows x.step segments origin old.position x.state) (sym is) (loses_at_close old origin segments at holds)

pub returns-clause-held : goal.returns-clause-held
returns-clause-held c = passes_held
