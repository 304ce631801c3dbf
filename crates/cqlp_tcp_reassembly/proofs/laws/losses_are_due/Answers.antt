use Rattle.std.proofs.Common.{subst, sym}
use Rattle.cqlp_tcp_reassembly.specs.Streams.{Delivery}
use Rattle.cqlp_tcp_reassembly.specs.StreamLaws.{IsAcknowledged, IsInTime}
use Rattle.cqlp_tcp_reassembly.proofs.Losses.{acknowledged, in_time}
use Rattle.cqlp_tcp_reassembly.proofs.laws.losses_are_due.Goals as goal

pub returns-clause-in_time : goal.returns-clause-in_time
returns-clause-in_time c = λ old g room t s is. subst (λ (x : Delivery). IsInTime x.step old x.state g room) (sym is) (in_time old.stage old g room)

pub returns-clause-acknowledged : goal.returns-clause-acknowledged
returns-clause-acknowledged c = λ old number t s is. subst (λ (x : Delivery). IsAcknowledged x.step old number) (sym is) (acknowledged old.stage old number)
