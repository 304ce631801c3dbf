use Rattle.std.proofs.Common.{rules, ◌≡◌, subst}
use Rattle.std.specs.Prelude.{IfOk, None}
use Rattle.cqlp_tcp_reassembly.specs.Segments.{captured}
use Rattle.cqlp_tcp_reassembly.specs.Streams.{Delivery, delivered}
use Rattle.cqlp_tcp_reassembly.proofs.Settled.{received_placed}
use Rattle.cqlp_tcp_reassembly.proofs.stream.Stream.receive.Goals as goal

pub returns-clause-delivered : goal.returns-clause-delivered
returns-clause-delivered g c =
    let none : c.settle.result ≡ None = search rules in
    subst (λ (t : Delivery). IfOk c.put_part.result (λ step. delivered step c.put_part.new.self ≡ t))
    (received_placed c.args.self.now c.note_end.new.self c.settle.new.self (captured c.args.segment.now) c.place-place.result c.first_free-part.result
    c.settle.result c.stop.result c.args.room (search rules) (search rules) (search rules) none (search rules) (search rules))
    c.put_part.ensures.delivered
