use Rattle.std.proofs.Common.{subst, arith}
use Rattle.cqlp_text.specs.Written.{Writes}
use Rattle.cqlp_capture_exchanges.proofs.Ends.{ipv4_joined}
use Rattle.cqlp_capture_exchanges.proofs.end.put_ipv4.Goals as goal

pub returns : goal.returns
returns g c =
    subst (λ z. Writes c.args.writer.now z c.put_address.result c.put_address.new.self) (ipv4_joined c.args.octets (omega arith)) c.put_address.ensures
