use Rattle.std.proofs.Common.{Option, subst}
use Rattle.cqlp_text.specs.Written.{Writes}
use Rattle.cqlp_capture_exchanges.specs.Objects.{warnings_members}
use Rattle.cqlp_capture_exchanges.specs.Warnings.{Listed, Warned}
use Rattle.cqlp_capture_exchanges.proofs.object.put_warnings.Goals as goal

pub returns-in-Some : goal.returns-in-Some
returns-in-Some g c =
    subst (λ (o : Option (Warned × Listed)). Writes c.args.writer.now (warnings_members c.args.is_given_up o) c.put_known_warnings.result c.put_known_warnings.new.writer) c.in-Some.ensures c.put_known_warnings.ensures

pub returns-in-None : goal.returns-in-None
returns-in-None g c =
    subst (λ (o : Option (Warned × Listed)). Writes c.args.writer.now (warnings_members c.args.is_given_up o) c.put_no_warning.result c.put_no_warning.new.writer) c.in-None.ensures c.put_no_warning.ensures
