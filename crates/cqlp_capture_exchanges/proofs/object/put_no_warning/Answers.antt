use Rattle.std.proofs.Common.{Bool, None, subst, sym}
use Rattle.cqlp_text.specs.Written.{Writes}
use Rattle.cqlp_capture_exchanges.specs.Objects.{warnings_members}
use Rattle.cqlp_capture_exchanges.proofs.object.put_no_warning.Goals as goal

pub returns-else-is_given_up : goal.returns-else-is_given_up
returns-else-is_given_up g c =
    subst (λ (b : Bool). Writes c.args.writer.now (warnings_members b None) c.put.result c.put.new.self) (sym c.if-is_given_up.false) c.put.ensures
