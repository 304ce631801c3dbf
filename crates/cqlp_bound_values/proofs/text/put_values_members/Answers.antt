use Rattle.std.proofs.Common.{sym, subst}
use Rattle.cqlp_text.specs.Written.{Writes}
use Rattle.cqlp_bound_values.specs.Bindings.{bound_of}
use Rattle.cqlp_bound_values.specs.Texts.{members_text}
use Rattle.cqlp_bound_values.specs.declared.binding.Binding.{Binding}
use Rattle.cqlp_bound_values.proofs.text.put_values_members.Goals as goal

pub returns-in-Nothing : goal.returns-in-Nothing
returns-in-Nothing g c =
    subst (λ (b : Binding). Writes c.args.writer.now (members_text (bound_of b)) c.put.result c.put.new.self) (sym c.in-Nothing.is) c.put.ensures

pub returns-in-Unseen : goal.returns-in-Unseen
returns-in-Unseen g c =
    subst (λ (b : Binding). Writes c.args.writer.now (members_text (bound_of b)) c.put-in-Unseen.result c.put-in-Unseen.new.self) (sym c.in-Unseen.is) c.put-in-Unseen.ensures
