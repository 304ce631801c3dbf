use Rattle.std.proofs.lemmas.Int.{to_z-of_z}
use Rattle.std.proofs.Common.{rules, arith, w16, SFits}
use Rattle.cqlp_session.proofs.Progress.{begun_through}
use Rattle.cqlp_session.proofs.client_of.ClientOf.begin.Goals as goal

pub invariant_of-self : goal.invariant_of-self
invariant_of-self g c =
    let fits : SFits w16 c.in-Ok.ticket.id = search rules in
    let written = rw (c.deref_mut.ensures.value, to_z-of_z w16 c.in-Ok.ticket.id fits) at c.keep.ensures in
    (begun_through c.self.inside.core c.begin.new.self c.args.kind _ _ _ c.args.carried c.in-Ok.ticket c.self.invariant.0 c.in-Ok.ensures.after written (omega arith), omega arith)

pub returns-in-Ok-clause-held : goal.returns-in-Ok-clause-held
returns-in-Ok-clause-held g c =
    let fits : SFits w16 c.in-Ok.ticket.id = search rules in
    let written = rw (c.deref_mut.ensures.value, to_z-of_z w16 c.in-Ok.ticket.id fits) at c.keep.ensures in
    begun_through c.self.inside.core c.begin.new.self c.args.kind _ _ _ c.args.carried c.in-Ok.ticket c.self.invariant.0 c.in-Ok.ensures.after written (omega arith)
