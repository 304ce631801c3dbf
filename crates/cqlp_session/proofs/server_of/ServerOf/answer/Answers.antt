use Rattle.std.proofs.lemmas.Int.{to_z-of_z}
use Rattle.std.proofs.Common.{rules, arith, w16, SFits}
use Rattle.cqlp_session.proofs.Progress.{answered_through}
use Rattle.cqlp_session.proofs.server_of.ServerOf.answer.Goals as goal

pub invariant_of-self-2 : goal.invariant_of-self-2
invariant_of-self-2 g c =
    let fits : SFits w16 c.args.id = search rules in
    let written = rw (c.deref_mut.ensures.value, to_z-of_z w16 c.args.id fits) at c.take.ensures.after in
    let after = rw (to_z-of_z w16 c.args.id fits) at c.in_ok-kind.ensures.after in
    (answered_through c.self.inside.core c.answer.new.self c.args.id c.args.opcode _ _ _ c.in_ok-kind.kind c.self.invariant.0 after written (omega arith), omega arith)

pub returns-clause-held : goal.returns-clause-held
returns-clause-held g c =
    let fits : SFits w16 c.args.id = search rules in
    let written = rw (c.deref_mut.ensures.value, to_z-of_z w16 c.args.id fits) at c.take.ensures.after in
    let after = rw (to_z-of_z w16 c.args.id fits) at c.in_ok-kind.ensures.after in
    answered_through c.self.inside.core c.answer.new.self c.args.id c.args.opcode _ _ _ c.in_ok-kind.kind c.self.invariant.0 after written (omega arith)
