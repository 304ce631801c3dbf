use Rattle.std.proofs.lemmas.Int.{to_z-of_z}
use Rattle.std.proofs.Common.{rules, arith, w16, SFits}
use Rattle.cqlp_session.specs.Signal.{signal_of}
use Rattle.cqlp_session.proofs.Progress.{accepted_through}
use Rattle.cqlp_session.proofs.server_of.ServerOf.accept.Goals as goal

pub invariant_of-self : goal.invariant_of-self
invariant_of-self g c =
    let fits : SFits w16 c.args.header.now.stream = search rules in
    let written = rw (c.deref_mut.ensures.value, to_z-of_z w16 c.args.header.now.stream fits) at c.keep.ensures in
    (accepted_through c.self.inside.core c.accept.new.self (signal_of c.args.header.now) _ _ _ c.args.carried c.in-Ok.kind c.self.invariant.0 c.in-Ok.ensures.after written (omega arith), omega arith)

pub returns-in-Ok-clause-held : goal.returns-in-Ok-clause-held
returns-in-Ok-clause-held g c =
    let fits : SFits w16 c.args.header.now.stream = search rules in
    let written = rw (c.deref_mut.ensures.value, to_z-of_z w16 c.args.header.now.stream fits) at c.keep.ensures in
    accepted_through c.self.inside.core c.accept.new.self (signal_of c.args.header.now) _ _ _ c.args.carried c.in-Ok.kind c.self.invariant.0 c.in-Ok.ensures.after written (omega arith)
