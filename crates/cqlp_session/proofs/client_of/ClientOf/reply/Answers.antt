use Rattle.std.proofs.lemmas.Int.{to_z-of_z}
use Rattle.std.proofs.Common.{rules, arith, w16, SFits, ap, sym, ◌∙◌}
use Rattle.cqlp_session.specs.Carried.{replied_with}
use Rattle.cqlp_session.specs.Signal.{signal_of}
use Rattle.cqlp_session.proofs.Progress.{replied_through, replied_view}
use Rattle.cqlp_session.proofs.client_of.ClientOf.reply.Goals as goal

pub invariant_of-self-2 : goal.invariant_of-self-2
invariant_of-self-2 g c =
    let fits : SFits w16 c.args.header.now.stream = search rules in
    let written = rw (c.deref_mut.ensures.value, to_z-of_z w16 c.args.header.now.stream fits) at c.take-value.ensures.after in
    (replied_through c.self.inside.core c.reply.new.self (signal_of c.args.header.now) _ _ _ c.in_ok-reply.reply c.self.invariant.0 (sym c.in_ok-reply.ensures.answer) c.in_ok-reply.ensures.after written (omega arith), omega arith)

pub returns-clause-after : goal.returns-clause-after
returns-clause-after g c =
    let fits : SFits w16 c.args.header.now.stream = search rules in
    let written = rw (c.deref_mut.ensures.value, to_z-of_z w16 c.args.header.now.stream fits) at c.take-value.ensures.after in
    let seen = signal_of c.args.header.now in
    replied_view (record { core = c.self.inside.core; carried = c.self.inside.carried.items }) c.reply.new.self seen _ _ c.in_ok-reply.reply (sym c.in_ok-reply.ensures.answer) c.in_ok-reply.ensures.after written (omega arith)
    ∙ ap (λ v. replied_with v seen) c.self.view_is

pub returns-clause-held : goal.returns-clause-held
returns-clause-held g c =
    let fits : SFits w16 c.args.header.now.stream = search rules in
    let written = rw (c.deref_mut.ensures.value, to_z-of_z w16 c.args.header.now.stream fits) at c.take-value.ensures.after in
    replied_through c.self.inside.core c.reply.new.self (signal_of c.args.header.now) _ _ _ c.in_ok-reply.reply c.self.invariant.0 (sym c.in_ok-reply.ensures.answer) c.in_ok-reply.ensures.after written (omega arith)
