use Rattle.std.proofs.Common.{◌≡◌, refl, [], ap, ◌∙◌, subst}
use Rattle.std.specs.Prelude.{Option}
use Rattle.cqlp_note.specs.declared.refusal.Refusal.{Refusal}
use Rattle.cqlp_grammar.specs.declared.event.Event.TheVariants as event
use Rattle.cqlp_decode.specs.declared.step.Step.TheVariants as steps
use Rattle.cqlp_decode.specs.declared.advance.EventAdvance.TheVariants as advance
use Rattle.cqlp_decode.specs.Progress.{StreamState, Advances}
use Rattle.cqlp_decode.specs.Streams.{AfterBy, state}
use Rattle.cqlp_decode.proofs.Leads.{more_leads, hands_leads, event_leads, refused_leads, more_uses, event_uses, more_goes, event_goes, refused_goes, more_repeats, event_repeats, refused_repeats, unrefused}
use Rattle.cqlp_decode.proofs.decoder.Decoder.next.Goals as goal

pub returns-in-Some : goal.returns-in-Some
returns-in-Some g c =
    let old = state c.args.self.now in
    let new = state c.take_scalar.new.self in
    let input = c.args.input.now in
    let t = c.in-Some.taken in
    let e = event.Leaf t.row t.column 0 t.scalar in
    let takes = c.in-Some.ensures in (
      (
        refl,
        λ _. tt,
        (
          (takes.4.pays, takes.4.lent, takes.2, takes.1, takes.3, takes.4.kept),
          λ gifts s es after. hands_leads old new input s es gifts t.at t.used e takes.4 takes.1 takes.2 (subst (λ (o : Option Refusal). AfterBy o gifts old s es) takes.0 after),
          unrefused old new (steps.Event t.at t.used e) old.refusal takes.0,
        ),
      ),
      record { next = tt; uses = takes.4.within },
    )

pub returns-in-More : goal.returns-in-More
returns-in-More g c =
    let old = state c.args.self.now in
    let new = state c.advance.new.self in
    let input = c.args.input.now in
    let moves = subst (λ (z : StreamState). Advances z input (advance.More c.in-More.used) new) c.in_default.ensures c.in-More.ensures.advances in (
      (refl, λ _. tt, (more_goes old new input [] [] old.refusal c.in-More.used moves, λ gifts s es after. more_leads old new input s es gifts old.refusal c.in-More.used moves after, more_repeats old new input [] [] old.refusal c.in-More.used moves)),
      record { next = tt; uses = more_uses old new input [] [] old.refusal c.in-More.used moves },
    )

pub returns-in-Refused : goal.returns-in-Refused
returns-in-Refused g c =
    let old = state c.args.self.now in
    let new = state c.advance.new.self in
    let input = c.args.input.now in
    let moves = subst (λ (z : StreamState). Advances z input (advance.Refused c.in-Refused.refusal) new) c.in_default.ensures c.in-Refused.ensures.advances in
    let nodes : new.place.nodes ≡ old.place.nodes = c.in-Refused.ensures.table ∙ ap (λ (z : StreamState). z.place.nodes) c.in_default.ensures in (
      (refl, λ _. tt, (refused_goes old new input [] [] old.refusal refl c.in-Refused.refusal moves, λ gifts s es after. refused_leads old new input s es gifts old.refusal refl c.in-Refused.refusal nodes moves after, refused_repeats old new input [] [] old.refusal c.in-Refused.refusal moves)),
      record { next = tt; uses = tt },
    )

pub returns-in-Event : goal.returns-in-Event
returns-in-Event g c =
    let old = state c.args.self.now in
    let new = state c.advance.new.self in
    let input = c.args.input.now in
    let moves = subst (λ (z : StreamState). Advances z input (advance.Event c.in-Event.at c.in-Event.used c.in-Event.what) new) c.in_default.ensures c.in-Event.ensures.advances in (
      (refl, λ _. tt, (event_goes old new input [] [] old.refusal c.in-Event.at c.in-Event.used c.in-Event.what c.lend.result c.lend.ensures moves, λ gifts s es after. event_leads old new input s es gifts old.refusal c.in-Event.at c.in-Event.used c.in-Event.what c.lend.result c.lend.ensures moves after, event_repeats old new input [] [] old.refusal c.in-Event.at c.in-Event.used c.in-Event.what c.lend.result moves)),
      record { next = tt; uses = event_uses old new input [] [] old.refusal c.in-Event.at c.in-Event.used c.in-Event.what moves },
    )
