use Rattle.std.proofs.Common.{◌≡◌, rules, [], ap, sym, ◌∙◌, refl, inl}
use Rattle.std.specs.Prelude.{Result, Ok, Err}
use Rattle.cqlp_session.specs.declared.ticket.Reply.{Reply}
use Rattle.cqlp_session.specs.declared.ticket.Reply.TheVariants.{Answer}
use Rattle.cqlp_session.specs.declared.ticket.Stray.{Stray}
use Rattle.cqlp_session.specs.Signal.{signal_of}
use Rattle.cqlp_session.specs.Client.{replied}
use Rattle.cqlp_loop.specs.Callers.{IsNoAnswerIn, Takes, Refuses}
use Rattle.cqlp_loop.proofs.Pulling.{received, cut_short, turned_away}
use Rattle.cqlp_loop.proofs.client.Caller.listen.Goals as goal

pub returns-in_err-header : goal.returns-in_err-header
returns-in_err-header g c =
    let is : c.from_residual.result ≡ Err c.in_err-header.field-0.0 = search rules in
    rw (is, ← c.self.view_is) (inl (c.in_err-header.ensures []))

pub returns-in-Ok-ServerEvent : goal.returns-in-Ok-ServerEvent
returns-in-Ok-ServerEvent g c =
    let none : IsNoAnswerIn c.reply.result = rw (c.in-Ok-ServerEvent.is, c.in-Ok-ServerEvent.field-0-is) tt in
    rw (← c.self.view_is) (turned_away (Takes c.self.inside.core) (Refuses c.self.inside.core) c.self.inside.inbox c.header.new.self _ _ c.in_ok-header.header c.in_ok-header.ensures (rw c.reply.ensures.answer at none))

pub returns-in-Ok-Dropped : goal.returns-in-Ok-Dropped
returns-in-Ok-Dropped g c =
    let none : IsNoAnswerIn c.reply.result = rw (c.in-Ok-Dropped.is, c.in-Ok-Dropped.field-0-is) tt in
    rw (← c.self.view_is) (turned_away (Takes c.self.inside.core) (Refuses c.self.inside.core) c.self.inside.inbox c.header.new.self _ _ c.in_ok-header.header c.in_ok-header.ensures (rw c.reply.ensures.answer at none))

pub returns-in-Err : goal.returns-in-Err
returns-in-Err g c =
    let none : IsNoAnswerIn c.reply.result = rw c.in-Err.is tt in
    rw (← c.self.view_is) (turned_away (Takes c.self.inside.core) (Refuses c.self.inside.core) c.self.inside.inbox c.header.new.self _ _ c.in_ok-header.header c.in_ok-header.ensures (rw c.reply.ensures.answer at none))

pub returns-in_err-rest : goal.returns-in_err-rest
returns-in_err-rest g c =
    let is : c.from_residual-in_err-rest.result ≡ Err c.in_err-rest.field-0.0 = search rules in
    let reply : c.reply.result ≡ Ok (Answer c.in-Ok-Answer.ticket c.in-Ok-Answer.field-0-1) = let e = c.in-Ok-Answer.is in let f = c.in-Ok-Answer.field-0-is in cc in
    rw (is, ← c.self.view_is) (cut_short (Takes c.self.inside.core) (Refuses c.self.inside.core) c.self.inside.inbox c.header.new.self _ _ c.in_ok-header.header c.in_ok-header.ensures c.in_err-rest.field-0.0 c.rest.new.self _ (c.in-Ok-Answer.ticket, (c.in-Ok-Answer.field-0-1, sym c.reply.ensures.answer ∙ reply)) c.in_err-rest.ensures)

pub returns : goal.returns
returns g c =
    let reply : c.reply.result ≡ Ok (Answer c.in-Ok-Answer.ticket c.in-Ok-Answer.field-0-1) = let e = c.in-Ok-Answer.is in let f = c.in-Ok-Answer.field-0-is in cc in
    let answer = sym c.reply.ensures.answer ∙ reply in
    rw (← c.self.view_is) (
      c.in_ok-header.header,
      (c.in-Ok-Answer.field-0-1, answer),
      refl,
      received (Takes c.self.inside.core) (Refuses c.self.inside.core) c.self.inside.inbox c.header.new.self _ _ c.in_ok-header.header c.in_ok-header.ensures c.rest.new.self _ (c.in-Ok-Answer.ticket, (c.in-Ok-Answer.field-0-1, answer)) c.in_ok-rest.ensures,
      c.reply.ensures.after ∙ ap (λ (r : Result Reply Stray). replied c.self.inside.core (signal_of c.in_ok-header.header) r) c.reply.ensures.answer,
    )
