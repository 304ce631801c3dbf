use Rattle.std.proofs.Common.{◌≡◌, rules, [], ap, sym, ◌∙◌, inl}
use Rattle.std.specs.Prelude.{Result, Err}
use Rattle.cqlp_session.specs.declared.kind.RequestKind.{RequestKind}
use Rattle.cqlp_session.specs.declared.server.ServerRefusal.{ServerRefusal}
use Rattle.cqlp_session.specs.Signal.{signal_of}
use Rattle.cqlp_session.specs.Server.{accepted}
use Rattle.cqlp_loop.specs.Hosts.{Takes, Refuses}
use Rattle.cqlp_loop.proofs.Pulling.{received, cut_short, turned_away}
use Rattle.cqlp_loop.proofs.server.Host.accept.Goals as goal

pub returns-in_err-header : goal.returns-in_err-header
returns-in_err-header g c =
    let is : c.from_residual.result ≡ Err c.in_err-header.field-0.0 = search rules in
    rw (is, ← c.self.view_is) (inl (c.in_err-header.ensures []))

pub returns-in-Err : goal.returns-in-Err
returns-in-Err g c =
    rw (← c.self.view_is) (turned_away (Takes c.self.inside.core) (Refuses c.self.inside.core) c.self.inside.inbox c.header.new.self _ _ c.in_ok-header.header c.in_ok-header.ensures (c.in-Err.field-0, sym c.accept.ensures.answer ∙ c.in-Err.is))

pub returns-in_err-rest : goal.returns-in_err-rest
returns-in_err-rest g c =
    let is : c.from_residual-in_err-rest.result ≡ Err c.in_err-rest.field-0.0 = search rules in
    rw (is, ← c.self.view_is) (cut_short (Takes c.self.inside.core) (Refuses c.self.inside.core) c.self.inside.inbox c.header.new.self _ _ c.in_ok-header.header c.in_ok-header.ensures c.in_err-rest.field-0.0 c.rest.new.self _ (c.in-Ok.field-0, sym c.accept.ensures.answer ∙ c.in-Ok.is) c.in_err-rest.ensures)

pub returns : goal.returns
returns g c =
    rw (← c.self.view_is) (
      received (Takes c.self.inside.core) (Refuses c.self.inside.core) c.self.inside.inbox c.header.new.self _ _ c.in_ok-header.header c.in_ok-header.ensures c.rest.new.self _ (c.in-Ok.field-0, sym c.accept.ensures.answer ∙ c.in-Ok.is) c.in_ok-rest.ensures,
      c.accept.ensures.after ∙ ap (λ (r : Result RequestKind ServerRefusal). accepted c.self.inside.core (signal_of c.in_ok-header.header) r) c.accept.ensures.answer,
    )
