use Rattle.std.proofs.Common.{◌≡◌, rules, inl, inr, refl}
use Rattle.std.specs.Prelude.{Err}
use Rattle.cqlp_loop.proofs.client.Caller.hear.Goals as goal

pub returns : goal.returns
returns g c = inl (_, c.in_ok-ticket.ensures, c.print_reply.ensures)

pub returns-in_err-ticket : goal.returns-in_err-ticket
returns-in_err-ticket g c =
    let is : c.from_residual.result ≡ Err c.in_err-ticket.field-0.0 = search rules in
    rw is (inr (c.in_err-ticket.field-0.0, refl, c.in_err-ticket.ensures, refl))
