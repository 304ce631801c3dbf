use Rattle.std.proofs.Common.{◌≡◌, rules}
use Rattle.std.specs.Prelude.{Err}
use Rattle.cqlp_loop.specs.declared.request.Request.TheVariants.{Options, Startup}
use Rattle.cqlp_loop.specs.Script.{exchange}
use Rattle.cqlp_loop.proofs.Turns.{breaks_more, ends_then}
use Rattle.cqlp_loop.proofs.conversation.set_up.Goals as goal

pub returns-in_err-exchange : goal.returns-in_err-exchange
returns-in_err-exchange g c =
    let is : c.from_residual.result ≡ Err c.in_err-exchange.field-0.0 = search rules in
    rw is (breaks_more c.in_err-exchange.field-0.0 (exchange Options) (exchange Startup) _ _ c.in_err-exchange.ensures)

pub returns : goal.returns
returns g c = ends_then c.exchange-2.result (exchange Options) (exchange Startup) _ _ _ c.in_ok-exchange.ensures c.exchange-2.ensures
