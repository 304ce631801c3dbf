use Rattle.std.proofs.Common.{◌≡◌, rules}
use Rattle.std.specs.Prelude.{Err}
use Rattle.cqlp_loop.specs.Script.{setting_up, queries}
use Rattle.cqlp_loop.proofs.Turns.{breaks_more, ends_then}
use Rattle.cqlp_loop.proofs.conversation.play.Goals as goal

pub returns-in_err-set_up : goal.returns-in_err-set_up
returns-in_err-set_up g c =
    let is : c.from_residual.result ≡ Err c.in_err-set_up.field-0.0 = search rules in
    rw is (breaks_more c.in_err-set_up.field-0.0 setting_up (queries c.args.count) _ _ c.in_err-set_up.ensures)

pub returns : goal.returns
returns g c = ends_then c.queries.result setting_up (queries c.args.count) _ _ _ c.in_ok-set_up.ensures c.queries.ensures
