use Rattle.std.proofs.Common.{◌-◌, length, take, drop, refl}
use Rattle.cqlp_text.proofs.Writing.{progress_goes_on, progress_stops}
use Rattle.cqlp_json.proofs.Escapes.{plain_front, front_next}
use Rattle.cqlp_json.proofs.string.put_escaped.Goals as goal

pub returns-in_err-put : goal.returns-in_err-put
returns-in_err-put g c =
    progress_stops _ c.from_residual.result c.from_residual.ensures.0 c.loop-rest.invariant (plain_front c.loop-rest.rest.now _ c.plain_len-plain.ensures) c.in_err-put.ensures

pub returns-in_err-put_front : goal.returns-in_err-put_front
returns-in_err-put_front g c =
    let after = take (length c.loop-rest.rest.now - c.plain_len-plain.result) (drop c.plain_len-plain.result c.loop-rest.rest.now) in
    let plain = progress_goes_on _ c.loop-rest.invariant (plain_front c.loop-rest.rest.now _ c.plain_len-plain.ensures) c.in_ok-put.ensures in
    progress_stops _ c.from_residual-in_err-put_front.result c.from_residual-in_err-put_front.ensures.0 plain (front_next after _ refl) c.in_err-put_front.ensures

pub loop-rest-preserved : goal.loop-rest-preserved
loop-rest-preserved g c =
    let after = take (length c.loop-rest.rest.now - c.plain_len-plain.result) (drop c.plain_len-plain.result c.loop-rest.rest.now) in
    let plain = progress_goes_on _ c.loop-rest.invariant (plain_front c.loop-rest.rest.now _ c.plain_len-plain.ensures) c.in_ok-put.ensures in
    progress_goes_on _ plain (front_next after _ c.front_len.ensures) c.in_ok-put_front.ensures
