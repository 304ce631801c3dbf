use Rattle.std.proofs.Common.{◌≡◌, ◌-◌, ◌∷◌, [], length, take, drop, arith, ap}
use Rattle.std.proofs.lemmas.Grind.{common_steps}
use Rattle.cqlp_row_text.specs.Quotes.{doubled}
use Rattle.cqlp_row_text.proofs.Doubles.{front_taken, byte_first}
use Rattle.cqlp_text.proofs.Writing.{progress_goes_on, progress_stops, progress_ends}
use Rattle.cqlp_row_text.proofs.quotes.put_doubled.Goals as goal

pub returns-in_err-put : goal.returns-in_err-put
returns-in_err-put g c =
    progress_stops _ c.from_residual.result c.from_residual.ensures.0 c.loop-rest.invariant (front_taken c.args.a c.args.b c.loop-rest.rest.now _ c.plain_len-plain.ensures.within c.plain_len-plain.ensures.plain) c.in_err-put.ensures

pub returns-in_default : goal.returns-in_default
returns-in_default g c =
    let none : take (length c.loop-rest.rest.now - c.plain_len-plain.result) (drop c.plain_len-plain.result c.loop-rest.rest.now) ≡ [] = grind (arith, common_steps, c.in_default.ensures.cases) in
    progress_ends (progress_goes_on _ c.loop-rest.invariant (front_taken c.args.a c.args.b c.loop-rest.rest.now _ c.plain_len-plain.ensures.within c.plain_len-plain.ensures.plain) c.in_ok-put.ensures) (ap (doubled c.args.a c.args.b) none)

pub returns-in_err-put_byte : goal.returns-in_err-put_byte
returns-in_err-put_byte g c =
    let some : take (length c.loop-rest.rest.now - c.plain_len-plain.result) (drop c.plain_len-plain.result c.loop-rest.rest.now) ≡ c.in-Some.byte.now ∷ c.in-Some.after.now = c.in-Some.ensures.cases.0 in
    progress_stops _ c.from_residual-in_err-put_byte.result c.from_residual-in_err-put_byte.ensures.0 (progress_goes_on _ c.loop-rest.invariant (front_taken c.args.a c.args.b c.loop-rest.rest.now _ c.plain_len-plain.ensures.within c.plain_len-plain.ensures.plain) c.in_ok-put.ensures) (byte_first c.args.a c.args.b _ _ _ some) c.in_err-put_byte.ensures

pub loop-rest-preserved : goal.loop-rest-preserved
loop-rest-preserved g c =
    let some : take (length c.loop-rest.rest.now - c.plain_len-plain.result) (drop c.plain_len-plain.result c.loop-rest.rest.now) ≡ c.in-Some.byte.now ∷ c.in-Some.after.now = c.in-Some.ensures.cases.0 in
    progress_goes_on _ (progress_goes_on _ c.loop-rest.invariant (front_taken c.args.a c.args.b c.loop-rest.rest.now _ c.plain_len-plain.ensures.within c.plain_len-plain.ensures.plain) c.in_ok-put.ensures) (byte_first c.args.a c.args.b _ _ _ some) c.in_ok-put_byte.ensures
