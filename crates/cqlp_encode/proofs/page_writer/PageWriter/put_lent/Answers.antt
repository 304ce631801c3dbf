use Rattle.std.proofs.Common.{◌≡◌, ◌≤◌, ◌+◌, ◌<◌, ◌^◌, ℕ, List, Some, true, length, refl, sym, subst, arith}
use Rattle.std.proofs.lemmas.List.{length-append}
use Rattle.std.specs.Int.{w32, to_be_bytes}
use Rattle.cqlp_encode.proofs.Calls.{same_number, taken_calls}
use Rattle.cqlp_note.specs.Outputs.{Offered, written}
use Rattle.cqlp_encode.proofs.Continuing.{anew}
use Rattle.cqlp_encode.proofs.PageSteps.{adds, has_size, refused_as, size_of_some}
use Rattle.cqlp_encode.proofs.page_writer.PageWriter.put_lent.Goals as goal

pub returns-in_err-size-clause-adds : goal.returns-in_err-size-clause-adds
returns-in_err-size-clause-adds g c v is cells cell s =
    let short : length c.args.content.now < 2 ^ 63 = omega arith in
    let has = has_size v c.args.content.now is short in
    refused_as c.args.self.now cells cell (written g.W.Target c.args.target.now) c.from_residual.result _ c.from_residual.ensures (c.in_err-size.ensures.checks v has cells cell s)

pub returns-clause-adds : goal.returns-clause-adds
returns-clause-adds g c v is cells cell s =
    let short : length c.args.content.now < 2 ^ 63 = omega arith in
    let has = has_size v c.args.content.now is short in
    let same = size_of_some (Some (length c.args.content.now + 4)) c.in_ok-size.size v has c.in_ok-size.ensures.size c.in_ok-size.ensures.small in
    let gave = subst (λ (x : List ℕ). Offered (written g.W.Target c.args.target.now) x c.offer_lent-taken.result (written g.W.Target c.offer_lent-taken.new.target)) (sym is) (anew _ _ _ _ c.offer_lent-taken.ensures.continued) in
    adds c.args.self.now cells true v cell _ _ c.in_ok-size.size c.offer_lent-taken.result s refl same gave c.took.result _ (c.in_ok-size.ensures.checks v has cells cell s) c.took.ensures

pub returns-clause-calls : goal.returns-clause-calls
returns-clause-calls g c =
    let size : length c.args.content.now + 4 ≡ c.in_ok-size.size = same_number _ _ c.in_ok-size.ensures.size in
    let long = length-append (to_be_bytes w32 (length c.args.content.now)) c.args.content.now in
    let most : c.offer_lent-taken.result ≤ c.in_ok-size.size = omega (arith, c.offer_lent-taken.ensures.continued.bound, long, size) in
    taken_calls c.args.self.now c.took.new.self _ _ _ _ c.took.result most c.took.ensures c.offer_lent-taken.ensures.calls
