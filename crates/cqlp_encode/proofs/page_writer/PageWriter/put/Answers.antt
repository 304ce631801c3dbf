use Rattle.std.proofs.Common.{◌≤◌, arith}
use Rattle.cqlp_value.proofs.ValuesWritten.{written_size}
use Rattle.cqlp_encode.proofs.Calls.{from_none, taken_calls}
use Rattle.cqlp_value.specs.Owned.{value_of}
use Rattle.cqlp_encode.proofs.Continuing.{anew}
use Rattle.cqlp_encode.proofs.PageSteps.{adds, fits_where_some, size_of_some}
use Rattle.cqlp_encode.proofs.page_writer.PageWriter.put.Goals as goal

pub returns-clause-adds : goal.returns-clause-adds
returns-clause-adds g c cells cell s =
    let v = value_of c.args.value.now in
    let size = c.in_ok-size.ensures.size in
    let is = size_of_some c.args.size c.in_ok-size.size v c.requires size c.in_ok-size.ensures.small in
    adds c.args.self.now cells _ v cell _ _ c.in_ok-size.size c.offer_value-taken.result s (fits_where_some c.args.size c.in_ok-size.size size) is (anew _ _ _ _ c.offer_value-taken.ensures.continued) c.took.result _ (c.in_ok-size.ensures.checks v c.requires cells cell s) c.took.ensures

pub returns-clause-calls : goal.returns-clause-calls
returns-clause-calls g c =
    let v = value_of c.args.value.now in
    let is = size_of_some c.args.size c.in_ok-size.size v c.requires c.in_ok-size.ensures.size c.in_ok-size.ensures.small in
    let most : c.offer_value-taken.result ≤ c.in_ok-size.size = omega (arith, c.offer_value-taken.ensures.continued.bound, written_size v, is) in
    taken_calls c.args.self.now c.took.new.self _ _ _ _ c.took.result most c.took.ensures (from_none _ _ _ c.offer_value-taken.ensures.calls)
