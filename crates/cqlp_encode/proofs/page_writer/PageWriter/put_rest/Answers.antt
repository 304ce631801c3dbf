use Rattle.std.proofs.Common.{◌≡◌, ◌≤◌, ◌+◌, ◌-◌, true, ap, sym, ◌∙◌, arith}
use Rattle.cqlp_value.proofs.ValuesWritten.{written_size}
use Rattle.cqlp_encode.proofs.Calls.{rest_calls}
use Rattle.cqlp_note.specs.Outputs.{written}
use Rattle.cqlp_value.specs.Owned.{value_of}
use Rattle.cqlp_encode.proofs.PageSteps.{fits_where_some, size_of_some}
use Rattle.cqlp_encode.proofs.PageRests.{rest_all, rest_refused_as, conforms_before}
use Rattle.cqlp_encode.proofs.page_writer.PageWriter.put_rest.Goals as goal

pub returns-in_err-size-clause-adds : goal.returns-in_err-size-clause-adds
returns-in_err-size-clause-adds g c cells cell s =
    let p = c.args.self.now in
    let failed : p.failed ≡ true = sym (ap (λ w. w.failed) c.self.view_is) ∙ c.if-not-self.false in
    let v = value_of c.args.value.now in
    let checks = rw c.before_cut-writer.ensures at c.in_err-size.ensures.checks in
    rest_refused_as p cells _ v cell s c.from_residual.result _ (written g.W.Target c.args.target.now) c.from_residual.ensures failed (checks v c.requires cells cell (conforms_before p cells _ v cell s))

pub returns-clause-adds : goal.returns-clause-adds
returns-clause-adds g c cells cell s =
    let p = c.args.self.now in
    let failed : p.failed ≡ true = sym (ap (λ w. w.failed) c.self.view_is) ∙ c.if-not-self.false in
    let cut : c.self.inside.cut ≡ p.cut = ap (λ w. w.cut) c.self.view_is in
    let v = value_of c.args.value.now in
    let size = c.in_ok-size.ensures.size in
    let is = size_of_some c.args.size c.in_ok-size.size v c.requires size c.in_ok-size.ensures.small in
    let checks = rw c.before_cut-writer.ensures at c.in_ok-size.ensures.checks in
    let none = checks v c.requires cells cell (conforms_before p cells _ v cell s) in
    let gave = rw cut at c.offer_value-taken.ensures.continued in
    let counted = rw c.before_cut-writer.ensures at c.count.ensures in
    rest_all p cells _ v cell s _ _ c.in_ok-size.size c.offer_value-taken.result failed (fits_where_some c.args.size c.in_ok-size.size size) is none (omega (arith, cut, c.if-size-self.false)) gave _ c.if-taken-size.false (c.self-2.view_is ∙ counted)

pub returns-clause-calls : goal.returns-clause-calls
returns-clause-calls g c =
    let p = c.args.self.now in
    let v = value_of c.args.value.now in
    let cut : c.self.inside.cut ≡ p.cut = ap (λ w. w.cut) c.self.view_is in
    let written : c.self.inside.written ≡ p.written = ap (λ w. w.written) c.self.view_is in
    let within : p.cut ≤ p.written = omega (arith, cut, written, c.self.invariant.0.cut) in
    let is = size_of_some c.args.size c.in_ok-size.size v c.requires c.in_ok-size.ensures.size c.in_ok-size.ensures.small in
    let counted = rw c.before_cut-writer.ensures at c.count.ensures in
    let after : c.self-2.inside.written ≡ (p.written - p.cut) + c.in_ok-size.size = ap (λ w. w.written) (c.self-2.view_is ∙ counted) in
    let most : c.offer_value-taken.result ≤ c.in_ok-size.size = omega (arith, c.offer_value-taken.ensures.continued.bound, written_size v, is) in
    rest_calls p c.self-2.inside.written c.in_ok-size.size c.offer_value-taken.result c.self.inside.cut _ _ cut within (omega (arith, c.if-size-self.false)) (omega (arith, c.if-taken-size.false)) most after c.offer_value-taken.ensures.calls
