use Rattle.std.proofs.Common.{◌≡◌, Option, Some, sym, ap, subst, ◌∙◌}
use Rattle.cqlp_type.specs.Table.{Table}
use Rattle.cqlp_decode.specs.Giving.{reason_against}
use Rattle.cqlp_decode.specs.Streams.{state}
use Rattle.cqlp_c.specs.Given.{GivesTo}
use Rattle.cqlp_c.proofs.Giving.{given_back}
use Rattle.cqlp_c.proofs.types.give.Goals as goal

pub returns-in-Err : goal.returns-in-Err
returns-in-Err c =
    let d = c.args.decoder.now in
    let t = c.in-Some.table in
    let e = c.in-Err.error in
    let held : c.args.held.now ≡ Some t = sym c.take.ensures.value ∙ c.in-Some.is in
    subst (λ (o : Option Table). GivesTo d o c.reason_code.result c.give.new.self (Some e.table)) (sym held)
    (given_back d c.give.new.self t e.table e.why c.reason_code.result c.reason_code.ensures (reason_against (state d) t.nodes)
    (λ w is. let r = c.in-Err.ensures.refused w is in let same : e ≡ record { why = w; table = t } = (let r0 = r.0 in cc) in (ap (λ z. z.why) same, ap (λ z. z.table) same, r.1))
    (λ is. let r = (c.in-Err.ensures.taken is).0 in cc))
