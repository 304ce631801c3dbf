use Rattle.std.proofs.Common.{List, ap}
use Rattle.cqlp_text.specs.declared.page_text.WrittenValue.{WrittenValue}
use Rattle.cqlp_text.proofs.Pages.{placed, pushed}
use Rattle.cqlp_text.proofs.page_text.PagePlace.push.Goals as goal

pub returns : goal.returns
returns c =
    let p = c.self.inside in
    rw (← c.self.view_is) (ap (λ (os : List WrittenValue). placed p.is_page p.columns p.column os) (pushed p.free p.open_values c.args.kind c.if-self-eq0.false c.self.invariant.0 c.self.invariant.1))
