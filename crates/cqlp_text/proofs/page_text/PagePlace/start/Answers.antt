use Rattle.std.proofs.Common.{List, ap, arith}
use Rattle.std.proofs.lemmas.List.{drop_all}
use Rattle.cqlp_text.specs.declared.page_text.WrittenValue.{WrittenValue}
use Rattle.cqlp_text.proofs.Pages.{placed}
use Rattle.cqlp_text.proofs.page_text.PagePlace.start.Goals as goal

pub returns : goal.returns
returns c = ap (λ (os : List WrittenValue). placed c.args.is_page 0 0 os) (drop_all 64 c.self.inside.open_values (omega (arith, c.self.invariant.1)))
