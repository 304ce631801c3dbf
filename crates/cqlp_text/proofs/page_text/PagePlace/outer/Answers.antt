use Rattle.std.proofs.Common.{List, ap, ◌∙◌}
use Rattle.cqlp_text.specs.PageText.{innermost}
use Rattle.cqlp_text.specs.declared.page_text.WrittenValue.{WrittenValue}
use Rattle.cqlp_text.proofs.Pages.{drop_next}
use Rattle.cqlp_text.proofs.page_text.PagePlace.outer.Goals as goal

pub returns : goal.returns
returns c =
    let p = c.self.inside in
    rw (← c.self.view_is) (c.value_at.ensures ∙ ap (λ (os : List WrittenValue). innermost os) (drop_next p.free p.open_values))
