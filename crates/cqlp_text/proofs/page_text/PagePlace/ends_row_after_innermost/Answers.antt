use Rattle.std.proofs.Common.{◌≡◌, ◌+◌, ◌==◌, subst, ◌∙◌, Bool, if◌then◌else◌, List, [], codes, sym, ap, arith}
use Rattle.std.proofs.lemmas.List.{drop_all}
use Rattle.cqlp_text.specs.declared.page_text.WrittenValue.{WrittenValue}
use Rattle.cqlp_text.specs.PageText.{PagePlace, after}
use Rattle.cqlp_text.proofs.Pages.{after_item, drop_next}
use Rattle.cqlp_text.proofs.page_text.PagePlace.ends_row_after_innermost.Goals as goal

pub returns-then-self-lt-ROOM : goal.returns-then-self-lt-ROOM
returns-then-self-lt-ROOM c =
    let p = c.self.inside in
    rw (← c.self.view_is)
    (sym (ap (λ (os : List WrittenValue). after p.columns p.column os) (drop_next p.free p.open_values)) ∙ after_item p.columns p.column (p.free + 1) p.open_values (omega arith))

pub returns : goal.returns
returns c =
    let p = c.self.inside in
    let last : c.is_last.result ≡ (p.column + 1 == p.columns) =
    subst (λ (place : PagePlace). c.is_last.result ≡ (p.column + 1 == place.columns)) (sym c.self.view_is) c.is_last.ensures in
    rw (← c.self.view_is)
    (ap (λ (os : List WrittenValue). after p.columns p.column os) (sym (drop_next p.free p.open_values) ∙ drop_all (p.free + 1) p.open_values (omega arith))
    ∙ ap (λ (b : Bool). if b then codes "\n" else []) (sym last))
