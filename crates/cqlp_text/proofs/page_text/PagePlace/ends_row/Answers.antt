use Rattle.std.proofs.Common.{◌≡◌, ◌∙◌, Bool, if◌then◌else◌, List, [], codes, sym, ap, arith}
use Rattle.std.proofs.lemmas.List.{drop_all}
use Rattle.cqlp_text.specs.declared.page_text.WrittenValue.{WrittenValue}
use Rattle.cqlp_text.specs.PageText.{after}
use Rattle.cqlp_text.proofs.Pages.{after_item}
use Rattle.cqlp_text.proofs.page_text.PagePlace.ends_row.Goals as goal

pub returns-then-self-lt-ROOM : goal.returns-then-self-lt-ROOM
returns-then-self-lt-ROOM c =
    let p = c.self.inside in
    rw (← c.self.view_is) (after_item p.columns c.args.column p.free p.open_values (omega arith))

pub returns : goal.returns
returns c =
    let p = c.self.inside in
    let none_open : after c.args.self.now.columns c.args.column c.args.self.now.open_values ≡ after c.args.self.now.columns c.args.column [] =
    rw (← c.self.view_is) (ap (λ (os : List WrittenValue). after p.columns c.args.column os) (drop_all p.free p.open_values (omega arith))) in
    none_open ∙ ap (λ (b : Bool). if b then codes "\n" else []) (sym c.is_last.ensures)
