use Rattle.std.proofs.Common.{List, ap, arith}
use Rattle.cqlp_kind.specs.declared.kind.Kind.TheVariants.{Custom}
use Rattle.cqlp_text.specs.declared.page_text.WrittenValue.{WrittenValue}
use Rattle.cqlp_text.specs.declared.page_text.Turn.TheVariants.{First}
use Rattle.cqlp_text.proofs.Pages.{placed, item_counted}
use Rattle.cqlp_text.proofs.page_text.PagePlace.count_item.Goals as goal

pub returns-then-self-lt-ROOM : goal.returns-then-self-lt-ROOM
returns-then-self-lt-ROOM c =
    let p = c.self.inside in
    rw (← c.self.view_is)
    (ap (λ (os : List WrittenValue). placed p.is_page p.columns p.column os) (item_counted p.free p.open_values (record { kind = Custom; turn = First }) c.after_item.result (omega arith) c.after_item.ensures))
