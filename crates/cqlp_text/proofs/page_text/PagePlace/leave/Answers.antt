use Rattle.std.proofs.Common.{List, ap}
use Rattle.cqlp_text.specs.declared.page_text.WrittenValue.{WrittenValue}
use Rattle.cqlp_text.proofs.Pages.{placed, drop_next}
use Rattle.cqlp_text.proofs.page_text.PagePlace.leave.Goals as goal

pub returns-then-self-lt-ROOM : goal.returns-then-self-lt-ROOM
returns-then-self-lt-ROOM c =
    let p = c.self.inside in
    rw (← c.self.view_is) (ap (λ (os : List WrittenValue). placed p.is_page p.columns p.column os) (drop_next p.free p.open_values))
