use Rattle.std.proofs.Common.{rules, inl, inr, refl}
use Rattle.cqlp_c.proofs.page.begin_anew.Goals as goal

pub returns-in-Ok : goal.returns-in-Ok
returns-in-Ok c = inl (c.in-Ok.opened, c.in-Ok.ensures, c.begin_page.ensures, search rules)

pub returns-in-Err : goal.returns-in-Err
returns-in-Err c = inr (c.in-Err.stopped, c.in-Err.ensures, c.unbegun_code.ensures, refl, c.requires, refl)
