use Rattle.std.proofs.Common.{◌≡◌, Option, None, refl, sym, subst, ◌∙◌}
use Rattle.cqlp_type.specs.Table.{Table}
use Rattle.cqlp_decode.specs.Giving.{after_taking, free_table}
use Rattle.cqlp_decode.specs.Streams.{state}
use Rattle.cqlp_c.specs.Given.{TakesBy, TakesFrom}
use Rattle.cqlp_c.proofs.Giving.{empty}
use Rattle.cqlp_c.proofs.types.take.Goals as goal

pub returns-in-None : goal.returns-in-None
returns-in-None c =
    let d = c.args.decoder.now in
    let new = c.take_given.new.self in
    let nothing : c.args.held.now ≡ None = empty c.args.held.now (sym c.is_some.ensures ∙ c.if-is_some.false) in
    let none : free_table (state d) ≡ None = sym c.take_given.ensures.given ∙ c.in-None.is in
    let left = subst (λ (o : Option Table). state new ≡ after_taking o (state d)) c.in-None.is c.take_given.ensures.left in
    subst (λ (o : Option Table). TakesFrom d o 28 new o) (sym nothing)
    (subst (λ (o : Option Table). TakesBy d o 28 new None) (sym none) (refl, record { state_is = left; levels = c.take_given.ensures.levels }, refl))
