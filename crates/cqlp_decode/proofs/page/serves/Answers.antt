use Rattle.std.proofs.Common.{sym, ◌∙◌}
use Rattle.cqlp_decode.proofs.Columns.{serves_found}
use Rattle.cqlp_decode.proofs.page.serves.Goals as goal

pub returns-then-has : goal.returns-then-has
returns-then-has g c = λ depth f.
    let w = c.in-PageRows-Some-Waiting in
    rw (w.is-0, w.is-1, w.is-2) (serves_found depth w.flags w.columns w.table c.has_types.result (rw w.is-1 at f) c.has_types.ensures (sym c.has.ensures ∙ c.if-has.true))
