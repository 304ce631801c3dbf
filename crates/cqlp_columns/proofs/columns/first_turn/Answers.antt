use Rattle.std.proofs.Common.{◌∙◌, arith, length, sym}
use Rattle.std.proofs.lemmas.Bool.{and_from, and_left, and_right, false_from_ne_true, ltb-true, lt-ltb}
use Rattle.cqlp_columns.proofs.Turns.{first_open, first_room, first_shut}
use Rattle.cqlp_columns.proofs.columns.first_turn.Goals.{else-light-via-then-light+else-len-limits, else-light-via-else-light}
use Rattle.cqlp_columns.proofs.columns.first_turn.Goals as goal

pub returns-then-len-limits : goal.returns-then-len-limits
returns-then-len-limits g c =
    let a = c.in-Some.column.now in
    let room = first_room c.args.limits c.args.columns.now c.args.light a c.in-Some.ensures.value c.requires.light c.requires.even in
    let fewer = lt-ltb (length a.valid) c.args.limits.rows (omega (arith, c.len.ensures, c.if-len-limits.true)) in
    first_open c.args.limits c.args.columns.now (sym room ∙ and_from _ _ c.if-light.true fewer)

pub returns-else-light : goal.returns-else-light
returns-else-light g c =
    let a = c.in-Some.column.now in
    let room = first_room c.args.limits c.args.columns.now c.args.light a c.in-Some.ensures.value c.requires.light c.requires.even in
    first_shut c.args.limits c.args.columns.now (sym room ∙ elim c.else-light.branch [
      | else-light-via-then-light+else-len-limits w ↦ and_right c.args.light _
          (false_from_ne_true _ (λ e. absurd (omega (arith, w.len.ensures, w.if-len-limits.false, ltb-true (length a.valid) c.args.limits.rows e))))
      | else-light-via-else-light w ↦ and_left c.args.light _ w.if-light.false
    ])
