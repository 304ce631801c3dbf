use Rattle.std.proofs.Common.{◌≡◌, ◌+◌, ◌<◌, arith, length, refl}
use Rattle.cqlp_columns.proofs.Turns.{even_at_end, turn_end, turn_on}
use Rattle.cqlp_columns.proofs.columns.turn_after.Goals as goal

pub first_turn-requires-clause-even : goal.first_turn-requires-clause-even
first_turn-requires-clause-even g c =
    let last : c.args.column + 1 ≡ length c.args.columns.now = omega (arith, c.if-column-columns.true) in
    even_at_end (c.args.column + 1) c.args.columns.now last c.requires.even

pub returns-then-column-columns : goal.returns-then-column-columns
returns-then-column-columns g c =
    let last : c.args.column + 1 ≡ length c.args.columns.now = omega (arith, c.if-column-columns.true) in
    turn_end c.args.limits c.args.columns.now c.args.column (length c.args.columns.now) c.first_turn.result last refl c.first_turn.ensures

pub returns-else-column-columns : goal.returns-else-column-columns
returns-else-column-columns g c =
    let more : c.args.column + 1 < length c.args.columns.now = omega (arith, c.requires.there, c.if-column-columns.false) in
    turn_on c.args.limits c.args.columns.now c.args.column more
