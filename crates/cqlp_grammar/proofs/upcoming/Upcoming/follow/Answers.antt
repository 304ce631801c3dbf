use Rattle.std.proofs.Common.{List, ◌++◌, sym, ap}
use Rattle.cqlp_note.specs.Head.{value_of}
use Rattle.cqlp_kind.specs.Types.{NoMore}
use Rattle.cqlp_grammar.specs.Productions.{Symbol, number_in}
use Rattle.cqlp_grammar.specs.Upcoming.{symbols_in}
use Rattle.cqlp_grammar.proofs.Stack.{rows_none}
use Rattle.cqlp_grammar.proofs.upcoming.Upcoming.follow.Goals as goal

pub returns-in-MetaColumns : goal.returns-in-MetaColumns
returns-in-MetaColumns c = rw c.in-MetaColumns.is (c.push_metadata.ensures NoMore (value_of c.args.value) (sym c.number-number.ensures))

pub returns-in-PreparedKeys : goal.returns-in-PreparedKeys
returns-in-PreparedKeys c = rw c.in-PreparedKeys.is (c.push_prepared.ensures NoMore (value_of c.args.value) (sym c.number-number.ensures))

pub returns-in-PageRows : goal.returns-in-PageRows
returns-in-PageRows c = rw c.in-PageRows.is (ap (λ (z : List Symbol). z ++ symbols_in c.args.self.now) (sym (rows_none 0 (number_in (value_of c.args.value)))))
