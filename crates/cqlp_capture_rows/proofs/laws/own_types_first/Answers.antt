use Rattle.cqlp_capture_rows.proofs.Whose.{else_of_given, else_of_others, latest_of_others, own_first}
use Rattle.cqlp_capture_rows.proofs.laws.own_types_first.Goals as goal

pub returns-clause-own : goal.returns-clause-own
returns-clause-own c = own_first

pub returns-clause-others : goal.returns-clause-others
returns-clause-others c = else_of_others

pub returns-clause-given : goal.returns-clause-given
returns-clause-given c = else_of_given

pub returns-clause-latest : goal.returns-clause-latest
returns-clause-latest c = latest_of_others
