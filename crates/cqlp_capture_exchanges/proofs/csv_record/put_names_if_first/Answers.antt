use Rattle.std.proofs.Common.{sym, ◌∙◌}
use Rattle.cqlp_capture_exchanges.proofs.csv_record.put_names_if_first.Goals as goal

pub returns-then-has_no_others : goal.returns-then-has_no_others
returns-then-has_no_others g c = rw (sym c.has_no_others.ensures ∙ c.if-has_no_others.true) c.put_str.ensures
