use Rattle.cqlp_text.proofs.Writing.{Progress}
use Rattle.cqlp_bound_values.specs.Bindings.{values_of}
use Rattle.cqlp_bound_values.specs.Texts.{items_text}
use Rattle.std.proofs.Common.{true}
use Rattle.cqlp_bound_values.proofs.text.put_items.Given as goal

abbrev pub invariant-loop-rest : goal.invariant-loop-rest
invariant-loop-rest g l = Progress l.initial.writer (items_text l.values.count l.form true (values_of l.values)) (items_text l.rest.count l.form l.is_first (values_of l.rest)) l.writer

abbrev pub decreases-loop-rest : goal.decreases-loop-rest
decreases-loop-rest g l = l.rest.count
