use Rattle.cqlp_text.proofs.Writing.{Progress}
use Rattle.cqlp_capture_exchanges.specs.WarningTexts.{other_texts}
use Rattle.cqlp_capture_exchanges.specs.Warnings.{listed_of}
use Rattle.cqlp_capture_exchanges.proofs.warning_texts.put_other_texts.Given as goal

abbrev pub invariant-loop-warning : goal.invariant-loop-warning
invariant-loop-warning g l = Progress l.fn.writer (other_texts l.form (listed_of l.fn.warnings)) (other_texts l.form (listed_of l.rest)) l.writer

abbrev pub decreases-loop-warning : goal.decreases-loop-warning
decreases-loop-warning g l = l.rest.left
