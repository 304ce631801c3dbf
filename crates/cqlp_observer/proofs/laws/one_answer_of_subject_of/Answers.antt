use Rattle.cqlp_observer.proofs.Said.{subject_once}
use Rattle.cqlp_observer.proofs.laws.one_answer_of_subject_of.Goals as goal

pub returns : goal.returns
returns c = subject_once
