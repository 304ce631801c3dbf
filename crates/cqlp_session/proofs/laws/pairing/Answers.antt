use Rattle.cqlp_session.specs.World.{start}
use Rattle.cqlp_session.proofs.Paired.{paired_run, start_paired}
use Rattle.cqlp_session.proofs.Sentences.{events_alone, ids_apart, replies_paired}
use Rattle.cqlp_session.proofs.InStep.{in_step_run, none_refused, start_in_step}
use Rattle.cqlp_session.proofs.laws.pairing.Goals as goal

pub returns-clause-replies : goal.returns-clause-replies
returns-clause-replies c client server steps = replies_paired _ (paired_run steps (start client server) (start_paired client server))

pub returns-clause-events : goal.returns-clause-events
returns-clause-events c client server steps = events_alone _ (paired_run steps (start client server) (start_paired client server))

pub returns-clause-ids : goal.returns-clause-ids
returns-clause-ids c client server steps = ids_apart _ (paired_run steps (start client server) (start_paired client server))

pub returns-clause-accepted : goal.returns-clause-accepted
returns-clause-accepted c client server room steps =
    let paired = start_paired client server in
    none_refused _ (paired_run steps (start client server) paired) (in_step_run steps (start client server) paired (start_in_step client server room))
