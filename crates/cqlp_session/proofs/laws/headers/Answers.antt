use Rattle.cqlp_session.specs.World.{start}
use Rattle.cqlp_session.proofs.Paired.{paired_run, start_paired}
use Rattle.cqlp_session.proofs.InStep.{in_step_run, start_in_step, taken_as_sent}
use Rattle.cqlp_session.proofs.laws.headers.Goals as goal

pub returns-clause-taken : goal.returns-clause-taken
returns-clause-taken c client server room steps =
    let paired = start_paired client server in
    taken_as_sent _ (paired_run steps (start client server) paired) (in_step_run steps (start client server) paired (start_in_step client server room))
