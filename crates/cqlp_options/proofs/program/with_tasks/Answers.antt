use Rattle.std.proofs.Common.{arith, ◌∙◌}
use Rattle.cqlp_options.proofs.Words.{task_added}
use Rattle.cqlp_options.proofs.program.with_tasks.Goals as goal

pub loop-task-preserved : goal.loop-task-preserved
loop-task-preserved c =
    task_added _ _ c.args.tasks.now c.loop-task.task-index _ (omega (arith, c.loop-task-test.true)) c.in_ok-program-2.ensures ∙ c.loop-task.invariant
