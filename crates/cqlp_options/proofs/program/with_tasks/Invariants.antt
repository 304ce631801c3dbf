use Rattle.std.proofs.Common.{◌≡◌, drop}
use Rattle.clap.specs.Words.{app_of}
use Rattle.cqlp_options.specs.Program.{without_tasks}
use Rattle.cqlp_options.specs.Tables.{with_tasks}
use Rattle.cqlp_options.proofs.program.with_tasks.Given as goal

abbrev pub invariant-loop-task : goal.invariant-loop-task
invariant-loop-task l = with_tasks (app_of l.program) (drop l.task-index l.tasks) ≡ with_tasks without_tasks l.tasks
