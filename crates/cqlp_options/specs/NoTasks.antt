-- What is in place of options.
use Rattle.std.specs.Prelude.{Bool, true, false}
use Rattle.cqlp_options.specs.declared.no_task.NoTask.{NoTask}
use Rattle.cqlp_options.specs.declared.no_task.NoTask.TheVariants as no_task

-- Help, or there was no memory.
abbrev pub may_help : NoTask → Bool
may_help (no_task.Help text) = true
may_help (no_task.Mistake text) = false
may_help no_task.NoMemory = true

-- A mistake, or there was no memory.
abbrev pub may_complain : NoTask → Bool
may_complain (no_task.Help text) = false
may_complain (no_task.Mistake text) = true
may_complain no_task.NoMemory = true
