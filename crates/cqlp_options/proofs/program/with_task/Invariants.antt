use Rattle.std.proofs.Common.{◌≡◌, drop, map, false}
use Rattle.std.specs.List.{flat_map}
use Rattle.clap.specs.Words.{app_of, new_app}
use Rattle.clap.specs.declared.builder.command.Command.TheViews.{out-Command as fields_of}
use Rattle.cqlp_options.specs.Tables.{rule_for, rules_for, with_rules}
use Rattle.cqlp_options.proofs.program.with_task.Given as goal

abbrev pub invariant-loop-words : goal.invariant-loop-words
invariant-loop-words l = record {
  given : with_rules (app_of l.command) (flat_map (λ words. map rule_for words.now) (drop l.words-index l.task.words.now)) ≡ with_rules (new_app l.task.name.now) (rules_for l.task);
  local : (fields_of l.command).has_globals ≡ false;
}
