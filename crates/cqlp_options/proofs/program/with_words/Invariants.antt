use Rattle.std.proofs.Common.{◌≡◌, drop, map}
use Rattle.clap.specs.Words.{app_of}
use Rattle.clap.specs.declared.builder.command.Command.TheViews.{out-Command as fields_of}
use Rattle.cqlp_options.specs.Tables.{rule_for, with_rules}
use Rattle.cqlp_options.proofs.program.with_words.Given as goal

abbrev pub invariant-loop-word : goal.invariant-loop-word
invariant-loop-word l = record {
  given : with_rules (app_of l.task) (map rule_for (drop l.word-index l.words)) ≡ with_rules (app_of l.fn.task) (map rule_for l.words);
  local : (fields_of l.task).has_globals ≡ (fields_of l.fn.task).has_globals;
}
