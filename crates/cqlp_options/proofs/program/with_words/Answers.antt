use Rattle.std.proofs.Common.{arith, ap, ◌∙◌, ◌||◌}
use Rattle.clap.specs.declared.builder.command.Command.TheViews.{out-Command as fields_of}
use Rattle.cqlp_options.proofs.Words.{or_false, word_added}
use Rattle.cqlp_options.proofs.program.with_words.Goals as goal

pub loop-word-preserved : goal.loop-word-preserved
loop-word-preserved c =
    let added = c.in_ok-task.ensures in
    let is_local = c.in_ok-word_of.ensures.local in
    record {
      given = word_added _ _ c.args.words.now c.loop-word.word-index _ _ (omega (arith, c.loop-word-test.true)) (added.shape is_local)
          c.in_ok-word_of.ensures.rule
          ∙ c.loop-word.invariant.given;
      local = added.globals ∙ ap (λ b. (fields_of c.loop-word.task).has_globals || b) is_local
          ∙ or_false (fields_of c.loop-word.task).has_globals
          ∙ c.loop-word.invariant.local;
    }
