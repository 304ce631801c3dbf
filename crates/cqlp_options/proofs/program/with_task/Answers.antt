use Rattle.std.proofs.Common.{arith, ap, sym, ◌∙◌, ◌≡◌, map}
use Rattle.std.proofs.lemmas.List.{at_drop_all}
use Rattle.std.proofs.lemmas.Result.{IfOk-weaker}
use Rattle.std.specs.List.{flat_map}
use Rattle.clap.specs.Words.{App, app_of, new_app, shape_of, with_subcommand}
use Rattle.cqlp_options.proofs.Words.{with_rules_all, words_added}
use Rattle.cqlp_options.specs.Tables.{rule_for, rules_for, shape_for, with_rules}
use Rattle.cqlp_options.proofs.program.with_task.Goals as goal

pub loop-words-preserved : goal.loop-words-preserved
loop-words-preserved c = record {
  given = words_added _ _ c.args.task.now.words.now c.loop-words.words-index _ (omega (arith, c.loop-words-test.true)) c.in_ok-command.ensures.words
      ∙ c.loop-words.invariant.given;
  local = c.in_ok-command.ensures.local ∙ c.loop-words.invariant.local;
}

pub returns : goal.returns
returns c =
    let all = at_drop_all (λ rest. with_rules (app_of c.loop-words.command) (flat_map (λ words. map rule_for words.now) rest)) c.args.task.now.words.now
    c.loop-words.words-index (omega (arith, c.loop-words-test.false)) in
    let given = sym all ∙ c.loop-words.invariant.given ∙ with_rules_all (new_app c.args.task.now.name.now) (rules_for c.args.task.now) in
    let shape : shape_of c.loop-words.command ≡ shape_for c.args.task.now = ap (λ (a : App). a.top) given in
    IfOk-weaker c.subcommand.result _ _
    (λ command added. added.shape c.loop-words.invariant.local ∙ ap (with_subcommand (app_of c.args.program)) shape) c.subcommand.ensures
