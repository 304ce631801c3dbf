use Rattle.std.proofs.Common.{ap, true, ◌∙◌, ◌≡◌, ◌&&◌}
use Rattle.std.proofs.lemmas.Result.{IfOk-weaker}
use Rattle.clap.specs.Walk.{is_empty, is_free_arg}
use Rattle.clap.specs.Words.{Rule, new_rule, rule_of}
use Rattle.cqlp_options.proofs.Words.{bound_rule, rule_in_free}
use Rattle.cqlp_options.specs.Tables.{rule_in}
use Rattle.cqlp_options.proofs.program.word_of.Goals as goal

pub returns-clause-rule : goal.returns-clause-rule
returns-clause-rule c =
    let named : rule_of c.help-arg.result ≡ new_rule c.args.word.now.name.now = ap rule_of c.help-arg.ensures ∙ c.new.ensures.rule in
    let given : rule_of c.formed.result ≡ rule_in c.args.word.now.name.now c.args.word.now.form = c.formed.ensures.rule named in
    let free : is_free_arg c.formed.result ≡ true =
    ap (λ (r : Rule). r.is_free) given ∙ rule_in_free c.args.word.now.name.now c.args.word.now.form in
    IfOk-weaker c.conflicts_with_all.result _ _
    (λ r conflicts. bound_rule c.formed.result _ r _ c.args.word.now.«with».now c.args.word.now.without.now c.in_ok-requires_all.ensures conflicts free
    ∙ ap (λ (rule : Rule). record rule { is_free = is_empty c.args.word.now.without.now && is_empty c.args.word.now.«with».now }) given) c.conflicts_with_all.ensures
