use Rattle.std.proofs.Common.{◌∙◌, List, ℕ, sym, ap}
use Rattle.std.specs.Option.{is_some}
use Rattle.cqlp_statement_file.specs.Texts.{kept, text_of}
use Rattle.cqlp_statement_file.proofs.Found.{added, copied_some, stays}
use Rattle.cqlp_statement_file.proofs.texts.StatementTexts.add.Goals as goal

pub returns-then-is_some-clause-ok : goal.returns-then-is_some-clause-ok
returns-then-is_some-clause-ok c =
    stays c.args.self.now c.args.id.items (kept c.args.text.now) (sym (c.if-is_some.ensures ∙ sym (copied_some c.get.result) ∙ ap is_some c.get.ensures ∙ ap (λ (q : List ℕ). is_some (text_of c.args.self.now q)) c.as_slice.ensures.value))

pub returns-in-Ok-clause-ok : goal.returns-in-Ok-clause-ok
returns-in-Ok-clause-ok c =
    added c.self.inside.texts.entries c.insert.new.self.entries c.args.self.now c.args.id c.in_ok-text.text (kept c.args.text.now) c.self.view_is c.in-Ok.ensures.entries c.in_ok-text.ensures
    (c.if-is_some.ensures ∙ sym (copied_some c.get.result) ∙ ap is_some c.get.ensures ∙ ap (λ (q : List ℕ). is_some (text_of c.args.self.now q)) c.as_slice.ensures.value)
