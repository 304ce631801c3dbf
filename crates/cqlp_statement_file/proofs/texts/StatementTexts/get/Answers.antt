use Rattle.std.proofs.Common.{◌∙◌, ap}
use Rattle.cqlp_statement_file.specs.Texts.{Texts, text_of}
use Rattle.cqlp_statement_file.proofs.Found.{found}
use Rattle.cqlp_statement_file.proofs.texts.StatementTexts.get.Goals as goal

pub returns : goal.returns
returns c =
    c.get.ensures.value ∙ found c.self.inside.texts.entries c.args.id.now ∙ ap (λ (ts : Texts). text_of ts c.args.id.now) c.self.view_is
