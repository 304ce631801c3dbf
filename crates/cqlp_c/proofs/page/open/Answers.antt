use Rattle.std.proofs.Common.{Err, Ok, ap, inl, inr, refl, subst, ◌∙◌}
use Rattle.cqlp_compose.specs.Composing.{ComposerState, composed, start}
use Rattle.cqlp_c.specs.Pages.{ReadsHead}
use Rattle.cqlp_c.proofs.page.open.Goals as goal

pub returns-in-Err : goal.returns-in-Err
returns-in-Err c =
    let new = composed c.read_head.new.composer in
    inl (new, subst (λ (s : ComposerState). ReadsHead s c.args.events.now c.args.contents.now (Err c.in-Err.stopped) new) (c.new-composer.ensures ∙ ap start c.longest.ensures) c.in-Err.ensures)

pub returns-in-Ok-begin : goal.returns-in-Ok-begin
returns-in-Ok-begin c =
    let new = composed c.read_head.new.composer in (
      c.in-Ok.rows,
      new,
      subst (λ (s : ComposerState). ReadsHead s c.args.events.now c.args.contents.now (Ok c.in-Ok.rows) new) (c.new-composer.ensures ∙ ap start c.longest.ensures) c.in-Ok.ensures,
      c.in-Ok-begin.ensures,
    )

pub returns-in-Err-begin : goal.returns-in-Err-begin
returns-in-Err-begin c =
    let new = composed c.read_head.new.composer in
    inr (
      c.in-Ok.rows,
      new,
      subst (λ (s : ComposerState). ReadsHead s c.args.events.now c.args.contents.now (Ok c.in-Ok.rows) new) (c.new-composer.ensures ∙ ap start c.longest.ensures) c.in-Ok.ensures,
      refl,
      c.in-Err-begin.why,
      refl,
      c.in-Err-begin.ensures,
    )
