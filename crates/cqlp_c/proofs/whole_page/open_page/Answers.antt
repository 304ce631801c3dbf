use Rattle.std.proofs.Common.{ap, subst, ◌∙◌}
use Rattle.cqlp_compose.specs.Composing.{ComposerState, composed, start}
use Rattle.cqlp_c.specs.WholePages.{ReadsRows}
use Rattle.cqlp_c.proofs.whole_page.open_page.Goals as goal

pub returns-in-Ok : goal.returns-in-Ok
returns-in-Ok c =
    let new = composed c.read_rows.new.composer in (
      c.in-Some.rows,
      new,
      (subst (λ (s : ComposerState). ReadsRows s c.args.events.now c.args.contents.now c.in-Some.rows c.in-Some.rest.now new) (c.new-composer.ensures ∙ ap start c.longest.ensures) c.in-Some.ensures, c.in-Ok.ensures),
      c.room-room.ensures,
    )
