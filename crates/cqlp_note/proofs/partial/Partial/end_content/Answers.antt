use Rattle.std.proofs.Common.{◌≡◌, [], zero-add, refl}
use Rattle.cqlp_note.proofs.Pieces.{content_is, whole_lent}
use Rattle.cqlp_note.proofs.partial.Partial.end_content.Goals as goal

pub returns : goal.returns
returns g c = λ input fresh leads has.
    let inside = c.self.inside in
    let empty : inside.content.items ≡ [] = rw (← c.self.view_is) at fresh.1 in (
      record {
        within = has.2;
        is = rw (fresh.0, zero-add) (content_is c.args.self.now.field input c.args.start c.args.len c.args.form leads has);
        idle = rw (← c.self.view_is) refl;
        lent = λ _. empty;
        kept = whole_lent c.args.form c.args.len c.args.start _ _;
        fits = rw (← c.self.view_is) c.self.invariant.0;
      },
      (has.2, has.3),
    )
