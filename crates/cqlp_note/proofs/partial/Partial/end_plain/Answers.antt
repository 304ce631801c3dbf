use Rattle.std.proofs.Common.{◌≡◌, [], zero-add, refl, arith}
use Rattle.cqlp_note.specs.Head.{value_of}
use Rattle.cqlp_note.specs.Partial.{content_bytes}
use Rattle.cqlp_note.proofs.Fronts.{plain_is}
use Rattle.cqlp_note.proofs.Pieces.{no_content}
use Rattle.cqlp_note.proofs.partial.Partial.end_plain.Goals as goal

pub returns : goal.returns
returns g c = λ input fresh plain.
    let inside = c.self.inside in
    let empty : inside.content.items ≡ [] = rw (← c.self.view_is) at fresh.1 in (
      record {
        within = plain.2;
        is = rw (fresh.0, zero-add) (plain_is c.args.self.now.field input c.args.used c.args.prim plain);
        idle = rw (← c.self.view_is) refl;
        lent = λ _. empty;
        kept = λ lt. absurd {A = inside.content.items ≡ content_bytes (value_of c.args.prim)} (omega (arith, lt, no_content _ plain.3));
        fits = rw (← c.self.view_is) c.self.invariant.0;
      },
      tt,
    )
