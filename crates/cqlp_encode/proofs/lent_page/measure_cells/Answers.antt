use Rattle.std.proofs.Common.{[], ◌∷◌, subst, sym}
use Rattle.std.proofs.lemmas.List.{map-append}
use Rattle.std.specs.Iterator.{Yields}
use Rattle.cqlp_message.specs.Owned.{frame_of}
use Rattle.cqlp_encode.specs.Tallies.{HasCounted}
use Rattle.cqlp_encode.proofs.lent_page.measure_cells.Goals as goal

pub loop-cell-preserved : goal.loop-cell-preserved
loop-cell-preserved g c =
    let inv = c.loop-cell.invariant in (
      c.in-Some.ensures.goes.keeps,
      (c.in-Some.ensures.goes.on inv.1).1,
      subst (λ x. HasCounted (frame_of c.args.frame.now) x c.add.new.self) (sym (map-append _ c.loop-cell.yielded (c.in-Some.cell ∷ []))) (c.add.ensures _ _ inv.2),
    )

pub returns : goal.returns
returns g c = (
  c.loop-cell.yielded,
  (c.next.new.self, (c.loop-cell.cell-iterator, subst (λ x. Yields g.I.Iterator.next_gives x c.loop-cell.yielded c.loop-cell.cell-iterator) c.into_iter-cell-iterator.ensures.into_iter_gives c.loop-cell.yielded_by, c.in-None.ensures.steps)),
  c.measure.ensures _ _ c.loop-cell.invariant.2,
)
