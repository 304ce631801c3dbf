use Rattle.std.proofs.Common.{List, false, true, [], ◌∷◌, ◌++◌, refl, subst, sym, inl, inr}
use Rattle.std.specs.Iterator.{Yields}
use Rattle.std.proofs.lemmas.List.{map-append}
use Rattle.std.proofs.iter.Next.{Yields-more}
use Rattle.cqlp_note.specs.Outputs.{written}
use Rattle.cqlp_value.specs.Owned.{value_of}
use Rattle.cqlp_value.specs.Values.{Values}
use Rattle.cqlp_encode.specs.PageWriting.{AddsAll}
use Rattle.cqlp_encode.specs.LentCells.{cells_of}
use Rattle.cqlp_encode.proofs.LentPages.{after_all, one_more_added}
use Rattle.cqlp_encode.proofs.lent_page.write_cells.Goals as goal

pub loop-cell-preserved : goal.loop-cell-preserved
loop-cell-preserved g c =
    let inv = c.loop-cell.invariant in
    let before : List Values = cells_of c.loop-cell.yielded in
    let v : Values = value_of c.in-Some.cell.now in (
      c.in-Some.ensures.goes.keeps,
      (c.in-Some.ensures.goes.on inv.1).1,
      λ n a. subst (λ x. AddsAll c.args.page [] x (written g.W.Target c.args.target.now) (written g.W.Target c.cell.new.target) c.cell.new.self) (sym (map-append _ c.loop-cell.yielded (c.in-Some.cell ∷ [])))
          (one_more_added _ _ _ [] before v _ _ _ (inv.2 n a) (c.in_default.ensures.adds n before (after_all n before [] _ _ _ _ (inv.2 n a) a))),
    )

pub returns-in-Err : goal.returns-in-Err
returns-in-Err g c =
    let inv = c.loop-cell.invariant in
    let before : List Values = cells_of c.loop-cell.yielded in (
      c.loop-cell.yielded ++ c.in-Some.cell ∷ [],
      false,
      (c.next.new.self, Yields-more g.J.Iterator.next_gives c.args.cells c.loop-cell.yielded c.loop-cell.cell-iterator c.in-Some.cell c.next.new.self (subst (λ x. Yields g.J.Iterator.next_gives x c.loop-cell.yielded c.loop-cell.cell-iterator) c.into_iter-cell-iterator.ensures.into_iter_gives c.loop-cell.yielded_by) c.in-Some.ensures.steps, λ e. absurd cc),
      λ n a. inl (record {
        cells = before;
        cell = value_of c.in-Some.cell.now;
        is = map-append _ c.loop-cell.yielded (c.in-Some.cell ∷ []);
        mid = written g.W.Target c.loop-cell.target;
        q = c.loop-cell.page;
        r = c.cell.new.self;
        why = c.in-Err.why;
        adds = inv.2 n a;
        stopped = c.in-Err.ensures.adds n before (after_all n before [] _ _ _ _ (inv.2 n a) a);
        lent_error = c.lent_error.ensures;
      }),
    )

pub returns-in-Ok : goal.returns-in-Ok
returns-in-Ok g c =
    let inv = c.loop-cell.invariant in
    let before : List Values = cells_of c.loop-cell.yielded in (
      c.loop-cell.yielded,
      true,
      (c.loop-cell.cell-iterator, subst (λ x. Yields g.J.Iterator.next_gives x c.loop-cell.yielded c.loop-cell.cell-iterator) c.into_iter-cell-iterator.ensures.into_iter_gives c.loop-cell.yielded_by, λ e. (c.next.new.self, c.in-None.ensures.steps)),
      λ n a. (refl, c.loop-cell.page, inv.2 n a, c.in-Ok.ensures n before (after_all n before [] _ _ _ _ (inv.2 n a) a)),
    )

pub returns-in-Err-finish : goal.returns-in-Err-finish
returns-in-Err-finish g c =
    let inv = c.loop-cell.invariant in
    let before : List Values = cells_of c.loop-cell.yielded in (
      c.loop-cell.yielded,
      true,
      (c.loop-cell.cell-iterator, subst (λ x. Yields g.J.Iterator.next_gives x c.loop-cell.yielded c.loop-cell.cell-iterator) c.into_iter-cell-iterator.ensures.into_iter_gives c.loop-cell.yielded_by, λ e. (c.next.new.self, c.in-None.ensures.steps)),
      λ n a. inr (
        refl,
        record {
          q = c.loop-cell.page;
          why = c.in-Err-finish.why;
          adds = inv.2 n a;
          stopped = c.in-Err-finish.ensures n before (after_all n before [] _ _ _ _ (inv.2 n a) a);
          lent_error = c.lent_error-in-Err-finish.ensures;
        },
      ),
    )
