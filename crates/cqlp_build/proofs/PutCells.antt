-- A scalar that is put behind the cells of a run: they fit as before, and there is its event, behind the others.
use Rattle.std.proofs.Common.{◌≡◌, ℕ, ◌+◌, ◌/◌, ◌%◌, ◌^◌, ◌++◌, List, [], ◌∷◌, Bool, true, false, Ok, Err, drop, length, map, sym, ap, ◌∙◌}
use Rattle.std.specs.Prelude.{Result}
use Rattle.std.proofs.lemmas.List.{map-append}
use Rattle.cqlp_kind.specs.CellStep as cell
use Rattle.cqlp_kind.specs.Scalars.{ScalarValue}
use Rattle.cqlp_kind.specs.declared.kind.Kind.{Kind}
use Rattle.cqlp_grammar.specs.Events.{Cell_at}
use Rattle.cqlp_value.specs.declared.value.Value.{Value, Leaf}
use Rattle.cqlp_build.specs.declared.held_events.HeldEvents.TheInside.{Inside}
use Rattle.cqlp_build.specs.declared.item.Item.TheVariants as item
use Rattle.cqlp_build.specs.FrameEvents.{item_event}
use Rattle.cqlp_build.specs.Held.{Held}
use Rattle.cqlp_build.specs.Plain.{fits_run, is_of_kind, kind_at, run_items, step_of}
use Rattle.cqlp_build.specs.Putting.{PutsEvent, PutsScalar, scalar_event}
use Rattle.cqlp_build.specs.Run.{held_items}
use Rattle.cqlp_build.proofs.Plain.{fits_more, run_more}

pub put_fits : {E : Type 0} (r : Result Bool E) (k : Kind) (s : ScalarValue) (last column : ℕ) (kinds : List Kind) (old new : List Value) → PutsScalar k s r old new
    → k ≡ kind_at kinds column → length old % (last + 1) ≡ column → fits_run last 0 kinds old ≡ true → fits_run last 0 kinds new ≡ true
put_fits (Ok true) k s last column kinds old new p e c f =
    ap (fits_run last 0 kinds) p.1 ∙ fits_more last column kinds old (Leaf p.0) f c (ap (λ j. is_of_kind j (Leaf p.0)) (sym e) ∙ p.3)
put_fits (Ok false) k s last column kinds old new p e c f = ap (fits_run last 0 kinds) p ∙ f
put_fits (Err why) k s last column kinds old new p e c f = ap (fits_run last 0 kinds) p ∙ f

-- what is held with these cells in the place of the run's
abbrev pub with_run : Inside → List Value → Held
with_run h cells = record { items = (h.head.items ++ run_items h.last h.taken (drop h.taken cells)) ++ h.tail.items }

kept : (h : Inside) (old : Held) (cells : List Value) → held_items h ≡ old.items → cells ≡ h.cells.items → (with_run h cells).items ≡ old.items
kept h old cells is e = ap (λ xs. (h.head.items ++ run_items h.last h.taken (drop h.taken xs)) ++ h.tail.items) e ∙ is

pub put_event : {E : Type 0} (r : Result Bool E) (k : Kind) (s : ScalarValue) (h : Inside) (old : Held) (row column : ℕ) (cells : List Value) → PutsScalar k s r h.cells.items cells
    → held_items h ≡ old.items → h.taken ≡ 0 → h.tail.items ≡ [] → length h.cells.items / (h.last + 1) % 2 ^ 32 ≡ row → length h.cells.items % (h.last + 1) ≡ column
    → PutsEvent (scalar_event row column s) r old (with_run h cells)
put_event (Ok true) k s h old row column cells p is taken tail at_row at_column =
    let one = item.Cell row column 0 (step_of (Leaf p.0)) ∷ [] in
    let items : (with_run h cells).items ≡ old.items ++ one =
    ap (λ xs. (h.head.items ++ run_items h.last h.taken (drop h.taken xs)) ++ h.tail.items) p.1 ∙ run_more h old.items row column (Leaf p.0) is taken tail at_row at_column in
    ap (map item_event) items ∙ (map-append item_event old.items one ∙ ap (λ v. map item_event old.items ++ Cell_at row column (cell.Leaf 0 v) ∷ []) p.2)
put_event (Ok false) k s h old row column cells p is taken tail at_row at_column = kept h old cells is p
put_event (Err why) k s h old row column cells p is taken tail at_row at_column = kept h old cells is p
