use Rattle.std.proofs.Common.{◌≡◌, ◌++◌, ◌∷◌, [], ap, drop, subst, sym, true, ◌∙◌}
use Rattle.cqlp_build.specs.CellSizes.{IsSizeOf}
use Rattle.cqlp_build.specs.Plain.{fits_run, is_of_kind, kind_at, run_items}
use Rattle.cqlp_build.proofs.Plain.{fits_more, run_more}
use Rattle.cqlp_build.proofs.held_events.HeldEvents.push_cell.Goals as goal

pub invariant_of-self-then-is_of_kind : goal.invariant_of-self-then-is_of_kind
invariant_of-self-then-is_of_kind c = λ t.
    let h = c.self.inside in
    let next = c.is_next.ensures c.if-is_next.true in
    let cells : c.put.new.cells.items ≡ h.cells.items ++ c.args.cell ∷ [] = c.put.ensures.is ∙ ap (λ xs. xs ++ c.args.cell ∷ []) c.reserve.ensures.items in
    let kind : is_of_kind (kind_at h.kinds.items c.args.column) c.args.cell ≡ true = ap (λ k. is_of_kind k c.args.cell) (sym c.kind_at.ensures) ∙ c.is_of_kind.ensures c.if-is_of_kind.true in
    let before = c.self.invariant next.0 in
    let sized = c.put.ensures.sized (subst (IsSizeOf h.size) (sym c.reserve.ensures.items) before.1) in
    (ap (fits_run h.last 0 h.kinds.items) cells ∙ fits_more h.last c.args.column h.kinds.items h.cells.items c.args.cell before.0 next.3 kind, sized)

pub returns-then-is_of_kind : goal.returns-then-is_of_kind
returns-then-is_of_kind c =
    let h = c.self.inside in
    let next = c.is_next.ensures c.if-is_next.true in
    let cells : c.put.new.cells.items ≡ h.cells.items ++ c.args.cell ∷ [] = c.put.ensures.is ∙ ap (λ xs. xs ++ c.args.cell ∷ []) c.reserve.ensures.items in
    ap (λ xs. (h.head.items ++ run_items h.last h.taken (drop h.taken xs)) ++ h.tail.items) cells
    ∙ run_more h c.args.self.now.items c.args.row c.args.column c.args.cell (ap (λ x. x.items) c.self.view_is) next.0 next.1 next.2 next.3
