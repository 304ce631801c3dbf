-- Cells that are read one behind the other are what reading the page says.
use Rattle.std.proofs.Common.{◌≡◌, ℕ, ◌+◌, ◌-◌, ◌≤◌, true, false, List, [], ◌∷◌, ◌++◌, length, drop, refl, sym, ap, ◌∙◌, subst, arith}
use Rattle.std.specs.Prelude.{Result, Ok, Err}
use Rattle.std.proofs.lemmas.List.{length-drop, drop-drop}
use Rattle.cqlp_note.specs.declared.refusal.Reason.{Reason}
use Rattle.cqlp_note.specs.Limits.{Rules}
use Rattle.cqlp_note.specs.Reader.{Bad, Got, Said, says}
use Rattle.cqlp_note.specs.Step.{Emitted, Runs}
use Rattle.cqlp_kind.specs.declared.kind.Kind.{Kind}
use Rattle.cqlp_kind.specs.Types.{NoMore, has_no_items}
use Rattle.cqlp_kind.specs.CellStep.{CellEvent, CellPlace, CellSymbol, cell_step, place_after}
use Rattle.cqlp_read_value.specs.declared.cell.PageCell.{PageCell}
use Rattle.cqlp_read_value.specs.declared.cell.CellContent.{CellContent}
use Rattle.cqlp_read_value.specs.declared.cell.CellContent.TheVariants as content
use Rattle.cqlp_read_value.specs.Cells.{AreRead, CellsAreReading, IsCell, Lies, before_cells, cell_says, content_says, event_of, event_says, events_of, scalars_of, used_by}
use Rattle.cqlp_read_value.specs.Fronts.{value_at}

module _ (l : Rules) (k : Kind) (scalar : has_no_items k ≡ true) (b : List ℕ) (p : CellPlace) (rest : List CellSymbol) where
  content_is : (used : ℕ) (c : CellContent) → Lies k b used c → content_says l k NoMore b p 0 rest used c ≡ event_says l k NoMore b p 0 rest (event_of c) used
  content_is used content.Null h = refl
  content_is used content.Empty h = refl
  content_is used (content.Scalar s) h = refl
  content_is used (content.Items c) h = let no : true ≡ false = sym scalar ∙ h.0 in absurd cc

pub cells_run : (l : Rules) (ks more : List Kind) (at : ℕ) (b : List ℕ) (cs : List PageCell) → AreRead l ks b cs → Runs (cell_step l) (before_cells at (ks ++ more) b) b (events_of at cs) (before_cells (at + used_by cs) more (drop (used_by cs) b)) (drop (used_by cs) b)
cells_run l [] more at b [] h = let none : at + 0 ≡ at = omega arith in (rw none refl, refl)
cells_run l [] more at b (c ∷ cs) h = absurd h
cells_run l (k ∷ ks) more at b [] h = absurd h
cells_run l (k ∷ ks) more at b (c ∷ cs) h =
    let rest = scalars_of (ks ++ more) (at + length b) in
    let p = value_at at k NoMore b 0 rest in
    let first = h.1.1 NoMore at 0 rest ∙ content_is l k h.0 b p rest c.used c.content h.1.0.1 in
    let stop : at + length b ≡ at + c.used + length (drop c.used b) = omega (arith, length-drop c.used b, h.1.0.0) in
    let later = cells_run l ks more (at + c.used) (drop c.used b) cs h.2 in
    let left = drop (used_by cs) (drop c.used b) in
    let begun = subst (λ (s : ℕ). Runs (cell_step l) (record { offset = at + c.used; symbols = scalars_of (ks ++ more) s }) (drop c.used b) (events_of (at + c.used) cs) (before_cells (at + c.used + used_by cs) more left) left) (sym stop) later in
    let sum : at + c.used + used_by cs ≡ at + (c.used + used_by cs) = omega arith in
    let there = subst (λ (m : ℕ). Runs (cell_step l) (place_after p rest [] c.used) (drop c.used b) (events_of (at + c.used) cs) (before_cells m more left) left) sum begun in
    (c.used, place_after p rest [], first, subst (λ (x : List ℕ). Runs (cell_step l) (place_after p rest [] c.used) (drop c.used b) (events_of (at + c.used) cs) (before_cells (at + (c.used + used_by cs)) more x) x) (drop-drop (used_by cs) c.used b) there)

pub cells_reading : CellsAreReading
cells_reading l ks more at b cs h = (cells_run l ks more at b cs h, λ k others why e a. rw e (a.1 NoMore (at + used_by cs) 0 (scalars_of others (at + used_by cs + length (drop (used_by cs) b)))))
