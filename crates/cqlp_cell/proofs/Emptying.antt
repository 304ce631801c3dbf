-- The buffer after an item without a content, and after a refusal.
use Rattle.std.proofs.Common.{◌≡◌, ℕ, Bool, true, false, not, List, ◌++◌, length, refl, sym, ◌∙◌}
use Rattle.cqlp_note.specs.Partial.{FieldState}
use Rattle.cqlp_kind.specs.declared.node.Node.{Node}
use Rattle.cqlp_cell.specs.declared.advance.CellOutline.{CellOutline}
use Rattle.cqlp_cell.specs.declared.advance.CellOutline.TheVariants as outline
use Rattle.cqlp_cell.specs.declared.advance.CellAdvance.{CellAdvance}
use Rattle.cqlp_cell.specs.declared.advance.CellAdvance.TheVariants as advance
use Rattle.cqlp_cell.specs.Items.{CanLend, event_at}
use Rattle.cqlp_cell.specs.Progress.{CellState}
use Rattle.cqlp_cell.specs.Reading.{StepAnswer, step_says, Joined, IsLent, IsKept, IsHeld, Hands, Moves, has_content, is_bare}
use Rattle.cqlp_cell.proofs.Leading.{some_come}

module _ (nodes : List Node) (old : CellState) (p : FieldState) (input : List ℕ) (new : CellState) (mid : FieldState) (joined : Joined nodes old p) where
  none_idle : (a : CellAdvance) → Moves nodes old p input a new mid → is_bare a ≡ true → mid.under_way ≡ false
  none_idle (advance.More used) m e = absurd cc
  none_idle (advance.Item at used i) m e = (m (some_come nodes old p joined).0 (some_come nodes old p joined).1).idle
  none_idle advance.Done m e = absurd cc
  none_idle (advance.Refused r) m e = (m (some_come nodes old p joined).0 (some_come nodes old p joined).1).idle

  -- no field is under way then
  pub bare_idle : (a : CellAdvance) (b : Bool) → b ≡ is_bare a → b ≡ true → Moves nodes old p input a new mid → mid.under_way ≡ false
  bare_idle a b is e m = none_idle a m (sym is ∙ e)

-- an item without a content is the same event, whatever the buffer holds
bare_event : (i : CellOutline) (input b c : List ℕ) → not (has_content i) ≡ true → event_at i input b ≡ event_at i input c
bare_event (outline.Leaf level k x) input b c e = absurd cc
bare_event (outline.Part level offset x last) input b c e = absurd cc
bare_event (outline.Null level) input b c e = refl
bare_event (outline.Empty level) input b c e = refl
bare_event (outline.Enter level k n) input b c e = refl
bare_event (outline.Leave level n) input b c e = refl

bare_lends : (nodes : List Node) (i : CellOutline) (p : FieldState) (input b : List ℕ) (used : ℕ) → not (has_content i) ≡ true → CanLend i input b × IsLent nodes i input b used × IsKept nodes i p input b used × IsHeld nodes i input b used
bare_lends nodes (outline.Leaf level k x) p input b used e = absurd cc
bare_lends nodes (outline.Part level offset x last) p input b used e = absurd cc
bare_lends nodes (outline.Null level) p input b used e = (tt, tt, tt, tt)
bare_lends nodes (outline.Empty level) p input b used e = (tt, tt, tt, tt)
bare_lends nodes (outline.Enter level k n) p input b used e = (tt, tt, tt, tt)
bare_lends nodes (outline.Leave level n) p input b used e = (tt, tt, tt, tt)

module _ (nodes : List Node) (old : CellState) (p : FieldState) (input : List ℕ) (new : CellState) (mid q : FieldState) (idle : q.under_way ≡ false) (room : q.room ≡ mid.room) where
  bare_hands : (said : StepAnswer) (base at used : ℕ) (i : CellOutline) → not (has_content i) ≡ true → Hands nodes old p input said base at used i new mid → Hands nodes old p input said base at used i new q
  bare_hands said base at used i e h =
      let same = bare_event i input mid.content q.content e in
      let can = bare_lends nodes i p input q.content used e in
      record {
        within = h.within;
        emits = record { x = h.emits.x; is = h.emits.is; offset = h.emits.offset; event = h.emits.event ∙ same; after = h.emits.after };
        can_lend = can.0;
        lent = can.1;
        kept = can.2;
        held = can.3;
        rules = h.rules;
        stop = h.stop;
        conforms = h.conforms;
        onward = h.onward;
        goes_after = h.goes_after;
        pays = h.pays;
        goes_on = h.goes_on;
        fresh = h.fresh;
        idle = idle;
        longest = room ∙ h.longest;
      }

  bare_moves : (a : CellAdvance) → is_bare a ≡ true → Moves nodes old p input a new mid → Moves nodes old p input a new q
  bare_moves (advance.More used) e m = absurd cc
  bare_moves (advance.Item at used i) e m = λ b come. bare_hands (step_says nodes old (b ++ input)) (length b) at used i e (m b come)
  bare_moves advance.Done e m = absurd cc
  bare_moves (advance.Refused r) e m = λ b come. let f = m b come in record { is = f.is; ends = f.ends; idle = idle; longest = room ∙ f.longest }

  -- what a call does stays so where the buffer is emptied after it
  pub emptied_moves : (a : CellAdvance) (b : Bool) → b ≡ is_bare a → b ≡ true → Moves nodes old p input a new mid → Moves nodes old p input a new q
  emptied_moves a b is e m = bare_moves a (sym is ∙ e) m
