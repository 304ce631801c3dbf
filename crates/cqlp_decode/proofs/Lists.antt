-- The loop over the cells of a page that are lists, sets or maps.
use Rattle.std.proofs.Common.{◌≡◌, ℕ, ◌+◌, ◌*◌, ◌<◌, ◌≤◌, false, List, [], ◌∷◌, length, drop, refl, sym, ap, subst, ◌∙◌, arith}
use Rattle.std.specs.Prelude.{Option, Some, None, Ok, Err, is_some}
use Rattle.std.proofs.lemmas.List.{length-drop}
use Rattle.cqlp_note.specs.declared.refusal.Refusal.{Refusal}
use Rattle.cqlp_cell.specs.declared.level.Level.{Level}
use Rattle.cqlp_cell.specs.declared.open_values.OpenValue.{OpenValue}
use Rattle.cqlp_cell.specs.declared.progress.NextInCell.TheVariants as next
use Rattle.cqlp_cell.specs.Progress.{CellState, Conforms}
use Rattle.cqlp_cell.specs.Levels.{level_of, with_level}
use Rattle.cqlp_cell.specs.Pushing.{done_by, is_done}
use Rattle.cqlp_cell.proofs.Levels.{level_own}
use Rattle.cqlp_decode.specs.declared.page.CellCursor.{CellCursor}
use Rattle.cqlp_decode.specs.declared.progress.StreamStage.{StreamStage}
use Rattle.cqlp_decode.specs.declared.progress.StreamStage.TheVariants as stage
use Rattle.cqlp_decode.specs.declared.progress.StreamProgress.{StreamProgress}
use Rattle.cqlp_decode.specs.Reading.{Event}
use Rattle.cqlp_decode.specs.Progress.{StreamState, PartsState, IsConsistent, StageHolds, ends_due, nodes_of, parts, state_of}
use Rattle.cqlp_decode.specs.declared.item_loop.ItemsHanded.{ItemsHanded}
use Rattle.cqlp_decode.specs.Items.{AtItems, TakesItem, at_level}
use Rattle.cqlp_decode.specs.Cells.{FailsAfter, HandsItems, HandsOut, StaysWithin, UsesWithin}
use Rattle.cqlp_decode.proofs.Taken.{hands_none, hands_then, fails_then, item_drains, item_fails}

none_over : (os : List OpenValue) → 0 < length os → done_by next.Items os ≡ false
none_over [] some = absurd (omega (arith, some))
none_over (o ∷ os) some = refl

-- a cell is not over where a value of it is open
pub level_goes : (d : CellState) (l : Level) → level_of d ≡ Some l → is_done d ≡ false
level_goes d l e = let own = (level_own d l e).0 in rw own.items (none_over d.open_values own.some)

-- the level in a loop's hands is that of a cell whose values are in the table
pub level_conforms : (s : StreamProgress) (q : PartsState) (p : CellCursor) → s.stage ≡ stage.InCell p → (l : Level) → IsConsistent s (at_level q l) → Conforms (nodes_of q p.columns) (with_level q.cells l)
level_conforms s q p here l law = (subst (λ (t : StreamStage). StageHolds s (at_level q l) t) here law.stage).0.conforms

-- the reading is still among the items of its value after some of them were handed out
pub still_at : {S : Type 0} {Gets Fails : S → ℕ → Event → S → Type 0} {s : StreamProgress} {q : PartsState} {p : CellCursor} {l m : Level} {input : List ℕ} {items : ItemsHanded} {before after : S}
    → AtItems s q l p → HandsItems Gets Fails s q l m input items before after → AtItems s q m p
still_at ready handed = record {
  lawful = handed.lawful;
  inside = handed.inside;
  here = ready.here;
  unrefused = ready.unrefused;
  empty = ready.empty;
}

-- ---- one cell after the other

module _ {S : Type 0} (Gets : S → ℕ → Event → S → Type 0) (old : StreamState) (input : List ℕ) (before : S) where
  -- So many bytes are read, what the caller asked for and gave stays, and the sink has got its events.
  pub record Conformed (new : StreamState) (used : ℕ) (after : S) : Type 0 where
    pub within : used ≤ length input
    pub unrefused : new.refusal ≡ None
    pub refusal : new.refusal ≡ old.refusal
    pub rules : new.rules ≡ old.rules
    pub given : new.given ≡ old.given
    pub pays : ends_due new.place.symbols + new.open_values ≤ ends_due old.place.symbols + old.open_values + 2 * used
    pub drained : HandsOut Gets old new input used before after

  pub conformed_first : old.refusal ≡ None → Conformed old 0 before
  conformed_first none = record { within = omega arith; unrefused = none; refusal = refl; rules = refl; given = refl; pays = omega arith; drained = hands_none Gets old input before }

  pub conformed_stays : (new : StreamState) (used : ℕ) (s : S) → Conformed new used s → StaysWithin old input (Ok used) new
  conformed_stays new used s i = ((i.within, i.pays), i.refusal, i.rules, i.given)

  module _ (mid : StreamState) (used : ℕ) (s : S) (i : Conformed mid used s) (new : StreamState) (n : ℕ) where
    -- ---- one item more
    module _ (at : ℕ) (emitted : Event) (h : TakesItem mid (drop used input) at n emitted new) where
      within_item : used + n ≤ length input
      within_item = omega (arith, i.within, h.3.within, length-drop used input)

      pub conformed_item : (t : S) → Gets s at emitted t → Conformed new (used + n) t
      conformed_item t got = record {
        within = within_item;
        unrefused = h.0 ∙ i.unrefused;
        refusal = h.0 ∙ i.refusal;
        rules = h.1 ∙ i.rules;
        given = h.2 ∙ i.given;
        pays = omega (arith, h.3.pays, i.pays);
        drained = item_drains Gets old mid new input used before s i.drained i.unrefused at n emitted h t got;
      }

      pub item_stays : StaysWithin old input (Err (record { used = used + n })) new
      item_stays = (within_item, h.0 ∙ i.refusal, h.1 ∙ i.rules, h.2 ∙ i.given)

      pub item_faults : (Fails : S → ℕ → Event → S → Type 0) (t : S) → Fails s at emitted t → FailsAfter Gets Fails old new input (used + n) before t
      item_faults Fails t fault = item_fails Gets old mid new input used before s i.drained i.unrefused at n emitted h Fails t fault

    -- ---- more items
    module _ (w : UsesWithin mid (drop used input) (Ok n) new) (refusal : new.refusal ≡ mid.refusal) (rules : new.rules ≡ mid.rules) (given : new.given ≡ mid.given) where
      within_items : used + n ≤ length input
      within_items = omega (arith, i.within, w.0, length-drop used input)

      pub conformed_items : (t : S) → HandsOut Gets mid new (drop used input) n s t → Conformed new (used + n) t
      conformed_items t got = record {
        within = within_items;
        unrefused = refusal ∙ i.unrefused;
        refusal = refusal ∙ i.refusal;
        rules = rules ∙ i.rules;
        given = given ∙ i.given;
        pays = omega (arith, w.1, i.pays);
        drained = hands_then Gets old mid new input used n before s t i.drained got;
      }

      pub items_stay : StaysWithin old input (Err (record { used = used + n })) new
      items_stay = (within_items, refusal ∙ i.refusal, rules ∙ i.rules, given ∙ i.given)

      pub items_fault : (Fails : S → ℕ → Event → S → Type 0) (t : S) → FailsAfter Gets Fails mid new (drop used input) n s t → FailsAfter Gets Fails old new input (used + n) before t
      items_fault Fails t fault = fails_then Gets Fails old mid new input used n before s t i.drained fault

-- ---- the first item

pub not_some : (o : Option Refusal) → is_some o ≡ false → o ≡ None
not_some None h = refl
not_some (Some r) h = absurd cc

zero_on : (n : ℕ) → 0 + n ≡ n
zero_on n = omega arith

module _ {S : Type 0} (Gets : S → ℕ → Event → S → Type 0) (start : StreamState) (input : List ℕ) (before : S) (none : start.refusal ≡ None) (new : StreamState) (at used : ℕ) (emitted : Event) (h : TakesItem start input at used emitted new) where
  pub conformed_entered : (t : S) → Gets before at emitted t → Conformed Gets start input before new used t
  conformed_entered t got = subst (λ (n : ℕ). Conformed Gets start input before new n t) (zero_on used) (conformed_item Gets start input before start 0 before (conformed_first Gets start input before none) new used at emitted h t got)

  pub entry_faults : (Fails : S → ℕ → Event → S → Type 0) (t : S) → Fails before at emitted t → FailsAfter Gets Fails start new input used before t
  entry_faults Fails t fault = subst (λ (n : ℕ). FailsAfter Gets Fails start new input n before t) (zero_on used) (item_faults Gets start input before start 0 before (conformed_first Gets start input before none) new used at emitted h Fails t fault)

-- ---- the level that was handed out

pub back_level : (q : PartsState) (l : Level) → level_of q.cells ≡ Some l → q ≡ at_level q l
back_level q l e = ap (λ (z : CellState). parts q.partial q.types z q.table q.given) (sym (level_own q.cells l e).1)

-- the beginning of a list that was taken, where its level is in the loop's hands
pub entered_at : (start before : StreamState) → before ≡ start → (s : StreamProgress) (q : PartsState) (l : Level) → level_of q.cells ≡ Some l → (rest : List ℕ) (at used : ℕ) (emitted : Event) → TakesItem before rest at used emitted (state_of s q) → TakesItem start rest at used emitted (state_of s (at_level q l))
entered_at start before same s q l e rest at used emitted h =
    subst (λ (z : PartsState). TakesItem start rest at used emitted (state_of s z)) (back_level q l e) (subst (λ (z : StreamState). TakesItem z rest at used emitted (state_of s q)) same h)
