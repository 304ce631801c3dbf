-- The loop over the pairs of a map.
use Rattle.std.proofs.Common.{◌≡◌, ℕ, ◌+◌, ◌*◌, ◌^◌, ◌<◌, ◌≤◌, false, List, [], length, drop, sym, ap, subst, ◌∙◌, arith}
use Rattle.std.proofs.lemmas.List.{length-drop}
use Rattle.std.specs.Prelude.{Some, None, Ok}
use Rattle.cqlp_note.specs.Limits.{rules_asked}
use Rattle.cqlp_kind.specs.CellStep.{Leaf}
use Rattle.cqlp_kind.specs.declared.kind.Kind.{Kind}
use Rattle.cqlp_kind.specs.declared.node.Node.{Node}
use Rattle.cqlp_type.specs.Forests.{node_at}
use Rattle.cqlp_cell.specs.declared.level.Level.{Level}
use Rattle.cqlp_cell.specs.declared.open_values.OpenValue.{OpenValue}
use Rattle.cqlp_cell.specs.declared.open_values.Order.TheVariants as order
use Rattle.cqlp_cell.specs.declared.whole.DueItem.{DueItem}
use Rattle.cqlp_cell.specs.Progress.{is_over, over_by}
use Rattle.cqlp_cell.specs.Levels.{IsInLevel, IsPair, due_at, element_if, passed}
use Rattle.cqlp_cell.proofs.Levels.{pair_due, key_passed, value_passed}
use Rattle.cqlp_decode.specs.declared.page.CellCursor.{CellCursor}
use Rattle.cqlp_decode.specs.declared.progress.StreamStage.TheVariants as stage
use Rattle.cqlp_decode.specs.declared.progress.StreamProgress.{StreamProgress}
use Rattle.cqlp_decode.specs.Reading.{Event, cell_event}
use Rattle.cqlp_decode.specs.Progress.{StreamState, PartsState, IsConsistent, ends_due, nodes_of, state_of}
use Rattle.cqlp_decode.specs.Cells.{FailsAfter, HandsOut, UsesWithin}
use Rattle.cqlp_decode.specs.Items.{SaysLeaf, TakesItem, at_level}
use Rattle.cqlp_decode.proofs.ItemLoop.{some_left, level_fits, item_place, item_lawful, item_takes}
use Rattle.cqlp_decode.proofs.Taken.{hands_none, item_drains, item_fails}

-- ---- a key and its value

-- The next item is a value of a map, whose keys and values are of these kinds.
pub record IsHalf (nodes : List Node) (l : Level) (key value : Kind) : Type 0 where
  pub at_value : l.value.order ≡ order.Values
  pub of_key : key ≡ (node_at nodes l.value.other).kind
  pub of_value : value ≡ (node_at nodes l.value.node).kind

module _ (nodes : List Node) (l m : Level) (n : ℕ) (key value : Kind) (goes : m ≡ passed nodes l n) where
  pub key_gone : IsPair nodes l key value → IsHalf nodes m key value
  key_gone is =
      let e = ap (λ (z : Level). z.value) goes ∙ key_passed nodes l n is.at_key in
      record {
        at_value = ap (λ (o : OpenValue). o.order) e;
        of_key = is.of_key ∙ sym (ap (λ (o : OpenValue). (node_at nodes o.other).kind) e);
        of_value = is.of_value ∙ sym (ap (λ (o : OpenValue). (node_at nodes o.node).kind) e);
      }

  pub value_gone : IsHalf nodes l key value → IsPair nodes m key value
  value_gone is =
      let e = ap (λ (z : Level). z.value) goes ∙ value_passed nodes l n is.at_value in
      record {
        at_key = ap (λ (o : OpenValue). o.order) e;
        of_key = is.of_key ∙ sym (ap (λ (o : OpenValue). (node_at nodes o.node).kind) e);
        of_value = is.of_value ∙ sym (ap (λ (o : OpenValue). (node_at nodes o.other).kind) e);
      }

pub key_more : (l : Level) → (l.value.order ≡ order.Keys) × (0 < l.value.left) → is_over l.value l.offset ≡ false
key_more l has = ap (over_by l.value l.offset) has.0 ∙ some_left l.value.left has.1

pub value_more : (l : Level) → l.value.order ≡ order.Values → is_over l.value l.offset ≡ false
value_more l e = ap (over_by l.value l.offset) e

-- ---- where the loop is

module _ {S : Type 0} (Gets : S → ℕ → Event → S → Type 0) (s : StreamProgress) (q : PartsState) (first : Level) (input : List ℕ) (before : S) where
  abbrev pub conforming : Level → StreamState
  conforming l = state_of s (at_level q l)

  -- So many bytes are read, the level is where the reading is, and the sink has got its events.
  pub record ConformsAt (l : Level) (used : ℕ) (after : S) : Type 0 where
    pub within : used ≤ length input
    pub inside : IsInLevel q.cells l
    pub lawful : IsConsistent s (at_level q l)
    pub pays : ends_due (conforming l).place.symbols + (conforming l).open_values ≤ ends_due (conforming first).place.symbols + (conforming first).open_values + 2 * used
    pub drained : HandsOut Gets (conforming first) (conforming l) input used before after

  pub conforms_first : IsInLevel q.cells first → IsConsistent s (at_level q first) → ConformsAt first 0 before
  conforms_first inside lawful = record { within = omega arith; inside = inside; lawful = lawful; pays = omega arith; drained = hands_none Gets (conforming first) input before }

  module _ (p : CellCursor) (here : s.stage ≡ stage.InCell p) (unrefused : s.refusal ≡ None) (empty : q.partial.content ≡ []) where
    abbrev typed : List Node
    typed = nodes_of q p.columns

    -- ---- one item more

    module _ (l : Level) (used : ℕ) (mid : S) (i : ConformsAt l used mid) (k : Kind) (of_kind : k ≡ (node_at typed l.value.node).kind) (more : is_over l.value l.offset ≡ false) where
      pub item_fits : l.offset ≤ l.value.stop
      item_fits = (level_fits s q p here l i.inside i.lawful more).inside

      module _ (t : DueItem) (is_due : Some t ≡ element_if l k false) (n : ℕ) (Holds : Event → Type 0) (one : SaysLeaf (rules_asked s.limits) t.kind t.room t.level (drop used input) p.row p.column n Holds) where
        abbrev emitted : Event
        emitted = cell_event p.row p.column (Leaf t.level one.value)

        found : due_at typed l ≡ Some t
        found = pair_due typed l k t more of_kind is_due

        pub further_place : l.offset + n < 2 ^ 64
        further_place = item_place s q p here l i.inside i.lawful empty (drop used input) t found n Holds one

        -- the level after the item
        module _ (m : Level) (goes : m ≡ passed typed l n) where
          takes : TakesItem (conforming l) (drop used input) t.at n emitted (conforming m)
          takes = subst (λ (z : Level). TakesItem (conforming l) (drop used input) t.at n emitted (conforming z)) (sym goes) (item_takes s q p here l i.inside i.lawful empty (drop used input) t found n Holds one)

          pub further_inside : IsInLevel q.cells m
          further_inside = subst (λ (z : Level). IsInLevel q.cells z) (sym goes) (record { fresh = i.inside.fresh; items = i.inside.items; some = i.inside.some; level = i.inside.level })

          pub further_lawful : IsConsistent s (at_level q m)
          further_lawful = subst (λ (z : Level). IsConsistent s (at_level q z)) (sym goes) (item_lawful s q p here l i.inside i.lawful empty (drop used input) t found n Holds one)

          pub further_within : UsesWithin (conforming first) input (Ok (used + n)) (conforming m)
          further_within = (omega (arith, i.within, takes.3.within, length-drop used input), omega (arith, takes.3.pays, i.pays))

          pub further_conforms : (after : S) → Gets mid t.at emitted after → ConformsAt m (used + n) after
          further_conforms after got = record {
            within = further_within.0;
            inside = further_inside;
            lawful = further_lawful;
            pays = further_within.1;
            drained = item_drains Gets (conforming first) (conforming l) (conforming m) input used before mid i.drained unrefused t.at n emitted takes after got;
          }

          pub further_fails : (Fails : S → ℕ → Event → S → Type 0) (after : S) → Fails mid t.at emitted after → FailsAfter Gets Fails (conforming first) (conforming m) input (used + n) before after
          further_fails Fails after fault = item_fails Gets (conforming first) (conforming l) (conforming m) input used before mid i.drained unrefused t.at n emitted takes Fails after fault
