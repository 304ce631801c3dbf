-- A level is the innermost value of a reader.
use Rattle.std.proofs.Common.{◌≡◌, ℕ, suc, ◌-◌, ◌<◌, Bool, true, false, List, [], ◌∷◌, length, Option, Some, None, refl, sym, ap, subst, ◌∙◌, arith}
use Rattle.std.specs.Prelude.{◌==◌, ◌+◌}
use Rattle.std.proofs.lemmas.List.{length-append}
use Rattle.cqlp_kind.specs.declared.kind.Kind.{Kind}
use Rattle.cqlp_kind.specs.declared.node.Node.{Node}
use Rattle.cqlp_cell.specs.declared.open_values.Order.{Order}
use Rattle.cqlp_cell.specs.declared.open_values.Order.TheVariants as order
use Rattle.cqlp_type.specs.Forests.{node_at}
use Rattle.cqlp_cell.specs.declared.level.Level.{Level}
use Rattle.cqlp_cell.specs.declared.open_values.OpenValue.{OpenValue}
use Rattle.cqlp_cell.specs.declared.progress.NextInCell.{NextInCell}
use Rattle.cqlp_cell.specs.declared.progress.NextInCell.TheVariants as next
use Rattle.cqlp_cell.specs.declared.progress.Arrived.{Arrived}
use Rattle.cqlp_cell.specs.declared.progress.Arrived.TheVariants as arrived
use Rattle.cqlp_cell.specs.declared.whole.DueItem.{DueItem}
use Rattle.cqlp_cell.specs.OpenValues.{last_open, with_last}
use Rattle.cqlp_cell.specs.Progress.{CellState, Conforms, after_item, after_item_by, close_if, due_of, is_over, over_by, state_after}
use Rattle.cqlp_cell.specs.Whole.{IsDue}
use Rattle.cqlp_cell.specs.Levels.{IsInLevel, NextFits, due_at, due_element, due_if, element_if, level_by, level_in, level_of, passed, passed_element, with_level}
use Rattle.cqlp_cell.specs.Reading.{entered}
use Rattle.cqlp_cell.proofs.Nesting.{last_is as last_of}
use Rattle.cqlp_cell.proofs.Opened.{has_next, node_there, value_last}

-- ---- the last of open values

pub last_with : (os : List OpenValue) (o : OpenValue) → 0 < length os → last_open (with_last o os) ≡ Some o
last_with [] o some = absurd (omega (arith, some))
last_with (x ∷ []) o some = refl
last_with (x ∷ y ∷ []) o some = refl
last_with (x ∷ y ∷ z ∷ os) o some = last_with (y ∷ z ∷ os) o (omega arith)

with_again : (os : List OpenValue) (o p : OpenValue) → with_last p (with_last o os) ≡ with_last p os
with_again [] o p = refl
with_again (x ∷ []) o p = refl
with_again (x ∷ y ∷ []) o p = refl
with_again (x ∷ y ∷ z ∷ os) o p = ap (λ (m : List OpenValue). x ∷ m) (with_again (y ∷ z ∷ os) o p)

with_own : (os : List OpenValue) (o : OpenValue) → last_open os ≡ Some o → with_last o os ≡ os
with_own [] o e = refl
with_own (x ∷ []) o e = let same : x ≡ o = cc in rw same refl
with_own (x ∷ y ∷ os) o e = ap (λ (m : List OpenValue). x ∷ m) (with_own (y ∷ os) o e)

length_with : (os : List OpenValue) (o : OpenValue) → length (with_last o os) ≡ length os
length_with [] o = refl
length_with (x ∷ []) o = refl
length_with (x ∷ y ∷ os) o = ap suc (length_with (y ∷ os) o)

last_some : (os : List OpenValue) (o : OpenValue) → last_open os ≡ Some o → 0 < length os
last_some [] o e = absurd cc
last_some (x ∷ os) o e = omega arith

-- ---- a level that was read

level_found : (d : CellState) (l : Level) (u : Arrived) (n : NextInCell) → d.arrived ≡ u → d.next ≡ n → level_by d u n ≡ Some l → IsInLevel d l × (with_level d l ≡ d)
level_found d l arrived.Nothing next.Items fresh items e = found (last_open d.open_values) refl e
  where
    found : (o : Option OpenValue) → last_open d.open_values ≡ o → level_in d o ≡ Some l → IsInLevel d l × (with_level d l ≡ d)
    found None is e = absurd cc
    found (Some o) is e =
        let same : record { value = o; level = length d.open_values; offset = d.offset } ≡ l = cc in
        let P : Level → Type 0 = λ k. IsInLevel d k × (with_level d k ≡ d) in
        subst P same (
          record { fresh = fresh; items = items; some = last_some d.open_values o is; level = refl },
          ap (λ (os : List OpenValue). record d { open_values = os }) (with_own d.open_values o is),
        )
level_found d l arrived.Nothing next.Nothing fresh items e = absurd cc
level_found d l arrived.Nothing (next.Cell at) fresh items e = absurd cc
level_found d l arrived.Nothing (next.Part offset total) fresh items e = absurd cc
level_found d l arrived.Length n fresh items e = absurd cc
level_found d l (arrived.Scalar len) n fresh items e = absurd cc
level_found d l (arrived.Counted len) n fresh items e = absurd cc
level_found d l (arrived.First total) n fresh items e = absurd cc
level_found d l arrived.Later n fresh items e = absurd cc

pub level_own : (d : CellState) (l : Level) → level_of d ≡ Some l → IsInLevel d l × (with_level d l ≡ d)
level_own d l e = level_found d l d.arrived d.next refl refl e

-- ---- the items of a level

module _ (nodes : List Node) (d : CellState) (l : Level) (here : IsInLevel d l) where
  last_is : last_open (with_last l.value d.open_values) ≡ Some l.value
  last_is = last_with d.open_values l.value here.some

  pub due_here : due_of (with_level d l) ≡ close_if (is_over l.value l.offset) l.value
  due_here = rw (here.items, last_is) refl

  pub next_fits : Conforms nodes (with_level d l) → is_over l.value l.offset ≡ false → NextFits nodes l
  next_fits conforms more =
      let v = value_last nodes (with_level d l) conforms here.items l.value last_is (rw more at due_here) in
      let next = has_next nodes d.rules _ l.offset l.value v.0.innermost.types v.1 in
      record { next = next; there = node_there nodes d.rules _ l.value v.0.innermost.types next; inside = omega (arith, v.0.inside) }

  due_by : (over : Bool) (t : DueItem) → is_over l.value l.offset ≡ over → due_if nodes l over ≡ Some t → IsDue nodes (with_level d l) t × (is_over l.value l.offset ≡ false)
  due_by true t is e = absurd cc
  due_by false t is e =
      let same : record { at = l.offset; kind = (node_at nodes l.value.node).kind; room = l.value.stop - l.offset; level = l.level } ≡ t = cc in
      let P : DueItem → Type 0 = λ u. IsDue nodes (with_level d l) u × (is_over l.value l.offset ≡ false) in
      subst P same (
        record {
          fresh = here.fresh;
          items = here.items;
          due = rw is at due_here;
          at = refl;
          kind = rw (here.items, last_is) refl;
          room = rw (here.items, last_is) refl;
          level = here.level ∙ sym (length_with d.open_values l.value);
        },
        is,
      )

  pub level_due : (t : DueItem) → due_at nodes l ≡ Some t → IsDue nodes (with_level d l) t × (is_over l.value l.offset ≡ false)
  level_due t e = due_by (is_over l.value l.offset) t refl e

  pub level_passed : (used : ℕ) → with_level d (passed nodes l used) ≡ state_after nodes (with_level d l) used
  level_passed used = rw (here.items, last_is, with_again d.open_values l.value (after_item nodes l.value), here.fresh) refl

-- ---- the items of a list or a set

element_due_by : (nodes : List Node) (l : Level) (k : Kind) (e : l.value.order ≡ order.Elements) → k ≡ (node_at nodes l.value.node).kind → (b : Bool) → element_if l k b ≡ due_if nodes l b
element_due_by nodes l k e is true = refl
element_due_by nodes l k e is false = rw is refl

pub element_due : (nodes : List Node) (l : Level) (k : Kind) → l.value.order ≡ order.Elements → k ≡ (node_at nodes l.value.node).kind → due_element l k ≡ due_at nodes l
element_due nodes l k e is = element_due_by nodes l k e is (l.value.left == 0) ∙ ap (due_if nodes l) (ap (over_by l.value l.offset) (sym e))

pub element_passed : (nodes : List Node) (l : Level) (used : ℕ) → l.value.order ≡ order.Elements → passed_element l used ≡ passed nodes l used
element_passed nodes l used e = ap (λ (k : Order). record l { value = after_item_by nodes l.value k; offset = l.offset + used }) (sym e)

-- ---- a value that is opened, and one that is left

pub level_entered : (d : CellState) (o : OpenValue) → d.arrived ≡ arrived.Nothing → d.next ≡ next.Items → level_of (entered d o) ≡ Some (record { value = o; level = length d.open_values + 1; offset = d.offset })
level_entered d o fresh items = rw (fresh, items, last_of d.open_values o, length-append d.open_values (o ∷ [])) refl

-- the only value that is open, with another in its place
pub with_only : (os : List OpenValue) (o : OpenValue) → length os ≡ 1 → with_last o os ≡ o ∷ []
with_only [] o one = absurd (omega (arith, one))
with_only (x ∷ []) o one = refl
with_only (x ∷ y ∷ os) o one = absurd (omega (arith, one))

-- ---- the items of a map

pub pair_due : (nodes : List Node) (l : Level) (k : Kind) (t : DueItem) → is_over l.value l.offset ≡ false → k ≡ (node_at nodes l.value.node).kind → Some t ≡ element_if l k false → due_at nodes l ≡ Some t
pair_due nodes l k t more is e = rw more (sym (rw is at e))

pub key_passed : (nodes : List Node) (l : Level) (used : ℕ) → l.value.order ≡ order.Keys → (passed nodes l used).value ≡ record l.value { order = order.Values; node = l.value.other; other = l.value.node; left = l.value.left - 1 }
key_passed nodes l used e = ap (λ (k : Order). after_item_by nodes l.value k) e

pub value_passed : (nodes : List Node) (l : Level) (used : ℕ) → l.value.order ≡ order.Values → (passed nodes l used).value ≡ record l.value { order = order.Keys; node = l.value.other; other = l.value.node }
value_passed nodes l used e = ap (λ (k : Order). after_item_by nodes l.value k) e
