-- Loops over the items of a value that go on in what is left of the input, which is cut to the value.
use Rattle.std.proofs.Common.{◌≡◌, ℕ, ◌+◌, ◌-◌, ◌^◌, ◌<◌, ◌≤◌, Bool, true, false, List, ◌++◌, length, take, drop}
use Rattle.std.proofs.Common.{drop-drop, refl, sym, ap, subst, ◌∙◌, arith}
use Rattle.std.specs.Prelude.{Some, ◌==◌}
use Rattle.std.proofs.lemmas.List.{length-append, length-drop, drop-append-le, take-append-drop}
use Rattle.cqlp_note.specs.Limits.{Rules, rules_asked, with_lenient}
use Rattle.cqlp_kind.specs.CellStep.{Leaf, value_step}
use Rattle.cqlp_kind.specs.Scalars.{ScalarValue}
use Rattle.cqlp_kind.specs.declared.kind.Kind.{Kind}
use Rattle.cqlp_kind.specs.declared.node.Node.{Node}
use Rattle.cqlp_type.specs.Forests.{node_at}
use Rattle.cqlp_cell.specs.declared.level.Level.{Level}
use Rattle.cqlp_cell.specs.declared.open_values.OpenValue.{OpenValue}
use Rattle.cqlp_cell.specs.declared.open_values.Order.{Order}
use Rattle.cqlp_cell.specs.declared.open_values.Order.TheVariants as order
use Rattle.cqlp_cell.specs.Fronts.{SaysScalar}
use Rattle.cqlp_cell.specs.declared.whole.DueItem.{DueItem}
use Rattle.cqlp_cell.specs.Levels.{IsInLevel, due_at, due_element, due_if, element_if, passed, with_level}
use Rattle.cqlp_cell.specs.Progress.{after_item_by, is_over, over_by}
use Rattle.cqlp_decode.specs.declared.page.CellCursor.{CellCursor}
use Rattle.cqlp_decode.specs.declared.progress.StreamProgress.{StreamProgress}
use Rattle.cqlp_decode.specs.declared.progress.StreamStage.TheVariants as stage
use Rattle.cqlp_decode.specs.Cells.{HandsItems}
use Rattle.cqlp_decode.specs.Items.{AtItems, SaysLeaf, at_level}
use Rattle.cqlp_decode.specs.Progress.{PartsState, IsConsistent, nodes_of}
use Rattle.cqlp_decode.specs.Reading.{Event, cell_event}
use Rattle.cqlp_cell.proofs.Coming.{value_due}
use Rattle.cqlp_cell.proofs.Levels.{level_due}
use Rattle.cqlp_decode.proofs.Lists.{level_conforms}
use Rattle.cqlp_decode.proofs.Rooms.{says_on, value_on}
use Rattle.cqlp_decode.proofs.Pairs.{ConformsAt, conforms_first, further_place, further_inside, further_lawful}
use Rattle.cqlp_decode.proofs.Pairs.{further_within, further_conforms, further_fails}

-- ---- what bytes say of a scalar in a smaller room, they say in a larger one, whatever follows them

module _ (k : Kind) (b c : List ℕ) (room : ℕ) (le : length b ≤ room) where
  scalar_on : (l : Rules) (used : ℕ) (v : ScalarValue) → SaysScalar l k (length b) b used v → SaysScalar l k room (b ++ c) used v
  scalar_on l used v h = record {
    is = λ p rest inner level.
        let x = value_on l p rest k inner level (length b) room le _ used b (h.is p rest inner level) in
        says_on (value_step l p rest k inner level room) 0 b c _ used x;
    within = omega (arith, h.within, length-append b c);
    inside = omega (arith, h.inside);
    some = h.some;
  }

  abbrev leaf_on : (l : Rules) (level row column used : ℕ) (Holds : Event → Type 0)
      → SaysLeaf l k (length b) level b row column used Holds → SaysLeaf l k room level (b ++ c) row column used Holds
  leaf_on l level row column used Holds h = record {
    value = h.value;
    says = scalar_on l used h.value h.says;
    strictly = scalar_on (with_lenient false l) used h.value h.strictly;
    holds = h.holds;
  }

-- ---- where a value ends

stop_by : (nodes : List Node) (o : OpenValue) (k : Order) → (after_item_by nodes o k).stop ≡ o.stop
stop_by nodes o order.Elements = refl
stop_by nodes o order.Keys = refl
stop_by nodes o order.Values = refl
stop_by nodes o order.Fields = refl

pub stop_after : (nodes : List Node) (l : Level) (n : ℕ) → (passed nodes l n).value.stop ≡ l.value.stop
stop_after nodes l n = stop_by nodes l.value l.value.order

-- ---- the item that is due

abbrev pub due_of_kind : Level → Kind → DueItem
due_of_kind l k = record { at = l.offset; kind = k; room = l.value.stop - l.offset; level = l.level }

abbrev own_kind : List Node → Level → Kind
own_kind nodes l = (node_at nodes l.value.node).kind

module _ (nodes : List Node) (l : Level) (t : DueItem) where
  due_by : (b : Bool) → is_over l.value l.offset ≡ b → due_if nodes l b ≡ Some t
      → (t ≡ due_of_kind l (own_kind nodes l)) × (is_over l.value l.offset ≡ false)
  due_by true over e = absurd cc
  due_by false over e = let same : due_of_kind l (own_kind nodes l) ≡ t = cc in (sym same, over)

  pub due_is : due_at nodes l ≡ Some t → (t ≡ due_of_kind l (own_kind nodes l)) × (is_over l.value l.offset ≡ false)
  due_is e = due_by (is_over l.value l.offset) refl e

module _ (l : Level) (k : Kind) (t : DueItem) where
  element_by : (b : Bool) → (l.value.left == 0) ≡ b → element_if l k b ≡ Some t → (t ≡ due_of_kind l k) × ((l.value.left == 0) ≡ false)
  element_by true none e = absurd cc
  element_by false some e = let same : due_of_kind l k ≡ t = cc in (sym same, some)

  -- the same of a list or a set
  pub element_is : l.value.order ≡ order.Elements → due_element l k ≡ Some t → (t ≡ due_of_kind l k) × (is_over l.value l.offset ≡ false)
  element_is list e =
      let is = element_by (l.value.left == 0) refl e in
      (is.0, ap (over_by l.value l.offset) list ∙ is.1)

-- ---- where the loop is

none_used : (n : ℕ) → 0 ≡ n - n
none_used n = omega arith

module _ {S : Type 0} (Gets : S → ℕ → Event → S → Type 0) (s : StreamProgress) (q : PartsState) (first : Level)
    (input : List ℕ) (before : S) where
  -- Of the bytes within the value these are left, the level is where the reading is, and the sink has got its events.
  pub record LiesBefore (rest within : List ℕ) (l : Level) (after : S) : Type 0 where
    pub shorter : length rest ≤ length within
    pub conforms : ConformsAt Gets s q first input before l (length within - length rest) after
    pub fits : l.offset + length rest ≤ l.value.stop
    pub beyond : List ℕ
    pub split : rest ++ beyond ≡ drop (length within - length rest) input

  pub before_first : (within : List ℕ) → within ≡ take (first.value.stop - first.offset) input
      → length within ≤ first.value.stop - first.offset → first.offset ≤ first.value.stop → {p : CellCursor}
      → AtItems s q first p → LiesBefore within within first before
  before_first within is few room ready = record {
    shorter = omega arith;
    conforms =
        subst (λ (n : ℕ). ConformsAt Gets s q first input before first n before) (none_used (length within))
        (conforms_first Gets s q first input before ready.inside ready.lawful);
    fits = omega (arith, room, few);
    beyond = drop (first.value.stop - first.offset) input;
    split =
        ap (λ (z : List ℕ). z ++ drop (first.value.stop - first.offset) input) is
        ∙ (take-append-drop (first.value.stop - first.offset) input ∙ ap (λ (n : ℕ). drop n input) (none_used (length within)));
  }

  -- there the loop stops
  pub stops : (Fails : S → ℕ → Event → S → Type 0) {rest within : List ℕ} {l : Level} {after : S} → LiesBefore rest within l after
      → HandsItems Gets Fails s q first l input (record { used = length within - length rest; failed = false }) before after
  stops Fails i = record {
    lawful = i.conforms.lawful;
    inside = i.conforms.inside;
    within = (i.conforms.within, i.conforms.pays);
    drains = i.conforms.drained;
  }

-- ---- how far offsets go

module _ (s : StreamProgress) (q : PartsState) (p : CellCursor) (here : s.stage ≡ stage.InCell p) (l : Level) (inside : IsInLevel q.cells l)
    (law : IsConsistent s (at_level q l)) (more : is_over l.value l.offset ≡ false) where
  abbrev typed : List Node
  typed = nodes_of q p.columns

  level_bounded : l.offset + (l.value.stop - l.offset) < 2 ^ 64
  level_bounded =
      let item = due_of_kind l (own_kind typed l) in
      let found : due_at typed l ≡ Some item = rw more refl in
      let is = (level_due typed q.cells l inside item found).0 in
      let due = value_due typed (with_level q.cells l) (level_conforms s q p here l law) is.due in
      omega (arith, due.inside, due.bounded, is.room)

  pub rest_place : (rest : List ℕ) → l.offset + length rest ≤ l.value.stop → l.offset + length rest < 2 ^ 64
  rest_place rest fits = let far = level_bounded in omega (arith, far, fits)

-- ---- one item more

module _ {S : Type 0} {Gets : S → ℕ → Event → S → Type 0} {s : StreamProgress} {q : PartsState} {first : Level} {input : List ℕ} {before : S}
    {p : CellCursor} (ready : AtItems s q first p)
    {rest within : List ℕ} {l : Level} {mid : S} (i : LiesBefore Gets s q first input before rest within l mid)
    {k : Kind} (of_kind : k ≡ (node_at (nodes_of q p.columns) l.value.node).kind) (more : is_over l.value l.offset ≡ false)
    {n : ℕ} {Holds : Event → Type 0}
    (one : SaysLeaf (rules_asked s.limits) k (length rest) l.level rest p.row p.column n Holds) where
  abbrev gone : ℕ
  gone = length within - length rest

  abbrev emitted : Event
  emitted = cell_event p.row p.column (Leaf l.level one.value)

  few : length rest ≤ l.value.stop - l.offset
  few = omega (arith, i.fits)

  abbrev whole : SaysLeaf (rules_asked s.limits) k (l.value.stop - l.offset) l.level (drop gone input) p.row p.column n Holds
  whole =
      rw (← i.split)
      (leaf_on k rest i.beyond (l.value.stop - l.offset) few (rules_asked s.limits) l.level p.row p.column n Holds one)

  pub next_place : l.offset + n < 2 ^ 64
  next_place =
      further_place Gets s q first input before p ready.here ready.unrefused ready.empty l gone mid i.conforms k of_kind more (due_of_kind l k) refl n Holds whole

  -- the level after the item, and what is left after it
  module _ {m : Level} (goes : m ≡ passed (nodes_of q p.columns) l n) where
    module _ {left : List ℕ} (is : left ≡ drop n rest) where
      used : gone + n ≡ length within - length left
      used = omega (arith, i.shorter, one.says.within, ap (λ (z : List ℕ). length z) is, length-drop n rest)

      -- the sink failed at the item's event
      pub next_fails : (Fails : S → ℕ → Event → S → Type 0) {after : S} → Fails mid l.offset emitted after
          → HandsItems Gets Fails s q first m input (record { used = length within - length left; failed = true }) before after
      next_fails Fails {after} fault = record {
        lawful =
            further_lawful Gets s q first input before p ready.here ready.unrefused ready.empty l gone mid i.conforms k of_kind more
            (due_of_kind l k) refl n Holds whole m goes;
        inside =
            further_inside Gets s q first input before p ready.here ready.unrefused ready.empty l gone mid i.conforms k of_kind more
            (due_of_kind l k) refl n Holds whole m goes;
        within =
            rw (← used)
            (further_within Gets s q first input before p ready.here ready.unrefused ready.empty l gone mid i.conforms k of_kind more
            (due_of_kind l k) refl n Holds whole m goes);
        drains =
            rw (← used)
            (further_fails Gets s q first input before p ready.here ready.unrefused ready.empty l gone mid i.conforms k of_kind more
            (due_of_kind l k) refl n Holds whole m goes Fails after fault);
      }

      pub next_conforms : {after : S} → Gets mid l.offset emitted after → LiesBefore Gets s q first input before left within m after
      next_conforms {after} got =
          let shorter = ap (λ (z : List ℕ). length z) is ∙ length-drop n rest in
          let stop = ap (λ (z : Level). z.value.stop) goes ∙ stop_after (nodes_of q p.columns) l n in
          let offset = ap (λ (z : Level). z.offset) goes in
          record {
            shorter = omega (arith, i.shorter, shorter);
            conforms =
                subst (λ (z : ℕ). ConformsAt Gets s q first input before m z after) used
                (further_conforms Gets s q first input before p ready.here ready.unrefused ready.empty l gone mid i.conforms k of_kind more
                (due_of_kind l k) refl n Holds whole m goes after got);
            fits = omega (arith, i.fits, one.says.within, shorter, stop, offset);
            beyond = i.beyond;
            split =
                ap (λ (z : List ℕ). z ++ i.beyond) is ∙ sym (drop-append-le n rest i.beyond one.says.within)
                ∙ ap (λ (z : List ℕ). drop n z) i.split ∙ drop-drop n gone input ∙ ap (λ (z : ℕ). drop z input) used;
          }
