-- The events of a frame, without their offsets, are those of its header, of its parts and of its end.
use Rattle.std.proofs.Common.{◌≡◌, ℕ, ◌+◌, ◌++◌, ◌⊎◌, List, [], ◌∷◌, map, true, false, refl, sym, ap, ◌∙◌, subst, inl, inr}
use Rattle.std.specs.Prelude.{not}
use Rattle.std.specs.List.{list_all, AllByRecursion}
use Rattle.std.proofs.lemmas.List.{map-append}
use Rattle.std.proofs.lemmas.List.Folds.{list_all-append}
use Rattle.cqlp_note.specs.Limits.{Rules}
use Rattle.cqlp_kind.specs.CellStep.{CellEvent, Leaf, Null, Empty, Enter, Leave, Part}
use Rattle.cqlp_kind.specs.TypeStep.{TypeEvent, IsField, IsNode}
use Rattle.cqlp_kind.specs.Types.{NoMore, Type_and}
use Rattle.cqlp_type.specs.Trees.{trees_items, placed, item_size}
use Rattle.cqlp_value.specs.Values.{value_items}
use Rattle.cqlp_grammar.specs.Events.{Event, Frame, End, cell_event, type_event}
use Rattle.cqlp_message.specs.FrameValues.{FrameValue}
use Rattle.cqlp_message.specs.Parts as parts
use Rattle.cqlp_message.specs.Parts.{Field_is, Type_is, Cell_is, part_events, part_size, parts_events, parts_size}
use Rattle.cqlp_message.specs.Frames.{Flat, frame_parts, frame_size, header_of}
use Rattle.cqlp_build_cells.specs.declared.step.Step.TheVariants as step
use Rattle.cqlp_build_cells.proofs.Whole.{NoParts, have_none, is_no_part, items_said}
use Rattle.cqlp_build.specs.declared.held.FrameEvents.{FrameEvents}
use Rattle.cqlp_build.specs.declared.item.Item.{Item}
use Rattle.cqlp_build.specs.declared.item.Item.TheVariants as item
use Rattle.cqlp_build.specs.Building.{HaveNoParts, is_inner, is_unbuilt}
use Rattle.cqlp_build.specs.FrameEvents.{left, item_event}
use Rattle.cqlp_build.specs.Emitted.{part_emitted, emitted}
use Rattle.cqlp_build.proofs.Several.{both, join}

-- ---- without offsets

abbrev pub said : {A : Type 0} → List (ℕ × A) → List A
said es = map (λ e. e.1) es

said_items : (at : ℕ) (es : List TypeEvent) → said (map (λ e. (e.0, type_event e.1)) (placed at es)) ≡ map type_event es
said_items at [] = refl
said_items at (e ∷ es) = ap (λ r. type_event e ∷ r) (said_items (at + item_size e) es)

-- the events of a cell of this row and column
abbrev at_cell : (row column : ℕ) → List (ℕ × CellEvent) → List (ℕ × Event)
at_cell row column es = map (λ e. (e.0, cell_event row column e.1)) es

said_cell : (row column : ℕ) (es : List (ℕ × CellEvent)) → said (at_cell row column es) ≡ map (cell_event row column) (said es)
said_cell row column [] = refl
said_cell row column (e ∷ es) = ap (λ r. cell_event row column e.1 ∷ r) (said_cell row column es)

part_of_cell : (row column : ℕ) (e : CellEvent) → not (is_unbuilt (cell_event row column e)) ≡ true → is_no_part e ≡ true
part_of_cell row column (Part level offset c last) h = absurd cc
part_of_cell row column (Leaf level v) h = refl
part_of_cell row column (Null level) h = refl
part_of_cell row column (Empty level) h = refl
part_of_cell row column (Enter level k n) h = refl
part_of_cell row column (Leave level n) h = refl

none_of_cell : (row column : ℕ) (es : List CellEvent) → HaveNoParts (map (cell_event row column) es) → have_none es ≡ true
none_of_cell row column [] h = refl
none_of_cell row column (e ∷ es) h =
    let p = both (not (is_unbuilt (cell_event row column e))) (list_all (λ x. not (is_unbuilt x)) (map (cell_event row column) es)) h in
    join (is_no_part e) (have_none es) (part_of_cell row column e p.0) (none_of_cell row column es p.1)

pub none_both : (xs ys : List Event) → HaveNoParts (xs ++ ys) → HaveNoParts xs × HaveNoParts ys
none_both xs ys h = both (list_all (λ e. not (is_unbuilt e)) xs) (list_all (λ e. not (is_unbuilt e)) ys) (sym (list_all-append (λ e. not (is_unbuilt e)) xs ys) ∙ h)

module _ (l : Rules) where
  -- nothing comes in parts, as no limit asks for it, or none came
  abbrev pub AreWhole : List Event → Type 0
  AreWhole es = (l.parts ≡ false) ⊎ HaveNoParts es

  front : (xs ys : List Event) → AreWhole (xs ++ ys) → AreWhole xs
  front xs ys (inl e) = inl e
  front xs ys (inr e) = inr (none_both xs ys e).0

  back : (xs ys : List Event) → AreWhole (xs ++ ys) → AreWhole ys
  back xs ys (inl e) = inl e
  back xs ys (inr e) = inr (none_both xs ys e).1

  cell_whole : (row column : ℕ) (es : List (ℕ × CellEvent)) → AreWhole (said (at_cell row column es)) → NoParts l es
  cell_whole row column es (inl e) = inl e
  cell_whole row column es (inr e) = inr (none_of_cell row column (said es) (subst HaveNoParts (said_cell row column es) e))

  said_part : (at : ℕ) (p : parts.Part) → AreWhole (said (part_events l at p)) → said (part_events l at p) ≡ part_emitted p
  said_part at (Field_is f m v) off = refl
  said_part at (Type_is t) off = said_items at (trees_items false t)
  said_part at (Cell_is row column k inner v) off =
      let es = value_items l at k inner v in
      said_cell row column es ∙ ap (λ r. map (cell_event row column) r) (items_said l 0 at (Type_and k inner NoMore) v (cell_whole row column es off))

  said_parts : (at : ℕ) (ps : List parts.Part) → AreWhole (said (parts_events l at ps)) → said (parts_events l at ps) ≡ emitted ps
  said_parts at [] off = refl
  said_parts at (p ∷ ps) off =
      let one = part_events l at p in
      let more = parts_events l (at + part_size p) ps in
      let split = map-append (λ e. e.1) one more in
      let whole = subst AreWhole split off in
      split
      ∙ ap (λ r. r ++ said more) (said_part at p (front (said one) (said more) whole))
      ∙ ap (λ r. part_emitted p ++ r) (said_parts (at + part_size p) ps (back (said one) (said more) whole))

-- what is between a header and an end
abbrev pub AreInner : List Event → Type 0
AreInner es = AllByRecursion (λ e. is_inner e ≡ true) es

inner_both : (es fs : List Event) → AreInner es → AreInner fs → AreInner (es ++ fs)
inner_both [] fs p q = q
inner_both (e ∷ es) fs p q = (p.0, inner_both es fs p.1 q)

inner_type : (e : TypeEvent) → is_inner (type_event e) ≡ true
inner_type (IsNode k) = refl
inner_type (IsField f v) = refl

inner_items : (at : ℕ) (es : List TypeEvent) → AreInner (said (map (λ e. (e.0, type_event e.1)) (placed at es)))
inner_items at [] = tt
inner_items at (e ∷ es) = (inner_type e, inner_items (at + item_size e) es)

inner_cell : (row column : ℕ) (e : CellEvent) → is_inner (cell_event row column e) ≡ true
inner_cell row column (Part level offset c last) = refl
inner_cell row column (Leaf level v) = refl
inner_cell row column (Null level) = refl
inner_cell row column (Empty level) = refl
inner_cell row column (Enter level k n) = refl
inner_cell row column (Leave level n) = refl

inner_cells : (row column : ℕ) (es : List (ℕ × CellEvent)) → AreInner (said (at_cell row column es))
inner_cells row column [] = tt
inner_cells row column (e ∷ es) = (inner_cell row column e.1, inner_cells row column es)

inner_parts : (l : Rules) (at : ℕ) (ps : List parts.Part) → AreInner (said (parts_events l at ps))
inner_parts l at [] = tt
inner_parts l at (Field_is f m v ∷ ps) = (refl, inner_parts l (at + part_size (Field_is f m v)) ps)
inner_parts l at (Type_is t ∷ ps) =
    let one = part_events l at (Type_is t) in
    let more = parts_events l (at + part_size (Type_is t)) ps in
    subst AreInner (sym (map-append (λ e. e.1) one more)) (inner_both (said one) (said more) (inner_items at (trees_items false t)) (inner_parts l (at + part_size (Type_is t)) ps))
inner_parts l at (Cell_is row column k inner v ∷ ps) =
    let p = Cell_is row column k inner v in
    let one = part_events l at p in
    let more = parts_events l (at + part_size p) ps in
    subst AreInner (sym (map-append (λ e. e.1) one more)) (inner_both (said one) (said more) (inner_cells row column (value_items l at k inner v)) (inner_parts l (at + part_size p) ps))

-- ---- frames

-- the events between a frame's header and its end, without their offsets
abbrev pub body_of : Rules → (at : ℕ) → FrameValue → List Event
body_of l at f = said (parts_events l (at + 9) (frame_parts f))

pub body_inner : (l : Rules) (at : ℕ) (f : FrameValue) → AreInner (body_of l at f)
body_inner l at f = inner_parts l (at + 9) (frame_parts f)

-- the events of a frame, without their offsets
pub frame_said : (l : Rules) (at : ℕ) (f : FrameValue) (x : ℕ)
    → map (λ e. e.1) (Flat l at f x) ≡ Frame (header_of f (parts_size (frame_parts f) + x)) ∷ body_of l at f ++ End x ∷ []
frame_said l at f x =
    map-append (λ e. e.1) ((at, Frame (header_of f (parts_size (frame_parts f) + x))) ∷ [] ++ parts_events l (at + 9) (frame_parts f)) ((at + frame_size f x, End x) ∷ [])

-- those of its parts, where nothing comes in parts
pub body_events : (l : Rules) (at : ℕ) (f : FrameValue) → AreWhole l (body_of l at f) → body_of l at f ≡ emitted (frame_parts f)
body_events l at f off = said_parts l (at + 9) (frame_parts f) off

-- what is held is no part
item_none : (i : Item) → not (is_unbuilt (item_event i)) ≡ true
item_none (item.Holds f c) = refl
item_none (item.Kind k) = refl
item_none (item.Cell row column level (step.Leaf a)) = refl
item_none (item.Cell row column level step.Null) = refl
item_none (item.Cell row column level step.Empty) = refl
item_none (item.Cell row column level (step.Enter k n)) = refl
item_none (item.Cell row column level (step.Leave n)) = refl

items_none : (is : List Item) → HaveNoParts (map item_event is)
items_none [] = refl
items_none (i ∷ is) = join (not (is_unbuilt (item_event i))) (list_all (λ e. not (is_unbuilt e)) (map item_event is)) (item_none i) (items_none is)

pub left_none : (h : FrameEvents) → HaveNoParts (left h)
left_none h = items_none h.items.items
