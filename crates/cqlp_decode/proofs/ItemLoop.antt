-- The loop over the items of cells.
use Rattle.std.proofs.Common.{◌≡◌, ℕ, ◌+◌, ◌^◌, ◌<◌, true, false, List, [], refl, sym, ap, subst, ◌∙◌, ◌-◌, Bool, arith}
use Rattle.std.proofs.lemmas.Bool.{eqb-true}
use Rattle.std.specs.Prelude.{Some, None, ◌==◌}
use Rattle.cqlp_kind.specs.declared.kind.Kind.{Kind}
use Rattle.cqlp_kind.specs.declared.node.Node.{Node}
use Rattle.cqlp_note.specs.Limits.{Rules, rules_asked, with_lenient}
use Rattle.cqlp_kind.specs.CellStep.{CellEvent, Leaf}
use Rattle.cqlp_cell.specs.declared.whole.BareItem.{BareItem}
use Rattle.cqlp_cell.specs.declared.whole.BarePart.{BarePart}
use Rattle.cqlp_cell.specs.declared.whole.BarePart.TheVariants as bare
use Rattle.cqlp_cell.specs.declared.whole.DueItem.{DueItem}
use Rattle.cqlp_cell.specs.declared.advance.CellAdvance.TheVariants as cell_advance
use Rattle.cqlp_cell.specs.Items.{event_at}
use Rattle.cqlp_cell.specs.declared.level.Level.{Level}
use Rattle.cqlp_cell.specs.Progress.{CellState, HasNext, due_value, ended, is_over, is_under_way, state_after}
use Rattle.cqlp_cell.specs.Levels.{IsInLevel, NextFits, due_at, due_element, due_if, element_if, passed, with_level}
use Rattle.cqlp_cell.proofs.Levels.{level_due, level_passed, next_fits}
use Rattle.cqlp_cell.specs.Reading as taking
use Rattle.cqlp_cell.specs.Pushing.{is_done}
use Rattle.cqlp_cell.specs.Coming.{room_of}
use Rattle.cqlp_type.specs.Forests.{node_at}
use Rattle.cqlp_cell.specs.Fronts.{SaysScalar}
use Rattle.cqlp_cell.specs.Whole.{IsDue, IsWhole, outline_of}
use Rattle.cqlp_cell.proofs.WholeItems.{scalar_outline, scalar_is, scalar_whole, scalar_place}
use Rattle.cqlp_decode.specs.declared.page.CellCursor.{CellCursor}
use Rattle.cqlp_decode.specs.declared.progress.StreamStage.{StreamStage}
use Rattle.cqlp_decode.specs.declared.progress.StreamStage.TheVariants as stage
use Rattle.cqlp_decode.specs.declared.progress.StreamProgress.{StreamProgress}
use Rattle.cqlp_decode.specs.Reading.{Event, cell_event}
use Rattle.cqlp_decode.specs.Pages.{cells_after}
use Rattle.cqlp_decode.specs.Progress.{PartsState, Hands, GoesOn, IsAt, IsCell, IsConsistent, StageHolds, nodes_of, parts, state_of}
use Rattle.cqlp_decode.specs.Items.{SaysLeaf, TakesItem, at_level, bare_event, part_emitted}
use Rattle.cqlp_decode.proofs.CellSteps.{going_hands, ended_hands, cell_going_lawful, cell_ended_lawful}

-- ---- one item

part_is : (part : BarePart) (input buffer : List ℕ) → event_at (outline_of part) input buffer ≡ bare_event part
part_is (bare.Null level) input buffer = refl
part_is (bare.Empty level) input buffer = refl
part_is (bare.Enter level k n) input buffer = refl
part_is (bare.Leave level n) input buffer = refl

module _ (s : StreamProgress) (q : PartsState) (p : CellCursor) (here : s.stage ≡ stage.InCell p) (law : IsConsistent s q) (empty : q.partial.content ≡ []) (input : List ℕ) (d : CellState) where
  abbrev beside : PartsState
  beside = parts q.partial q.types d q.table q.given

  abbrev typed : List Node
  typed = nodes_of q p.columns

  cell_is : IsCell s q p
  cell_is = (subst (λ (t : StreamStage). StageHolds s q t) here law.stage).0

  -- ---- a scalar

  module _ (t : DueItem) (t_is : IsDue typed q.cells t) (used : ℕ) (Holds : Event → Type 0) (says : SaysLeaf (rules_asked s.limits) t.kind t.room t.level input p.row p.column used Holds) where
    same : q.cells.rules.part ≡ q.cells.rules.cell
    same = ap (λ (l : Rules). l.part) law.parts.cells ∙ sym (ap (λ (l : Rules). l.cell) law.parts.cells)

    front : SaysScalar q.cells.rules (due_value typed q.cells).kind (room_of typed q.cells) input used says.value
    front = rw law.parts.cells (rw (t_is.kind, t_is.room) at says.says)

    strict : SaysScalar (with_lenient false q.cells.rules) (due_value typed q.cells).kind (room_of typed q.cells) input used says.value
    strict = rw law.parts.cells (rw (t_is.kind, t_is.room) at says.strictly)

    pub leaf_place : q.cells.offset + used < 2 ^ 64
    leaf_place = scalar_place typed q.cells input used says.value cell_is.conforms t_is.fresh t_is.items t_is.due same front strict

    module _ (goes : d ≡ state_after typed q.cells used) where
      whole : IsWhole typed q.cells input q.cells.offset used (scalar_outline typed q.cells input used says.value cell_is.conforms t_is.fresh t_is.items t_is.due same front strict) d × (is_done d ≡ false)
      whole = scalar_whole typed q.cells input used says.value cell_is.conforms t_is.fresh t_is.items t_is.due same front strict d goes

      pub leaf_lawful : IsConsistent s beside
      leaf_lawful = cell_going_lawful s q p here cell_is law.parts.cells input q.cells.offset used (scalar_outline typed q.cells input used says.value cell_is.conforms t_is.fresh t_is.items t_is.due same front strict) d q.partial (whole.0.moves q.partial cell_is.joined empty) law whole.1

      pub leaf_takes : TakesItem (state_of s q) input t.at used (cell_event p.row p.column (Leaf t.level says.value)) (state_of s beside)
      leaf_takes =
          let going = going_hands s q p here cell_is law.parts.cells input q.cells.offset used (scalar_outline typed q.cells input used says.value cell_is.conforms t_is.fresh t_is.items t_is.due same front strict) d q.partial (whole.0.moves q.partial cell_is.joined empty) whole.1 in
          let is = scalar_is typed q.cells input used says.value cell_is.conforms t_is.fresh t_is.items t_is.due same front strict q.partial.content in
          rw (t_is.at, t_is.level) (refl, refl, refl, subst (λ (e : CellEvent). Hands (state_of s q) input q.cells.offset used (cell_event p.row p.column e) (state_of s beside)) is going.1)

  -- ---- a part without a content

  module _ (t : BareItem) (w : IsWhole typed q.cells input t.at t.used (outline_of t.part) d) where
    abbrev moves : taking.Moves typed q.cells q.partial input (cell_advance.Item t.at t.used (outline_of t.part)) d q.partial
    moves = w.moves q.partial cell_is.joined empty

    pub going_lawful : is_done d ≡ false → IsConsistent s beside
    going_lawful more = cell_going_lawful s q p here cell_is law.parts.cells input t.at t.used (outline_of t.part) d q.partial moves law more

    pub going_takes : is_done d ≡ false → TakesItem (state_of s q) input t.at t.used (part_emitted p.row p.column t.part) (state_of s beside)
    going_takes more =
        let going = going_hands s q p here cell_is law.parts.cells input t.at t.used (outline_of t.part) d q.partial moves more in
        (refl, refl, refl, subst (λ (e : CellEvent). Hands (state_of s q) input t.at t.used (cell_event p.row p.column e) (state_of s beside)) (part_is t.part input q.partial.content) going.1)

    -- the cell is whole, and the page goes on
    module _ (whole : is_done d ≡ true) (unrefused : s.refusal ≡ None) (e : StreamProgress) (d' : CellState) (goes_on : GoesOn s e p typed (cells_after typed p)) (rest : IsAt e d.offset s) (cells : d' ≡ ended d) where
      abbrev after : PartsState
      after = parts q.partial q.types d' q.table q.given

      pub over_lawful : IsConsistent e after
      over_lawful =
          let goes = goes_on after refl (rw here at law.uses) in
          cell_ended_lawful s q p here cell_is law.parts.cells input t.at t.used (outline_of t.part) d q.partial moves law e d' (ap (λ (z : StreamProgress). z.offset) rest) (ap (λ (z : StreamProgress). z.stop) rest) (ap (λ (z : StreamProgress). z.limits) rest) (ap (λ (z : StreamProgress). z.header) rest)
          (ap (λ (z : StreamProgress). z.came) rest) (ap (λ (z : CellState). z.rules) cells) (rw here at (law.table unrefused)) (ap is_under_way cells) (ap (λ (z : CellState). z.open_values) cells) goes.1

      pub over_takes : TakesItem (state_of s q) input t.at t.used (part_emitted p.row p.column t.part) (state_of e after)
      over_takes =
          let goes = goes_on after refl (rw here at law.uses) in
          let hands = ended_hands s q p here cell_is law.parts.cells input t.at t.used (outline_of t.part) d q.partial moves whole e d' (ap (λ (z : StreamProgress). z.offset) rest) (ap (λ (z : StreamProgress). z.stop) rest) (ap (λ (z : StreamProgress). z.frame) rest)
          (ap (λ (z : StreamProgress). z.came) rest ∙ cell_is.came) goes.0 goes.1 (ap (λ (z : CellState). z.open_values) cells) (ap (λ (z : StreamProgress). z.given_use) rest) in (
            ap (λ (z : StreamProgress). z.refusal) rest,
            ap (λ (z : StreamProgress). (state_of z after).rules) rest,
            refl,
            subst (λ (x : CellEvent). Hands (state_of s q) input t.at t.used (cell_event p.row p.column x) (state_of e after)) (part_is t.part input q.partial.content) hands.1,
          )

-- ---- the innermost value in a loop's hands

module _ (s : StreamProgress) (q : PartsState) (p : CellCursor) (here : s.stage ≡ stage.InCell p) (l : Level) (inside : IsInLevel q.cells l) (law : IsConsistent s (at_level q l)) where
  pub level_fits : is_over l.value l.offset ≡ false → NextFits (nodes_of q p.columns) l
  level_fits = next_fits (nodes_of q p.columns) q.cells l inside (subst (λ (t : StreamStage). StageHolds s (at_level q l) t) here law.stage).0.conforms

  module _ (empty : q.partial.content ≡ []) (input : List ℕ) (t : DueItem) (found : due_at (nodes_of q p.columns) l ≡ Some t) where
    abbrev item_due : IsDue (nodes_of q p.columns) (with_level q.cells l) t × (is_over l.value l.offset ≡ false)
    item_due = level_due (nodes_of q p.columns) q.cells l inside t found

    pub item_next : HasNext (nodes_of q p.columns) l.value l.value.order
    item_next = (level_fits item_due.1).next

    module _ (used : ℕ) (Holds : Event → Type 0) (says : SaysLeaf (rules_asked s.limits) t.kind t.room t.level input p.row p.column used Holds) where
      abbrev pub behind : Level
      behind = passed (nodes_of q p.columns) l used

      pub item_place : l.offset + used < 2 ^ 64
      item_place = leaf_place s (at_level q l) p here law empty input (with_level q.cells behind) t item_due.0 used Holds says

      pub item_lawful : IsConsistent s (at_level q behind)
      item_lawful = leaf_lawful s (at_level q l) p here law empty input (with_level q.cells behind) t item_due.0 used Holds says (level_passed (nodes_of q p.columns) q.cells l inside used)

      pub item_takes : TakesItem (state_of s (at_level q l)) input t.at used (cell_event p.row p.column (Leaf t.level says.value)) (state_of s (at_level q behind))
      item_takes = leaf_takes s (at_level q l) p here law empty input (with_level q.cells behind) t item_due.0 used Holds says (level_passed (nodes_of q p.columns) q.cells l inside used)

-- a list that is not at its end
some_by : (n : ℕ) (b : Bool) → 0 < n → (n == 0) ≡ b → (n == 0) ≡ false
some_by n true lt e = absurd (omega (arith, lt, eqb-true n 0 e))
some_by n false lt e = e

pub some_left : (n : ℕ) → 0 < n → (n == 0) ≡ false
some_left n lt = some_by n (n == 0) lt refl

kind_by : (l : Level) (k : Kind) (t : DueItem) (b : Bool) → element_if l k b ≡ Some t → t.kind ≡ k
kind_by l k t true e = absurd cc
kind_by l k t false e =
    let same : record { at = l.offset; kind = k; room = l.value.stop - l.offset; level = l.level } ≡ t = cc in
    sym (ap (λ (u : DueItem). u.kind) same)

due_kind_by : (nodes : List Node) (l : Level) (t : DueItem) (b : Bool) → due_if nodes l b ≡ Some t → t.kind ≡ (node_at nodes l.value.node).kind
due_kind_by nodes l t true e = absurd cc
due_kind_by nodes l t false e =
    let same : record { at = l.offset; kind = (node_at nodes l.value.node).kind; room = l.value.stop - l.offset; level = l.level } ≡ t = cc in
    sym (ap (λ (u : DueItem). u.kind) same)

pub due_kind : (nodes : List Node) (l : Level) (t : DueItem) → due_at nodes l ≡ Some t → t.kind ≡ (node_at nodes l.value.node).kind
due_kind nodes l t e = due_kind_by nodes l t (is_over l.value l.offset) e

pub element_kind : (l : Level) (k : Kind) (t : DueItem) → due_element l k ≡ Some t → t.kind ≡ k
element_kind l k t e = kind_by l k t (l.value.left == 0) e
