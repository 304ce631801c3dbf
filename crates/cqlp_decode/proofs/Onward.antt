-- From a cell that is a list, a set or a map, at its end, to the cell after it.
use Rattle.std.proofs.Common.{◌≡◌, ℕ, ◌≤◌, ◌++◌, false, List, [], ◌∷◌, length, Some, None, refl, sym, ap, subst, suc, ◌∙◌, arith}
use Rattle.cqlp_kind.specs.declared.node.Node.{Node}
use Rattle.cqlp_cell.specs.declared.level.Level.{Level}
use Rattle.cqlp_cell.specs.declared.open_values.OpenValue.{OpenValue}
use Rattle.cqlp_cell.specs.declared.whole.BareItem.{BareItem}
use Rattle.cqlp_cell.specs.declared.whole.Entered.{Entered}
use Rattle.cqlp_cell.specs.OpenValues.{with_last}
use Rattle.cqlp_cell.specs.Progress.{CellState, Conforms, ended}
use Rattle.cqlp_cell.specs.Levels.{IsInLevel, with_level}
use Rattle.cqlp_cell.specs.Pushing.{begun, is_done}
use Rattle.cqlp_cell.specs.Whole.{Ends, Enters, next_begun}
use Rattle.cqlp_cell.proofs.Levels.{level_own}
use Rattle.cqlp_grammar.specs.Productions.{Symbol}
use Rattle.cqlp_decode.specs.declared.page.CellCursor.{CellCursor}
use Rattle.cqlp_decode.specs.declared.page.Columns.{Columns}
use Rattle.cqlp_decode.specs.declared.progress.StreamStage.{StreamStage}
use Rattle.cqlp_decode.specs.declared.progress.StreamStage.TheVariants as stage
use Rattle.cqlp_decode.specs.declared.progress.StreamProgress.{StreamProgress}
use Rattle.cqlp_decode.specs.Pages.{IsPage, Turns, cells_after, cells_from, node_by}
use Rattle.cqlp_decode.specs.Progress.{StreamState, PartsState, GoesOn, IsBounded, IsCell, IsConsistent, StageHolds, nodes_of, parts, rest_of, state_of}
use Rattle.cqlp_decode.specs.Items.{TakesItem, at_level, part_emitted}
use Rattle.cqlp_decode.proofs.CellSteps.{cell_begun_lawful, begun_same}
use Rattle.cqlp_decode.proofs.ItemLoop.{going_lawful, going_takes, over_lawful, over_takes}
use Rattle.cqlp_decode.proofs.Lists.{level_goes}

length_with : (os : List OpenValue) (o : OpenValue) → length (with_last o os) ≡ length os
length_with [] o = refl
length_with (x ∷ []) o = refl
length_with (x ∷ y ∷ os) o = ap suc (length_with (y ∷ os) o)

-- the level of a reader that is in another of its levels
pub inside_with : (d : CellState) (l m : Level) → IsInLevel d l → IsInLevel (with_level d m) m → IsInLevel d m
inside_with d l m here there = record { fresh = here.fresh; items = here.items; some = here.some; level = there.level ∙ length_with d.open_values m.value }

-- a cell under way, where the frame's own offset lags behind
lagging : (s : StreamProgress) (q : PartsState) (p : CellCursor) (n : ℕ) → IsConsistent (record s { offset = n; stage = stage.InCell p }) q → IsBounded s → s.offset ≤ q.cells.offset → IsConsistent (record s { stage = stage.InCell p }) q
lagging s q p n law b le =
    let c = law.stage.0 in
    record {
      bounded = record { long = b.long; inside = b.inside; size = b.size; bound = b.bound };
      parts = record { room = law.parts.room; rules = law.parts.rules; cells = law.parts.cells; table = law.parts.table; few = law.parts.few };
      stage = (record { under_way = c.under_way; conforms = c.conforms; joined = c.joined; some = c.some; is = c.is; page = c.page; stop = c.stop; after = le; came = c.came }, law.stage.1);
      quiet = record { types = law.quiet.types; cells = law.quiet.cells };
      table = law.table;
      given = law.given;
      uses = law.uses;
    }

module _ (s : StreamProgress) (q : PartsState) (p : CellCursor) (here : s.stage ≡ stage.InCell p) (l : Level) (law : IsConsistent s (at_level q l)) (empty : q.partial.content ≡ []) (unrefused : s.refusal ≡ None) (item : BareItem) (ends : Ends (nodes_of q p.columns) q.cells l (Some item))
    (p' : CellCursor) (turns : Turns (nodes_of q p.columns) s.limits.depth p (Some p')) where
  abbrev typed : List Node
  typed = nodes_of q p.columns

  abbrev left : CellState
  left = record q.cells { offset = l.offset; open_values = [] }

  -- where the next cell is due
  abbrev pub after : StreamProgress
  after = record s { offset = l.offset; stage = stage.BeforeCell p' }

  abbrev pub idle : PartsState
  idle = parts q.partial q.types (ended left) q.table q.given

  goes : GoesOn s after p typed (cells_after typed p)
  goes = λ r same uses. (
    ap (λ (z : Columns). cells_from (nodes_of r z) p' ++ rest_of s.upcoming) turns.2 ∙ (ap (λ (z : List Node). cells_from z p' ++ rest_of s.upcoming) same ∙ ap (λ (z : List Symbol). z ++ rest_of s.upcoming) (sym turns.0)),
    (subst (λ (z : Columns). IsPage (nodes_of r z) s.limits.depth p') (sym turns.2) (subst (λ (z : List Node). IsPage z s.limits.depth p') (sym same) turns.1), λ given. uses (sym turns.2 ∙ given)),
  )

  pub after_lawful : IsConsistent after idle
  after_lawful = over_lawful s (at_level q l) p here law empty [] left item (ends.0 []) ends.1 unrefused after (ended left) goes refl refl

  pub after_takes : (input : List ℕ) → TakesItem (state_of s (at_level q l)) input item.at item.used (part_emitted p.row p.column item.part) (state_of after idle)
  after_takes input = over_takes s (at_level q l) p here law empty input left item (ends.0 input) ends.1 unrefused after (ended left) goes refl refl

  module _ (node : ℕ) (column : node_by p'.columns p'.index ≡ Some node) where
    cell_here : IsCell s (at_level q l) p
    cell_here = (subst (λ (t : StreamStage). StageHolds s (at_level q l) t) here law.stage).0

    abbrev pub within : StreamProgress
    within = record s { offset = l.offset; stage = stage.InCell p' }

    abbrev next_parts : PartsState
    next_parts = parts q.partial q.types (next_begun q.cells l node) q.table q.given

    begun_is : begun (ended left) (node_by p'.columns p'.index) l.offset s.stop ≡ next_begun q.cells l node
    begun_is = rw (column, cell_here.stop) refl

    next_law : IsConsistent within next_parts
    next_law = subst (λ (z : CellState). IsConsistent within (parts q.partial q.types z q.table q.given)) begun_is (cell_begun_lawful after idle p' refl after_lawful unrefused)

    next_state : state_of within next_parts ≡ state_of after idle
    next_state = subst (λ (z : CellState). state_of within (parts q.partial q.types z q.table q.given) ≡ state_of after idle) begun_is (begun_same after idle p' refl after_lawful refl)

    pub next_conforms : Conforms (nodes_of q p'.columns) (next_begun q.cells l node)
    next_conforms = next_law.stage.0.conforms

    module _ (input : List ℕ) (t : Entered) (enters : Enters (nodes_of q p'.columns) (next_begun q.cells l node) input (Some t) (with_level q.cells t.level)) where
      not_done : is_done (with_level q.cells t.level) ≡ false
      not_done = level_goes (with_level q.cells t.level) t.level enters.1

      pub next_inside : IsInLevel q.cells l → IsInLevel q.cells t.level
      next_inside inside = inside_with q.cells l t.level inside (level_own (with_level q.cells t.level) t.level enters.1).0

      abbrev pub onward : StreamProgress
      onward = record s { stage = stage.InCell p' }

      at_next : IsConsistent within (at_level q t.level)
      at_next = going_lawful within next_parts p' refl next_law empty input (with_level q.cells t.level) t.item enters.0 not_done

      pub next_lawful : IsConsistent onward (at_level q t.level)
      next_lawful = lagging s (at_level q t.level) p' l.offset at_next law.bounded (omega (arith, cell_here.after, at_next.stage.0.after))

      pub next_takes : TakesItem (state_of after idle) input t.item.at t.item.used (part_emitted p'.row p'.column t.item.part) (state_of onward (at_level q t.level))
      next_takes = subst (λ (z : StreamState). TakesItem z input t.item.at t.item.used (part_emitted p'.row p'.column t.item.part) (state_of within (at_level q t.level))) next_state (going_takes within next_parts p' refl next_law empty input (with_level q.cells t.level) t.item enters.0 not_done)
