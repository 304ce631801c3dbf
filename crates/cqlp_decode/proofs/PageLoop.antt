-- The loop over the cells of a page.
use Rattle.std.proofs.Common.{◌≡◌, ℕ, ◌+◌, ◌-◌, ◌*◌, ◌^◌, ◌≤◌, List, [], length, take, drop, refl, sym, ap, ◌∙◌, arith}
use Rattle.std.specs.Prelude.{Some, None}
use Rattle.std.specs.Int.{w32, from_be_bytes}
use Rattle.std.proofs.lemmas.Bool.{le-ltb}
use Rattle.cqlp_note.specs.Reader.{number_of}
use Rattle.cqlp_note.specs.Limits.{Rules, rules_asked}
use Rattle.cqlp_kind.specs.declared.kind.Kind.{Kind}
use Rattle.cqlp_kind.specs.CellStep.{CellEvent, Leaf, Null, Empty}
use Rattle.cqlp_cell.proofs.Sizing.{null_is, empty_is}
use Rattle.cqlp_decode.specs.declared.page_loop.Handed.{Handed}
use Rattle.cqlp_decode.specs.declared.page_loop.Handed.TheVariants as handed
use Rattle.cqlp_decode.specs.declared.page.CellCursor.{CellCursor}
use Rattle.cqlp_decode.specs.declared.progress.StreamStage.TheVariants as stage
use Rattle.cqlp_decode.specs.declared.progress.StreamProgress.{StreamProgress}
use Rattle.cqlp_decode.specs.Reading.{Event, cell_event}
use Rattle.cqlp_decode.specs.Pages.{IsKind, Turns, cells_after}
use Rattle.cqlp_decode.specs.Progress.{StreamState, PartsState, IsAt, IsConsistent, Continues, ends_due, nodes_of, state_of}
use Rattle.cqlp_decode.specs.Items.{HandsLeaf, TakesItem}
use Rattle.cqlp_decode.specs.Cells.{SaysCell, HandsCell, HandsFront, HasHanded, HandsOut, FailsAfter}
use Rattle.cqlp_decode.proofs.CellSteps.{one_hands, one_lawful, onward_hands, onward_lawful, says_leaf}
use Rattle.cqlp_decode.proofs.Taken.{item_drains, item_fails, takes_within, takes_pays}

-- ---- a value without a content

module _ (l : Rules) (k : Kind) (room n : ℕ) (input : List ℕ) (number : n ≡ from_be_bytes w32 (take 4 input)) (fits : 4 ≤ room) (first : 4 ≤ length input) where
  pub says_null : 2 ^ 31 ≤ n → SaysCell l k room input 4 (Null 0)
  unfolding number_of
  says_null high = record {
    is = λ p rest inner. rw (le-ltb _ _ fits, le-ltb _ _ first, ← number, (null_is l k room n high).is p rest inner 0) refl;
    within = first;
    inside = fits;
    some = omega arith;
  }

  pub says_empty : n ≡ 0 → SaysCell l k room input 4 (Empty 0)
  unfolding number_of
  says_empty zero = record {
    is = λ p rest inner. rw (le-ltb _ _ fits, le-ltb _ _ first, ← number, (empty_is l k room n zero).is p rest inner 0) refl;
    within = first;
    inside = fits;
    some = omega arith;
  }

-- an event was handed out that the bytes say
pub hands_said : (l : Rules) (k : Kind) (room : ℕ) (input : List ℕ) (row column used : ℕ) (e : CellEvent) → SaysCell l k room input used e → (HasGot Failed : Event → Type 0) (h : Handed)
    → HasHanded (HasGot (cell_event row column e)) (Failed (cell_event row column e)) used h → HandsFront l k room input row column HasGot Failed h
hands_said l k room input row column used e says HasGot Failed handed.Left emitted = absurd emitted
hands_said l k room input row column used e says HasGot Failed (handed.Taken n) emitted = rw emitted.0 (record { event = e; says = says; holds = emitted.1 })
hands_said l k room input row column used e says HasGot Failed (handed.Fault n) emitted = rw emitted.0 (record { event = e; says = says; holds = emitted.1 })

-- a cell is handed out as the item that it is
pub hands_leaf : (l : Rules) (k : Kind) (room : ℕ) (input : List ℕ) (row column : ℕ) (HasGot Failed : Event → Type 0) (h : Handed) → HandsLeaf l k room 0 input row column HasGot Failed h → HandsFront l k room input row column HasGot Failed h
hands_leaf l k room input row column HasGot Failed handed.Left emitted = tt
hands_leaf l k room input row column HasGot Failed (handed.Taken n) emitted = record { event = Leaf 0 emitted.value; says = says_leaf l k room input n emitted.value emitted.says; holds = emitted.holds }
hands_leaf l k room input row column HasGot Failed (handed.Fault n) emitted = record { event = Leaf 0 emitted.value; says = says_leaf l k room input n emitted.value emitted.says; holds = emitted.holds }

-- ---- from cell to cell

-- the reading is at a cell of a page
abbrev pub at_cell : StreamProgress → CellCursor → (offset : ℕ) → StreamProgress
at_cell s p offset = record s { stage = stage.BeforeCell p; offset = offset }

pub at_first : (s : StreamProgress) (p : CellCursor) → s.stage ≡ stage.BeforeCell p → at_cell s p s.offset ≡ s
at_first s p here = λ j. record s { stage = sym here j; offset = s.offset }

module _ (s : StreamProgress) (q : PartsState) (p p' : CellCursor) (offset : ℕ) (law : IsConsistent (at_cell s p offset) q) (unrefused : s.refusal ≡ None) (empty : q.partial.content ≡ []) (k : Kind) (kind : IsKind (nodes_of q p.columns) p k)
    (turns : Turns (nodes_of q p.columns) s.limits.depth p (Some p')) (input : List ℕ) (used taken : ℕ) (Holds : Event → Type 0) (h : HandsCell (rules_asked s.limits) k (s.stop - offset) (drop used input) p.row p.column taken Holds) where
  abbrev old : StreamState
  old = state_of (at_cell s p offset) q

  abbrev new : StreamState
  new = state_of (at_cell s p' (offset + taken)) q

  abbrev emitted : Event
  emitted = cell_event p.row p.column h.event

  pub cell_lawful : IsConsistent (at_cell s p' (offset + taken)) q
  cell_lawful = onward_lawful (at_cell s p offset) q p p' refl law unrefused (drop used input) taken k kind h.event h.says empty turns

  cell_takes : TakesItem old (drop used input) offset taken emitted new
  cell_takes = (refl, refl, refl, onward_hands (at_cell s p offset) q p p' refl law unrefused (drop used input) taken k kind h.event h.says empty turns)

  module _ {S : Type 0} (Gets : S → ℕ → Event → S → Type 0) (first : StreamState) (t u v : S) (d : HandsOut Gets first old input used t u) where
    pub cell_drains : Gets u offset emitted v → HandsOut Gets first new input (used + taken) t v
    cell_drains got = item_drains Gets first old new input used t u d unrefused offset taken emitted cell_takes v got

-- ---- the last cell that is handed out

-- The message goes on after it.
module _ (s : StreamProgress) (q : PartsState) (p : CellCursor) (offset : ℕ) (law : IsConsistent (at_cell s p offset) q) (unrefused : s.refusal ≡ None) (empty : q.partial.content ≡ []) (k : Kind) (kind : IsKind (nodes_of q p.columns) p k)
    (input : List ℕ) (used taken : ℕ) (Holds : Event → Type 0) (h : HandsCell (rules_asked s.limits) k (s.stop - offset) (drop used input) p.row p.column taken Holds) (e : StreamProgress) (at : ℕ) (place : at ≡ offset + taken) (goes : Continues s e q (cells_after (nodes_of q p.columns) p)) (rest : IsAt e at s) where
  abbrev last_emitted : Event
  last_emitted = cell_event p.row p.column h.event

  same_use : e.given_use ≡ s.given_use
  same_use = ap (λ (z : StreamProgress). z.given_use) rest

  after_it : e.offset ≡ offset + taken
  after_it = ap (λ (z : StreamProgress). z.offset) rest ∙ place

  same_stop : e.stop ≡ s.stop
  same_stop = ap (λ (z : StreamProgress). z.stop) rest

  same_frame : e.frame ≡ s.frame
  same_frame = ap (λ (z : StreamProgress). z.frame) rest

  same_came : e.came ≡ s.came
  same_came = ap (λ (z : StreamProgress). z.came) rest

  pub last_lawful : IsConsistent e q
  last_lawful =
      one_lawful (at_cell s p offset) q p refl law unrefused (drop used input) taken k kind.0 kind.1 h.event kind.2 h.says empty e goes.0 goes.1 same_use after_it same_stop same_frame same_came (ap (λ (z : StreamProgress). z.limits) rest) (ap (λ (z : StreamProgress). z.header) rest)

  last_takes : TakesItem (state_of (at_cell s p offset) q) (drop used input) offset taken last_emitted (state_of e q)
  last_takes = (
    ap (λ (z : StreamProgress). z.refusal) rest,
    ap (λ (z : StreamProgress). rules_asked z.limits) rest,
    refl,
    one_hands (at_cell s p offset) q p refl law unrefused (drop used input) taken k kind.0 kind.1 h.event kind.2 h.says empty e goes.0 goes.1 same_use after_it same_stop same_frame same_came,
  )

  module _ {S : Type 0} (Gets : S → ℕ → Event → S → Type 0) (first : StreamState) (t u v : S) (d : HandsOut Gets first (state_of (at_cell s p offset) q) input used t u) where
    pub last_drains : Gets u offset last_emitted v → HandsOut Gets first (state_of e q) input (used + taken) t v
    last_drains got = item_drains Gets first (state_of (at_cell s p offset) q) (state_of e q) input used t u d unrefused offset taken last_emitted last_takes v got

    pub last_fails : (Fails : S → ℕ → Event → S → Type 0) → Fails u offset last_emitted v → FailsAfter Gets Fails first (state_of e q) input (used + taken) t v
    last_fails Fails fault = item_fails Gets first (state_of (at_cell s p offset) q) (state_of e q) input used t u d unrefused offset taken last_emitted last_takes Fails v fault

-- what was handed out uses no more bytes than there are, and pays for what was opened
pub hands_within : {S : Type 0} (Gets : S → ℕ → Event → S → Type 0) (old new : StreamState) (input : List ℕ) (used : ℕ) (s t : S) → HandsOut Gets old new input used s t → (used ≤ length input) × (ends_due new.place.symbols + new.open_values ≤ ends_due old.place.symbols + old.open_values + 2 * used)
hands_within Gets old new input used s t d = (omega (arith, d.all, takes_within old new input d.items d.takes), omega (arith, d.all, takes_pays old new input d.items d.takes))
