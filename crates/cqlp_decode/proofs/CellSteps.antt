-- One step of a cell.
use Rattle.std.proofs.Common.{◌≡◌, ℕ, ◌+◌, ◌-◌, ◌<◌, ◌≤◌, false, true, List, [], ◌∷◌, ◌++◌, length, refl, sym, ap, subst, ◌∙◌, arith}
use Rattle.std.specs.Prelude.{Option, Some, None}
use Rattle.cqlp_note.specs.declared.refusal.Refusal.{Refusal}
use Rattle.cqlp_note.specs.Reader.{Bad, says}
use Rattle.cqlp_note.specs.Step.{Emitted, map_step}
use Rattle.cqlp_note.specs.Limits.{Rules, rules_asked}
use Rattle.cqlp_note.specs.Partial.{FieldState}
use Rattle.cqlp_note.proofs.Yields.{map_said, says_map}
use Rattle.cqlp_kind.specs.declared.kind.Kind.{Kind}
use Rattle.cqlp_kind.specs.declared.node.Node.{Node}
use Rattle.cqlp_kind.specs.Types.{Types, Type_and}
use Rattle.cqlp_cell.specs.declared.advance.CellOutline.{CellOutline}
use Rattle.cqlp_cell.specs.declared.advance.CellAdvance.TheVariants as cell_advance
use Rattle.cqlp_cell.specs.declared.progress.NextInCell.{NextInCell}
use Rattle.cqlp_cell.specs.declared.progress.NextInCell.TheVariants as next
use Rattle.cqlp_kind.specs.CellStep.{CellSymbol, CellEvent, CellPlace, Value_of, cell_step}
use Rattle.cqlp_kind.specs.CellStep as cell
use Rattle.cqlp_cell.specs.declared.advance.CellOutline.TheVariants as outline
use Rattle.cqlp_kind.specs.Scalars.{ScalarValue, allows_size, scalar_of}
use Rattle.cqlp_cell.specs.Items.{event_at as cell_event_at, leaf_event, content_at, CanLend}
use Rattle.cqlp_type.specs.Forests.{Forest}
use Rattle.cqlp_cell.specs.Progress as value
use Rattle.cqlp_cell.specs.Progress.{CellState, place, cell_symbols, is_under_way}
use Rattle.cqlp_cell.specs.Reading.{HaveCome, IsAfterItem}
use Rattle.cqlp_cell.specs.Reading as taking
use Rattle.cqlp_cell.specs.Pushing.{is_done, begun as begun_at}
use Rattle.cqlp_cell.specs.Fronts.{SaysScalar}
use Rattle.cqlp_cell.proofs.Leading.{some_come, conforms_under, answer_is as cell_answer_is}
use Rattle.cqlp_cell.proofs.ScalarSizes.{scalar_sized}
use Rattle.cqlp_cell.proofs.Leavings.{left_none, left_some, stop_is}
use Rattle.cqlp_grammar.specs.Productions.{Symbol, Cell_due, In_cell}
use Rattle.cqlp_decode.specs.declared.page.CellCursor.{CellCursor}
use Rattle.cqlp_decode.specs.declared.page.Columns.{Columns}
use Rattle.cqlp_decode.specs.declared.progress.StreamStage.{StreamStage}
use Rattle.cqlp_decode.specs.declared.progress.StreamStage.TheVariants as stage
use Rattle.cqlp_decode.specs.declared.progress.StreamProgress.{StreamProgress}
use Rattle.cqlp_decode.specs.declared.advance.EventAdvance.TheVariants as advance
use Rattle.cqlp_decode.specs.declared.advance.EventOutline.TheVariants as what
use Rattle.cqlp_decode.specs.Reading as reading
use Rattle.cqlp_decode.specs.Reading.{Given, Place, step, cell_event, cells_left, place_of_cells}
use Rattle.cqlp_decode.specs.Cells.{SaysCell}
use Rattle.cqlp_decode.specs.Pages.{IsKind, IsPage, Turns, cells_from, given_of, cell_symbol, page_symbols, cells_after, types_left, node_by}
use Rattle.cqlp_decode.specs.declared.advance.EventAdvance.{EventAdvance}
use Rattle.cqlp_decode.specs.Progress.{StreamState, IsPending, PartsState, parts, nodes_of, state_of, place_at, offset_at, symbols_at, rest_of, said, Gives, Waits, Hands, Moves, IsLent, IsHeld, due_after, frame_after, ends_due, IsCell, IsConsistent, StageHolds, Starts}
use Rattle.cqlp_decode.proofs.Steps.{begun, one_due, offset_is}
use Rattle.cqlp_decode.proofs.FieldSteps.{goes_on_lawful}
use Rattle.cqlp_decode.proofs.Within.{none_kept}
use Rattle.cqlp_decode.proofs.Columns.{FirstColumn, first_column, page_begun, page_due}

-- the step of a cell under way, or of one that has just begun, is that of what is left of it
alike : (l : Rules) (nodes : List Node) (d : CellState) (n : NextInCell) (row column stop : ℕ) (k : Kind) (inner : Types) (rest : List Symbol) (others : List Node) (held : Given) → ((i : Option ℕ) → n ≡ next.Cell i → (place nodes d).symbols ≡ Value_of k inner 0 stop ∷ [])
    → let here : Place = place_at d.offset stop (cell_symbol n row column k inner (place nodes d).symbols ∷ rest) others held in
    step l here ≡ map_step (cell_event row column) (place_of_cells row column here rest) (cell_step l (place nodes d))
alike l nodes d (next.Cell i) row column stop k inner rest others held due = rw (due i refl) refl
alike l nodes d next.Nothing row column stop k inner rest others held due = refl
alike l nodes d next.Items row column stop k inner rest others held due = refl
alike l nodes d (next.Part offset total) row column stop k inner rest others held due = refl

-- an event of a cell is no end
no_end : (row column : ℕ) (e : CellEvent) → due_after (cell_event row column e) ≡ 1
no_end row column (cell.Leaf level v) = refl
no_end row column (cell.Null level) = refl
no_end row column (cell.Empty level) = refl
no_end row column (cell.Enter level k n) = refl
no_end row column (cell.Leave level n) = refl
no_end row column (cell.Part level offset c last) = refl

same_frame : (frame at row column : ℕ) (e : CellEvent) → frame_after frame at (cell_event row column e) ≡ frame
same_frame frame at row column (cell.Leaf level v) = refl
same_frame frame at row column (cell.Null level) = refl
same_frame frame at row column (cell.Empty level) = refl
same_frame frame at row column (cell.Enter level k n) = refl
same_frame frame at row column (cell.Leave level n) = refl
same_frame frame at row column (cell.Part level offset c last) = refl

-- what is left of a cell is still read
still_left : (row column : ℕ) (ss : List CellSymbol) (rest : List Symbol) → (ss ≡ [] → ⊥) → cells_left row column ss ++ rest ≡ In_cell row column ss ∷ rest
still_left row column [] rest some = absurd (some refl)
still_left row column (s ∷ ss) rest some = refl

-- where a content lies whole in the bytes used, the buffer is empty
lent_leaf : (row column level used : ℕ) (k : Kind) (content buffer : List ℕ) (o : Option ScalarValue) → scalar_of k content ≡ o → allows_size k (length content) ≡ true → (length content ≤ used → buffer ≡ []) → IsLent (cell_event row column (leaf_event level o)) used buffer
lent_leaf row column level used k content buffer None is allowed h = tt
lent_leaf row column level used k content buffer (Some v) is allowed h = λ le. h (rw (scalar_sized k content v allowed is) le)

pub lent_is : (nodes : List Node) (row column used : ℕ) (i : CellOutline) (input buffer : List ℕ) → CanLend i input buffer → taking.IsLent nodes i input buffer used → IsLent (cell_event row column (cell_event_at i input buffer)) used buffer
lent_is nodes row column used (outline.Leaf level k c) input buffer can h = lent_leaf row column level used k (content_at c input buffer) buffer (scalar_of k (content_at c input buffer)) refl can.1 h
lent_is nodes row column used (outline.Null level) input buffer can h = tt
lent_is nodes row column used (outline.Empty level) input buffer can h = tt
lent_is nodes row column used (outline.Enter level k n) input buffer can h = tt
lent_is nodes row column used (outline.Leave level n) input buffer can h = tt
lent_is nodes row column used (outline.Part level offset c last) input buffer can h = h

-- where it does not, it is held
kept_leaf : (row column level used : ℕ) (k : Kind) (content buffer : List ℕ) (o : Option ScalarValue) → scalar_of k content ≡ o → allows_size k (length content) ≡ true → (used < length content → buffer ≡ content) → IsHeld (cell_event row column (leaf_event level o)) used buffer
kept_leaf row column level used k content buffer None is allowed h = λ _. tt
kept_leaf row column level used k content buffer (Some v) is allowed h = λ lt. let same = h (rw (scalar_sized k content v allowed is) lt) in (k, ap (scalar_of k) same ∙ is, ap length same ∙ scalar_sized k content v allowed is)

kept_is : (nodes : List Node) (row column used : ℕ) (i : CellOutline) (input buffer : List ℕ) → CanLend i input buffer → taking.IsHeld nodes i input buffer used → IsHeld (cell_event row column (cell_event_at i input buffer)) used buffer
kept_is nodes row column used (outline.Leaf level k c) input buffer can h = kept_leaf row column level used k (content_at c input buffer) buffer (scalar_of k (content_at c input buffer)) refl can.1 h
kept_is nodes row column used (outline.Null level) input buffer can h = λ _. tt
kept_is nodes row column used (outline.Empty level) input buffer can h = λ _. tt
kept_is nodes row column used (outline.Enter level k n) input buffer can h = λ _. tt
kept_is nodes row column used (outline.Leave level n) input buffer can h = λ _. tt
kept_is nodes row column used (outline.Part level offset c last) input buffer can h = h

still_by : (n : NextInCell) (row column : ℕ) (k : Kind) (inner : Types) (ss : List CellSymbol) (rest : List Symbol) → IsAfterItem n → (ss ≡ [] → ⊥) → cell_symbol n row column k inner ss ∷ rest ≡ cells_left row column ss ++ rest
still_by next.Nothing row column k inner ss rest behind some = absurd behind
still_by (next.Cell i) row column k inner ss rest behind some = absurd behind
still_by next.Items row column k inner ss rest behind some = sym (still_left row column ss rest some)
still_by (next.Part offset total) row column k inner ss rest behind some = sym (still_left row column ss rest some)

-- what is left of a page, where a part of the cell was handed out
under_way_still : (nodes : List Node) (depth : ℕ) (d : CellState) (p : CellCursor) → FirstColumn nodes depth p.columns p.column p.index → IsAfterItem d.next → ((place nodes d).symbols ≡ [] → ⊥) → (rest : List Symbol)
    → page_symbols nodes d p ++ rest ≡ cells_left p.row p.column (place nodes d).symbols ++ (cells_after nodes p ++ rest)
under_way_still nodes depth d p f behind some rest = rw f.is (still_by d.next p.row p.column f.first f.inner (place nodes d).symbols _ behind some)

module _ (s : StreamProgress) (q : PartsState) (p : CellCursor) (here : s.stage ≡ stage.InCell p) (c : IsCell s q p) (rules : q.cells.rules ≡ rules_asked s.limits) where
  abbrev typed : List Node
  typed = nodes_of q p.columns

  abbrev held : Given
  held = given_of s.given_use q.given

  abbrev rest : List Symbol
  rest = cells_after typed p ++ rest_of s.upcoming

  abbrev column : FirstColumn typed s.limits.depth p.columns p.column p.index
  column = first_column typed s.limits.depth p.columns p.column p.index c.page.0

  abbrev conforms : Place
  conforms = place_at q.cells.offset s.stop (cell_symbol q.cells.next p.row p.column column.first column.inner (place typed q.cells).symbols ∷ rest) q.table.nodes held

  due_now : (i : Option ℕ) → q.cells.next ≡ next.Cell i → (place typed q.cells).symbols ≡ Value_of column.first column.inner 0 s.stop ∷ []
  due_now i is = rw (is, c.is i is, c.stop) (column.symbols s.stop)

  place_is : (state_of s q).place ≡ conforms
  place_is = rw (here, column.is) refl

  answer_is : (bytes : List ℕ) → said (state_of s q) bytes ≡ map_said (cell_event p.row p.column) (place_of_cells p.row p.column conforms rest) (taking.step_says typed q.cells bytes)
  answer_is bytes =
      ap (λ (z : Place). says (step (rules_asked s.limits) z) 0 bytes) place_is
      ∙ ap (λ z. says z 0 bytes) (alike (rules_asked s.limits) typed q.cells q.cells.next p.row p.column s.stop column.first column.inner rest q.table.nodes held due_now)
      ∙ says_map (cell_event p.row p.column) (place_of_cells p.row p.column conforms rest) (cell_step (rules_asked s.limits) (place typed q.cells)) 0 bytes
      ∙ ap (λ z. map_said (cell_event p.row p.column) (place_of_cells p.row p.column conforms rest) z) (rw (← rules) (sym (cell_answer_is typed q.cells bytes)))

  come_is : (b : List ℕ) → IsPending (state_of s q).pending b → HaveCome b q.cells.arrived q.partial.seen
  come_is b is = rw here at is

  came : (b : List ℕ) × HaveCome b q.cells.arrived q.partial.seen
  came = some_come typed q.cells q.partial c.joined

  pub cell_waits : (input : List ℕ) (used : ℕ) (d : CellState) (p' : FieldState) → taking.Moves typed q.cells q.partial input (cell_advance.More used) d p' → Waits (state_of s q) input used (state_of s (parts p' q.types d q.table q.given))
  cell_waits input used d p' m =
      let same = (m came.0 came.1).0.same in
      record {
        all = (m came.0 came.1).0.all;
        place = rw here (λ j. place_at (ap (λ (z : CellState). z.offset) same j) s.stop (ap (λ (z : CellState). page_symbols typed z p) same j ++ rest_of s.upcoming) q.table.nodes held);
        frame = refl;
        waits = λ b is.
            let w = m b (come_is b is) in
            (answer_is (b ++ input) ∙ ap (λ z. map_said (cell_event p.row p.column) (place_of_cells p.row p.column conforms rest) z) w.0.is, rw here w.1);
      }

  pub cell_fails : (input : List ℕ) (r : Refusal) (d : CellState) (p' : FieldState) → taking.Moves typed q.cells q.partial input (cell_advance.Refused r) d p'
      → (b : List ℕ) → IsPending (state_of s q).pending b → said (state_of s q) (b ++ input) ≡ Bad (r.at, r.why)
  cell_fails input r d p' m b is = answer_is (b ++ input) ∙ ap (λ z. map_said (cell_event p.row p.column) (place_of_cells p.row p.column conforms rest) z) (m b (come_is b is)).is

  module _ (input : List ℕ) (at used : ℕ) (i : CellOutline) (d : CellState) (p' : FieldState) (m : taking.Moves typed q.cells q.partial input (cell_advance.Item at used i) d p') where
    abbrev event : (held : List ℕ) → reading.Event
    event held = cell_event p.row p.column (cell_event_at i input held)

    abbrev one : (b : List ℕ) → HaveCome b q.cells.arrived q.partial.seen → taking.Hands typed q.cells q.partial input (taking.step_says typed q.cells (b ++ input)) (length b) at used i d p'
    one b come = m b come

    -- the place that the decoder is at then
    module _ (e : StreamProgress) (q' : PartsState) (content : q'.partial.content ≡ p'.content) (nodes : q'.table.nodes ≡ q.table.nodes) (given : given_of e.given_use q'.given ≡ held) (offset : offset_at e.stage e.offset q' ≡ d.offset) (stop : e.stop ≡ s.stop) (frame : e.frame ≡ s.frame)
        (symbols : symbols_at e.stage q' e.upcoming ≡ cells_left p.row p.column (place typed d).symbols ++ rest) (fresh : IsPending (state_of e q').pending []) (due : ends_due (symbols_at e.stage q' e.upcoming) ≡ 1)
        (open_values : length q'.cells.open_values ≤ length d.open_values) where
      pub cell_hands : Moves (state_of s q) input (advance.Event at used (what.Cell p.row p.column i)) (state_of e q')
      cell_hands =
          let h = one came.0 came.1 in (
            rw content h.can_lend,
            record {
              within = h.within;
              begun = fresh;
              frame = frame ∙ sym (same_frame s.frame at p.row p.column (cell_event_at i input q'.partial.content));
              lent = rw content (lent_is typed p.row p.column used i input p'.content h.can_lend h.lent);
              kept = rw content (kept_is typed p.row p.column used i input p'.content h.can_lend h.held);
              gives = λ b is.
                  let g = one b (come_is b is) in
                  let x = g.emits.x in (
                    record { at = x.at; event = cell_event p.row p.column x.event; after = λ u. place_of_cells p.row p.column conforms rest (x.after u) },
                    answer_is (b ++ input) ∙ ap (λ z. map_said (cell_event p.row p.column) (place_of_cells p.row p.column conforms rest) z) g.emits.is,
                    g.emits.offset,
                    ap (cell_event p.row p.column) g.emits.event ∙ ap event (sym content),
                    ap (λ (z : CellPlace). place_of_cells p.row p.column conforms rest z) g.emits.after ∙ (λ j. place_at (sym offset j) (sym stop j) (sym symbols j) (sym nodes j) (sym given j)),
                  );
              offset = λ b is. rw (offset, here) (one b (come_is b is)).onward;
              gifts = refl;
              due = due ∙ sym (no_end p.row p.column (cell_event_at i input q'.partial.content));
              pays =
                  let before : ends_due (state_of s q).place.symbols ≡ 1 = rw here (page_due typed s.limits.depth q.cells p (rest_of s.upcoming) c.page.0) in
                  rw (due, before) (omega (arith, h.pays, open_values));
            },
          )

    -- the cell goes on
    module _ (more : is_done d ≡ false) where
      pub going_hands : Moves (state_of s q) input (advance.Event at used (what.Cell p.row p.column i)) (state_of s (parts p' q.types d q.table q.given))
      going_hands =
          let h = one came.0 came.1 in
          let left : page_symbols typed d p ++ rest_of s.upcoming ≡ cells_left p.row p.column (place typed d).symbols ++ rest = under_way_still typed s.limits.depth d p column h.goes_after (left_some typed d h.conforms h.goes_after more) (rest_of s.upcoming) in
          cell_hands s (parts p' q.types d q.table q.given) refl refl refl (rw here refl) refl refl (rw here left) (rw (here, h.fresh) refl) (rw here (page_due typed s.limits.depth d p (rest_of s.upcoming) c.page.0)) (omega arith)

    -- the cell is whole, and this is next
    module _ (whole : is_done d ≡ true) (e : StreamProgress) (d' : CellState) (offset : e.offset ≡ d.offset) (stop : e.stop ≡ s.stop) (frame : e.frame ≡ s.frame) (zero : e.came ≡ 0) (symbols : symbols_at e.stage (parts p' q.types d' q.table q.given) e.upcoming ≡ rest)
        (starts : Starts e (parts p' q.types d' q.table q.given) e.stage) (none : d'.open_values ≡ []) (same_use : e.given_use ≡ s.given_use) where
      pub ended_hands : Moves (state_of s q) input (advance.Event at used (what.Cell p.row p.column i)) (state_of e (parts p' q.types d' q.table q.given))
      ended_hands =
          let h = one came.0 came.1 in
          let z : PartsState = parts p' q.types d' q.table q.given in
          cell_hands e z refl refl (λ j. given_of (same_use j) q.given) (offset_is e e.stage z starts ∙ offset) stop frame (rw (left_none typed d whole) symbols) (begun e e.stage e.header e.came z starts zero h.idle) (one_due e e.stage z starts) (rw none (omega arith))

  -- ---- what holds of the decoder then

  cell_goes : (d : CellState) (p' : FieldState) → taking.Joined typed d p' → value.Conforms typed d → is_under_way d ≡ true → is_done d ≡ false → ((n : Option ℕ) → d.next ≡ next.Cell n → n ≡ node_by p.columns p.index) → d.stop ≡ s.stop → s.offset ≤ d.offset → IsCell s (parts p' q.types d q.table q.given) p
  cell_goes d p' joined conforms under_way some is stop after = record { under_way = under_way; conforms = conforms; joined = joined; some = some; is = is; page = c.page; stop = stop; after = after; came = c.came }

  stage_there : (z : PartsState) → StageHolds s z (stage.InCell p) → StageHolds s z s.stage
  stage_there z h = subst (λ (t : StreamStage). StageHolds s z t) (sym here) h

  pub cell_more_lawful : (input : List ℕ) (used : ℕ) (d : CellState) (p' : FieldState) → taking.Moves typed q.cells q.partial input (cell_advance.More used) d p' → IsConsistent s q → IsConsistent s (parts p' q.types d q.table q.given)
  cell_more_lawful input used d p' m law =
      let h = (m came.0 came.1).0 in
      record {
        bounded = law.bounded;
        parts = record { room = h.longest ∙ law.parts.room; rules = law.parts.rules; cells = ap (λ (z : CellState). z.rules) h.same ∙ law.parts.cells; table = law.parts.table; few = law.parts.few };
        stage = let stage = rw here at law.stage in stage_there (parts p' q.types d q.table q.given) (cell_goes d p' h.joined (rw h.same (conforms_under typed q.cells d.arrived c.conforms)) (ap (λ (z : CellState). is_under_way z) h.same ∙ c.under_way) (ap (λ (z : CellState). is_done z) h.same ∙ c.some) (λ n is. c.is n (sym (ap (λ (z : CellState). z.next) h.same) ∙ is)) (ap (λ (z : CellState). z.stop) h.same ∙ c.stop) (omega (arith, c.after, ap (λ (z : CellState). z.offset) h.same)), stage.1);
        quiet = record { types = law.quiet.types; cells = λ idle. let busy = ap (λ (z : CellState). is_under_way z) h.same ∙ c.under_way in cc };
        table = λ none. rw here (rw here at (law.table none));
        given = law.given;
        uses = law.uses;
      }

  pub cell_refused_lawful : (input : List ℕ) (r : Refusal) (d : CellState) (p' : FieldState) → taking.Moves typed q.cells q.partial input (cell_advance.Refused r) d p' → IsConsistent s q → IsConsistent (record s { stage = stage.Extra }) (parts p' q.types d q.table q.given)
  cell_refused_lawful input r d p' m law =
      let h = m came.0 came.1 in
      let stage = rw here at law.stage in
      record {
        bounded = record { long = law.bounded.long; inside = law.bounded.inside; size = law.bounded.size; bound = law.bounded.bound };
        parts = record { room = h.longest ∙ law.parts.room; rules = law.parts.rules; cells = rw h.ends law.parts.cells; table = law.parts.table; few = law.parts.few };
        stage = (rw c.came (omega arith), record { field = h.idle; types = stage.1; cells = rw h.ends refl });
        quiet = record { types = law.quiet.types; cells = λ idle. rw h.ends refl };
        table = λ none. rw here at (law.table none);
        given = law.given;
        uses = tt;
      }

  module _ (input : List ℕ) (at used : ℕ) (i : CellOutline) (d : CellState) (p' : FieldState) (m : taking.Moves typed q.cells q.partial input (cell_advance.Item at used i) d p') (law : IsConsistent s q) where
    abbrev this : taking.Hands typed q.cells q.partial input (taking.step_says typed q.cells (came.0 ++ input)) (length came.0) at used i d p'
    this = m came.0 came.1

    not_due : (n : Option ℕ) → d.next ≡ next.Cell n → n ≡ node_by p.columns p.index
    not_due n is = absurd (rw is at this.goes_after)

    pub cell_inside : d.offset ≤ s.stop
    cell_inside = omega (arith, stop_is typed d this.conforms, this.stop, c.stop)

    pub cell_going_lawful : is_done d ≡ false → IsConsistent s (parts p' q.types d q.table q.given)
    cell_going_lawful more = record {
      bounded = law.bounded;
      parts = record { room = this.longest ∙ law.parts.room; rules = law.parts.rules; cells = this.rules ∙ law.parts.cells; table = law.parts.table; few = law.parts.few };
      stage = let stage = rw here at law.stage in stage_there (parts p' q.types d q.table q.given) (cell_goes d p' (record { longest = rw (this.rules, this.longest) c.joined.longest; under_way = rw this.fresh this.idle }) this.conforms this.goes_on more not_due (this.stop ∙ c.stop) (omega (arith, c.after, this.onward)), stage.1);
      quiet = record { types = law.quiet.types; cells = λ idle. let busy = this.goes_on in cc };
      table = λ none. rw here (rw here at (law.table none));
      given = law.given;
      uses = law.uses;
    }

    pub cell_ended_lawful : (e : StreamProgress) (d' : CellState) → e.offset ≡ d.offset → e.stop ≡ s.stop → e.limits ≡ s.limits → e.header ≡ s.header → e.came ≡ s.came → d'.rules ≡ d.rules → Forest q.table.nodes 0 s.limits.depth → is_under_way d' ≡ false → d'.open_values ≡ [] → Starts e (parts p' q.types d' q.table q.given) e.stage
        → IsConsistent e (parts p' q.types d' q.table q.given)
    cell_ended_lawful e d' offset stop limits header same rules_are forest idle none starts =
        let n : ℕ = d.offset - s.offset in
        let after : s.offset ≤ d.offset = omega (arith, c.after, this.onward) in
        let stage = rw here at law.stage in
        goes_on_lawful s e q p' q.types d' q.table n law (omega (arith, offset, after)) (omega (arith, after, cell_inside)) stop limits header (same ∙ c.came) this.longest this.idle refl stage.1 (rules_are ∙ this.rules) idle refl forest starts (record { types = law.quiet.types; cells = λ _. none })

-- the moves from a state are those from one of the same place
begun_moves : (d d' : StreamState) (input : List ℕ) (new : StreamState) → d'.rules ≡ d.rules → d.place ≡ d'.place → d'.frame ≡ d.frame → ((b : List ℕ) → IsPending d'.pending b → IsPending d.pending b) → d.open_values ≤ d'.open_values → (a : EventAdvance) → Moves d input a new → Moves d' input a new
begun_moves d d' input new rules place frame pending fewer (advance.More used) m = record {
  all = m.all;
  place = m.place ∙ place;
  frame = m.frame ∙ sym frame;
  waits = λ b is. let w = m.waits b (pending b is) in ((λ i. says (step (rules i) (sym place i)) 0 (b ++ input)) ∙ w.0, w.1);
}
begun_moves d d' input new rules place frame pending fewer (advance.Event at used w) m = (
  m.0,
  let h = m.1 in
      record {
        within = h.within;
        begun = h.begun;
        frame = rw frame h.frame;
        lent = h.lent;
        kept = h.kept;
        gives = λ b is. let g = h.gives b (pending b is) in (g.0, (λ i. says (step (rules i) (sym place i)) 0 (b ++ input)) ∙ g.1, g.2, g.3, g.4);
        offset = λ b is. rw (← place) (h.offset b (pending b is));
        gifts = h.gifts;
        due = h.due;
        pays = rw (← place) (omega (arith, h.pays, fewer));
      },
)
begun_moves d d' input new rules place frame pending fewer (advance.Refused r) m = λ b is. (λ i. says (step (rules i) (sym place i)) 0 (b ++ input)) ∙ m b (pending b is)

-- ---- a cell begins

module _ (s : StreamProgress) (q : PartsState) (p : CellCursor) (here : s.stage ≡ stage.BeforeCell p) where
  abbrev typed_by : List Node
  typed_by = nodes_of q p.columns

  abbrev begins : StreamProgress
  begins = record s { stage = stage.InCell p }

  abbrev beside : PartsState
  beside = parts q.partial q.types (begun_at q.cells (node_by p.columns p.index) s.offset s.stop) q.table q.given

  pub cell_begun_lawful : IsConsistent s q → s.refusal ≡ None → IsConsistent begins beside
  cell_begun_lawful law unrefused =
      let stage = rw here at law.stage in
      let f = first_column typed_by s.limits.depth p.columns p.column p.index stage.0.0 in
      record {
        bounded = record { long = law.bounded.long; inside = law.bounded.inside; size = law.bounded.size; bound = law.bounded.bound };
        parts = record { room = law.parts.room; rules = law.parts.rules; cells = law.parts.cells; table = law.parts.table; few = law.parts.few };
        stage = (
          record {
            under_way = refl;
            conforms = record {
              open_conform = tt;
              within = omega (arith, law.bounded.inside);
              next_conforms = (refl, f.conforms q.cells.rules (ap (λ (z : Rules). z.depth) law.parts.cells));
              bounded = omega (arith, law.bounded.bound);
            };
            joined = record { longest = rw (law.parts.cells, law.parts.room) (omega arith); under_way = stage.1.field };
            some = refl;
            is = λ n same. let e : node_by p.columns p.index ≡ n = cc in sym e;
            page = stage.0;
            stop = refl;
            after = omega arith;
            came = stage.2;
          },
          stage.1.types,
        );
        quiet = record { types = law.quiet.types; cells = λ _. refl };
        table = λ none. rw here at (law.table unrefused);
        given = law.given;
        uses = rw here at law.uses;
      }

  -- a cell that has just begun is where one that is due does
  pub begun_same : IsConsistent s q → q.cells.open_values ≡ [] → state_of begins beside ≡ state_of s q
  begun_same law none =
      let stage = rw here at law.stage in
      let place : (state_of begins beside).place ≡ (state_of s q).place = rw here (ap (λ (z : List Symbol). place_at s.offset s.stop (z ++ rest_of s.upcoming) q.table.nodes (given_of s.given_use q.given)) (page_begun typed_by s.limits.depth (begun_at q.cells (node_by p.columns p.index) s.offset s.stop) p (node_by p.columns p.index) refl stage.0.0)) in
      rw (none, here) (ap (λ (z : Place). record (state_of begins beside) { place = z }) (rw here at place))

  -- a cell that has just begun is read as one that is due
  pub cell_begun_moves : (input : List ℕ) (a : EventAdvance) (new : StreamState) → IsConsistent s q → Moves (state_of begins beside) input a new → Moves (state_of s q) input a new
  cell_begun_moves input a new law m =
      let stage = rw here at law.stage in
      let place : (state_of begins beside).place ≡ (state_of s q).place = rw here (ap (λ (z : List Symbol). place_at s.offset s.stop (z ++ rest_of s.upcoming) q.table.nodes (given_of s.given_use q.given)) (page_begun typed_by s.limits.depth (begun_at q.cells (node_by p.columns p.index) s.offset s.stop) p (node_by p.columns p.index) refl stage.0.0)) in
      let pending : (b : List ℕ) → IsPending (state_of s q).pending b → IsPending (state_of begins beside).pending b = λ b is. rw here at is in
      begun_moves (state_of begins beside) (state_of s q) input new refl place refl pending (omega arith) a m

pub nothing_held : (xs : List ℕ) → length xs ≤ 0 → xs ≡ []
nothing_held [] le = refl
nothing_held (x ∷ xs) le = absurd (omega (arith, le))

-- ---- a cell that is one event, whose bytes are all there

-- an empty buffer lends nothing
lent_empty : (row column used : ℕ) (ev : CellEvent) (content : List ℕ) → content ≡ [] → IsLent (cell_event row column ev) used content
lent_empty r c used (cell.Leaf level v) content none = λ le. none
lent_empty r c used (cell.Null level) content none = tt
lent_empty r c used (cell.Empty level) content none = tt
lent_empty r c used (cell.Enter level k n) content none = tt
lent_empty r c used (cell.Leave level n) content none = tt
lent_empty r c used (cell.Part level offset bytes last) content none = λ le. none

pub says_leaf : (l : Rules) (k : Kind) (room : ℕ) (input : List ℕ) (used : ℕ) (v : ScalarValue) → SaysScalar l k room input used v → SaysCell l k room input used (cell.Leaf 0 v)
says_leaf l k room input used v h = record { is = λ p rest inner. h.is p rest inner 0; within = h.within; inside = h.inside; some = h.some }

module _ (s : StreamProgress) (q : PartsState) (p : CellCursor) (here : s.stage ≡ stage.BeforeCell p) (law : IsConsistent s q) (unrefused : s.refusal ≡ None) (input : List ℕ) (used : ℕ) (k : Kind) (inner others : Types) (ev : CellEvent) (is : types_left (nodes_of q p.columns) p ≡ Type_and k inner others)
    (front : SaysCell (rules_asked s.limits) k (s.stop - s.offset) input used ev) (empty : q.partial.content ≡ []) (e : StreamProgress) (symbols : symbols_at e.stage q e.upcoming ≡ cells_after (nodes_of q p.columns) p ++ rest_of s.upcoming)
    (starts : Starts e q e.stage) (same_use : e.given_use ≡ s.given_use) (offset : e.offset ≡ s.offset + used) (stop : e.stop ≡ s.stop) (frame : e.frame ≡ s.frame) (came : e.came ≡ s.came) where
  abbrev there : List Symbol
  there = cells_after (nodes_of q p.columns) p ++ rest_of s.upcoming

  abbrev due_place : Place
  due_place = place_at s.offset s.stop (Cell_due p.row p.column k inner ∷ there) q.table.nodes (given_of s.given_use q.given)

  place_due : (state_of s q).place ≡ due_place
  place_due = rw (here, is) refl

  stage_due : StageHolds s q (stage.BeforeCell p)
  stage_due = rw here at law.stage

  one_said : (b : List ℕ) → said (state_of s q) b ≡ map_said (cell_event p.row p.column) (place_of_cells p.row p.column due_place there) (says (cell_step (rules_asked s.limits) (record { offset = s.offset; symbols = Value_of k inner 0 s.stop ∷ [] })) 0 b)
  one_said b =
      ap (λ (z : Place). says (step (rules_asked s.limits) z) 0 b) place_due
      ∙ says_map (cell_event p.row p.column) (place_of_cells p.row p.column due_place there) (cell_step (rules_asked s.limits) (record { offset = s.offset; symbols = Value_of k inner 0 s.stop ∷ [] })) 0 b

  offset_after : offset_at e.stage e.offset q ≡ s.offset + used
  offset_after = offset_is e e.stage q starts ∙ offset

  one_gives : Gives (state_of s q) input s.offset (cell_event p.row p.column ev) used (state_of e q).place
  one_gives =
      let x : Emitted CellEvent CellPlace = record { at = s.offset; event = ev; after = cell.place_after (record { offset = s.offset; symbols = Value_of k inner 0 s.stop ∷ [] }) [] [] } in (
        record { at = s.offset; event = cell_event p.row p.column ev; after = λ u. place_of_cells p.row p.column due_place there (x.after u) },
        one_said input ∙ ap (λ z. map_said (cell_event p.row p.column) (place_of_cells p.row p.column due_place there) z) (front.is (record { offset = s.offset; symbols = Value_of k inner 0 s.stop ∷ [] }) [] inner),
        refl,
        refl,
        λ j. place_at (sym offset_after j) (sym stop j) (sym symbols j) q.table.nodes (given_of (sym same_use j) q.given),
      )

  pub one_hands : Hands (state_of s q) input s.offset used (cell_event p.row p.column ev) (state_of e q)
  one_hands =
      record {
        within = front.within;
        begun = begun e e.stage e.header e.came q starts (came ∙ stage_due.2) stage_due.1.field;
        frame = frame ∙ sym (same_frame s.frame s.offset p.row p.column ev);
        lent = lent_empty p.row p.column used ev q.partial.content empty;
        kept = none_kept (state_of s q) input s.offset used (cell_event p.row p.column ev) (state_of e q).place q.partial.content one_gives;
        gives = λ b pending. let none : b ≡ [] = rw here at pending in let count : 0 + used ≡ used = omega arith in rw (none, count) one_gives;
        offset = λ b pending. let none : b ≡ [] = rw here at pending in let count : 0 + used ≡ used = omega arith in rw (none, count, offset_after, here) refl;
        gifts = refl;
        due = one_due e e.stage q starts ∙ sym (no_end p.row p.column ev);
        pays =
            let before : ends_due (state_of s q).place.symbols ≡ 1 = ap (λ (z : Place). ends_due z.symbols) place_due in
            rw (one_due e e.stage q starts, before) (omega (arith, front.some));
      }

  pub one_lawful : e.limits ≡ s.limits → e.header ≡ s.header → IsConsistent e q
  one_lawful limits header =
      goes_on_lawful s e q q.partial q.types q.cells q.table used law offset (omega (arith, front.inside, law.bounded.inside)) stop limits header (came ∙ stage_due.2) refl stage_due.1.field refl stage_due.1.types refl stage_due.1.cells refl (rw here at (law.table unrefused)) starts (record { types = law.quiet.types; cells = law.quiet.cells })

-- the page goes on with another cell
module _ (s : StreamProgress) (q : PartsState) (p p' : CellCursor) (here : s.stage ≡ stage.BeforeCell p) (law : IsConsistent s q) (unrefused : s.refusal ≡ None) (input : List ℕ) (used : ℕ) (k : Kind) (kind : IsKind (nodes_of q p.columns) p k) (ev : CellEvent)
    (front : SaysCell (rules_asked s.limits) k (s.stop - s.offset) input used ev) (empty : q.partial.content ≡ []) (turns : Turns (nodes_of q p.columns) s.limits.depth p (Some p')) where
  abbrev onward : StreamProgress
  onward = record s { stage = stage.BeforeCell p'; offset = s.offset + used }

  onward_symbols : symbols_at onward.stage q onward.upcoming ≡ cells_after (nodes_of q p.columns) p ++ rest_of s.upcoming
  onward_symbols = ap (λ (z : Columns). cells_from (nodes_of q z) p' ++ rest_of s.upcoming) turns.2 ∙ ap (λ (z : List Symbol). z ++ rest_of s.upcoming) (sym turns.0)

  onward_starts : Starts onward q onward.stage
  onward_starts = (subst (λ (z : Columns). IsPage (nodes_of q z) s.limits.depth p') (sym turns.2) turns.1, let uses = rw here at law.uses in λ given. uses (sym turns.2 ∙ given))

  pub onward_hands : Hands (state_of s q) input s.offset used (cell_event p.row p.column ev) (state_of onward q)
  onward_hands = one_hands s q p here law unrefused input used k kind.0 kind.1 ev kind.2 front empty onward onward_symbols onward_starts refl refl refl refl refl

  pub onward_lawful : IsConsistent onward q
  onward_lawful = one_lawful s q p here law unrefused input used k kind.0 kind.1 ev kind.2 front empty onward onward_symbols onward_starts refl refl refl refl refl refl refl
