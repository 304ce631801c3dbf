-- What spells parts that come of symbols, a stream's reading reads as their events.
use Rattle.std.proofs.Common.{◌≡◌, ℕ, ◌+◌, ◌-◌, ◌≤◌, true, false, List, [], ◌∷◌, ◌++◌, length, drop, None, refl, sym, ap, ◌∙◌, subst, arith}
use Rattle.std.specs.Prelude.{map}
use Rattle.std.proofs.lemmas.List.{length-append}
use Rattle.cqlp_note.specs.declared.field.Field.{Field}
use Rattle.cqlp_note.specs.declared.field.Notation.{Notation}
use Rattle.cqlp_note.specs.Field.{FieldValue, content_length}
use Rattle.cqlp_note.specs.Limits.{Rules, limit_of}
use Rattle.cqlp_note.specs.Spelling.{Spells}
use Rattle.cqlp_note.specs.Step.{Emitted, Runs}
use Rattle.cqlp_note.proofs.Yields.{map_said, says_map}
use Rattle.cqlp_note.proofs.Spelled.{field_yields}
use Rattle.cqlp_kind.specs.declared.kind.Kind.{Kind}
use Rattle.cqlp_kind.specs.declared.node.Node.{Node}
use Rattle.cqlp_kind.specs.Types.{Types, preorder, followed_by}
use Rattle.cqlp_kind.specs.TypeStep.{TypeSymbol, Option_at, TypeEvent, TypePlace, type_step}
use Rattle.cqlp_type.specs.Trees.{Trees, options_in, types_in, trees_items, placed}
use Rattle.cqlp_type.proofs.Forests.{types_of_own_preorder}
use Rattle.cqlp_type.proofs.SpelledRead.{tree_read}
use Rattle.cqlp_kind.specs.CellStep.{CellSymbol, Value_of, CellEvent, CellPlace, cell_step}
use Rattle.cqlp_value.specs.Values.{Values, ValueSpells, value_items, AreWithin}
use Rattle.cqlp_type.proofs.Inside.{preorder-followed}
use Rattle.cqlp_value.proofs.SpelledRead.{cell_spelled}
use Rattle.cqlp_grammar.specs.declared.grammar.Role.{Role}
use Rattle.cqlp_grammar.specs.declared.grammar.Role.TheVariants as role
use Rattle.cqlp_grammar.specs.Productions.{Symbol, In, In_type, Cell_due, Extra, following, fault_in}
use Rattle.cqlp_grammar.specs.Events.{Event, Holds, type_event, cell_event}
use Rattle.cqlp_message.specs.Parts.{Part, Field_is, Type_is, Cell_is, OptionSpells, PartsSpell, PartWithin, PartsWithin, part_size, part_events, parts_events}
use Rattle.cqlp_message.proofs.Derives.{Derives, IsCell, described_after, cells_of, nodes_in}
use Rattle.cqlp_message.proofs.Sizes.{part_sized}
use Rattle.cqlp_decode.specs.Reading.{Place, Nothing, types_left, cells_left, step, Reads, value_step, place_after, types_for, nodes_after, given_after}
use Rattle.cqlp_laws.proofs.StepRuns.{after_yields, step_runs, runs_join}

-- a place in a frame whose metadata has described these types, where no types were given
abbrev pub inside : (offset stop : ℕ) → List Symbol → (described : Types) → Place
inside at stop ss described = record { offset = at; stop = stop; symbols = ss; nodes = preorder described; given = Nothing; gifts = [] }

pub never_given : (r : Role) → given_after r Nothing ≡ Nothing
never_given (role.PageRows flags columns) = refl
never_given r = refl

nodes_described : (r : Role) (described : Types) → nodes_after r (preorder described) ≡ preorder (described_after r described)
nodes_described (role.MetaFlags rows) described = refl
nodes_described role.PreparedFlags described = refl
nodes_described r described = refl

cells_described : (l : Rules) (r : Role) (described : Types) → l.types ≡ true → types_for l.types r (preorder described) Nothing ≡ cells_of r described
cells_described l (role.PageRows flags columns) described typed = rw (typed, types_of_own_preorder described) refl
cells_described l r described typed = refl

-- ---- type options

-- a place in a type option of a frame
abbrev in_option : List Symbol → TypePlace → Place
in_option rest q = record { offset = q.offset; stop = q.stop; symbols = types_left q.symbols ++ rest; nodes = q.nodes; given = Nothing; gifts = [] }

-- A run over a type option is one of the frame around it.
option_runs : (l : Rules) (rest : List Symbol) (es : List (ℕ × TypeEvent)) (at stop : ℕ) (ss : List TypeSymbol) (ns : List Node) (b left : List ℕ) (q : TypePlace)
    → Runs (type_step l) (record { offset = at; stop = stop; symbols = ss; nodes = ns }) b es q left
    → Reads l (in_option rest (record { offset = at; stop = stop; symbols = ss; nodes = ns })) b (map (λ e. (e.0, type_event e.1)) es) (in_option rest q) left
option_runs l rest [] at stop ss ns b left q r = (ap (in_option rest) r.0, r.1)
option_runs l rest (e ∷ es) at stop [] ns b left q r = absurd cc
option_runs l rest (e ∷ es) at stop (t ∷ ss) ns b left q r =
    let here : TypePlace = record { offset = at; stop = stop; symbols = t ∷ ss; nodes = ns } in
    let next = r.1 r.0 in
    let said = says_map type_event (in_option rest) (type_step l here) 0 b ∙ ap (map_said type_event (in_option rest)) r.2 in
    (r.0, (λ u. in_option rest (r.1 u)), said, option_runs l rest es next.offset next.stop next.symbols next.nodes (drop r.0 b) left q r.3)

-- ---- cells

module _ (l : Rules) (row column stop : ℕ) (described : Types) (rest : List Symbol) where
  -- a place in a cell of a frame
  abbrev in_cell : CellPlace → Place
  in_cell q = inside q.offset stop (cells_left row column q.symbols ++ rest) described

  abbrev cell_events : List (ℕ × CellEvent) → List (ℕ × Event)
  cell_events es = map (λ e. (e.0, cell_event row column e.1)) es

  -- A run over a cell is one of the frame around it.
  cell_runs : (es : List (ℕ × CellEvent)) (at : ℕ) (cs : List CellSymbol) (b left : List ℕ) (q : CellPlace) → Runs (cell_step l) (record { offset = at; symbols = cs }) b es q left
      → Reads l (in_cell (record { offset = at; symbols = cs })) b (cell_events es) (in_cell q) left
  cell_runs [] at cs b left q r = (ap in_cell r.0, r.1)
  cell_runs (e ∷ es) at [] b left q r = absurd cc
  cell_runs (e ∷ es) at (c ∷ cs) b left q r =
      let here : CellPlace = record { offset = at; symbols = c ∷ cs } in
      let next = r.1 r.0 in
      let said = says_map (cell_event row column) in_cell (cell_step l here) 0 b ∙ ap (map_said (cell_event row column) in_cell) r.2 in
      (r.0, (λ u. in_cell (r.1 u)), said, cell_runs es next.offset next.symbols (drop r.0 b) left q r.3)

  -- A cell that is due begins as one that is begun.
  due_runs : (es : List (ℕ × CellEvent)) (at : ℕ) (k : Kind) (inner : Types) (b left : List ℕ) (end : ℕ) → Runs (cell_step l) (record { offset = at; symbols = Value_of k inner 0 stop ∷ [] }) b es (record { offset = end; symbols = [] }) left
      → Reads l (inside at stop (Cell_due row column k inner ∷ rest) described) b (cell_events es) (inside end stop rest described) left
  due_runs [] at k inner b left end r = let e : [] ≡ Value_of k inner 0 stop ∷ [] = ap (λ (q : CellPlace). q.symbols) r.0 in absurd cc
  due_runs (e ∷ es) at k inner b left end r =
      let here : CellPlace = record { offset = at; symbols = Value_of k inner 0 stop ∷ [] } in
      let next = r.1 r.0 in
      let said = says_map (cell_event row column) in_cell (cell_step l here) 0 b ∙ ap (map_said (cell_event row column) in_cell) r.2 in
      (r.0, (λ u. in_cell (r.1 u)), said, cell_runs es next.offset next.symbols (drop r.0 b) left (record { offset = end; symbols = [] }) r.3)

same_cell : {row row' column column' : ℕ} {k k' : Kind} {inner inner' : Types} → IsCell row row' column column' k k' inner inner' → Cell_due row column k inner ≡ Cell_due row' column' k' inner'
same_cell c = λ i. Cell_due (c.row_is i) (c.column_is i) (c.kind_is i) (c.inner_is i)

-- ---- parts

-- Reading these symbols over these bytes says these events, and comes to the end of the frame's message.
abbrev pub EndsMessage : Rules → (at stop : ℕ) → List Symbol → (described : Types) → List ℕ → List (ℕ × Event) → Type 0
EndsMessage l at stop ss described b es = (then : Types) × Reads l (inside at stop ss described) b es (inside (at + length b) stop (Extra ∷ []) then) []

module _ (l : Rules) (typed : l.types ≡ true) (stop : ℕ) where
  field_reads : (at : ℕ) (f : Field) (n : Notation) (r : Role) (rest : List Symbol) (v : FieldValue) (described : Types) (b : List ℕ) → fault_in r v ≡ None → Spells n v b → content_length v ≤ limit_of l n → at + length b ≤ stop
      → Reads l (inside at stop (In f n r ∷ rest) described) b ((at, Holds f v) ∷ []) (inside (at + length b) stop (following (cells_of r described) r v ++ rest) (described_after r described)) []
  field_reads at f n r rest v described b ok spelled within le =
      let p = inside at stop (In f n r ∷ rest) described in
      let x : Emitted Event Place = record { at = at; event = Holds f v; after = λ used. place_after l.types p r rest v used } in
      let room : length b ≤ stop - at = omega arith in
      let y = field_yields n v (limit_of l n) (stop - at) b spelled within room in
      let ends : x.after (length b) ≡ inside (at + length b) stop (following (cells_of r described) r v ++ rest) (described_after r described) =
      λ i. record { offset = at + length b; stop = stop; symbols = following (cells_described l r described typed i) r v ++ rest; nodes = nodes_described r described i; given = never_given r i; gifts = [] } in
      subst (λ (q : Place). Reads l p b ((at, Holds f v) ∷ []) q []) ends (step_runs (step l) p x b (after_yields at _ (λ v. value_step l.types p f r rest v (fault_in r v)) v x b y (rw ok (refl, refl))))

  type_reads : (at : ℕ) (rest : List Symbol) (t : Trees) (described : Types) (b : List ℕ) → OptionSpells t b → PartWithin l (Type_is t) → nodes_in described + options_in t ≤ l.entries → at + length b ≤ stop
      → Reads l (inside at stop (In_type (Option_at 1 ∷ []) ∷ rest) described) b (part_events l at (Type_is t)) (inside (at + length b) stop rest (followed_by described (types_in t))) []
  type_reads at rest t described b o w room le =
      let end : TypePlace = record { offset = at + length b; stop = stop; symbols = []; nodes = preorder described ++ preorder (types_in t) } in
      let p = inside at stop (In_type (Option_at 1 ∷ []) ∷ rest) described in
      let ends : in_option rest end ≡ inside (at + length b) stop rest (followed_by described (types_in t)) =
      λ i. record { offset = at + length b; stop = stop; symbols = rest; nodes = sym (preorder-followed described (types_in t)) i; given = Nothing; gifts = [] } in
      subst (λ (q : Place). Reads l p b (part_events l at (Type_is t)) q []) ends
      (option_runs l rest (placed at (trees_items false t)) at stop (Option_at 1 ∷ []) (preorder described) b [] end (tree_read l t 1 at stop (preorder described) b o.one o.formed w.0 w.1 room o.spelled le))

  cell_reads : (at row column : ℕ) (k : Kind) (inner : Types) (v : Values) (rest : List Symbol) (described : Types) (b : List ℕ) → ValueSpells k inner v b → AreWithin l v → at + length b ≤ stop
      → Reads l (inside at stop (Cell_due row column k inner ∷ rest) described) b (part_events l at (Cell_is row column k inner v)) (inside (at + length b) stop rest described) []
  cell_reads at row column k inner v rest described b s w le = due_runs l row column stop described rest (value_items l at k inner v) at k inner b [] (at + length b) (cell_spelled l k inner v at stop b s w le)

  onward : (at : ℕ) (ss ss' : List Symbol) (described described' : Types) (front back b : List ℕ) (k : ℕ) (es : List (ℕ × Event)) (fs : ℕ → List (ℕ × Event)) → b ≡ front ++ back → length front ≡ k
      → Reads l (inside at stop ss described) front es (inside (at + length front) stop ss' described') [] → EndsMessage l (at + length front) stop ss' described' back (fs (at + length front)) → EndsMessage l at stop ss described b (es ++ fs (at + k))
  onward at ss ss' described described' front back b k es fs whole size first later =
      let end : at + length (front ++ back) ≡ (at + length front) + length back = omega (arith, length-append front back) in
      rw (whole, ← size) (later.0, rw end (runs_join (step l) _ _ _ front back es _ first later.1))

  -- Parts that come of the symbols are read as their events, and after them the end of the frame is due.
  pub parts_read : (ps : List Part) (at : ℕ) (ss : List Symbol) (described : Types) (b : List ℕ) → Derives l ps ss described → PartsSpell ps b → PartsWithin l ps → at + length b ≤ stop
      → EndsMessage l at stop ss described b (parts_events l at ps)
  parts_read [] at ss described b d spelled within le =
      let none : at + length b ≡ at = rw spelled (omega arith) in
      (described, rw (none, d) (refl, sym spelled))
  parts_read (Field_is g m v ∷ ps) at (In f n r ∷ rest) described b d spelled within le =
      let long : length b ≡ length spelled.front + length spelled.back = ap length spelled.whole ∙ length-append spelled.front spelled.back in
      let first = field_reads at f n r rest v described spelled.front d.1 (rw d.0.notation at spelled.this) (rw d.0.notation at within.0) (omega arith) in
      let later = parts_read ps (at + length spelled.front) _ (described_after r described) spelled.back d.2 spelled.that within.1 (omega arith) in
      onward at (In f n r ∷ rest) _ described (described_after r described) spelled.front spelled.back b (part_size (Field_is g m v)) ((at, Holds g v) ∷ []) (λ k. parts_events l k ps) spelled.whole (part_sized (Field_is g m v) spelled.front spelled.this)
      (rw d.0.name first) later
  parts_read (Type_is t ∷ ps) at (In_type ts ∷ rest) described b d spelled within le =
      let long : length b ≡ length spelled.front + length spelled.back = ap length spelled.whole ∙ length-append spelled.front spelled.back in
      let described' : Types = followed_by described (types_in t) in
      let first = type_reads at rest t described spelled.front spelled.this within.0 d.1 (omega arith) in
      let later = parts_read ps (at + length spelled.front) rest described' spelled.back d.2 spelled.that within.1 (omega arith) in
      onward at (In_type ts ∷ rest) rest described described' spelled.front spelled.back b (part_size (Type_is t)) (part_events l at (Type_is t)) (λ k. parts_events l k ps) spelled.whole (part_sized (Type_is t) spelled.front spelled.this)
      (rw d.0 first) later
  parts_read (Cell_is row column k inner v ∷ ps) at (Cell_due row' column' k' inner' ∷ rest) described b d spelled within le =
      let long : length b ≡ length spelled.front + length spelled.back = ap length spelled.whole ∙ length-append spelled.front spelled.back in
      let part : Part = Cell_is row column k inner v in
      let first = cell_reads at row column k inner v rest described spelled.front spelled.this within.0 (omega arith) in
      let here = subst (λ (s : Symbol). Reads l (inside at stop (s ∷ rest) described) spelled.front (part_events l at part) (inside (at + length spelled.front) stop rest described) []) (same_cell d.0) first in
      let later = parts_read ps (at + length spelled.front) rest described spelled.back d.1 spelled.that within.1 (omega arith) in
      onward at (Cell_due row' column' k' inner' ∷ rest) rest described described spelled.front spelled.back b (part_size part) (part_events l at part) (λ k. parts_events l k ps) spelled.whole (part_sized part spelled.front spelled.this)
      here later
  parts_read (Field_is g m v ∷ ps) at ss described b d spelled within le = absurd d
  parts_read (Type_is t ∷ ps) at ss described b d spelled within le = absurd d
  parts_read (Cell_is row column k inner v ∷ ps) at ss described b d spelled within le = absurd d
