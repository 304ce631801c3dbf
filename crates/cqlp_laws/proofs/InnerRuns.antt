-- Where the reading of a type option and of a cell gets: by each byte one further, within the frame, and with no more
-- nodes than the limit.
use Rattle.std.proofs.Common.{◌≡◌, ℕ, ◌+◌, ◌-◌, ◌≤◌, false, ◌&&◌, ltb, leb, eqb, List, [], ◌∷◌, ◌++◌, length, drop, Option, Some, None, refl, sym, ap, ◌∙◌, subst, arith}
use Rattle.std.specs.Int.{w16, w32, from_be_bytes}
use Rattle.std.proofs.lemmas.Bool.{ltb-false, leb-false}
use Rattle.std.proofs.lemmas.List.{append-nil, length-append}
use Rattle.cqlp_note.specs.declared.field.Notation.TheVariants as notation
use Rattle.cqlp_note.specs.Reader.{number_of}
use Rattle.cqlp_note.specs.Field.{FieldValue, field_of, is_negative}
use Rattle.cqlp_note.specs.Step.{Emitted, Runs}
use Rattle.cqlp_note.specs.Limits.{Rules}
use Rattle.cqlp_note.specs.Heading.{beside_number}
use Rattle.cqlp_note.proofs.Readers.{Always}
use Rattle.cqlp_note.proofs.Fields.{either_always}
use Rattle.cqlp_kind.specs.declared.kind.Kind.{Kind}
use Rattle.cqlp_kind.specs.declared.kind.Kind.TheVariants as kind
use Rattle.cqlp_kind.specs.declared.node.Node.{Node}
use Rattle.cqlp_kind.specs.Types.{Types, NoMore, Type_and, kinds}
use Rattle.cqlp_kind.specs.TypeStep.{TypeSymbol, Option_at, Text_of, Fields_of, Whole, TypeEvent, TypePlace, parameters_of, inner_symbols, symbol_copies, with_arity, with_span, begun_node, settled, type_place, kind_or_lenient, option_step, count_in, type_step_at, type_step}
use Rattle.cqlp_type.proofs.Nodes.{length_with_span, length_with_arity}
use Rattle.cqlp_kind.specs.Scalars.{ScalarValue, size_or_lenient, scalar_or_lenient}
use Rattle.cqlp_kind.specs.CellStep.{CellSymbol, Value_of, Items_of, Close_of, Content_from, CellEvent, CellPlace, is_opaque, leaf_step, close_step, counted_step, part_step, scalar_step, content_step, value_step, cell_step_at, cell_step, lenient_excess}
use Rattle.cqlp_value.specs.Values.{Values, ValueSpells, value_items}
use Rattle.cqlp_value.proofs.ReadBack.{Comes, runs_come}
use Rattle.cqlp_laws.proofs.RunsBack.{always_yields, field_back, taken}
use Rattle.cqlp_decode.proofs.Always.{after_always, yields_always}

-- ---- type options

settled_nodes : (ss : List TypeSymbol) (ns : List Node) → length (settled ss ns).1 ≡ length ns
settled_nodes [] ns = refl
settled_nodes (Option_at d ∷ ss) ns = refl
settled_nodes (Text_of f ∷ ss) ns = refl
settled_nodes (Fields_of named d ∷ ss) ns = refl
settled_nodes (Whole i ∷ ss) ns = settled_nodes ss (with_span i ns) ∙ length_with_span i ns

-- There are no more nodes than the limit, where no option comes next.
abbrev pub Few : Rules → List TypeSymbol → (nodes : ℕ) → Type 0
Few l (Option_at d ∷ ss) n = Unit {0}
Few l ss n = n ≤ l.entries

few : (l : Rules) (ss : List TypeSymbol) (n : ℕ) → n ≤ l.entries → Few l ss n
few l [] n le = le
few l (Option_at d ∷ ss) n le = tt
few l (Text_of f ∷ ss) n le = le
few l (Fields_of named d ∷ ss) n le = le
few l (Whole i ∷ ss) n le = le

-- a place in the same frame, this many bytes on
pub record GetsOn (l : Rules) (p q : TypePlace) (n : ℕ) : Type 0 where
  pub onward : q.offset ≡ p.offset + n
  pub same_stop : q.stop ≡ p.stop
  pub within : q.offset ≤ q.stop
  pub counted : Few l q.symbols (length q.nodes)

module _ (l : Rules) (p : TypePlace) (inside : p.offset ≤ p.stop) where
  abbrev pub Gets : Emitted TypeEvent TypePlace → List ℕ → Type 0
  Gets x b = GetsOn l p (x.after (length b)) (length b)

  settled_gets : (ss : List TypeSymbol) (ns : List Node) (n : ℕ) → n ≤ p.stop - p.offset → length ns ≤ l.entries → GetsOn l p (type_place p (settled ss ns) n) n
  settled_gets ss ns n le many = record { onward = refl; same_stop = refl; within = omega (arith, inside, le); counted = few l (settled ss ns).0 (length (settled ss ns).1) (rw (settled_nodes ss ns) many) }

  option_gets : (d : ℕ) (rest : List TypeSymbol) (b : List ℕ) (o : Option Kind) → length b ≤ p.stop - p.offset → Always Gets (option_step l d rest p o) b
  option_gets d rest b None le = tt
  option_gets d rest b (Some k) le =
      either_always Gets b (ltb l.depth d) _ _ (λ _. tt) (λ _.
      either_always Gets b (leb l.entries (length p.nodes)) _ _ (λ _. tt) (λ room.
      settled_gets (parameters_of k d ++ Whole (length p.nodes) ∷ rest) (p.nodes ++ begun_node k ∷ []) (length b) le (omega (arith, leb-false _ _ room, length-append p.nodes (begun_node k ∷ [])))))

  -- a field ends within the frame
  abbrev Fits : FieldValue → List ℕ → Type 0
  Fits v b = length b ≤ p.stop - p.offset

  pub type_gets : (ss : List TypeSymbol) → Few l ss (length p.nodes) → Always Gets (type_step_at l p ss) []
  unfolding number_of
  type_gets [] h = tt
  type_gets (Option_at d ∷ rest) h = either_always Gets [] (ltb (p.stop - p.offset) 2) _ _ (λ _. tt) (λ t c long. option_gets d rest c (kind_or_lenient (beside_number (from_be_bytes w16 c) kinds) l.lenient) (omega (arith, ltb-false _ _ t, long)))
  type_gets (Text_of f ∷ rest) h =
      let r = field_of notation.Text16 l.text (p.stop - p.offset) in
      after_always Fits Gets p.offset r _ [] (always_yields Fits r [] (λ v b y. (field_back notation.Text16 l.text (p.stop - p.offset) v b y).1)) (λ v b le.
      settled_gets rest p.nodes (length b) le h)
  type_gets (Fields_of named d ∷ rest) h =
      let r = field_of notation.Count16 0 (p.stop - p.offset) in
      after_always Fits Gets p.offset r _ [] (always_yields Fits r [] (λ v b y. (field_back notation.Count16 0 (p.stop - p.offset) v b y).1)) (λ v b le.
      settled_gets (symbol_copies (count_in v) (inner_symbols named d) ++ rest) (with_arity (count_in v) p.nodes) (length b) le (rw (length_with_arity (count_in v) p.nodes) h))
  type_gets (Whole i ∷ rest) h = tt

pub options_get : (l : Rules) (es : List (ℕ × TypeEvent)) (p q : TypePlace) (b : List ℕ) → p.offset ≤ p.stop → Few l p.symbols (length p.nodes) → Runs (type_step l) p b es q [] → GetsOn l p q (length b)
options_get l [] p q b inside h r =
    let none : p.offset ≡ p.offset + length b = rw (← r.1) (omega arith) in
    rw r.0 (record { onward = none; same_stop = refl; within = inside; counted = h })
options_get l (e ∷ es) p q b inside h r =
    let x : Emitted TypeEvent TypePlace = record { at = e.0; event = e.1; after = r.1 } in
    let t = taken (type_step l p) x r.0 b r.2 in
    let one : GetsOn l p (r.1 r.0) r.0 = rw t.long at (yields_always (Gets l p inside) (type_step l p) x [] t.front (type_gets l p inside p.symbols h) t.yields) in
    let more = options_get l es (r.1 r.0) q (drop r.0 b) one.within one.counted r.3 in
    let size : length b ≡ r.0 + length (drop r.0 b) = omega (arith, ap length t.whole, length-append t.front t.back, t.long, ap length t.left) in
    record { onward = omega (arith, one.onward, more.onward, size); same_stop = more.same_stop ∙ one.same_stop; within = more.within; counted = more.counted }

-- ---- cells

module _ (l : Rules) (p : CellPlace) where
  abbrev Goes : Emitted CellEvent CellPlace → List ℕ → Type 0
  Goes x b = (x.after (length b)).offset ≡ p.offset + length b

  module _ (rest : List CellSymbol) where
    leaf_goes : (level : ℕ) (k : Kind) (o : Option ScalarValue) (b : List ℕ) → Always Goes (leaf_step p rest level k o) b
    leaf_goes level k None b = tt
    leaf_goes level k (Some v) b = refl

    part_goes : (level k offset total : ℕ) (b : List ℕ) → Always Goes (part_step l p rest level k offset total) b
    part_goes level k offset total b = λ c long. refl

    close_goes : (level stop taken : ℕ) (b : List ℕ) → Always Goes (close_step p rest level stop taken) b
    close_goes level stop taken b = either_always Goes b (ltb p.offset stop) _ _ (λ _. tt) (λ _. refl)

    scalar_goes : (level : ℕ) (k : Kind) (n : ℕ) (b : List ℕ) → Always Goes (scalar_step l p rest level k n) b
    scalar_goes level k n b = either_always Goes b (size_or_lenient l.lenient k n) _ _ (λ _.
        either_always Goes b (l.parts && is_opaque k && ltb l.part n) _ _ (λ _. part_goes level 4 0 n b) (λ _.
        either_always Goes b (ltb l.cell n) _ _ (λ _. tt) (λ _ c long. leaf_goes level k (scalar_or_lenient l.lenient k c) (b ++ c)))) (λ _. tt)

    counted_goes : (level : ℕ) (k : Kind) (inner : Types) (n : ℕ) (b : List ℕ) → Always Goes (counted_step p rest level k inner n) b
    unfolding number_of
    counted_goes level k inner n b = either_always Goes b (ltb n 4) _ _ (λ _. tt) (λ _ d size.
        either_always Goes (b ++ d) (is_negative (from_be_bytes w32 d)) _ _ (λ _. tt) (λ _. refl))

    content_goes : (level : ℕ) (k : Kind) (inner : Types) (n : ℕ) (b : List ℕ) → Always Goes (content_step l p rest level k inner n) b
    content_goes level kind.List inner n b = counted_goes level kind.List inner n b
    content_goes level kind.Set inner n b = counted_goes level kind.Set inner n b
    content_goes level kind.Map inner n b = counted_goes level kind.Map inner n b
    content_goes level kind.Udt inner n b = refl
    content_goes level kind.Tuple inner n b = refl
    content_goes level k inner n b = scalar_goes level k n b

    value_goes : (k : Kind) (inner : Types) (level room : ℕ) → Always Goes (value_step l p rest k inner level room) []
    unfolding number_of
    value_goes k inner level room = either_always Goes [] (ltb room 4) _ _ (λ _. tt) (λ _ c size.
        either_always Goes c (is_negative (from_be_bytes w32 c)) _ _ (λ _. refl) (λ _.
        either_always Goes c (eqb (from_be_bytes w32 c) 0) _ _ (λ _. refl) (λ _.
        either_always Goes c (ltb room (4 + from_be_bytes w32 c)) _ _ (λ _. tt) (λ _. content_goes level k inner (from_be_bytes w32 c) c))))

  cell_goes : (ss : List CellSymbol) → Always Goes (cell_step_at l p ss) []
  cell_goes [] = tt
  cell_goes (Value_of k inner level stop ∷ rest) = value_goes rest k inner level (stop - p.offset)
  cell_goes (Items_of NoMore level stop taken ∷ rest) =
      either_always Goes [] (lenient_excess l (stop - p.offset)) _ _ (λ _. part_goes (Items_of NoMore level stop taken ∷ rest) (level + 1) 0 0 (stop - p.offset) []) (λ _. close_goes rest level stop taken [])
  cell_goes (Items_of (Type_and k inner others) level stop taken ∷ rest) =
      either_always Goes [] (leb stop p.offset) _ _ (λ _. close_goes rest level stop taken []) (λ _. value_goes (Items_of others level stop (taken + 1) ∷ rest) k inner (level + 1) (stop - p.offset))
  cell_goes (Close_of level stop taken ∷ rest) = close_goes rest level stop taken []
  cell_goes (Content_from level offset total ∷ rest) = part_goes rest level 0 offset total []

cells_go : (l : Rules) (es : List (ℕ × CellEvent)) (p q : CellPlace) (b : List ℕ) → Runs (cell_step l) p b es q [] → q.offset ≡ p.offset + length b
cells_go l [] p q b r = rw (r.0, ← r.1) (omega arith)
cells_go l (e ∷ es) p q b r =
    let x : Emitted CellEvent CellPlace = record { at = e.0; event = e.1; after = r.1 } in
    let t = taken (cell_step l p) x r.0 b r.2 in
    let one : (r.1 r.0).offset ≡ p.offset + r.0 = rw t.long at (yields_always (Goes l p) (cell_step l p) x [] t.front (cell_goes l p p.symbols) t.yields) in
    let more = cells_go l es (r.1 r.0) q (drop r.0 b) r.3 in
    omega (arith, one, more, ap length t.whole, length-append t.front t.back, t.long, ap length t.left)

-- What is read of a cell, up to its end.
pub record IsCellRead (l : Rules) (k : Kind) (inner : Types) (at stop : ℕ) (b : List ℕ) (es : List (ℕ × CellEvent)) (q : CellPlace) : Type 0 where
  pub value : Values
  pub spelled : ValueSpells k inner value b
  pub items : es ≡ value_items l at k inner value
  pub within : at + length b ≤ stop
  pub onward : q.offset ≡ at + length b

pub cell_back : (l : Rules) → l.lenient ≡ false → (k : Kind) (inner : Types) (at stop : ℕ) (q : CellPlace) (b : List ℕ) (es : List (ℕ × CellEvent)) → at ≤ stop → q.symbols ≡ [] → Runs (cell_step l) (record { offset = at; symbols = Value_of k inner 0 stop ∷ [] }) b es q []
    → IsCellRead l k inner at stop b es q
cell_back l strict k inner at stop q b es inside done r =
    let h : Comes l (Value_of k inner 0 stop ∷ []) at es b = runs_come l strict es (record { offset = at; symbols = Value_of k inner 0 stop ∷ [] }) q b r done in
    let all : b ≡ h.front = h.whole ∙ ap (λ (y : List ℕ). h.front ++ y) h.later.1 ∙ append-nil h.front in
    let its = value_items l at k inner h.values in
    record {
      value = h.values;
      spelled = subst (λ (y : List ℕ). ValueSpells k inner h.values y) (sym all) h.spelled;
      items = h.items ∙ ap (λ (y : List (ℕ × CellEvent)). its ++ y) h.later.0 ∙ append-nil its;
      within = omega (arith, h.within inside, ap length all);
      onward = cells_go l es (record { offset = at; symbols = Value_of k inner 0 stop ∷ [] }) q b r;
    }
