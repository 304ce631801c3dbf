-- What the next step reads.
use Rattle.std.proofs.Common.{◌≡◌, ℕ, zero, suc, ◌+◌, ◌-◌, ◌^◌, ◌<◌, ◌≤◌, Bool, true, false, ◌||◌, eqb, leb, List, [], ◌∷◌, ◌++◌, length, Option, Some, None, refl, sym, ap, ◌∙◌, append_assoc, inl, inr, arith}
use Rattle.std.proofs.lemmas.Bool.{eqb-true, or_cases}
use Rattle.std.proofs.lemmas.List.{length-append}
use Rattle.cqlp_note.specs.Limits.{Rules}
use Rattle.cqlp_kind.specs.declared.kind.Kind.{Kind}
use Rattle.cqlp_kind.specs.declared.node.Node.{Node}
use Rattle.cqlp_kind.specs.Types.{Types, NoMore, Type_and, HasInner}
use Rattle.cqlp_cell.specs.declared.open_values.OpenValue.{OpenValue}
use Rattle.cqlp_cell.specs.declared.open_values.Order.{Order}
use Rattle.cqlp_cell.specs.declared.open_values.Order.TheVariants as order
use Rattle.cqlp_cell.specs.declared.progress.NextInCell.{NextInCell}
use Rattle.cqlp_cell.specs.declared.progress.NextInCell.TheVariants as next
use Rattle.cqlp_cell.specs.declared.progress.CellDue.{CellDue}
use Rattle.cqlp_cell.specs.declared.progress.CellDue.TheVariants as due
use Rattle.cqlp_cell.specs.declared.progress.DueValue.{DueValue}
use Rattle.cqlp_kind.specs.CellStep.{CellSymbol, Value_of, Items_of, Close_of, CellPlace, cell_copies, cell_step, cell_step_at, value_step, close_step, part_step, lenient_excess}
use Rattle.cqlp_type.specs.Forests.{types_at, node_at, Conform}
use Rattle.cqlp_cell.specs.Progress.{CellState, value_symbols, left_of, open_symbols, all_open_symbols, symbols_for, place, value_at, due_value, open_after, rest_of, after_item_by, after_item, is_over, over_by, due_of, further_by, has_further, TypesConform, Conforms, HasNext}
use Rattle.cqlp_cell.specs.Coming.{ValueDue}
use Rattle.cqlp_cell.proofs.Nesting.{last_is, with_last_is}
use Rattle.cqlp_type.proofs.Inside.{first_conforms}
use Rattle.cqlp_cell.proofs.Opened.{last_stop_is, last_stop_le, levels_symbols_is, open_join, Inmost, value_next, has_next}

pub no_types : (nodes : List Node) (i : ℕ) → types_at nodes i 0 ≡ NoMore
unfolding types_at
no_types nodes i = refl

-- ---- the first type

-- What is known of a value's type: its node, the types in it, and what comes after it.
pub record FirstType (nodes : List Node) (i n depth : ℕ) : Type 0 where
  pub types : types_at nodes i (suc n) ≡ Type_and (node_at nodes i).kind (types_at nodes (i + 1) (node_at nodes i).arity) (types_at nodes (i + (node_at nodes i).span) n)
  pub formed : HasInner (node_at nodes i).kind (node_at nodes i).arity
  pub deep : 0 < depth
  pub inner : Conform nodes (i + 1) (node_at nodes i).arity (depth - 1)
  pub after : Conform nodes (i + (node_at nodes i).span) n depth
  pub within : i + (node_at nodes i).span ≤ length nodes
  pub some : 0 < (node_at nodes i).span
  pub alone : Conform nodes i 1 depth

pub first_type : (nodes : List Node) (i n depth : ℕ) → Conform nodes i (suc n) depth → FirstType nodes i n depth
first_type nodes i n depth s =
    let f = first_conforms nodes i n depth s in
    let here = f.1.here in
    record { types = rw here f.1.is; formed = rw here f.1.formed; deep = f.1.deep; inner = rw here f.1.inner; after = rw here f.1.after; within = rw here f.1.within; some = rw here f.1.some; alone = f.1.alone }

pub one_value : (nodes : List Node) (node depth level stop : ℕ) → Conform nodes node 1 depth
    → value_symbols nodes node level stop ≡ Value_of (node_at nodes node).kind (types_at nodes (node + 1) (node_at nodes node).arity) level stop ∷ []
one_value nodes node depth level stop s =
    let f = first_type nodes node 0 depth s in
    rw (f.types, no_types nodes (node + (node_at nodes node).span)) refl

-- ---- the symbols of an open value, and after its next item

copies_more : (n : ℕ) (symbols rest : List CellSymbol) → 0 < n → cell_copies n symbols ++ rest ≡ symbols ++ (cell_copies (n - 1) symbols ++ rest)
copies_more zero symbols rest lt = absurd (omega arith)
copies_more (suc n) symbols rest lt = let e : suc n - 1 ≡ n = omega arith in rw e (append_assoc symbols (cell_copies n symbols) rest)

-- one symbol first
first_is : (x : CellSymbol) (one rest : List CellSymbol) → one ≡ x ∷ [] → one ++ rest ≡ x ∷ rest
first_is x one rest e = rw e refl

module _ (nodes : List Node) (l : Rules) (level : ℕ) (o : OpenValue) where
  abbrev item : CellSymbol
  item = Value_of (node_at nodes o.node).kind (types_at nodes (o.node + 1) (node_at nodes o.node).arity) (level + 1) o.stop

  abbrev closing : List CellSymbol
  closing = Close_of level o.stop o.items ∷ []

  -- all but fields
  symbols_by : (k : Order) → ((k ≡ order.Fields) → ⊥) → o.order ≡ k → TypesConform nodes l level o k → HasNext nodes o k → left_of nodes level o k ≡ item ∷ left_of nodes level (after_item_by nodes o k) ((after_item_by nodes o k).order)
  symbols_by order.Elements ne e t h =
      let one = one_value nodes o.node _ (level + 1) o.stop t in
      let these = value_symbols nodes o.node (level + 1) o.stop in
      rw e (copies_more o.left these closing h ∙ first_is item these (cell_copies (o.left - 1) these ++ closing) one)
  symbols_by order.Keys ne e t h =
      let one = one_value nodes o.node _ (level + 1) o.stop t.0 in
      let these = value_symbols nodes o.node (level + 1) o.stop in
      let those = value_symbols nodes o.other (level + 1) o.stop in
      let more = cell_copies (o.left - 1) (these ++ those) ++ closing in
      copies_more o.left (these ++ those) closing h ∙ append_assoc these those more ∙ first_is item these (those ++ more) one
  symbols_by order.Values ne e t h =
      let one = one_value nodes o.node _ (level + 1) o.stop t.0 in
      first_is item (value_symbols nodes o.node (level + 1) o.stop) _ one
  symbols_by order.Fields ne e t h = absurd (ne refl)

-- ---- the step

module _ (l : Rules) (p : CellPlace) (rest : List CellSymbol) where
  value_first : (k : Kind) (inner : Types) (level stop : ℕ) → p.symbols ≡ Value_of k inner level stop ∷ rest → cell_step l p ≡ value_step l p rest k inner level (stop - p.offset)
  value_first k inner level stop e = ap (cell_step_at l p) e

  close_first : (level stop taken : ℕ) → p.symbols ≡ Close_of level stop taken ∷ rest → cell_step l p ≡ close_step p rest level stop taken
  close_first level stop taken e = ap (cell_step_at l p) e

  field_first : (k : Kind) (inner others : Types) (level stop taken : ℕ) → leb stop p.offset ≡ false → p.symbols ≡ Items_of (Type_and k inner others) level stop taken ∷ rest
      → cell_step l p ≡ value_step l p (Items_of others level stop (taken + 1) ∷ rest) k inner (level + 1) (stop - p.offset)
  field_first k inner others level stop taken before e = ap (cell_step_at l p) e ∙ rw before refl

  none_first : (level stop taken : ℕ) → lenient_excess l (stop - p.offset) ≡ false → p.symbols ≡ Items_of NoMore level stop taken ∷ rest → cell_step l p ≡ close_step p rest level stop taken
  none_first level stop taken shut e = ap (cell_step_at l p) e ∙ rw shut refl

  over_first : (ts : Types) (level stop taken : ℕ) → leb stop p.offset ≡ true → lenient_excess l (stop - p.offset) ≡ false → p.symbols ≡ Items_of ts level stop taken ∷ rest → cell_step l p ≡ close_step p rest level stop taken
  over_first NoMore level stop taken past shut e = none_first level stop taken shut e
  over_first (Type_and k inner others) level stop taken past shut e = ap (cell_step_at l p) e ∙ rw past refl

-- the kind of the value that these symbols begin with, if they do
abbrev pub first_kind : List CellSymbol → Option Kind
first_kind (Value_of k inner level stop ∷ ss) = Some k
first_kind (Items_of (Type_and k inner others) level stop taken ∷ ss) = Some k
first_kind ss = None

or_right : (a b : Bool) → (a || b) ≡ false → b ≡ false
or_right true b e = absurd cc
or_right false b e = e

-- an item of the innermost open value comes next
module _ (nodes : List Node) (d : CellState) (items : d.next ≡ next.Items) (o : OpenValue) (m : Inmost nodes d o) (more : is_over o d.offset ≡ false) (bounded : d.stop < 2 ^ 64) where
  abbrev level : ℕ
  level = length m.front

  now_symbols : (place nodes d).symbols ≡ open_symbols nodes level o ++ all_open_symbols nodes 0 m.front
  now_symbols = let e : 0 + level ≡ level = omega arith in rw (items, m.is, levels_symbols_is nodes 0 m.front o, e) refl

  after_is : open_after nodes d ≡ m.front ++ after_item nodes o ∷ []
  after_is = rw (items, m.is, last_is m.front o) (with_last_is m.front o (after_item nodes o))

  rest_symbols : rest_of nodes d ≡ open_symbols nodes level (after_item nodes o) ++ all_open_symbols nodes 0 m.front
  rest_symbols = let e : 0 + level ≡ level = omega arith in rw (after_is, levels_symbols_is nodes 0 m.front (after_item nodes o), e) refl

  types : TypesConform nodes d.rules level o o.order
  types = let e : 0 + level ≡ level = omega arith in rw e at m.innermost.types

  value_is : due_value nodes d ≡ value_at nodes o.node o.stop
  value_is = rw (items, m.is, last_is m.front o) refl

  level_is : length d.open_values ≡ level + 1
  level_is = rw m.is (length-append m.front (o ∷ []))

  abbrev outer : List CellSymbol
  outer = all_open_symbols nodes 0 m.front

  abbrev Steps : Type 0
  Steps = cell_step d.rules (place nodes d) ≡ value_step d.rules (place nodes d) (rest_of nodes d) (node_at nodes o.node).kind (types_at nodes (o.node + 1) (node_at nodes o.node).arity) (level + 1) (o.stop - d.offset)

  item_step : (k : Order) → ((k ≡ order.Fields) → ⊥) → o.order ≡ k → Steps
  item_step k ne e =
      let h = has_next nodes d.rules level d.offset o types more in
      let s = symbols_by nodes d.rules level o k ne e (rw e at types) (rw e at h) in
      let now : open_symbols nodes level o ≡ item nodes d.rules level o ∷ open_symbols nodes level (after_item nodes o) =
      ap (left_of nodes level o) e ∙ s ∙ ap (λ (j : Order). item nodes d.rules level o ∷ left_of nodes level (after_item_by nodes o j) (after_item_by nodes o j).order) (sym e) in
      let all : (place nodes d).symbols ≡ item nodes d.rules level o ∷ rest_of nodes d =
      now_symbols ∙ ap (λ (x : List CellSymbol). x ++ outer) now ∙ ap (λ (x : List CellSymbol). item nodes d.rules level o ∷ x) (sym rest_symbols) in
      value_first d.rules (place nodes d) (rest_of nodes d) _ _ (level + 1) o.stop all

  field_step : o.order ≡ order.Fields → Steps
  field_step e =
      let h : HasNext nodes o order.Fields = rw e at (has_next nodes d.rules level d.offset o types more) in
      let t : TypesConform nodes d.rules level o order.Fields = rw e at types in
      let over : over_by o d.offset order.Fields ≡ false = rw e at more in
      let one : o.left ≡ suc (o.left - 1) = omega (arith, h.1) in
      let f = first_type nodes o.node (o.left - 1) _ (rw one at t.0) in
      let others = types_at nodes (o.node + (node_at nodes o.node).span) (o.left - 1) in
      let now : (place nodes d).symbols ≡ Items_of (Type_and (node_at nodes o.node).kind (types_at nodes (o.node + 1) (node_at nodes o.node).arity) others) level o.stop o.items ∷ outer =
      now_symbols ∙ ap (λ (j : Order). left_of nodes level o j ++ outer) e ∙ ap (λ (x : Types). Items_of x level o.stop o.items ∷ outer) (ap (types_at nodes o.node) one ∙ f.types) in
      let rest : rest_of nodes d ≡ Items_of others level o.stop (o.items + 1) ∷ outer =
      rest_symbols ∙ ap (λ (j : Order). left_of nodes level (after_item_by nodes o j) (after_item_by nodes o j).order ++ outer) e ∙ ap (λ (j : Order). left_of nodes level (after_item_by nodes o order.Fields) j ++ outer) e in
      rw rest (field_first d.rules (place nodes d) outer _ _ others level o.stop o.items (or_right _ _ over) now)

  step_by : (k : Order) → o.order ≡ k → Steps
  step_by order.Fields e = field_step e
  step_by order.Elements e = item_step order.Elements (λ x. absurd cc) e
  step_by order.Keys e = item_step order.Keys (λ x. absurd cc) e
  step_by order.Values e = item_step order.Values (λ x. absurd cc) e

  first_item : (k : Order) → ((k ≡ order.Fields) → ⊥) → o.order ≡ k → first_kind (place nodes d).symbols ≡ Some (node_at nodes o.node).kind
  first_item k ne e =
      let h = has_next nodes d.rules level d.offset o types more in
      let s = symbols_by nodes d.rules level o k ne e (rw e at types) (rw e at h) in
      ap first_kind (now_symbols ∙ ap (λ (x : List CellSymbol). x ++ outer) (ap (left_of nodes level o) e ∙ s))

  first_field : o.order ≡ order.Fields → first_kind (place nodes d).symbols ≡ Some (node_at nodes o.node).kind
  first_field e =
      let h : HasNext nodes o order.Fields = rw e at (has_next nodes d.rules level d.offset o types more) in
      let t : TypesConform nodes d.rules level o order.Fields = rw e at types in
      let one : o.left ≡ suc (o.left - 1) = omega (arith, h.1) in
      let f = first_type nodes o.node (o.left - 1) _ (rw one at t.0) in
      ap first_kind (now_symbols ∙ ap (λ (j : Order). left_of nodes level o j ++ outer) e ∙ ap (λ (x : Types). Items_of x level o.stop o.items ∷ outer) (ap (types_at nodes o.node) one ∙ f.types))

  first_by : (k : Order) → o.order ≡ k → first_kind (place nodes d).symbols ≡ Some (node_at nodes o.node).kind
  first_by order.Fields e = first_field e
  first_by order.Elements e = first_item order.Elements (λ x. absurd cc) e
  first_by order.Keys e = first_item order.Keys (λ x. absurd cc) e
  first_by order.Values e = first_item order.Values (λ x. absurd cc) e

  item_first : first_kind (place nodes d).symbols ≡ Some (due_value nodes d).kind
  item_first = first_by o.order refl ∙ sym (ap (λ (v : DueValue). Some v.kind) value_is)

  -- ---- what comes after it

  passed_stop : (k : Order) → (after_item_by nodes o k).stop ≡ o.stop
  passed_stop order.Elements = refl
  passed_stop order.Keys = refl
  passed_stop order.Values = refl
  passed_stop order.Fields = refl

  passed_types : (k : Order) → o.order ≡ k → TypesConform nodes d.rules level o k → HasNext nodes o k → TypesConform nodes d.rules level (after_item_by nodes o k) (after_item_by nodes o k).order
  passed_types order.Elements e t h = rw e t
  passed_types order.Keys e t h = (t.1, t.0)
  passed_types order.Values e t h = (t.1, t.0)
  passed_types order.Fields e t h =
      let one : o.left ≡ suc (o.left - 1) = omega (arith, h.1) in
      let f = first_type nodes o.node (o.left - 1) _ (rw one at t.0) in
      rw e (f.after, omega (arith, t.1, h.1))

  item_types : (k : Order) → TypesConform nodes d.rules level o k → HasNext nodes o k → (n : ℕ) × FirstType nodes o.node n (d.rules.depth - (level + 1))
  item_types order.Elements t h = (0, first_type nodes o.node 0 _ t)
  item_types order.Keys t h = (0, first_type nodes o.node 0 _ t.0)
  item_types order.Values t h = (0, first_type nodes o.node 0 _ t.0)
  item_types order.Fields t h =
      let one : o.left ≡ suc (o.left - 1) = omega (arith, h.1) in
      (o.left - 1, first_type nodes o.node (o.left - 1) _ (rw one at t.0))

  item_due : ValueDue nodes d
  item_due =
      let h = has_next nodes d.rules level d.offset o types more in
      let f = (item_types o.order types h).1 in
      let after = passed_types o.order refl types h in
      let stop = passed_stop o.order in
      let start : 0 + level ≡ level = omega arith in
      let depth : (d.rules.depth - (level + 1)) - 1 ≡ d.rules.depth - ((level + 1) + 1) = omega arith in
      record {
        step = rw (value_is, level_is) (step_by o.order refl);
        inside = rw value_is (omega (arith, m.inside));
        inner = λ _. record { formed = rw value_is f.formed; conforms = rw (value_is, level_is) (rw depth at f.inner); deep = rw level_is (omega (arith, f.deep)) };
        bounded = rw value_is (omega (arith, m.innermost.within, last_stop_le nodes d.rules 0 d.stop m.front m.innermost.around, bounded));
        after = rw after_is (open_join nodes d.rules 0 d.stop m.front (after_item nodes o) (record { around = m.innermost.around; within = rw stop m.innermost.within; deep = m.innermost.deep; types = rw start after }));
        ends = rw (after_is, value_is) (last_stop_is d.stop m.front (after_item nodes o) ∙ stop);
        level = rw (after_is, m.is) (length-append m.front (after_item nodes o ∷ []) ∙ sym (length-append m.front (o ∷ [])));
      }

-- the cell comes next
module _ (nodes : List Node) (d : CellState) (conforms : Conforms nodes d) where
  raw_due : d.next ≡ next.Cell None → ValueDue nodes d
  raw_due e =
      let n = rw e at conforms.next_conforms in
      let w = rw (e, n.0) at conforms.within in
      record {
        step = rw (e, n.0, no_types nodes 0) refl;
        inside = rw e (omega (arith, w));
        inner = λ t. let no : true ≡ false = rw e at t in absurd cc;
        bounded = rw e conforms.bounded;
        after = rw (e, n.0) tt;
        ends = rw (e, n.0) refl;
        level = rw (e, n.0) refl;
      }

  cell_due : (node : ℕ) → d.next ≡ next.Cell (Some node) → ValueDue nodes d
  cell_due node e =
      let n = rw e at conforms.next_conforms in
      let w = rw (e, n.0) at conforms.within in
      let one = one_value nodes node d.rules.depth 0 d.stop n.1 in
      let f = first_type nodes node 0 d.rules.depth n.1 in
      record {
        step = rw (e, n.0, one) refl;
        inside = rw e (omega (arith, w));
        inner = λ t. record { formed = rw e f.formed; conforms = rw (e, n.0) f.inner; deep = rw n.0 f.deep };
        bounded = rw e conforms.bounded;
        after = rw (e, n.0) tt;
        ends = rw (e, n.0) refl;
        level = rw (e, n.0) refl;
      }

  any_cell_due : (node : Option ℕ) → d.next ≡ next.Cell node → ValueDue nodes d
  any_cell_due None e = raw_due e
  any_cell_due (Some node) e = cell_due node e

  due_by : (n : NextInCell) → d.next ≡ n → due_of d ≡ due.Value → ValueDue nodes d
  due_by next.Nothing e v = let no : ◌≡◌ {A = CellDue} due.Nothing due.Value = rw e at v in absurd cc
  due_by (next.Cell node) e v = any_cell_due node e
  due_by next.Items e v = let r = value_next nodes d conforms e v in item_due nodes d e r.0 r.1 r.2 conforms.bounded
  due_by (next.Part offset total) e v = let no : ◌≡◌ {A = CellDue} (due.Part offset total) due.Value = rw e at v in absurd cc

  pub value_due : due_of d ≡ due.Value → ValueDue nodes d
  value_due v = due_by d.next refl v

-- ---- its kind

module _ (nodes : List Node) (d : CellState) (conforms : Conforms nodes d) where
  cell_first : (node : Option ℕ) → d.next ≡ next.Cell node → first_kind (place nodes d).symbols ≡ Some (due_value nodes d).kind
  cell_first None e = rw e refl
  cell_first (Some node) e =
      let n = rw e at conforms.next_conforms in
      rw (e, one_value nodes node d.rules.depth 0 d.stop n.1) refl

  first_in : (n : NextInCell) → d.next ≡ n → due_of d ≡ due.Value → first_kind (place nodes d).symbols ≡ Some (due_value nodes d).kind
  first_in next.Nothing e v = let no : ◌≡◌ {A = CellDue} due.Nothing due.Value = rw e at v in absurd cc
  first_in (next.Cell node) e v = cell_first node e
  first_in next.Items e v = let r = value_next nodes d conforms e v in item_first nodes d e r.0 r.1 r.2 conforms.bounded
  first_in (next.Part offset total) e v = let no : ◌≡◌ {A = CellDue} (due.Part offset total) due.Value = rw e at v in absurd cc

  pub value_first_is : due_of d ≡ due.Value → first_kind (place nodes d).symbols ≡ Some (due_value nodes d).kind
  value_first_is v = first_in d.next refl v

-- ---- the end of the innermost value

close_items_by : (d : CellState) (o : OpenValue) (n : NextInCell) → d.next ≡ n → due_of d ≡ due.Close o → d.next ≡ next.Items
close_items_by d o next.Nothing e v = let no : ◌≡◌ {A = CellDue} due.Nothing (due.Close o) = rw e at v in absurd cc
close_items_by d o (next.Cell _) e v = let no : ◌≡◌ {A = CellDue} due.Value (due.Close o) = rw e at v in absurd cc
close_items_by d o next.Items e v = e
close_items_by d o (next.Part offset total) e v = let no : ◌≡◌ {A = CellDue} (due.Part offset total) (due.Close o) = rw e at v in absurd cc

pub close_items : (d : CellState) (o : OpenValue) → due_of d ≡ due.Close o → d.next ≡ next.Items
close_items d o v = close_items_by d o d.next refl v

module _ (nodes : List Node) (d : CellState) (items : d.next ≡ next.Items) (o : OpenValue) (m : Inmost nodes d o) (over : is_over o d.offset ≡ true) (shut : has_further d.rules o d.offset ≡ false) where
  close_by : (k : Order) → o.order ≡ k → over_by o d.offset k ≡ true → further_by d.rules (o.stop - d.offset) k ≡ false → (place nodes d).symbols ≡ left_of nodes (length m.front) o k ++ all_open_symbols nodes 0 m.front
      → cell_step d.rules (place nodes d) ≡ close_step (place nodes d) (all_open_symbols nodes 0 m.front) (length m.front) o.stop o.items
  close_by order.Elements e t f now = close_first d.rules (place nodes d) _ _ o.stop o.items (now ∙ rw (eqb-true o.left 0 t) refl)
  close_by order.Keys e t f now = close_first d.rules (place nodes d) _ _ o.stop o.items (now ∙ rw (eqb-true o.left 0 t) refl)
  close_by order.Values e t f now = absurd cc
  close_by order.Fields e t f now = elim (or_cases (eqb o.left 0) (leb o.stop d.offset) t) [
    | inl none ↦ none_first d.rules (place nodes d) _ _ o.stop o.items f (now ∙ rw (eqb-true o.left 0 none, no_types nodes o.node) refl)
    | inr past ↦ over_first d.rules (place nodes d) _ (types_at nodes o.node o.left) _ o.stop o.items past f now
  ]

  pub close_is : cell_step d.rules (place nodes d) ≡ close_step (place nodes d) (all_open_symbols nodes 0 m.front) (length m.front) o.stop o.items
  close_is =
      let e : 0 + length m.front ≡ length m.front = omega arith in
      close_by o.order refl over shut (rw (items, m.is, levels_symbols_is nodes 0 m.front o, e) refl)

pub part_is : (nodes : List Node) (d : CellState) (offset total : ℕ) → d.next ≡ next.Part offset total → cell_step d.rules (place nodes d) ≡ part_step d.rules (place nodes d) (all_open_symbols nodes 0 d.open_values) (length d.open_values) 0 offset total
part_is nodes d offset total e = ap (λ (n : NextInCell). cell_step_at d.rules (place nodes d) (symbols_for nodes d.stop d.open_values n)) e
