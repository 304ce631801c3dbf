-- What is read in a frame is spelled: the bytes that were read spell parts, which come of the symbols that were due, and
-- whose events were said.
use Rattle.std.proofs.Common.{◌≡◌, ℕ, zero, suc, ◌+◌, ◌-◌, ◌<◌, ◌≤◌, Bool, true, false, List, [], ◌∷◌, ◌++◌, length, Option, Some, None, refl, sym, ap, ◌∙◌, subst, append_assoc, arith}
use Rattle.std.specs.Prelude.{map}
use Rattle.std.proofs.lemmas.List.{append-nil, length-append}
use Rattle.cqlp_note.specs.declared.field.Field.{Field}
use Rattle.cqlp_note.specs.declared.field.Notation.{Notation}
use Rattle.cqlp_note.specs.declared.refusal.Reason.{Reason}
use Rattle.cqlp_note.specs.Field.{FieldValue, field_of, content_length}
use Rattle.cqlp_note.specs.Limits.{Rules, limit_of}
use Rattle.cqlp_note.specs.Spelling.{Spells}
use Rattle.cqlp_note.specs.Step.{Emitted, after_field, map_step, Runs}
use Rattle.cqlp_note.proofs.Yields.{Yields}
use Rattle.cqlp_kind.specs.declared.kind.Kind.{Kind}
use Rattle.cqlp_kind.specs.declared.node.Node.{Node}
use Rattle.cqlp_kind.specs.Types.{Types, NoMore, Type_and, how_many, preorder, followed_by}
use Rattle.cqlp_kind.specs.TypeStep.{TypeSymbol, Option_at, TypeEvent, TypePlace, type_step}
use Rattle.cqlp_type.specs.Trees.{Trees, trees_items, types_in, options_in}
use Rattle.cqlp_type.specs.Pushing.{IsWhole}
use Rattle.cqlp_type.proofs.Forests.{many_nodes, types_of_own_preorder}
use Rattle.cqlp_type.proofs.ReadBack.{option_read}
use Rattle.cqlp_kind.specs.CellStep.{CellSymbol, Value_of, CellEvent, CellPlace, cell_step}
use Rattle.cqlp_grammar.specs.declared.grammar.Role.{Role}
use Rattle.cqlp_grammar.specs.declared.grammar.Role.TheVariants as role
use Rattle.cqlp_grammar.specs.Events.{Event, Holds, type_event, cell_event}
use Rattle.cqlp_message.specs.Parts.{Part, Field_is, Type_is, Cell_is, PartSpells, PartsSpell, part_size, part_events, parts_events, PartWithin, PartsWithin}
use Rattle.cqlp_grammar.specs.Productions.{Symbol, Stream, In, In_type, Cell_due, In_cell, Extra, following, fault_in}
use Rattle.cqlp_message.proofs.Derives.{described_after, cells_of, nodes_in, same, Derives}
use Rattle.cqlp_decode.specs.Reading.{Place, Nothing, types_for, nodes_after, given_after, place_after, value_step, types_left, cells_left, place_of_types, place_of_cells, step, Reads}
use Rattle.cqlp_laws.proofs.RunsBack.{Taken, taken, after_back, field_back, runs_exact, part_off}
use Rattle.cqlp_laws.proofs.Due.{AreDue, new_due, following_new}
use Rattle.cqlp_message.proofs.Sizes.{part_sized}
use Rattle.cqlp_laws.proofs.PartLimits.{field_within, AllShort, options_short, placed_short, AllCells, cells_kept, values_within}
use Rattle.cqlp_laws.proofs.InnerRuns.{GetsOn, options_get, IsCellRead, cell_back}

-- a place in a frame, where metadata has described these types and the caller has given none
abbrev pub inside : (at stop : ℕ) → List Symbol → (described : Types) → Place
inside at stop ss described = record { offset = at; stop = stop; symbols = ss; nodes = preorder described; given = Nothing; gifts = [] }

-- the end of a frame, or of none, is due
abbrev pub IsAtEnd : List Symbol → Type 0
IsAtEnd [] = ⊥
IsAtEnd (Stream ∷ rest) = Unit {0}
IsAtEnd (Extra ∷ rest) = Unit {0}
IsAtEnd (s ∷ rest) = ⊥

-- These bytes begin with parts that come of the symbols, whose events are said first; after them the frame's end is due,
-- from where the rest is read.
pub record ReadsParts (l : Rules) (at stop : ℕ) (ss : List Symbol) (described : Types) (b : List ℕ) (es : List (ℕ × Event)) (q : Place) (left : List ℕ) : Type 0 where
  pub parts : List Part
  pub body : List ℕ
  pub back : List ℕ
  pub later : List (ℕ × Event)
  pub described' : Types
  pub whole : b ≡ body ++ back
  pub derives : Derives l parts ss described
  pub spelled : PartsSpell parts body
  pub limits : PartsWithin l parts
  pub events : es ≡ parts_events l at parts ++ later
  pub within : at + length body ≤ stop
  pub onward : Reads l (inside (at + length body) stop (Extra ∷ []) described') back later q left

-- ---- runs inside

are_none : {A : Type 0} → List A → Bool
are_none [] = true
are_none (x ∷ xs) = false

none : {A : Type 0} (xs : List A) → are_none xs ≡ true → xs ≡ []
unfolding are_none
none [] e = refl
none (x ∷ xs) e = absurd cc

types_over : (ts : List TypeSymbol) (rest : List Symbol) → IsAtEnd (types_left ts ++ rest) → are_none ts ≡ true
unfolding are_none
types_over [] rest ends = refl
types_over (t ∷ ts) rest ends = absurd ends

cells_over : (row column : ℕ) (cs : List CellSymbol) (rest : List Symbol) → IsAtEnd (cells_left row column cs ++ rest) → are_none cs ≡ true
unfolding are_none
cells_over row column [] rest ends = refl
cells_over row column (c ∷ cs) rest ends = absurd ends

module _ (l : Rules) (at end : ℕ) (described : Types) (rest : List Symbol) where
  abbrev p : Place
  p = inside at end rest described

  option_steps : (offset stop : ℕ) (ts : List TypeSymbol) (nodes : List Node) → are_none ts ≡ false
      → let q : TypePlace = record { offset = offset; stop = stop; symbols = ts; nodes = nodes } in step l (place_of_types p rest q) ≡ map_step type_event (place_of_types p rest) (type_step l q)
  unfolding are_none
  option_steps offset stop [] nodes e = absurd cc
  option_steps offset stop (t ∷ ts) nodes e = refl

  cell_steps : (row column offset : ℕ) (cs : List CellSymbol) → are_none cs ≡ false
      → let q : CellPlace = record { offset = offset; symbols = cs } in step l (place_of_cells row column p rest q) ≡ map_step (cell_event row column) (place_of_cells row column p rest) (cell_step l q)
  unfolding are_none
  cell_steps row column offset [] e = absurd cc
  cell_steps row column offset (c ∷ cs) e = refl

shorter_part : {A B : Type 0} (g : A → B) (items : List A) (es later : List B) (n : ℕ) → es ≡ map g items ++ later → (items ≡ [] → ⊥) → length es ≤ n → length later < n
shorter_part g [] es later n is some le = absurd (some refl)
shorter_part g (x ∷ items) es later n is some le = omega (arith, ap length is, length-append (map g (x ∷ items)) later)

-- ---- one part

types_described : (t : Bool) (r : Role) (described : Types) → t ≡ true → types_for t r (preorder described) Nothing ≡ cells_of r described
types_described false r described on = absurd cc
types_described true (role.PageRows flags columns) described on = rw (types_of_own_preorder described)
types_described true r described on = refl

nodes_described : (r : Role) (described : Types) → nodes_after r (preorder described) ≡ preorder (described_after r described)
nodes_described (role.MetaFlags rows) described = refl
nodes_described role.PreparedFlags described = refl
nodes_described r described = refl

none_given : (r : Role) → given_after r Nothing ≡ Nothing
none_given (role.PageRows flags columns) = refl
none_given r = refl

preorder_followed : (ts us : Types) → preorder (followed_by ts us) ≡ preorder ts ++ preorder us
preorder_followed NoMore us = refl
preorder_followed (Type_and k inner others) us =
    let first : Node = record { kind = k; arity = how_many inner; span = suc (length (preorder inner)) } in
    ap (λ (x : List Node). first ∷ (preorder inner ++ x)) (preorder_followed others us) ∙ ap (λ (x : List Node). first ∷ x) (sym (append_assoc (preorder inner) (preorder others) (preorder us)))

-- What a field's step read.
record FieldRead (l : Rules) (p : Place) (f : Field) (m : Notation) (r : Role) (rest : List Symbol) (x : Emitted Event Place) (b : List ℕ) : Type 0 where
  value : FieldValue
  spelled : Spells m value b
  limit : content_length value ≤ limit_of l m
  room : length b ≤ p.stop - p.offset
  none : fault_in r value ≡ None
  event : x ≡ record { at = p.offset; event = Holds f value; after = place_after l.types p r rest value }

module _ (l : Rules) (stop : ℕ) where
  -- a part, and those that are read after it
  part_joined : (part : Part) (at : ℕ) (ss ss' : List Symbol) (described described' : Types) (front back b : List ℕ) (es fs : List (ℕ × Event)) (q : Place) (left : List ℕ) → b ≡ front ++ back → PartSpells part front → PartWithin l part → es ≡ part_events l at part ++ fs
      → ReadsParts l (at + length front) stop ss' described' back fs q left → ((ps : List Part) → Derives l ps ss' described' → Derives l (part ∷ ps) ss described) → ReadsParts l at stop ss described b es q left
  part_joined part at ss ss' described described' front back b es fs q left whole spelled limit events r derives =
      let long : (at + length front) + length r.body ≡ at + length (front ++ r.body) = omega (arith, length-append front r.body) in
      let size : at + length front ≡ at + part_size part = ap (λ (n : ℕ). at + n) (part_sized part front spelled) in
      record {
        parts = part ∷ r.parts;
        body = front ++ r.body;
        back = r.back;
        later = r.later;
        described' = r.described';
        whole = whole ∙ ap (λ (x : List ℕ). front ++ x) r.whole ∙ sym (append_assoc front r.body r.back);
        derives = derives r.parts r.derives;
        spelled = record { front = front; back = r.body; whole = refl; this = spelled; that = r.spelled };
        limits = (limit, r.limits);
        events = events ∙ ap (λ (x : List (ℕ × Event)). part_events l at part ++ x) (r.events ∙ ap (λ (n : ℕ). parts_events l n r.parts ++ r.later) size) ∙ sym (append_assoc (part_events l at part) (parts_events l (at + part_size part) r.parts) r.later);
        within = rw long at r.within;
        onward = rw long at r.onward;
      }

  -- ---- what a field's step read

  module _ (p : Place) (f : Field) (m : Notation) (r : Role) (rest : List Symbol) (x : Emitted Event Place) where
    value_back : (v : FieldValue) (o : Option Reason) (b : List ℕ) → Yields (value_step l.types p f r rest v o) x b → (o ≡ None) × (b ≡ []) × (x ≡ record { at = p.offset; event = Holds f v; after = place_after l.types p r rest v })
    value_back v None b y = (refl, y.1, sym y.0)
    value_back v (Some why) b y = absurd y

    field_made : (v : FieldValue) (front back b : List ℕ) → b ≡ front ++ back → Yields (field_of m (limit_of l m) (p.stop - p.offset)) v front → Yields (value_step l.types p f r rest v (fault_in r v)) x back → FieldRead l p f m r rest x b
    field_made v front back b whole y z =
        let k = value_back v (fault_in r v) back z in
        let all : front ≡ b = sym (append-nil front) ∙ ap (λ (c : List ℕ). front ++ c) (sym k.1) ∙ sym whole in
        let got = field_back m (limit_of l m) (p.stop - p.offset) v front y in
        record {
          value = v;
          spelled = subst (λ (c : List ℕ). Spells m v c) all got.0;
          limit = field_within (limit_of l m) (p.stop - p.offset) m v front y;
          room = subst (λ (c : List ℕ). length c ≤ p.stop - p.offset) all got.1;
          none = k.0;
          event = k.2;
        }

    field_came : (b : List ℕ) → Yields (after_field p.offset (field_of m (limit_of l m) (p.stop - p.offset)) (λ v. value_step l.types p f r rest v (fault_in r v))) x b → FieldRead l p f m r rest x b
    field_came b y =
        let a = after_back p.offset (field_of m (limit_of l m) (p.stop - p.offset)) (λ v. value_step l.types p f r rest v (fault_in r v)) x b y in
        field_made a.0 a.1 a.2 b a.3 a.4 a.5

  -- where a shorter run leads from a place in the frame
  abbrev Shorter : ℕ → Type 0
  Shorter n = (es : List (ℕ × Event)) (at : ℕ) (ss : List Symbol) (described : Types) (b : List ℕ) (q : Place) (left : List ℕ) → length es < n → AreDue ss → at ≤ stop → IsAtEnd q.symbols → Reads l (inside at stop ss described) b es q left
      → ReadsParts l at stop ss described b es q left

  module _ (n : ℕ) (shorter : Shorter n) (at : ℕ) (rest : List Symbol) (described : Types) (b : List ℕ) (q : Place) (left : List ℕ) (due : AreDue rest) (room : at ≤ stop) (ends : IsAtEnd q.symbols) where
    -- ---- a field

    module _ (f : Field) (m : Notation) (r : Role) (on : l.types ≡ true) where
      abbrev at_field : Place
      at_field = inside at stop (In f m r ∷ rest) described

      field_place : (x : Emitted Event Place) (v : FieldValue) (used k : ℕ) → x ≡ record { at = at; event = Holds f v; after = place_after l.types at_field r rest v } → k ≡ used → x.after used ≡ inside (at + k) stop (following (cells_of r described) r v ++ rest) (described_after r described)
      field_place x v used k is long =
          ap (λ (y : Emitted Event Place). y.after used) is ∙ (λ i. record { offset = at + sym long i; stop = stop; symbols = following (types_described l.types r described on i) r v ++ rest; nodes = nodes_described r described i; given = none_given r i; gifts = [] })

      field_joined : (x : Emitted Event Place) (used : ℕ) (es : List (ℕ × Event)) (t : Taken (step l at_field) x used b) → FieldRead l at_field f m r rest x t.front → length es < n → Reads l (x.after used) t.back es q left
          → ReadsParts l at stop (In f m r ∷ rest) described b ((x.at, x.event) ∷ es) q left
      field_joined x used es t k short run =
          let next = following (cells_of r described) r k.value ++ rest in
          let inner : at + length t.front ≤ stop = omega (arith, k.room, room) in
          let place = field_place x k.value used (length t.front) k.event t.long in
          part_joined (Field_is f m k.value) at (In f m r ∷ rest) next described (described_after r described) t.front t.back b ((x.at, x.event) ∷ es) es q left t.whole k.spelled k.limit (ap (λ (y : Emitted Event Place). (y.at, y.event) ∷ es) k.event)
          (shorter es (at + length t.front) next (described_after r described) t.back q left short (new_due (following (cells_of r described) r k.value) rest (following_new (cells_of r described) r k.value) due) inner ends (subst (λ (y : Place). Reads l y t.back es q left) place run))
          (λ ps d. (same, k.none, d))

      field_read : (e : ℕ × Event) (es : List (ℕ × Event)) → length es < n → Reads l at_field b (e ∷ es) q left → ReadsParts l at stop (In f m r ∷ rest) described b (e ∷ es) q left
      field_read e es short run =
          let x : Emitted Event Place = record { at = e.0; event = e.1; after = run.1 } in
          let t = taken (step l at_field) x run.0 b run.2 in
          field_joined x run.0 es t (field_came at_field f m r rest x t.front t.yields) short (rw t.left at run.3)

    -- ---- a type option

    abbrev to_place : TypePlace → Place
    to_place = place_of_types (inside at stop rest described) rest

    abbrev first_option : TypePlace
    first_option = record { offset = at; stop = stop; symbols = Option_at 1 ∷ []; nodes = preorder described }

    type_place : (w : Trees) (last : TypePlace) (k : ℕ) → GetsOn l first_option last k → last.symbols ≡ [] → last.nodes ≡ preorder described ++ preorder (types_in w) → to_place last ≡ inside (at + k) stop rest (followed_by described (types_in w))
    type_place w last k gets over table =
        let nodes : last.nodes ≡ preorder (followed_by described (types_in w)) = table ∙ sym (preorder_followed described (types_in w)) in
        λ i. record { offset = gets.onward i; stop = gets.same_stop i; symbols = types_left (over i) ++ rest; nodes = nodes i; given = Nothing; gifts = [] }

    type_few : (w : Trees) (last : TypePlace) (k : ℕ) → GetsOn l first_option last k → last.symbols ≡ [] → last.nodes ≡ preorder described ++ preorder (types_in w) → nodes_in described + options_in w ≤ l.entries
    type_few w last k gets over table =
        let counted : length last.nodes ≤ l.entries = rw over at gets.counted in
        omega (arith, counted, ap length table, length-append (preorder described) (preorder (types_in w)), many_nodes w)

    type_joined : l.lenient ≡ false → (items : List (ℕ × TypeEvent)) (last : TypePlace) (front between : List ℕ) (es later : List (ℕ × Event)) → b ≡ front ++ between → es ≡ map (λ e. (e.0, type_event e.1)) items ++ later → last.symbols ≡ [] → AllShort l items
        → GetsOn l first_option last (length front) → IsWhole l 1 at (preorder described) front items last.nodes → length later < n → Reads l (to_place last) between later q left
        → ReadsParts l at stop (In_type (Option_at 1 ∷ []) ∷ rest) described b es q left
    type_joined strict items last front between es later whole events over short gets w fewer run =
        let described' = followed_by described (types_in w.tree) in
        let inner : at + length front ≤ stop = omega (arith, gets.within, gets.onward, gets.same_stop) in
        let place = type_place w.tree last (length front) gets over w.table in
        part_joined (Type_is w.tree) at (In_type (Option_at 1 ∷ []) ∷ rest) rest described described' front between b es later q left whole (record { one = w.one; formed = w.are strict; spelled = w.spelled strict })
        (w.shallow, placed_short l at (trees_items false w.tree) (subst (λ (z : List (ℕ × TypeEvent)). AllShort l z) w.items short))
        (subst (λ (z : List (ℕ × TypeEvent)). es ≡ map (λ e. (e.0, type_event e.1)) z ++ later) w.items events)
        (shorter later (at + length front) rest described' between q left fewer due inner ends (subst (λ (y : Place). Reads l y between later q left) place run))
        (λ ps d. (refl, type_few w.tree last (length front) gets over w.table, d))

    some_types : (items : List (ℕ × TypeEvent)) (last : TypePlace) (front : List ℕ) → last.symbols ≡ [] → Runs (type_step l) first_option front items last [] → items ≡ [] → ⊥
    some_types [] last front over run none = let begun : Option_at 1 ∷ [] ≡ [] = ap (λ (y : TypePlace). y.symbols) (sym run.0) ∙ over in cc
    some_types (e ∷ items) last front over run none = cc

    type_whole : l.lenient ≡ false → (items : List (ℕ × TypeEvent)) (last : TypePlace) (front between : List ℕ) (es later : List (ℕ × Event)) → b ≡ front ++ between → es ≡ map (λ e. (e.0, type_event e.1)) items ++ later → last.symbols ≡ [] → Runs (type_step l) first_option front items last []
        → length es ≤ n → Reads l (to_place last) between later q left → ReadsParts l at stop (In_type (Option_at 1 ∷ []) ∷ rest) described b es q left
    type_whole strict items last front between es later whole events over run le onward =
        type_joined strict items last front between es later whole events over (options_short l items first_option last front run) (options_get l items first_option last front room tt run) (option_read l 1 first_option last front items refl over run)
        (shorter_part (λ e. (e.0, type_event e.1)) items es later n events (some_types items last front over run) le) onward

    type_read : l.lenient ≡ false → (es : List (ℕ × Event)) → length es ≤ n → Reads l (inside at stop (In_type (Option_at 1 ∷ []) ∷ rest) described) b es q left → ReadsParts l at stop (In_type (Option_at 1 ∷ []) ∷ rest) described b es q left
    type_read strict es le run =
        let out : (r : TypePlace) → q ≡ to_place r → are_none r.symbols ≡ true = λ r is. types_over r.symbols rest (subst (λ (y : Place). IsAtEnd y.symbols) is ends) in
        let k = part_off (step l) (type_step l) type_event to_place (λ r. are_none r.symbols) (λ r some. option_steps l at stop described rest r.offset r.stop r.symbols r.nodes some) es first_option b q left out run in
        let x = runs_exact (type_step l) first_option k.last b k.between k.items k.first in
        type_whole strict k.items k.last x.0 k.between es k.later x.1 k.events (none k.last.symbols k.over) x.2 le k.onward

    -- ---- a cell

    module _ (row column : ℕ) (c : Kind) (inner : Types) (strict : l.lenient ≡ false) where
      abbrev of_cell : CellPlace → Place
      of_cell = place_of_cells row column (inside at stop rest described) rest

      abbrev first_value : CellPlace
      first_value = record { offset = at; symbols = Value_of c inner 0 stop ∷ [] }

      cell_joined : (items : List (ℕ × CellEvent)) (last : CellPlace) (front between : List ℕ) (es later : List (ℕ × Event)) → b ≡ front ++ between → es ≡ map (λ e. (e.0, cell_event row column e.1)) items ++ later → last.symbols ≡ [] → AllCells l items
          → IsCellRead l c inner at stop front items last → length later < n → Reads l (of_cell last) between later q left → ReadsParts l at stop (Cell_due row column c inner ∷ rest) described b es q left
      cell_joined items last front between es later whole events over kept v fewer run =
          let place : of_cell last ≡ inside (at + length front) stop rest described = λ i. record { offset = v.onward i; stop = stop; symbols = cells_left row column (over i) ++ rest; nodes = preorder described; given = Nothing; gifts = [] } in
          part_joined (Cell_is row column c inner v.value) at (Cell_due row column c inner ∷ rest) rest described described front between b es later q left whole v.spelled
          (values_within l (Type_and c inner NoMore) v.value 0 at front v.spelled (subst (λ (z : List (ℕ × CellEvent)). AllCells l z) v.items kept))
          (subst (λ (z : List (ℕ × CellEvent)). es ≡ map (λ e. (e.0, cell_event row column e.1)) z ++ later) v.items events)
          (shorter later (at + length front) rest described between q left fewer due v.within ends (subst (λ (y : Place). Reads l y between later q left) place run))
          (λ ps d. (record { row_is = refl; column_is = refl; kind_is = refl; inner_is = refl }, d))

      some_values : (items : List (ℕ × CellEvent)) (last : CellPlace) (front : List ℕ) → last.symbols ≡ [] → Runs (cell_step l) first_value front items last [] → items ≡ [] → ⊥
      some_values [] last front over run none = let begun : Value_of c inner 0 stop ∷ [] ≡ [] = ap (λ (y : CellPlace). y.symbols) (sym run.0) ∙ over in cc
      some_values (e ∷ items) last front over run none = cc

      cell_whole : (items : List (ℕ × CellEvent)) (last : CellPlace) (front between : List ℕ) (es later : List (ℕ × Event)) → b ≡ front ++ between → es ≡ map (λ e. (e.0, cell_event row column e.1)) items ++ later → last.symbols ≡ []
          → Runs (cell_step l) first_value front items last [] → length es ≤ n → Reads l (of_cell last) between later q left → ReadsParts l at stop (Cell_due row column c inner ∷ rest) described b es q left
      cell_whole items last front between es later whole events over run le onward =
          cell_joined items last front between es later whole events over (cells_kept l items first_value last front run) (cell_back l strict c inner at stop last front items room over run)
          (shorter_part (λ e. (e.0, cell_event row column e.1)) items es later n events (some_values items last front over run) le) onward

      cell_read : (e : ℕ × Event) (es : List (ℕ × Event)) → length (e ∷ es) ≤ n → Reads l (inside at stop (Cell_due row column c inner ∷ rest) described) b (e ∷ es) q left → ReadsParts l at stop (Cell_due row column c inner ∷ rest) described b (e ∷ es) q left
      cell_read e es le run =
          let out : (r : CellPlace) → q ≡ of_cell r → are_none r.symbols ≡ true = λ r is. cells_over row column r.symbols rest (subst (λ (y : Place). IsAtEnd y.symbols) is ends) in
          let k = part_off (step l) (cell_step l) (cell_event row column) of_cell (λ r. are_none r.symbols) (λ r some. cell_steps l at stop described rest row column r.offset r.symbols some) (e ∷ es) first_value b q left out run in
          let x = runs_exact (cell_step l) first_value k.last b k.between k.items k.first in
          cell_whole k.items k.last x.0 k.between (e ∷ es) k.later x.1 k.events (none k.last.symbols k.over) x.2 le k.onward

-- ---- all parts

module _ (l : Rules) (stop : ℕ) (on : l.types ≡ true) (strict : l.lenient ≡ false) where
  read_by : (n : ℕ) → Shorter l stop n
  read_by n es at [] described b q left lt due room ends run = absurd due
  read_by n es at (Stream ∷ rest) described b q left lt due room ends run = absurd due
  read_by n es at (In_cell row column cs ∷ rest) described b q left lt due room ends run = absurd due
  read_by n es at (Extra ∷ rest) described b q left lt due room ends run =
      let none : at + length {A = ℕ} [] ≡ at = omega arith in
      record { parts = []; body = []; back = b; later = es; described' = described; whole = refl; derives = ap (λ (ss : List Symbol). Extra ∷ ss) due; spelled = refl; limits = tt; events = refl; within = omega (arith, room); onward = rw (none, ← due) run }
  read_by n [] at (In f m r ∷ rest) described b q left lt due room ends run = absurd (subst (λ (y : Place). IsAtEnd y.symbols) run.0 ends)
  read_by n [] at (In_type ts ∷ rest) described b q left lt due room ends run = absurd (subst (λ (y : Place). IsAtEnd y.symbols) run.0 ends)
  read_by n [] at (Cell_due row column k inner ∷ rest) described b q left lt due room ends run = absurd (subst (λ (y : Place). IsAtEnd y.symbols) run.0 ends)
  read_by zero (e ∷ es) at ss described b q left lt due room ends run = absurd (omega arith)
  read_by (suc n) (e ∷ es) at (In f m r ∷ rest) described b q left lt due room ends run = field_read l stop n (read_by n) at rest described b q left due room ends f m r on e es (omega arith) run
  read_by (suc n) (e ∷ es) at (In_type ts ∷ rest) described b q left lt due room ends run =
      subst (λ (us : List TypeSymbol). ReadsParts l at stop (In_type us ∷ rest) described b (e ∷ es) q left) (sym due.0)
      (type_read l stop n (read_by n) at rest described b q left due.1 room ends strict (e ∷ es) (omega arith) (subst (λ (us : List TypeSymbol). Reads l (inside at stop (In_type us ∷ rest) described) b (e ∷ es) q left) due.0 run))
  read_by (suc n) (e ∷ es) at (Cell_due row column k inner ∷ rest) described b q left lt due room ends run = cell_read l stop n (read_by n) at rest described b q left due room ends row column k inner strict e es (omega arith) run

-- What is read in a frame, up to where its end or a header is due, begins with parts that its bytes spell.
pub parts_back : (l : Rules) (at stop : ℕ) (ss : List Symbol) (described : Types) (b : List ℕ) (es : List (ℕ × Event)) (q : Place) (left : List ℕ) → l.types ≡ true → l.lenient ≡ false → AreDue ss → at ≤ stop → IsAtEnd q.symbols → Reads l (inside at stop ss described) b es q left
    → ReadsParts l at stop ss described b es q left
parts_back l at stop ss described b es q left on strict due room ends run = read_by l stop on strict (suc (length es)) es at ss described b q left (omega arith) due room ends run
