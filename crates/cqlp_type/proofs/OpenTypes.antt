-- A table into which an option is read holds types, also on the way through an item.
use Rattle.std.proofs.Common.{◌≡◌, ◌≢◌, ℕ, zero, suc, ◌+◌, ◌-◌, ◌<◌, ◌≤◌, Bool, true, false, leb, ltb, List, [], ◌∷◌, ◌++◌, length, drop, take, Option, Some, None, refl, sym, ap, ◌∙◌, append_assoc, arith}
use Rattle.std.specs.Int.{w16, from_be_bytes}
use Rattle.std.proofs.lemmas.Bool.{le-ltb, lt-leb}
use Rattle.std.proofs.lemmas.List.{length-append, length-take-le, drop_at}
use Rattle.std.proofs.lemmas.List.Elements.{All-drop, All-head, All-same}
use Rattle.cqlp_note.specs.declared.field.Notation.TheVariants as notation
use Rattle.cqlp_note.specs.declared.field.Field.{Field}
use Rattle.cqlp_note.specs.declared.field.Field.TheVariants as field
use Rattle.cqlp_note.specs.declared.refusal.Reason.TheVariants.{Overrun}
use Rattle.cqlp_note.specs.Reader.{Gives, Refuses, Takes, Idles, Got, says, number_of}
use Rattle.cqlp_note.specs.Field.{FieldValue, Count, FieldReader, field_of}
use Rattle.cqlp_note.specs.Step.{Emitted, Step, Emit, Runs, after_field}
use Rattle.cqlp_note.specs.Limits.{Rules}
use Rattle.cqlp_note.specs.Partial.{FieldState}
use Rattle.cqlp_note.specs.Heading.{beside_number}
use Rattle.cqlp_note.proofs.Readers.{Always, says_always}
use Rattle.cqlp_note.proofs.Fields.{either_always}
use Rattle.cqlp_note.proofs.Yields.{says_exact}
use Rattle.cqlp_kind.specs.declared.kind.Kind.{Kind}
use Rattle.cqlp_kind.specs.declared.kind.Kind.TheVariants as kind
use Rattle.cqlp_kind.specs.declared.node.Node.{Node}
use Rattle.cqlp_type.specs.declared.advance.TypeOutline.{TypeOutline}
use Rattle.cqlp_kind.specs.Types.{Types, NoMore, Type_and, how_many, HasInner, AreFormed, IsPreorder, preorder, followed_by, kinds}
use Rattle.cqlp_kind.specs.TypeStep.{TypeSymbol, Option_at, Text_of, Fields_of, Whole, TypeEvent, IsNode, IsField, TypePlace, parameters_of, arity_of, inner_symbols, symbol_copies, with_arity, with_span, settled, type_place, kind_or_lenient, option_step, count_in, type_step_at, type_step}
use Rattle.cqlp_type.specs.Table.{Table, HoldsTypes}
use Rattle.cqlp_type.specs.Remaining.{Closes, Keeps, item_step, short_in, event_at}
use Rattle.cqlp_type.specs.Progress.{TypeState, IsShared, place_of, pending, step_says, started, Waits, Ends}
use Rattle.cqlp_type.specs.Pushing.{ReadsInto, IsWhole}
use Rattle.cqlp_type.specs.Trees.{Head, Plain, Custom, ListOf, SetOf, MapOf, TupleOf, UdtOf, Trees, NoTree, Tree_and, kind_in, types_in, IsHead, AreTrees}
use Rattle.cqlp_kind.specs.Types.{is_plain}
use Rattle.cqlp_type.proofs.Forests.{many_types}
use Rattle.cqlp_type.proofs.ReadBack.{option_read}
use Rattle.cqlp_type.proofs.Pushes.{run_more, option_begun, option_waited, option_handed, option_over, nothing_begun}

-- ---- an open type

-- the ends among these symbols are those of types after this node
abbrev Above : (n : ℕ) → List TypeSymbol → Type 0
Above n [] = Unit {0}
Above n (Whole i ∷ ss) = (n < i) × Above n ss
Above n (s ∷ ss) = Above n ss

-- Behind some nodes a type is under way, which ends last of all that is left.
pub record Open (base : List Node) (ss : List TypeSymbol) (nodes : List Node) : Type 0 where
  pub front : List TypeSymbol
  pub last : ss ≡ front ++ Whole (length base) ∷ []
  pub above : Above (length base) front
  pub node : Node
  pub more : List Node
  pub are : nodes ≡ base ++ node ∷ more
  pub begun : node.span ≡ 0

-- an option of which nothing was read, one under way, or one that is whole
pub data Shape (base : List Node) (ss : List TypeSymbol) (nodes : List Node) : Type 0 where
  Fresh : (depth : ℕ) → ss ≡ Option_at depth ∷ [] → nodes ≡ base → Shape base ss nodes
  Opened : Open base ss nodes → Shape base ss nodes
  Over : ss ≡ [] → Shape base ss nodes

open_holds : (base : List Node) (x : Node) (more : List Node) → x.span ≡ 0 → HoldsTypes (base ++ x ∷ more)
open_holds base x more e = λ all.
    let P : Node → Type 0 = λ n. n.span ≢ 0 in
    let here = All-drop P (length base) (base ++ x ∷ more) all in
    absurd (All-head P x more (All-same P (x ∷ more) (drop (length base) (base ++ x ∷ more)) (sym (drop_at base (x ∷ more) (length base) refl)) here) e)

pub opens : (base : List Node) (ss : List TypeSymbol) (nodes : List Node) → Open base ss nodes → HoldsTypes nodes
opens base ss nodes o = rw o.are (open_holds base o.node o.more o.begun)

-- what follows an open node
span_behind : (base : List Node) (x : Node) (more : List Node) (i : ℕ) → length base < i → (rest : List Node) × (with_span i (base ++ x ∷ more) ≡ base ++ x ∷ rest)
span_behind [] x more zero lt = absurd (omega arith)
span_behind [] x more (suc i) lt = (with_span i more, refl)
span_behind (y ∷ base) x more zero lt = absurd (omega arith)
span_behind (y ∷ base) x more (suc i) lt = let r = span_behind base x more i (omega arith) in (r.0, ap (λ (m : List Node). y ∷ m) r.1)

last_cons : (n : ℕ) (y : Node) (base : List Node) (x : Node) (more : List Node) → with_arity n (y ∷ (base ++ x ∷ more)) ≡ y ∷ with_arity n (base ++ x ∷ more)
last_cons n y [] x more = refl
last_cons n y (z ∷ base) x more = refl

arity_behind : (n : ℕ) (base : List Node) (x : Node) (more : List Node) → x.span ≡ 0 → (z : Node) × (rest : List Node) × (with_arity n (base ++ x ∷ more) ≡ base ++ z ∷ rest) × (z.span ≡ 0)
arity_behind n [] x [] e = (record x { arity = n }, [], refl, e)
arity_behind n [] x (y ∷ more) e = (x, with_arity n (y ∷ more), refl, e)
arity_behind n (y ∷ base) x more e =
    let r = arity_behind n base x more e in
    (r.0, r.1, last_cons n y base x more ∙ ap (λ (m : List Node). y ∷ m) r.2, r.3)

-- ---- what represents nothing is passed

settled_open : (base : List Node) (front : List TypeSymbol) (x : Node) (more nodes : List Node) → Above (length base) front → x.span ≡ 0 → nodes ≡ base ++ x ∷ more
    → Shape base (settled (front ++ Whole (length base) ∷ []) nodes).0 (settled (front ++ Whole (length base) ∷ []) nodes).1
settled_open base [] x more nodes above e are = Over refl
settled_open base (Whole i ∷ front) x more nodes above e are =
    let r = span_behind base x more i above.0 in
    settled_open base front x r.0 (with_span i nodes) above.1 e (ap (with_span i) are ∙ r.1)
settled_open base (Option_at d ∷ front) x more nodes above e are = Opened (record { front = Option_at d ∷ front; last = refl; above = above; node = x; more = more; are = are; begun = e })
settled_open base (Text_of f ∷ front) x more nodes above e are = Opened (record { front = Text_of f ∷ front; last = refl; above = above; node = x; more = more; are = are; begun = e })
settled_open base (Fields_of named d ∷ front) x more nodes above e are = Opened (record { front = Fields_of named d ∷ front; last = refl; above = above; node = x; more = more; are = are; begun = e })

settled_shape : (base : List Node) (ss : List TypeSymbol) (nodes : List Node) → Open base ss nodes → Shape base (settled ss nodes).0 (settled ss nodes).1
settled_shape base ss nodes o = rw o.last (settled_open base o.front o.node o.more nodes o.above o.begun o.are)

closes_open : (base : List Node) (front : List TypeSymbol) (x : Node) (more nodes : List Node) → Above (length base) front → x.span ≡ 0 → nodes ≡ base ++ x ∷ more
    → ((settled (front ++ Whole (length base) ∷ []) nodes).0 ≡ [] → IsPreorder (settled (front ++ Whole (length base) ∷ []) nodes).1)
    → Closes (front ++ Whole (length base) ∷ []) nodes
closes_open base [] x more nodes above e are final = (λ all. final refl, tt)
closes_open base (Whole i ∷ front) x more nodes above e are final =
    let r = span_behind base x more i above.0 in
    let on : with_span i nodes ≡ base ++ x ∷ r.0 = ap (with_span i) are ∙ r.1 in
    (rw on (open_holds base x r.0 e), closes_open base front x r.0 (with_span i nodes) above.1 e on final)
closes_open base (Option_at d ∷ front) x more nodes above e are final = tt
closes_open base (Text_of f ∷ front) x more nodes above e are final = tt
closes_open base (Fields_of named d ∷ front) x more nodes above e are final = tt

pub closes : (base : List Node) (ss : List TypeSymbol) (nodes : List Node) → Open base ss nodes → ((settled ss nodes).0 ≡ [] → IsPreorder (settled ss nodes).1) → Closes ss nodes
closes base ss nodes o final = rw o.last (closes_open base o.front o.node o.more nodes o.above o.begun o.are (rw o.last at final))

-- ---- what an item makes of it

above_append : (n : ℕ) (ss tt' : List TypeSymbol) → Above n ss → Above n tt' → Above n (ss ++ tt')
above_append n [] tt' a b = b
above_append n (Whole i ∷ ss) tt' a b = (a.0, above_append n ss tt' a.1 b)
above_append n (Option_at d ∷ ss) tt' a b = above_append n ss tt' a b
above_append n (Text_of f ∷ ss) tt' a b = above_append n ss tt' a b
above_append n (Fields_of named d ∷ ss) tt' a b = above_append n ss tt' a b

parameters_above : (n : ℕ) (k : Kind) (depth : ℕ) → Above n (parameters_of k depth)
parameters_above n kind.Custom depth = tt
parameters_above n kind.List depth = tt
parameters_above n kind.Set depth = tt
parameters_above n kind.Map depth = tt
parameters_above n kind.Udt depth = tt
parameters_above n kind.Tuple depth = tt
parameters_above n k depth = tt

inner_above : (n : ℕ) (named : Bool) (depth : ℕ) → Above n (inner_symbols named depth)
inner_above n true depth = tt
inner_above n false depth = tt

copies_above : (n k : ℕ) (named : Bool) (depth : ℕ) → Above n (symbol_copies k (inner_symbols named depth))
copies_above n zero named depth = tt
copies_above n (suc k) named depth = above_append n (inner_symbols named depth) (symbol_copies k (inner_symbols named depth)) (inner_above n named depth) (copies_above n k named depth)

-- what is after the first symbol
behind_first : (base : List Node) (s : TypeSymbol) (rest : List TypeSymbol) (front : List TypeSymbol) → s ∷ rest ≡ front ++ Whole (length base) ∷ [] → ((i : ℕ) → s ≡ Whole i → ⊥) → Above (length base) front
    → (tail : List TypeSymbol) × (rest ≡ tail ++ Whole (length base) ∷ []) × Above (length base) tail
behind_first base s rest [] e other above = let is : s ≡ Whole (length base) = cc in absurd (other (length base) is)
behind_first base s rest (Whole i ∷ front) e other above = let is : s ≡ Whole i = cc in absurd (other i is)
behind_first base s rest (Option_at d ∷ front) e other above = let is : rest ≡ front ++ Whole (length base) ∷ [] = cc in (front, is, above)
behind_first base s rest (Text_of f ∷ front) e other above = let is : rest ≡ front ++ Whole (length base) ∷ [] = cc in (front, is, above)
behind_first base s rest (Fields_of named d ∷ front) e other above = let is : rest ≡ front ++ Whole (length base) ∷ [] = cc in (front, is, above)

abbrev new_node : Kind → Node
new_node k = record { kind = k; arity = arity_of k; span = 0 }

pub option_opens : (base : List Node) (depth d : ℕ) (rest : List TypeSymbol) (nodes : List Node) (k : Kind) → Shape base (Option_at depth ∷ rest) nodes → Open base (parameters_of k d ++ Whole (length nodes) ∷ rest) (nodes ++ new_node k ∷ [])
option_opens base depth d rest nodes k (Fresh e first same) =
    let none : rest ≡ [] = cc in
    record {
      front = parameters_of k d;
      last = rw (none, same) refl;
      above = parameters_above (length base) k d;
      node = new_node k;
      more = [];
      are = rw same refl;
      begun = refl;
    }
option_opens base depth d rest nodes k (Opened o) =
    let b = behind_first base (Option_at depth) rest o.front o.last (λ i is. absurd cc) o.above in
    let long : length base < length nodes = omega (arith, ap (length {A = Node}) o.are, length-append base (o.node ∷ o.more)) in
    record {
      front = parameters_of k d ++ Whole (length nodes) ∷ b.0;
      last = ap (λ (x : List TypeSymbol). parameters_of k d ++ Whole (length nodes) ∷ x) b.1 ∙ sym (append_assoc (parameters_of k d) (Whole (length nodes) ∷ b.0) (Whole (length base) ∷ []));
      above = above_append (length base) (parameters_of k d) (Whole (length nodes) ∷ b.0) (parameters_above (length base) k d) (long, b.2);
      node = o.node;
      more = o.more ++ new_node k ∷ [];
      are = ap (λ (x : List Node). x ++ new_node k ∷ []) o.are ∙ append_assoc base (o.node ∷ o.more) (new_node k ∷ []);
      begun = o.begun;
    }
option_opens base depth d rest nodes k (Over none) = absurd cc

pub text_opens : (base : List Node) (f : Field) (rest : List TypeSymbol) (nodes : List Node) → Shape base (Text_of f ∷ rest) nodes → Open base rest nodes
text_opens base f rest nodes (Fresh e first same) = absurd cc
text_opens base f rest nodes (Opened o) =
    let b = behind_first base (Text_of f) rest o.front o.last (λ i is. absurd cc) o.above in
    record { front = b.0; last = b.1; above = b.2; node = o.node; more = o.more; are = o.are; begun = o.begun }
text_opens base f rest nodes (Over none) = absurd cc

pub fields_open : (base : List Node) (named : Bool) (depth n : ℕ) (rest : List TypeSymbol) (nodes : List Node) → Shape base (Fields_of named depth ∷ rest) nodes → Open base (symbol_copies n (inner_symbols named depth) ++ rest) (with_arity n nodes)
fields_open base named depth n rest nodes (Fresh e first same) = absurd cc
fields_open base named depth n rest nodes (Opened o) =
    let b = behind_first base (Fields_of named depth) rest o.front o.last (λ i is. absurd cc) o.above in
    let a = arity_behind n base o.node o.more o.begun in
    record {
      front = symbol_copies n (inner_symbols named depth) ++ b.0;
      last = ap (λ (x : List TypeSymbol). symbol_copies n (inner_symbols named depth) ++ x) b.1 ∙ sym (append_assoc (symbol_copies n (inner_symbols named depth)) b.0 (Whole (length base) ∷ []));
      above = above_append (length base) (symbol_copies n (inner_symbols named depth)) b.0 (copies_above (length base) n named depth) b.2;
      node = a.0;
      more = a.1;
      are = ap (with_arity n) o.are ∙ a.2;
      begun = a.3;
    }
fields_open base named depth n rest nodes (Over none) = absurd cc

-- ---- one step, and a run

abbrev IsShaped : (base : List Node) → Emitted TypeEvent TypePlace → List ℕ → Type 0
IsShaped base x b = (u : ℕ) → Shape base (x.after u).symbols (x.after u).nodes

field_shaped : (base : List Node) (at : ℕ) (r : FieldReader) (next : FieldValue → Step TypeEvent TypePlace) (before : List ℕ) → ((v : FieldValue) (b : List ℕ) → Always (IsShaped base) (next v) b) → Always (IsShaped base) (after_field at r next) before
field_shaped base at (Gives v) next before f = f v before
field_shaped base at (Refuses why) next before f = tt
field_shaped base at Idles next before f = tt
field_shaped base at (Takes n g) next before f = λ c long. field_shaped base at (g c) next (before ++ c) f

module _ (base : List Node) (l : Rules) (p : TypePlace) where
  option_shaped : (depth : ℕ) (rest : List TypeSymbol) (o : Option Kind) (b : List ℕ) → Shape base (Option_at depth ∷ rest) p.nodes → Always (IsShaped base) (option_step l depth rest p o) b
  option_shaped depth rest None b h = tt
  option_shaped depth rest (Some k) b h =
      either_always (IsShaped base) b (ltb l.depth depth) _ _ (λ _. tt) (λ _.
      either_always (IsShaped base) b (leb l.entries (length p.nodes)) _ _ (λ _. tt) (λ _ u. settled_shape base (parameters_of k depth ++ Whole (length p.nodes) ∷ rest) (p.nodes ++ new_node k ∷ []) (option_opens base depth depth rest p.nodes k h)))

  step_shaped : (ss : List TypeSymbol) → Shape base ss p.nodes → Always (IsShaped base) (type_step_at l p ss) []
  unfolding number_of
  step_shaped [] h = tt
  step_shaped (Option_at depth ∷ rest) h =
      let next : List ℕ → Step TypeEvent TypePlace = λ b. option_step l depth rest p (kind_or_lenient (beside_number (from_be_bytes w16 b) kinds) l.lenient) in
      either_always (IsShaped base) [] (ltb (p.stop - p.offset) 2) (Refuses (p.offset, Overrun)) (Takes 2 next) (λ _. tt) (λ _ c long. option_shaped depth rest (kind_or_lenient (beside_number (from_be_bytes w16 c) kinds) l.lenient) c h)
  step_shaped (Text_of f ∷ rest) h =
      let next : FieldValue → Step TypeEvent TypePlace = λ v. Emit p.offset (IsField f v) (type_place p (settled rest p.nodes)) in
      field_shaped base p.offset (field_of notation.Text16 l.text (p.stop - p.offset)) next [] (λ v b u. settled_shape base rest p.nodes (text_opens base f rest p.nodes h))
  step_shaped (Fields_of named depth ∷ rest) h =
      let next : FieldValue → Step TypeEvent TypePlace = λ v. Emit p.offset (IsField field.Fields v) (type_place p (settled (symbol_copies (count_in v) (inner_symbols named depth) ++ rest) (with_arity (count_in v) p.nodes))) in
      field_shaped base p.offset (field_of notation.Count16 0 (p.stop - p.offset)) next []
      (λ v b u. settled_shape base (symbol_copies (count_in v) (inner_symbols named depth) ++ rest) (with_arity (count_in v) p.nodes) (fields_open base named depth (count_in v) rest p.nodes h))
  step_shaped (Whole i ∷ rest) h = tt

run_shaped : (base : List Node) (l : Rules) (p q : TypePlace) (bytes rest : List ℕ) (es : List (ℕ × TypeEvent)) → Shape base p.symbols p.nodes → Runs (type_step l) p bytes es q rest → Shape base q.symbols q.nodes
run_shaped base l p q bytes rest [] h r = rw r.0 h
run_shaped base l p q bytes rest (e ∷ es) h r =
    let x : Emitted TypeEvent TypePlace = record { at = e.0; event = e.1; after = r.1 } in
    let next = (says_always (IsShaped base) (type_step l p) [] bytes x r.0 (step_shaped base l p p.symbols h) r.2).1 r.0 in
    run_shaped base l (r.1 r.0) q (drop r.0 bytes) rest es next r.3

-- ---- whole types

preorder_followed : (ts us : Types) → preorder (followed_by ts us) ≡ preorder ts ++ preorder us
preorder_followed NoMore us = refl
preorder_followed (Type_and k inner others) us =
    let first : Node = record { kind = k; arity = how_many inner; span = suc (length (preorder inner)) } in
    ap (λ (x : List Node). first ∷ x) (ap (λ (x : List Node). preorder inner ++ x) (preorder_followed others us) ∙ sym (append_assoc (preorder inner) (preorder others) (preorder us)))

formed_followed : (ts us : Types) → AreFormed ts → AreFormed us → AreFormed (followed_by ts us)
formed_followed NoMore us a b = b
formed_followed (Type_and k inner others) us a b = (a.0, a.1, formed_followed others us a.2 b)

pub whole_more : (l : Rules) (depth at : ℕ) (before : List Node) (s : List ℕ) (es : List (ℕ × TypeEvent)) (nodes : List Node) → IsPreorder before → IsWhole l depth at before s es nodes → IsPreorder nodes
whole_more l depth at before s es nodes h w = record {
  types = followed_by h.types (types_in w.tree);
  formed = formed_followed h.types (types_in w.tree) h.formed w.formed;
  are = w.table ∙ ap (λ (x : List Node). x ++ preorder (types_in w.tree)) h.are ∙ sym (preorder_followed h.types (types_in w.tree));
}

-- ---- an item

module _ (r : TypeState) (p : FieldState) (t : Table) (input : List ℕ) (reads : ReadsInto r p t) where
  shape : Shape reads.start.nodes r.symbols t.nodes
  shape = run_shaped reads.start.nodes r.rules reads.start (place_of r t.nodes) reads.bytes (pending r p) reads.items (Fresh 1 reads.first refl) reads.after

  -- where nothing is left after an item, the types are whole
  ended : (used : ℕ) (e : TypeEvent) (ss : List TypeSymbol) (nodes : List Node) → used ≤ length input
      → step_says r t.nodes (pending r p ++ input) ≡ Got (record { at = r.offset; event = e; after = type_place (place_of r t.nodes) (settled ss nodes) }) (length (pending r p) + used)
      → (settled ss nodes).0 ≡ [] → IsPreorder (settled ss nodes).1
  ended used e ss nodes within said none =
      let place = place_of r t.nodes in
      let x : Emitted TypeEvent TypePlace = record { at = r.offset; event = e; after = type_place place (settled ss nodes) } in
      let bytes = take used input in
      let long : length bytes ≡ used = length-take-le used input within in
      let exact = says_exact (type_step r.rules place) (pending r p) input x used said in
      let run = run_more r.rules reads.start place (type_place place (settled ss nodes) (length (pending r p) + used)) reads.bytes (pending r p) bytes reads.items r.offset e x reads.after (rw long exact) refl refl (rw long refl) in
      whole_more r.rules 1 reads.start.offset reads.start.nodes (reads.bytes ++ bytes) (reads.items ++ (r.offset, e) ∷ []) (settled ss nodes).1 reads.before
      (option_read r.rules 1 reads.start (type_place place (settled ss nodes) (length (pending r p) + used)) (reads.bytes ++ bytes) (reads.items ++ (r.offset, e) ∷ []) reads.first none run)

  abbrev all : List ℕ
  all = pending r p ++ input

  -- what an item does to the table, it does to one that holds types
  pub keeps : (used : ℕ) (v : FieldValue) (ss : List TypeSymbol) → ss ≡ r.symbols → used ≤ length input
      → step_says r t.nodes all ≡ says (item_step r.rules (place_of r t.nodes) ss v) (length (pending r p) + used) (drop (length (pending r p) + used) all)
      → Keeps r.rules ss t.nodes (short_in v)
  keeps used v [] same within said = tt
  keeps used v (Option_at depth ∷ rest) same within said = λ k is deep room.
      let next = type_place (place_of r t.nodes) (settled (parameters_of k depth ++ Whole (length t.nodes) ∷ rest) (t.nodes ++ new_node k ∷ [])) in
      let step : option_step r.rules depth rest (place_of r t.nodes) (kind_or_lenient (beside_number (short_in v) kinds) r.rules.lenient) ≡ Emit r.offset (IsNode k) next = rw (is, le-ltb _ _ deep, lt-leb _ _ room) refl in
      let all_said = said ∙ ap (λ (z : Step TypeEvent TypePlace). says z (length (pending r p) + used) (drop (length (pending r p) + used) all)) step in
      let o = option_opens reads.start.nodes depth depth rest t.nodes k (rw same shape) in
      closes reads.start.nodes (parameters_of k depth ++ Whole (length t.nodes) ∷ rest) (t.nodes ++ new_node k ∷ []) o (ended used (IsNode k) (parameters_of k depth ++ Whole (length t.nodes) ∷ rest) (t.nodes ++ new_node k ∷ []) within all_said)
  keeps used v (Text_of f ∷ rest) same within said =
      closes reads.start.nodes rest t.nodes (text_opens reads.start.nodes f rest t.nodes (rw same shape)) (ended used (IsField f v) rest t.nodes within said)
  keeps used v (Fields_of named depth ∷ rest) same within said =
      let n = short_in v in
      let o = fields_open reads.start.nodes named depth n rest t.nodes (rw same shape) in (
        opens reads.start.nodes (symbol_copies n (inner_symbols named depth) ++ rest) (with_arity n t.nodes) o,
        closes reads.start.nodes (symbol_copies n (inner_symbols named depth) ++ rest) (with_arity n t.nodes) o
            (ended used (IsField field.Fields (Count n)) (symbol_copies n (inner_symbols named depth) ++ rest) (with_arity n t.nodes) within said),
      )
  keeps used v (Whole i ∷ rest) same within said = tt

-- ---- after a call

module _ (old : TypeState) (p : FieldState) (t : Table) (input : List ℕ) (new : TypeState) (p' : FieldState) (t' : Table) (reads : ReadsInto old p t) where
  pub reads_waited : (used : ℕ) → Waits old p t input used new p' t' → ReadsInto new p' t'
  reads_waited used w = record { start = reads.start; first = reads.first; before = reads.before; bytes = reads.bytes ++ input; items = reads.items; after = option_waited old p t input new p' t' used w reads.start reads.bytes reads.items reads.after }

  pub reads_handed : (at used : ℕ) (q : TypeOutline) → Ends old p t input at used q new p' t' → ReadsInto new p' t'
  reads_handed at used q w = record {
    start = reads.start;
    first = reads.first;
    before = reads.before;
    bytes = reads.bytes ++ take used input;
    items = reads.items ++ (at, event_at q input p'.content) ∷ [];
    after = option_handed old p t input new p' t' at used q w reads.start reads.bytes reads.items reads.after;
  }

pub reads_over : (old : TypeState) (p : FieldState) (t : Table) → ReadsInto old p t → IsShared old p → old.symbols ≡ [] → IsPreorder t.nodes
reads_over old p t reads shared none =
    whole_more old.rules 1 reads.start.offset reads.start.nodes reads.bytes reads.items t.nodes reads.before
    (option_over reads.start 1 old p t reads.bytes reads.items reads.first reads.after none (nothing_begun old p shared none))

pub reads_begun : (r : TypeState) (p : FieldState) (t : Table) (at stop : ℕ) → IsPreorder t.nodes → ReadsInto (started r at stop) p t
reads_begun r p t at stop whole = record { start = record { offset = at; stop = stop; symbols = Option_at 1 ∷ []; nodes = t.nodes }; first = refl; before = whole; bytes = []; items = []; after = option_begun r p t at stop }

pub nothing_whole : IsPreorder []
nothing_whole = record { types = NoMore; formed = tt; are = refl }

-- a node that is under way
pub pushed_holds : (nodes : List Node) (x : Node) → x.span ≡ 0 → HoldsTypes (nodes ++ x ∷ [])
pushed_holds nodes x e = open_holds nodes x [] e

pub nothing_holds : HoldsTypes []
nothing_holds = λ all. nothing_whole
