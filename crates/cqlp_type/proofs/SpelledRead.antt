-- What spells a type is read as its items, and leaves its nodes.
use Rattle.std.proofs.Common.{◌≡◌, ℕ, suc, ◌+◌, ◌-◌, ◌<◌, ◌≤◌, Bool, true, false, List, [], ◌∷◌, ◌++◌, length, drop, refl, sym, ap, ◌∙◌, append_assoc, subst, arith}
use Rattle.std.specs.Int.{w16}
use Rattle.std.proofs.lemmas.Bool.{le-ltb, lt-leb}
use Rattle.std.proofs.lemmas.List.{append-nil, length-append, drop_at}
use Rattle.cqlp_note.specs.declared.field.Field.TheVariants as field
use Rattle.cqlp_note.specs.declared.field.Notation.TheVariants as notation
use Rattle.cqlp_note.specs.declared.refusal.Reason.TheVariants.{Overrun}
use Rattle.cqlp_note.specs.Reader.{Gives, Refuses, Takes, Idles}
use Rattle.cqlp_note.specs.Field.{FieldValue, Text, Count, FieldReader, field_of}
use Rattle.cqlp_note.specs.Spelling.{Spells}
use Rattle.cqlp_note.specs.Step.{Emitted, Step, Emit, Runs, after_field}
use Rattle.cqlp_note.specs.Limits.{Rules}
use Rattle.cqlp_note.proofs.Yields.{Yields, yields_says}
use Rattle.cqlp_note.proofs.Spelled.{field_yields, alone_yields}
use Rattle.cqlp_kind.specs.declared.kind.Kind.{Kind}
use Rattle.cqlp_kind.specs.declared.kind.Kind.TheVariants as kind
use Rattle.cqlp_kind.specs.declared.node.Node.{Node}
use Rattle.cqlp_kind.specs.Types.{Types, NoMore, Type_and, preorder}
use Rattle.cqlp_kind.specs.TypeStep.{TypeSymbol, Option_at, Text_of, Fields_of, Whole, TypeEvent, IsNode, IsField, TypePlace, parameters_of, arity_of, inner_symbols, symbol_copies, with_arity, with_span, settled, type_place, count_in, type_step}
use Rattle.cqlp_type.specs.Trees.{Head, Plain, Custom, ListOf, SetOf, MapOf, TupleOf, UdtOf, Trees, NoTree, Tree_and, kind_in, trees_in, options_in, types_in, has_names, IsHead, AreTrees, Shallow, head_items, name_items, trees_items, ItemSpells, ItemsSpell, AreShort, item_size, placed}
use Rattle.cqlp_kind.specs.Types.{is_plain}
use Rattle.cqlp_type.proofs.Forests.{last_arity, span_at, and_more, many_types, one_size}
use Rattle.cqlp_type.proofs.ReadBack.{item_sized}

abbrev Next : Type 1
Next = List TypeSymbol → List Node → Type 0

abbrev At_next : Next → List TypeSymbol × List Node → Type 0
At_next N s = N s.0 s.1

-- this item comes of the first symbol
abbrev Derives_item : Rules → Next → TypeEvent → List TypeSymbol → List Node → Type 0
Derives_item l N (IsNode k) (Option_at d ∷ rest) ns = (d ≤ l.depth) × (length ns < l.entries) × At_next N (settled (parameters_of k d ++ Whole (length ns) ∷ rest) (ns ++ record { kind = k; arity = arity_of k; span = 0 } ∷ []))
Derives_item l N (IsField g (Text s)) (Text_of f ∷ rest) ns = (g ≡ f) × At_next N (settled rest ns)
Derives_item l N (IsField g (Count n)) (Fields_of named d ∷ rest) ns = (g ≡ field.Fields) × At_next N (settled (symbol_copies n (inner_symbols named d) ++ rest) (with_arity n ns))
Derives_item l N e ss ns = ⊥

-- These items come of the symbols, one after the other, and at the end the nodes are the final ones.
abbrev Derives : Rules → (final : List Node) → List TypeEvent → Next
Derives l final [] ss ns = (ss ≡ []) × (ns ≡ final)
Derives l final (e ∷ es) ss ns = Derives_item l (Derives l final es) e ss ns

-- ---- items that derive are read

after_yields : {E P : Type 0} (at : ℕ) (r : FieldReader) (next : FieldValue → Step E P) (v : FieldValue) (x : Emitted E P) (b : List ℕ) → Yields r v b → Yields (next v) x [] → Yields (after_field at r next) x b
after_yields at (Gives w) next v x b y z = rw (y.0, y.1) z
after_yields at (Refuses why) next v x b y z = absurd y
after_yields at Idles next v x b y z = absurd y
after_yields at (Takes n f) next v x b y z = (y.0, y.1, y.2, y.3, after_yields at (f y.0) next v x y.1 y.4 z)

abbrev place : (at stop : ℕ) → List TypeSymbol → List Node → TypePlace
place at stop ss ns = record { offset = at; stop = stop; symbols = ss; nodes = ns }

abbrev emitted : TypePlace → TypeEvent → List TypeSymbol × List Node → Emitted TypeEvent TypePlace
emitted p e s = record { at = p.offset; event = e; after = type_place p s }

-- a step takes these bytes for this item, and goes on
abbrev Steps : Rules → Next → (at stop : ℕ) → TypeEvent → List TypeSymbol → List Node → List ℕ → Type 0
Steps l N at stop e ss ns b = (s : List TypeSymbol × List Node) × At_next N s × Yields (type_step l (place at stop ss ns)) (emitted (place at stop ss ns) e s) b

item_steps : (l : Rules) (N : Next) (at stop : ℕ) (e : TypeEvent) (ss : List TypeSymbol) (ns : List Node) (b : List ℕ) → Derives_item l N e ss ns → ItemSpells e b → AreShort l (e ∷ []) → at + length b ≤ stop → Steps l N at stop e ss ns b
unfolding Spells
item_steps l N at stop (IsNode k) (Option_at d ∷ rest) ns b i s short le = (
  settled (parameters_of k d ++ Whole (length ns) ∷ rest) (ns ++ record { kind = k; arity = arity_of k; span = 0 } ∷ []),
  i.2,
  alone_yields (at, Overrun) 2 w16 (stop - at) s.0 _ _ b s.2 (omega (arith, s.2.long)) (rw (s.1, le-ltb _ _ i.0, lt-leb _ _ i.1) (refl, refl)),
)
item_steps l N at stop (IsField g (Text t)) (Text_of f ∷ rest) ns b i s short le =
    let p = place at stop (Text_of f ∷ rest) ns in
    let y = field_yields notation.Text16 (Text t) l.text (stop - at) b s short.0 (omega arith) in
    (settled rest ns, i.1, rw i.0 (after_yields at (field_of notation.Text16 l.text (stop - at)) (λ v. Emit at (IsField f v) (type_place p (settled rest ns))) (Text t) _ b y (refl, refl)))
item_steps l N at stop (IsField g (Count n)) (Fields_of named d ∷ rest) ns b i s short le =
    let p = place at stop (Fields_of named d ∷ rest) ns in
    let y = field_yields notation.Count16 (Count n) 0 (stop - at) b s (omega arith) (omega arith) in (
      settled (symbol_copies n (inner_symbols named d) ++ rest) (with_arity n ns),
      i.1,
      rw i.0 (after_yields at (field_of notation.Count16 0 (stop - at)) (λ v. Emit at (IsField field.Fields v) (type_place p (settled (symbol_copies (count_in v) (inner_symbols named d) ++ rest) (with_arity (count_in v) ns)))) (Count n) _ b y (refl, refl)),
    )
item_steps l N at stop e ss ns b i s short le = absurd i

short_head : (l : Rules) (e : TypeEvent) (es : List TypeEvent) → AreShort l (e ∷ es) → AreShort l (e ∷ []) × AreShort l es
short_head l (IsNode k) es h = (tt, h)
short_head l (IsField f v) es h = ((h.0, tt), h.1)

-- an item in front, and a run over what is after it
onward : (l : Rules) (p q : TypePlace) (e : TypeEvent) (s : List TypeSymbol × List Node) (front back b : List ℕ) (es : List TypeEvent) → Yields (type_step l p) (emitted p e s) front → b ≡ front ++ back → length front ≡ item_size e
    → Runs (type_step l) (type_place p s (length front)) back (placed (p.offset + length front) es) q [] → Runs (type_step l) p b (placed p.offset (e ∷ es)) q []
onward l p q e s front back b es y whole size later =
    let none : 0 + length front ≡ length front = omega arith in
    let said = rw none at (yields_says (type_step l p) 0 (emitted p e s) front back y) in
    let left : drop (length front) (front ++ back) ≡ back = drop_at front back (length front) refl in
    rw whole (length front, type_place p s, said, rw (left, ← size) later)

end_is : (at stop : ℕ) (front back b : List ℕ) (final : List Node) → b ≡ front ++ back → place ((at + length front) + length back) stop [] final ≡ place (at + length b) stop [] final
end_is at stop front back b final whole =
    let e : (at + length front) + length back ≡ at + length b = omega (arith, ap length whole, length-append front back) in
    ap (λ (k : ℕ). place k stop [] final) e

pub derived_reads : (l : Rules) (stop : ℕ) (final : List Node) (es : List TypeEvent) (at : ℕ) (ss : List TypeSymbol) (ns : List Node) (b : List ℕ) → Derives l final es ss ns → ItemsSpell es b → AreShort l es → at + length b ≤ stop
    → Runs (type_step l) (place at stop ss ns) b (placed at es) (place (at + length b) stop [] final) []
derived_reads l stop final [] at ss ns b d s short le =
    let none : at + length b ≡ at = rw s (omega arith) in
    rw (none, d.0, d.1) (refl, sym s)
derived_reads l stop final (e ∷ es) at ss ns b d s short le =
    let h = short_head l e es short in
    let long : length b ≡ length s.front + length s.back = ap length s.whole ∙ length-append s.front s.back in
    let st = item_steps l (Derives l final es) at stop e ss ns s.front d s.this h.0 (omega arith) in
    let later = derived_reads l stop final es (at + length s.front) st.0.0 st.0.1 s.back st.1 s.that h.1 (omega arith) in
    rw (← (end_is at stop s.front s.back b final s.whole)) (onward l (place at stop ss ns) (place ((at + length s.front) + length s.back) stop [] final) e st.0 s.front s.back b es st.2 s.whole (item_sized e s.front s.this) later)

-- ---- types derive from their options

plain_kind : (k : Kind) (depth : ℕ) → is_plain k ≡ true → (parameters_of k depth ≡ []) × (arity_of k ≡ 0)
plain_kind kind.Custom depth e = absurd cc
plain_kind kind.List depth e = absurd cc
plain_kind kind.Map depth e = absurd cc
plain_kind kind.Set depth e = absurd cc
plain_kind kind.Udt depth e = absurd cc
plain_kind kind.Tuple depth e = absurd cc
plain_kind k depth e = (refl, refl)

abbrev node : Kind → (arity : ℕ) → Node
node k arity = record { kind = k; arity = arity; span = 0 }

module _ (l : Rules) (final : List Node) where
  -- these items come of what is left of an option
  abbrev pub At : List TypeEvent → List TypeSymbol → List Node → Type 0
  At es ss ns = Derives l final es (settled ss ns).0 (settled ss ns).1

  -- an option is whole after its inner types
  whole_at : (k : Kind) (types : Types) (inner : Trees) (tail : List TypeSymbol) (ns : List Node) (es : List TypeEvent) (n : ℕ) → types ≡ types_in inner → trees_in inner ≡ n → At es tail (ns ++ preorder (Type_and k types NoMore)) → At es (Whole (length ns) ∷ tail) ((ns ++ node k n ∷ []) ++ preorder types)
  whole_at k types inner tail ns es n same is h =
      let spanned : with_span (length ns) ((ns ++ node k n ∷ []) ++ preorder types) ≡ ns ++ preorder (Type_and k types NoMore) = rw (append_assoc ns (node k n ∷ []) (preorder types), span_at ns (node k n) (preorder types), append-nil (preorder types), same, many_types inner, is) refl in
      subst (λ (m : List Node). At es tail m) (sym spanned) h

  -- what the inner types derive from
  abbrev Inner_at : Bool → (depth : ℕ) → Trees → Type 0
  Inner_at named depth ts = (after : List TypeSymbol) (ns : List Node) (es : List TypeEvent) → length ns + options_in ts ≤ l.entries → At es after (ns ++ preorder (types_in ts)) → At (trees_items named ts ++ es) (symbol_copies (trees_in ts) (inner_symbols named depth) ++ after) ns

  module _ (inner : Trees) (depth : ℕ) (tail : List TypeSymbol) (ns : List Node) (es : List TypeEvent) (room : length ns + suc (options_in inner) ≤ l.entries) where
    next_room : (k : Kind) (n : ℕ) → length (ns ++ node k n ∷ []) + options_in inner ≤ l.entries
    next_room k n = omega (arith, length-append ns (node k n ∷ []))

    -- the inner types, and the end of the option
    inner_at : (named : Bool) (k : Kind) (n : ℕ) → trees_in inner ≡ n → Inner_at named (depth + 1) inner → At es tail (ns ++ preorder (Type_and k (types_in inner) NoMore))
        → At (trees_items named inner ++ es) (symbol_copies n (inner_symbols named (depth + 1)) ++ Whole (length ns) ∷ tail) (ns ++ node k n ∷ [])
    inner_at named k n is ih h = rw is at (ih (Whole (length ns) ∷ tail) (ns ++ node k n ∷ []) es (next_room k n) (whole_at k (types_in inner) inner tail ns es n refl is h))

    head_at : (h : Head) → IsHead h (trees_in inner) → Inner_at (has_names h) (depth + 1) inner → At es tail (ns ++ preorder (Type_and (kind_in h) (types_in inner) NoMore))
        → At (head_items h (trees_in inner) ++ (trees_items (has_names h) inner ++ es)) (parameters_of (kind_in h) depth ++ Whole (length ns) ∷ tail) (ns ++ node (kind_in h) (arity_of (kind_in h)) ∷ [])
    head_at (Plain k) is ih h = let p = plain_kind k depth is.0 in rw (p.0, p.1) (inner_at false k 0 is.1 ih h)
    head_at (Custom class) is ih h = (refl, inner_at false kind.Custom 0 is ih h)
    head_at ListOf is ih h = inner_at false kind.List 1 is ih h
    head_at SetOf is ih h = inner_at false kind.Set 1 is ih h
    head_at MapOf is ih h = inner_at false kind.Map 2 is ih h
    head_at TupleOf is ih h = (refl, rw (last_arity (trees_in inner) ns (node kind.Tuple 0)) (inner_at false kind.Tuple (trees_in inner) refl ih h))
    head_at (UdtOf keyspace name) is ih h = (refl, (refl, (refl, rw (last_arity (trees_in inner) ns (node kind.Udt 0)) (inner_at true kind.Udt (trees_in inner) refl ih h))))

  name_at : (named : Bool) (name : List ℕ) (depth : ℕ) (more : List TypeSymbol) (ns : List Node) (es : List TypeEvent) → At es (Option_at depth ∷ more) ns → At (name_items named name ++ es) (inner_symbols named depth ++ more) ns
  name_at true name depth more ns es h = (refl, h)
  name_at false name depth more ns es h = h

  -- The items of types side by side derive from as many options.
  pub trees_derive : (ts : Trees) (named : Bool) (depth : ℕ) → AreTrees ts → Shallow l depth ts → Inner_at named depth ts
  trees_derive NoTree named depth are shallow = λ after ns es room h. rw (append-nil ns) at h
  trees_derive (Tree_and name h inner others) named depth are shallow = λ after ns es room d.
      let tail : List TypeSymbol = symbol_copies (trees_in others) (inner_symbols named depth) ++ after in
      let k = kind_in h in
      let types = types_in inner in
      let more : List TypeEvent = trees_items named others ++ es in
      let size = one_size k inner ns in
      let others_room : length (ns ++ preorder (Type_and k types NoMore)) + options_in others ≤ l.entries = omega arith in
      let option_room : length ns + suc (options_in inner) ≤ l.entries = omega arith in
      let all : (ns ++ preorder (Type_and k types NoMore)) ++ preorder (types_in others) ≡ ns ++ preorder (Type_and k types (types_in others)) = and_more k types (types_in others) ns in
      let later : At more tail (ns ++ preorder (Type_and k types NoMore)) = trees_derive others named depth are.2 shallow.2 after (ns ++ preorder (Type_and k types NoMore)) es others_room (rw all d) in
      let first : At (IsNode k ∷ (head_items h (trees_in inner) ++ (trees_items (has_names h) inner ++ more))) (Option_at depth ∷ tail) ns = (shallow.0, omega arith, head_at inner depth tail ns more option_room h are.0 (trees_derive inner (has_names h) (depth + 1) are.1 shallow.1) later) in
      let items : (name_items named name ++ (IsNode k ∷ (head_items h (trees_in inner) ++ (trees_items (has_names h) inner ++ trees_items named others)))) ++ es ≡ name_items named name ++ (IsNode k ∷ (head_items h (trees_in inner) ++ (trees_items (has_names h) inner ++ more))) = simp append_assoc in
      rw (items, append_assoc (inner_symbols named depth) (symbol_copies (trees_in others) (inner_symbols named depth)) after) (name_at named name depth tail ns (IsNode k ∷ (head_items h (trees_in inner) ++ (trees_items (has_names h) inner ++ more))) first)

derived_as : (l : Rules) (final : List Node) (es fs : List TypeEvent) (ss tt' : List TypeSymbol) (ns : List Node) → es ≡ fs → ss ≡ tt' → At l final es ss ns → At l final fs tt' ns
derived_as l final es fs ss tt' ns e f d = rw (← e, ← f) d

-- A type is read as its items.
pub tree_read : (l : Rules) (t : Trees) (depth at stop : ℕ) (ns : List Node) (b : List ℕ) → trees_in t ≡ 1 → AreTrees t → Shallow l depth t → AreShort l (trees_items false t) → length ns + options_in t ≤ l.entries → ItemsSpell (trees_items false t) b → at + length b ≤ stop
    → Runs (type_step l) (place at stop (Option_at depth ∷ []) ns) b (placed at (trees_items false t)) (place (at + length b) stop [] (ns ++ preorder (types_in t))) []
tree_read l t depth at stop ns b one are shallow short room s le =
    let final = ns ++ preorder (types_in t) in
    let d = trees_derive l final t false depth are shallow [] ns [] room (refl, refl) in
    let first : symbol_copies (trees_in t) (inner_symbols false depth) ++ [] ≡ Option_at depth ∷ [] = rw one refl in
    let items : trees_items false t ++ [] ≡ trees_items false t = append-nil (trees_items false t) in
    derived_reads l stop final (trees_items false t) at (Option_at depth ∷ []) ns b (derived_as l final (trees_items false t ++ []) (trees_items false t) (symbol_copies (trees_in t) (inner_symbols false depth) ++ []) (Option_at depth ∷ []) ns items first d) s short le
