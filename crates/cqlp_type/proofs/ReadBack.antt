-- The items that were read of an option are those of a type, whose bytes they took and whose nodes they left.
use Rattle.std.proofs.Common.{◌≡◌, ℕ, zero, suc, ◌+◌, ◌-◌, ◌≤◌, Bool, true, false, eqb, ltb, leb, List, [], ◌∷◌, ◌++◌, length, take, drop, Option, Some, None, refl, sym, ap, ◌∙◌, append_assoc, subst, arith}
use Rattle.std.specs.Int.{w16, from_be_bytes}
use Rattle.std.proofs.lemmas.List.{append-nil, take_at, drop_at}
use Rattle.std.proofs.lemmas.Bool.{ltb-false}
use Rattle.cqlp_note.specs.declared.field.Field.TheVariants as field
use Rattle.cqlp_note.specs.declared.field.Notation.TheVariants as notation
use Rattle.cqlp_note.specs.Reader.{Got, says, Gives, Refuses, Takes, Idles, number_of}
use Rattle.cqlp_note.specs.Field.{FieldValue, Text, Count, FieldReader, field_of}
use Rattle.cqlp_note.specs.Spelling.{IsNumber, Spells}
use Rattle.cqlp_note.specs.Step.{Emitted, Step, Runs, after_field}
use Rattle.cqlp_note.specs.Limits.{Rules}
use Rattle.cqlp_note.specs.Heading.{beside_number}
use Rattle.cqlp_note.proofs.Readers.{Always, says_always}
use Rattle.cqlp_note.proofs.Fields.{field_spells, either_always}
use Rattle.cqlp_note.proofs.Yields.{says_yields}
use Rattle.cqlp_note.proofs.Spelled.{counted_size}
use Rattle.cqlp_kind.specs.declared.kind.Kind.{Kind}
use Rattle.cqlp_kind.specs.declared.kind.Kind.TheVariants as kind
use Rattle.cqlp_kind.specs.declared.node.Node.{Node}
use Rattle.cqlp_kind.specs.Types.{NoMore, Type_and, has_id, HasInner, AreFormed, preorder, kinds}
use Rattle.cqlp_kind.specs.TypeStep.{TypeSymbol, Option_at, Text_of, Fields_of, Whole, TypeEvent, IsNode, IsField, TypePlace, parameters_of, arity_of, inner_symbols, symbol_copies, with_arity, with_span, settled, kind_or_lenient, option_step, count_in, type_step_at, type_step}
use Rattle.cqlp_type.specs.Trees.{Head, Plain, Custom, ListOf, SetOf, MapOf, TupleOf, UdtOf, Trees, NoTree, Tree_and, kind_in, trees_in, types_in, has_names, IsHead, AreTrees, Shallow, head_items, trees_items, notation_for, ItemSpells, ItemsSpell, item_size, placed}
use Rattle.cqlp_type.specs.Pushing.{IsWhole}
use Rattle.cqlp_type.proofs.Forests.{last_arity, span_at, and_more, many_types}

abbrev pub option_items : Head → Trees → List TypeEvent
option_items h inner = IsNode (kind_in h) ∷ (head_items h (trees_in inner) ++ trees_items (has_names h) inner)

abbrev pub nodes_of : Head → Trees → List Node
nodes_of h inner = preorder (Type_and (kind_in h) (types_in inner) NoMore)

-- A head with this many inner types has as many as its kind wants; and it is one that has an id, where the caller is not lenient.
abbrev pub IsReadHead : Rules → Head → (n : ℕ) → Type 0
IsReadHead l h n = HasInner (kind_in h) n × (l.lenient ≡ false → IsHead h n)

-- the same of all heads
abbrev pub AreRead : Rules → Trees → Type 0
AreRead l t = AreFormed (types_in t) × (l.lenient ≡ false → AreTrees t)

none_read : (l : Rules) → AreRead l NoTree
none_read l = (tt, λ strict. tt)

one_read : (l : Rules) (name : List ℕ) (h : Head) (inner others : Trees) → IsReadHead l h (trees_in inner) → AreRead l inner → AreRead l others → AreRead l (Tree_and name h inner others)
one_read l name h inner others head a b = ((rw (many_types inner) head.0, a.0, b.0), λ strict. (head.1 strict, a.1 strict, b.1 strict))

-- an option at this depth, none of whose inner options is too deep
abbrev pub IsOption : Rules → (depth : ℕ) → Head → Trees → Type 0
IsOption l depth h inner = IsReadHead l h (trees_in inner) × AreRead l inner × (depth ≤ l.depth) × Shallow l (depth + 1) inner

-- These items are those that come of the symbols, within the limit on nesting, and with them the nodes so far become
-- the final ones.
abbrev pub Comes : Rules → List TypeSymbol → List Node → List TypeEvent → List Node → Type 0
Comes l [] ns es final = (es ≡ []) × (final ≡ ns)
Comes l (Option_at depth ∷ rest) ns es final = (h : Head) × (inner : Trees) × (more : List TypeEvent) × IsOption l depth h inner × (es ≡ option_items h inner ++ more) × Comes l rest (ns ++ nodes_of h inner) more final
Comes l (Text_of f ∷ rest) ns es final = (s : List ℕ) × (more : List TypeEvent) × (es ≡ IsField f (Text s) ∷ more) × Comes l rest ns more final
Comes l (Fields_of named depth ∷ rest) ns es final =
    (ts : Trees) × (more : List TypeEvent) × AreRead l ts × Shallow l depth ts × (es ≡ IsField field.Fields (Count (trees_in ts)) ∷ (trees_items named ts ++ more)) × Comes l rest (with_arity (trees_in ts) ns ++ preorder (types_in ts)) more final
Comes l (Whole i ∷ rest) ns es final = Comes l rest (with_span i ns) es final

settled_comes : (l : Rules) (ss : List TypeSymbol) (ns : List Node) (es : List TypeEvent) (final : List Node) → Comes l (settled ss ns).0 (settled ss ns).1 es final → Comes l ss ns es final
settled_comes l [] ns es final h = h
settled_comes l (Whole i ∷ rest) ns es final h = settled_comes l rest (with_span i ns) es final h
settled_comes l (Option_at d ∷ rest) ns es final h = h
settled_comes l (Text_of f ∷ rest) ns es final h = h
settled_comes l (Fields_of named d ∷ rest) ns es final h = h

-- inner types, and what comes after them
pub record Inner (l : Rules) (depth n : ℕ) (named : Bool) (rest : List TypeSymbol) (ns : List Node) (es : List TypeEvent) (final : List Node) : Type 0 where
  pub trees : Trees
  pub more : List TypeEvent
  pub many : trees_in trees ≡ n
  pub are : AreRead l trees
  pub shallow : Shallow l depth trees
  pub items : es ≡ trees_items named trees ++ more
  pub later : Comes l rest (ns ++ preorder (types_in trees)) more final

regroup : (a : TypeEvent) (b c d e : List TypeEvent) → (a ∷ (b ++ c)) ++ (d ++ e) ≡ (a ∷ (b ++ (c ++ d))) ++ e
regroup a b c d e = simp append_assoc

inner_comes : (l : Rules) (n : ℕ) (named : Bool) (depth : ℕ) (rest : List TypeSymbol) (ns : List Node) (es : List TypeEvent) (final : List Node) → Comes l (symbol_copies n (inner_symbols named depth) ++ rest) ns es final → Inner l depth n named rest ns es final
inner_comes l zero named depth rest ns es final h = record { trees = NoTree; more = es; many = refl; are = none_read l; shallow = tt; items = refl; later = rw (append-nil ns) h }
inner_comes l (suc n) true depth rest ns es final h =
    let o = h.3 in
    let r = inner_comes l n true depth rest (ns ++ nodes_of o.0 o.1) o.2 final o.5 in
    record {
      trees = Tree_and h.0 o.0 o.1 r.trees;
      more = r.more;
      many = ap suc r.many;
      are = one_read l h.0 o.0 o.1 r.trees o.3.0 o.3.1 r.are;
      shallow = (o.3.2, o.3.3, r.shallow);
      items = h.2 ∙ ap (λ (x : List TypeEvent). IsField field.FieldName (Text h.0) ∷ x) (o.4 ∙ ap (λ (x : List TypeEvent). option_items o.0 o.1 ++ x) r.items ∙ regroup (IsNode (kind_in o.0)) (head_items o.0 (trees_in o.1)) (trees_items (has_names o.0) o.1) (trees_items true r.trees) r.more);
      later = rw (and_more (kind_in o.0) (types_in o.1) (types_in r.trees) ns) at r.later;
    }
inner_comes l (suc n) false depth rest ns es final o =
    let r = inner_comes l n false depth rest (ns ++ nodes_of o.0 o.1) o.2 final o.5 in
    record {
      trees = Tree_and [] o.0 o.1 r.trees;
      more = r.more;
      many = ap suc r.many;
      are = one_read l [] o.0 o.1 r.trees o.3.0 o.3.1 r.are;
      shallow = (o.3.2, o.3.3, r.shallow);
      items = o.4 ∙ ap (λ (x : List TypeEvent). option_items o.0 o.1 ++ x) r.items ∙ regroup (IsNode (kind_in o.0)) (head_items o.0 (trees_in o.1)) (trees_items (has_names o.0) o.1) (trees_items false r.trees) r.more;
      later = rw (and_more (kind_in o.0) (types_in o.1) (types_in r.trees) ns) at r.later;
    }

-- an option, once its inner types are read
whole : (l : Rules) (depth : ℕ) (h : Head) (inner : Trees) (rest : List TypeSymbol) (ns nodes : List Node) (es more : List TypeEvent) (final : List Node)
    → IsOption l depth h inner → nodes ≡ ns ++ record { kind = kind_in h; arity = trees_in inner; span = 0 } ∷ preorder (types_in inner) → es ≡ option_items h inner ++ more
    → Comes l rest (with_span (length ns) nodes) more final → Comes l (Option_at depth ∷ rest) ns es final
whole l depth h inner rest ns nodes es more final fits is items c =
    (h, inner, more, fits, items, rw (append-nil (preorder (types_in inner)), many_types inner) (rw (is, span_at ns record { kind = kind_in h; arity = trees_in inner; span = 0 } (preorder (types_in inner))) at c))

abbrev node : Kind → (arity : ℕ) → Node
node k arity = record { kind = k; arity = arity; span = 0 }

one_item : (h : Head) (inner : Trees) (more : List TypeEvent) → option_items h inner ++ more ≡ trees_items false (Tree_and [] h inner NoTree) ++ more
one_item h inner more = simp append-nil

two_items : (h g : Head) (inner inner' : Trees) (more : List TypeEvent) → option_items h inner ++ (option_items g inner' ++ more) ≡ trees_items false (Tree_and [] h inner (Tree_and [] g inner' NoTree)) ++ more
two_items h g inner inner' more = simp (append_assoc, append-nil)

option_comes : (l : Rules) (k : Kind) (depth : ℕ) (rest : List TypeSymbol) (ns : List Node) (es : List TypeEvent) (final : List Node) → (l.lenient ≡ false → has_id k ≡ true) → depth ≤ l.depth
    → Comes l (parameters_of k depth ++ Whole (length ns) ∷ rest) (ns ++ node k (arity_of k) ∷ []) es final → Comes l (Option_at depth ∷ rest) ns (IsNode k ∷ es) final
option_comes l kind.List depth rest ns es final known deep h =
    let o = h.3 in
    whole l depth ListOf (Tree_and [] h.0 h.1 NoTree) rest ns _ (IsNode kind.List ∷ es) h.2 final ((refl, λ strict. refl), one_read l [] h.0 h.1 NoTree o.0 o.1 (none_read l), deep, (o.2, o.3, tt)) (simp append_assoc) (ap (λ (x : List TypeEvent). IsNode kind.List ∷ x) (h.4 ∙ one_item h.0 h.1 h.2)) h.5
option_comes l kind.Set depth rest ns es final known deep h =
    let o = h.3 in
    whole l depth SetOf (Tree_and [] h.0 h.1 NoTree) rest ns _ (IsNode kind.Set ∷ es) h.2 final ((refl, λ strict. refl), one_read l [] h.0 h.1 NoTree o.0 o.1 (none_read l), deep, (o.2, o.3, tt)) (simp append_assoc) (ap (λ (x : List TypeEvent). IsNode kind.Set ∷ x) (h.4 ∙ one_item h.0 h.1 h.2)) h.5
option_comes l kind.Map depth rest ns es final known deep h =
    let g = h.5 in
    let o = h.3 in
    let q = g.3 in
    whole l depth MapOf (Tree_and [] h.0 h.1 (Tree_and [] g.0 g.1 NoTree)) rest ns _ (IsNode kind.Map ∷ es) g.2 final ((refl, λ strict. refl), one_read l [] h.0 h.1 (Tree_and [] g.0 g.1 NoTree) o.0 o.1 (one_read l [] g.0 g.1 NoTree q.0 q.1 (none_read l)), deep, (o.2, o.3, (q.2, q.3, tt))) (simp (append_assoc, append-nil))
    (ap (λ (x : List TypeEvent). IsNode kind.Map ∷ x) (h.4 ∙ ap (λ (x : List TypeEvent). option_items h.0 h.1 ++ x) g.4 ∙ two_items h.0 g.0 h.1 g.1 g.2)) g.5
option_comes l kind.Custom depth rest ns es final known deep h =
    whole l depth (Custom h.0) NoTree rest ns _ (IsNode kind.Custom ∷ es) h.1 final ((tt, λ strict. refl), none_read l, deep, tt) refl (ap (λ (x : List TypeEvent). IsNode kind.Custom ∷ x) h.2) h.3
option_comes l kind.Tuple depth rest ns es final known deep h =
    whole l depth TupleOf h.0 rest ns _ (IsNode kind.Tuple ∷ es) h.1 final ((tt, λ strict. tt), h.2, deep, h.3) (simp (last_arity, append_assoc)) (ap (λ (x : List TypeEvent). IsNode kind.Tuple ∷ x) h.4) h.5
option_comes l kind.Udt depth rest ns es final known deep h =
    let n = h.3 in
    let f = n.3 in
    whole l depth (UdtOf h.0 n.0) f.0 rest ns _ (IsNode kind.Udt ∷ es) f.1 final ((tt, λ strict. tt), f.2, deep, f.3) (simp (last_arity, append_assoc))
    (ap (λ (x : List TypeEvent). IsNode kind.Udt ∷ x) (h.2 ∙ ap (λ (x : List TypeEvent). IsField field.Keyspace (Text h.0) ∷ x) (n.2 ∙ ap (λ (x : List TypeEvent). IsField field.TypeName (Text n.0) ∷ x) f.4))) f.5
option_comes l kind.Raw depth rest ns es final known deep h = whole l depth (Plain kind.Raw) NoTree rest ns _ (IsNode kind.Raw ∷ es) es final ((tt, λ strict. (known strict, refl)), none_read l, deep, tt) refl refl h
option_comes l k depth rest ns es final known deep h = whole l depth (Plain k) NoTree rest ns _ (IsNode k ∷ es) es final ((tt, λ strict. (known strict, refl)), none_read l, deep, tt) refl refl h

-- ---- one step

abbrev AllTrue : {A : Type 0} (test : A → Bool) → List (ℕ × A) → Type 0
AllTrue test [] = Unit {0}
AllTrue test (x ∷ xs) = (test x.1 ≡ true) × AllTrue test xs

all_beside : {A : Type 0} (test : A → Bool) (n : ℕ) (table : List (ℕ × A)) (k : A) → AllTrue test table → beside_number n table ≡ Some k → test k ≡ true
all_beside test n [] k all e = absurd cc
all_beside test n (x ∷ xs) k all e = elim (eqb n x.0) as (λ t. eqb n x.0 ≡ t → test k ≡ true) [
  | true ↦ λ is. let f : Some x.1 ≡ Some k = rw is at e in let same : x.1 ≡ k = cc in rw same at all.0
  | false ↦ λ is. let f : beside_number n xs ≡ Some k = rw is at e in all_beside test n xs k all.1 f
] refl

all_known : AllTrue has_id kinds
all_known = search

known : (n : ℕ) (k : Kind) → beside_number n kinds ≡ Some k → has_id k ≡ true
known n k e = all_beside has_id n kinds k all_known e

-- where the caller is not lenient, an option is of a kind that has its id
strict_kind : (o : Option Kind) (lenient : Bool) (k : Kind) → kind_or_lenient o lenient ≡ Some k → lenient ≡ false → o ≡ Some k
strict_kind (Some j) lenient k e strict = e
strict_kind None true k e strict = absurd cc
strict_kind None false k e strict = absurd cc

pub item_sized : (e : TypeEvent) (b : List ℕ) → ItemSpells e b → length b ≡ item_size e
unfolding Spells
item_sized (IsNode k) b s = s.2.long
item_sized (IsField f (Text t)) b s = counted_size 2 w16 t b s.0
item_sized (IsField f (Count n)) b s = s.long
item_sized (IsField f v) b s = absurd s

-- What holds of a field and its bytes, what follows it may use.
after_field_always : {E Q : Type 0} (F : FieldValue → List ℕ → Type 0) (P : Emitted E Q → List ℕ → Type 0) (at : ℕ) (r : FieldReader) (f : FieldValue → Step E Q) (b : List ℕ) → Always F r b → ((v : FieldValue) (b : List ℕ) → F v b → Always P (f v) b) → Always P (after_field at r f) b
after_field_always F P at (Gives v) f b h g = g v b h
after_field_always F P at (Refuses why) f b h g = tt
after_field_always F P at Idles f b h g = tt
after_field_always F P at (Takes n r) f b h g = λ c long. after_field_always F P at (r c) f (b ++ c) (h c long) g

-- An item is at the place, its bytes spell it, and what comes after it comes after its symbols.
pub record Came (l : Rules) (p : TypePlace) (ss : List TypeSymbol) (x : Emitted TypeEvent TypePlace) (b : List ℕ) : Type 0 where
  pub at : x.at ≡ p.offset
  pub long : length b ≡ item_size x.event
  pub spelled : l.lenient ≡ false → ItemSpells x.event b
  pub onward : (used : ℕ) → (x.after used).offset ≡ p.offset + used
  pub comes : (used : ℕ) (es : List TypeEvent) (final : List Node) → Comes l (x.after used).symbols (x.after used).nodes es final → Comes l ss p.nodes (x.event ∷ es) final

pub text_is : (v : FieldValue) (b : List ℕ) → Spells notation.Text16 v b → (s : List ℕ) × (v ≡ Text s)
unfolding Spells
text_is (Text s) b h = (s, refl)
text_is v b h = absurd h

count_is : (v : FieldValue) (b : List ℕ) → Spells notation.Count16 v b → v ≡ Count (count_in v)
unfolding Spells
count_is (Count n) b h = refl
count_is v b h = absurd h

module _ (l : Rules) (p : TypePlace) where
  option_came : (o : Option Kind) (id depth : ℕ) (rest : List TypeSymbol) (b : List ℕ) → kind_or_lenient (beside_number id kinds) l.lenient ≡ o → IsNumber 2 w16 id b → Always (Came l p (Option_at depth ∷ rest)) (option_step l depth rest p o) b
  unfolding Spells
  option_came None id depth rest b e n = tt
  option_came (Some k) id depth rest b e n = either_always _ b (ltb l.depth depth) _ _ (λ _. tt) (λ within. either_always _ b (leb l.entries (length p.nodes)) _ _ (λ _. tt) (λ _. record {
    at = refl;
    long = n.long;
    spelled = λ strict. (id, strict_kind (beside_number id kinds) l.lenient k e strict, n);
    onward = λ used. refl;
    comes = λ used es final h. option_comes l k depth rest p.nodes es final (λ strict. known id k (strict_kind (beside_number id kinds) l.lenient k e strict)) (ltb-false _ _ within) (settled_comes l (parameters_of k depth ++ Whole (length p.nodes) ∷ rest) (p.nodes ++ node k (arity_of k) ∷ []) es final h);
  }))

  pub step_came : (ss : List TypeSymbol) → Always (Came l p ss) (type_step_at l p ss) []
  unfolding number_of
  step_came [] = tt
  step_came (Option_at depth ∷ rest) = either_always _ [] (ltb (p.stop - p.offset) 2) _ _ (λ _. tt) (λ _ c long. option_came (kind_or_lenient (beside_number (from_be_bytes w16 c) kinds) l.lenient) (from_be_bytes w16 c) depth rest c refl (record { long = long; is = refl }))
  step_came (Text_of f ∷ rest) = after_field_always (Spells notation.Text16) (Came l p (Text_of f ∷ rest)) p.offset (field_of notation.Text16 l.text (p.stop - p.offset)) _ [] (field_spells notation.Text16 l.text (p.stop - p.offset)) (λ v b s.
      let t = text_is v b s in
      let spelled : ItemSpells (IsField f v) b = subst (λ (w : FieldValue). Spells (notation_for w) w b) (sym t.1) (rw t.1 at s) in
      record { at = refl; long = item_sized (IsField f v) b spelled; spelled = λ strict. spelled; onward = λ used. refl; comes = λ used es final h. (t.0, es, ap (λ (w : FieldValue). IsField f w ∷ es) t.1, settled_comes l rest p.nodes es final h) })
  step_came (Fields_of named depth ∷ rest) = after_field_always (Spells notation.Count16) (Came l p (Fields_of named depth ∷ rest)) p.offset (field_of notation.Count16 0 (p.stop - p.offset)) _ [] (field_spells notation.Count16 0 (p.stop - p.offset)) (λ v b s.
      let spelled : ItemSpells (IsField field.Fields v) b = subst (λ (w : FieldValue). Spells (notation_for w) w b) (sym (count_is v b s)) (subst (λ (w : FieldValue). Spells notation.Count16 w b) (count_is v b s) s) in
      record {
        at = refl;
        long = item_sized (IsField field.Fields v) b spelled;
        spelled = λ strict. spelled;
        onward = λ used. refl;
        comes = λ used es final h.
            let r = inner_comes l (count_in v) named depth rest (with_arity (count_in v) p.nodes) es final (settled_comes l (symbol_copies (count_in v) (inner_symbols named depth) ++ rest) (with_arity (count_in v) p.nodes) es final h) in
            (r.trees, r.more, r.are, r.shallow, (λ i. IsField field.Fields ((count_is v b s ∙ ap Count (sym r.many)) i) ∷ r.items i), rw r.many r.later);
      })
  step_came (Whole i ∷ rest) = tt

-- ---- runs

abbrev pub events_in : List (ℕ × TypeEvent) → List TypeEvent
events_in [] = []
events_in (e ∷ es) = e.1 ∷ events_in es

-- The items of a run come of its symbols, are where their bytes do, and are spelled by them.
pub record Reads (l : Rules) (p : TypePlace) (bytes : List ℕ) (es : List (ℕ × TypeEvent)) (more : List TypeEvent) (final : List Node) (rest : List ℕ) : Type 0 where
  pub comes : Comes l p.symbols p.nodes (events_in es ++ more) final
  pub body : List ℕ
  pub all : bytes ≡ body ++ rest
  pub spelled : l.lenient ≡ false → ItemsSpell (events_in es) body
  pub conform : es ≡ placed p.offset (events_in es)

came_here : (l : Rules) (p : TypePlace) (bytes : List ℕ) (x : Emitted TypeEvent TypePlace) (used : ℕ) → says (type_step l p) 0 bytes ≡ Got x used
    → (front : List ℕ) × (back : List ℕ) × (bytes ≡ front ++ back) × (drop used bytes ≡ back) × (length front ≡ used) × Came l p p.symbols x front
came_here l p bytes x used s =
    let y = says_yields (type_step l p) 0 x used bytes s in
    let none : used - length {A = ℕ} [] ≡ used = omega arith in
    let long : length y.0 ≡ used = omega (arith, y.3) in
    let front : take used bytes ≡ y.0 = ap (λ (t : List ℕ). take used t) y.2 ∙ take_at y.0 y.1 used long in
    let back : drop used bytes ≡ y.1 = ap (λ (t : List ℕ). drop used t) y.2 ∙ drop_at y.0 y.1 used long in
    let c = (says_always (Came l p p.symbols) (type_step l p) [] bytes x used (step_came l p p.symbols) s).1 in
    (y.0, y.1, y.2, back, long, rw front at (rw none at c))

placed_on : (at at' : ℕ) (e : ℕ × TypeEvent) (es : List (ℕ × TypeEvent)) (fs : List TypeEvent) → e.0 ≡ at → at' ≡ at + item_size e.1 → es ≡ placed at' fs → e ∷ es ≡ (at, e.1) ∷ placed (at + item_size e.1) fs
placed_on at at' e es fs here next is = λ i. (here i, e.1) ∷ (is ∙ ap (λ (k : ℕ). placed k fs) next) i

pub runs_read : (l : Rules) (es : List (ℕ × TypeEvent)) (p q : TypePlace) (bytes rest : List ℕ) (more : List TypeEvent) (final : List Node) → Runs (type_step l) p bytes es q rest → Comes l q.symbols q.nodes more final → Reads l p bytes es more final rest
runs_read l [] p q bytes rest more final r h = record { comes = rw r.0 at h; body = []; all = sym r.1; spelled = λ strict. refl; conform = refl }
runs_read l (e ∷ es) p q bytes rest more final r h =
    let x : Emitted TypeEvent TypePlace = record { at = e.0; event = e.1; after = r.1 } in
    let c = came_here l p bytes x r.0 r.2 in
    let later = runs_read l es (r.1 r.0) q (drop r.0 bytes) rest more final r.3 h in
    let came = c.5 in
    let next : (r.1 r.0).offset ≡ p.offset + item_size e.1 = came.onward r.0 ∙ ap (λ (k : ℕ). p.offset + k) (sym c.4 ∙ came.long) in
    record {
      comes = came.comes r.0 (events_in es ++ more) final later.comes;
      body = c.0 ++ later.body;
      all = c.2 ∙ ap (λ (t : List ℕ). c.0 ++ t) (sym c.3 ∙ later.all) ∙ sym (append_assoc c.0 later.body rest);
      spelled = λ strict. record { front = c.0; back = later.body; whole = refl; this = came.spelled strict; that = later.spelled strict };
      conform = placed_on p.offset (r.1 r.0).offset e es (events_in es) came.at next later.conform;
    }

spelled_as : (es fs : List TypeEvent) (s body : List ℕ) → s ≡ body ++ [] → es ≡ fs → ItemsSpell es body → ItemsSpell fs s
spelled_as es fs s body all same h = rw (all, append-nil body, ← same) h

-- An option that is read is that of a type.
pub option_read : (l : Rules) (depth : ℕ) (start q : TypePlace) (s : List ℕ) (es : List (ℕ × TypeEvent)) → start.symbols ≡ Option_at depth ∷ [] → q.symbols ≡ [] → Runs (type_step l) start s es q [] → IsWhole l depth start.offset start.nodes s es q.nodes
option_read l depth start q s es first done r =
    let h : Comes l q.symbols q.nodes [] q.nodes = rw done (refl, refl) in
    let g = runs_read l es start q s [] [] q.nodes r h in
    let c : Comes l (Option_at depth ∷ []) start.nodes (events_in es ++ []) q.nodes = rw first at g.comes in
    let tree : Trees = Tree_and [] c.0 c.1 NoTree in
    let items : events_in es ≡ trees_items false tree = sym (append-nil (events_in es)) ∙ c.4 ∙ ap (λ (x : List TypeEvent). option_items c.0 c.1 ++ x) c.5.0 ∙ one_item c.0 c.1 [] ∙ append-nil (trees_items false tree) in
    let are : AreRead l tree = one_read l [] c.0 c.1 NoTree c.3.0 c.3.1 (none_read l) in
    record {
      tree = tree;
      one = refl;
      formed = are.0;
      are = are.1;
      shallow = (c.3.2, c.3.3, tt);
      spelled = λ strict. spelled_as (events_in es) (trees_items false tree) s g.body g.all items (g.spelled strict);
      items = g.conform ∙ ap (placed start.offset) items;
      table = c.5.1;
    }
