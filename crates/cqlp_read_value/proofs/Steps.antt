-- The steps of the reading of values.
use Rattle.std.proofs.Common.{◌≡◌, ◌≢◌, ℕ, zero, suc, ◌+◌, ◌<◌, ◌≤◌, ◌^◌, ◌&&◌, get_or, Bool, true, false, eqb, List, [], ◌∷◌, ◌++◌, length, take, drop, Option, Some, None, Result, Ok, Err, refl, sym, ap, ◌∙◌, subst, inl, inr, arith}
use Rattle.std.specs.Borrow.{Bor}
use Rattle.std.specs.Result.{IsErr, IsErrAnd}
use Rattle.std.specs.declared.vec.Vec.{Vec}
use Rattle.std.specs.declared.boxed.Box.{Box}
use Rattle.std.specs.declared.string.String.{String}
use Rattle.std.specs.declared.alloc.Global.{Global}
use Rattle.std.proofs.lemmas.Bool.{eqb-true, eqb-false}
use Rattle.std.proofs.lemmas.List.{length-append, length-drop, take-append-drop}
use Rattle.cqlp_note.specs.Limits.{Rules}
use Rattle.cqlp_kind.specs.declared.kind.Kind.{Kind}
use Rattle.cqlp_kind.specs.declared.kind.Kind.TheVariants as kind
use Rattle.cqlp_kind.specs.Types.{Types, NoMore, Type_and, first_types, has_no_items, is_plain}
use Rattle.cqlp_type.specs.declared.tree.TypeTree.{TypeTree, Plain, List as ListTree, Set as SetTree, Map as MapTree, Tuple as TupleTree, Udt as UdtTree}
use Rattle.cqlp_type.specs.Trees.{are_trees, kind_in, types_in}
use Rattle.cqlp_type.specs.TypeLists.{listed_types, listed_fields}
use Rattle.cqlp_type.specs.TypeTrees.{head_of, inner_of, tree_of}
use Rattle.cqlp_type.proofs.TreeLengths.{inner_tuple, inner_udt}
use Rattle.cqlp_cell.specs.Sizes.{is_counted}
use Rattle.cqlp_value.specs.declared.value.Value.{Value, List as ListValue, Map as MapValue, Set as SetValue, Tuple as TupleValue, Udt as UdtValue}
use Rattle.cqlp_value.specs.Measures.{listed_pairs, listed_values, types_by}
use Rattle.cqlp_value.specs.Owned.{value_of}
use Rattle.cqlp_value.specs.Values.{AreWithin, IsBytes, ValueSpells, Values, NoValue, Null_and, Empty_and, Counted_and, Fields_and, ValuesSpell, has_fields}
use Rattle.cqlp_value.proofs.OwnedLists.{many_values, list_is, set_is, map_is, tuple_is, udt_is}
use Rattle.cqlp_value.proofs.ValueFits.{tuple_types, udt_types}
use Rattle.cqlp_value.proofs.ReadBack.{alone, with_others}
use Rattle.cqlp_read_value.specs.declared.error.ReadError.{ReadError}
use Rattle.cqlp_read_value.specs.declared.error.ReadError.TheVariants as error
use Rattle.cqlp_read_value.specs.Fronts.{AreCounted, ContentStops, Fails, FrontStops, HasContent, Holds, IsReadable, ReadsContent, ReadsScalar}
use Rattle.cqlp_read_value.proofs.Progress.{AreRead, AfterFields, one_more_read, next_field, pair_spells, values_snoc, pairs_snoc, within_both}
use Rattle.cqlp_read_value.proofs.Contents.{dropped}

-- ---- errors that are passed on

pub err_of : {A : Type 0} (P : ReadError → Type 0) (Q : Result A ReadError → Type 0) (r : Result A ReadError) (e : ReadError) → IsErr r × IsErrAnd r P → ((y : ReadError) → P y → y ≡ e) → Q (Err e) → Q r
err_of P Q (Ok x) e is same q = absurd is.1
err_of P Q (Err y) e is same q = subst (λ (z : ReadError). Q (Err z)) (sym (same y is.1)) q

pub fails_as : (P Q : ReadError → Type 0) → ((r : ReadError) → P r → Q r) → (e : ReadError) → Fails P e → Fails Q e
fails_as P Q f (error.Refused r) h = f (error.Refused r) h
fails_as P Q f error.NoMemory h = f error.NoMemory h
fails_as P Q f error.Unformed h = absurd h

-- ---- types

one_true : (b : Bool) → ((true && b) && true) ≡ true → b ≡ true
one_true true e = refl
one_true false e = absurd cc

first_true : (a b : Bool) → (a && b) ≡ true → a ≡ true
first_true true b e = refl
first_true false b e = absurd cc

second_true : (a b : Bool) → (a && b) ≡ true → b ≡ true
second_true true b e = e
second_true false b e = absurd cc

and_true : (b : Bool) → b ≡ true → (b && true) ≡ true
and_true true e = refl
and_true false e = absurd cc

pub list_readable : (t u : TypeTree) (b : Box TypeTree Global) → t ≡ ListTree b → u ≡ b.value → IsReadable t → IsReadable u
list_readable t u b is same (inl h) = inl (ap (λ (x : TypeTree). are_trees (tree_of x)) same ∙ one_true _ (ap (λ (x : TypeTree). are_trees (tree_of x)) (sym is) ∙ h))
list_readable t u b is same (inr e) = let no : ListTree b ≡ Plain kind.Raw = sym is ∙ e in absurd cc

pub set_readable : (t u : TypeTree) (b : Box TypeTree Global) → t ≡ SetTree b → u ≡ b.value → IsReadable t → IsReadable u
set_readable t u b is same (inl h) = inl (ap (λ (x : TypeTree). are_trees (tree_of x)) same ∙ one_true _ (ap (λ (x : TypeTree). are_trees (tree_of x)) (sym is) ∙ h))
set_readable t u b is same (inr e) = let no : SetTree b ≡ Plain kind.Raw = sym is ∙ e in absurd cc

pub keys_readable : (t u : TypeTree) (b d : Box TypeTree Global) → t ≡ MapTree b d → u ≡ b.value → IsReadable t → IsReadable u
keys_readable t u b d is same (inl h) =
    let both = one_true _ (ap (λ (x : TypeTree). are_trees (tree_of x)) (sym is) ∙ h) in
    inl (ap (λ (x : TypeTree). are_trees (tree_of x)) same ∙ and_true _ (first_true _ _ both))
keys_readable t u b d is same (inr e) = let no : MapTree b d ≡ Plain kind.Raw = sym is ∙ e in absurd cc

pub values_readable : (t u : TypeTree) (b d : Box TypeTree Global) → t ≡ MapTree b d → u ≡ d.value → IsReadable t → IsReadable u
values_readable t u b d is same (inl h) =
    let both = one_true _ (ap (λ (x : TypeTree). are_trees (tree_of x)) (sym is) ∙ h) in
    inl (ap (λ (x : TypeTree). are_trees (tree_of x)) same ∙ second_true _ _ both)
values_readable t u b d is same (inr e) = let no : MapTree b d ≡ Plain kind.Raw = sym is ∙ e in absurd cc

pub tuple_readable : (t : TypeTree) (v : Vec TypeTree Global) (ts : List TypeTree) → t ≡ TupleTree v → ts ≡ v.items → IsReadable t → are_trees (listed_types ts) ≡ true
tuple_readable t v ts is same (inl h) = ap (λ (x : List TypeTree). are_trees (listed_types x)) same ∙ ap are_trees (sym (inner_tuple v)) ∙ one_true _ (ap (λ (x : TypeTree). are_trees (tree_of x)) (sym is) ∙ h)
tuple_readable t v ts is same (inr e) = let no : TupleTree v ≡ Plain kind.Raw = sym is ∙ e in absurd cc

pub udt_readable : (t : TypeTree) (keyspace name : String Global) (v : Vec (String Global × TypeTree) Global) (xs : List (String Global × TypeTree)) → t ≡ UdtTree keyspace name v → xs ≡ v.items → IsReadable t → are_trees (listed_fields xs) ≡ true
udt_readable t keyspace name v xs is same (inl h) = ap (λ (x : List (String Global × TypeTree)). are_trees (listed_fields x)) same ∙ ap are_trees (sym (inner_udt keyspace name v)) ∙ one_true _ (ap (λ (x : TypeTree). are_trees (tree_of x)) (sym is) ∙ h)
udt_readable t keyspace name v xs is same (inr e) = let no : UdtTree keyspace name v ≡ Plain kind.Raw = sym is ∙ e in absurd cc

pub type_readable : (ts : List TypeTree) (i : ℕ) (t : TypeTree) → t ≡ get_or ts i t → i < length ts → are_trees (listed_types ts) ≡ true → IsReadable t
type_readable [] i t here lt h = absurd (omega arith)
type_readable (u ∷ ts) zero t here lt h = inl (ap (λ (x : TypeTree). are_trees (tree_of x)) here ∙ and_true _ (first_true _ _ h))
type_readable (u ∷ ts) (suc i) t here lt h = type_readable ts i t here (omega arith) (second_true _ _ h)

pub field_readable : (xs : List (String Global × TypeTree)) (i : ℕ) (x : String Global × TypeTree) → x ≡ get_or xs i x → i < length xs → are_trees (listed_fields xs) ≡ true → IsReadable x.1
field_readable [] i x here lt h = absurd (omega arith)
field_readable (y ∷ xs) zero x here lt h = inl (ap (λ (z : String Global × TypeTree). are_trees (tree_of z.1)) here ∙ and_true _ (first_true _ _ h))
field_readable (y ∷ xs) (suc i) x here lt h = field_readable xs i x here (omega arith) (second_true _ _ h)

plain_scalar : (k : Kind) → is_plain k ≡ true → has_no_items k ≡ true
plain_scalar kind.List e = absurd cc
plain_scalar kind.Map e = absurd cc
plain_scalar kind.Set e = absurd cc
plain_scalar kind.Udt e = absurd cc
plain_scalar kind.Tuple e = absurd cc
plain_scalar k e = refl

plain_kind : (j k : Kind) → Plain j ≡ Plain k → j ≡ k
plain_kind j k e = cc

pub plain_readable : (t : TypeTree) (k : Kind) → t ≡ Plain k → IsReadable t → has_no_items k ≡ true
plain_readable t k is (inl h) = plain_scalar k (first_true _ _ (first_true _ _ (first_true _ _ (ap (λ (x : TypeTree). are_trees (tree_of x)) (sym is) ∙ h))))
plain_readable t k is (inr e) = let raw = plain_kind k kind.Raw (sym is ∙ e) in rw raw refl

-- ---- values of their contents

pub scalar_content : (l : Rules) (at : ℕ) (t : TypeTree) (k : Kind) (c : List ℕ) (r : Result Value ReadError) → kind_in (head_of t) ≡ k → ReadsScalar l at k c r → ReadsContent l at t c r
scalar_content l at t k c (Ok v) e h = subst (λ (j : Kind). HasContent l at j (types_in (inner_of t)) c v) (sym e) (h (types_in (inner_of t)))
scalar_content l at t k c (Err why) e h = subst (λ (j : Kind). Fails (ContentStops l at j (types_in (inner_of t)) c) why) (sym e) (fails_as (λ r. (inner : Types) → ContentStops l at k inner c r) (ContentStops l at k (types_in (inner_of t)) c) (λ r g. g (types_in (inner_of t))) why h)

module _ (l : Rules) (at : ℕ) (c : List ℕ) where
  counted_content : (k : Kind) (ts : Types) (n : ℕ) (items : Values) (v : Value) → is_counted k ≡ true → value_of v ≡ Counted_and k n items NoValue → AreCounted l at ts n items c → HasContent l at k ts c v
  counted_content k ts n items v counted is h = subst (λ (w : Values). ((front : List ℕ) → IsBytes (Some c) front → ValueSpells k ts w front) × AreWithin l w) (sym is)
      (λ front b. (refl, counted, c, h.0, alone (IsBytes (Some c)) front b), (h.1, tt))

  fielded_content : (k : Kind) (ts : Types) (xs : List Value) (v : Value) → has_fields k ≡ true → c ≢ [] → value_of v ≡ Fields_and k (listed_values xs) NoValue → ValuesSpell (first_types (length xs) ts) (listed_values xs) c × AreWithin l (listed_values xs) → HasContent l at k ts c v
  fielded_content k ts xs v fields some is h =
      let items = subst (λ (n : ℕ). ValuesSpell (first_types n ts) (listed_values xs) c) (sym (many_values xs)) h.0 in
      subst (λ (w : Values). ((front : List ℕ) → IsBytes (Some c) front → ValueSpells k ts w front) × AreWithin l w) (sym is)
      (λ front b. (refl, fields, c, some, items, alone (IsBytes (Some c)) front b), (h.1, tt))

  pub list_content : (t u : TypeTree) (b : Box TypeTree Global) (v : Vec Value Global) → t ≡ ListTree b → u ≡ b.value → AreCounted l at (types_in (tree_of u)) (length v.items) (listed_values v.items) c → ReadsContent l at t c (Ok (ListValue v))
  list_content t u b v is same h =
      let these = subst (λ (x : TypeTree). AreCounted l at (types_in (tree_of x)) (length v.items) (listed_values v.items) c) same h in
      subst (λ (x : TypeTree). ReadsContent l at x c (Ok (ListValue v))) (sym is) (counted_content kind.List (types_in (tree_of b.value)) (length v.items) (listed_values v.items) (ListValue v) refl (list_is v) these)

  pub set_content : (t u : TypeTree) (b : Box TypeTree Global) (v : Vec Value Global) → t ≡ SetTree b → u ≡ b.value → AreCounted l at (types_in (tree_of u)) (length v.items) (listed_values v.items) c → ReadsContent l at t c (Ok (SetValue v))
  set_content t u b v is same h =
      let these = subst (λ (x : TypeTree). AreCounted l at (types_in (tree_of x)) (length v.items) (listed_values v.items) c) same h in
      subst (λ (x : TypeTree). ReadsContent l at x c (Ok (SetValue v))) (sym is) (counted_content kind.Set (types_in (tree_of b.value)) (length v.items) (listed_values v.items) (SetValue v) refl (set_is v) these)

  pub map_content : (t u w : TypeTree) (b d : Box TypeTree Global) (v : Vec (Value × Value) Global) → t ≡ MapTree b d → u ≡ b.value → w ≡ d.value → AreCounted l at (types_by (λ x. x) (u ∷ w ∷ [])) (length v.items) (listed_pairs v.items) c → ReadsContent l at t c (Ok (MapValue v))
  map_content t u w b d v is same other h =
      let these = subst (λ (x : TypeTree). AreCounted l at (types_by (λ y. y) (x ∷ w ∷ [])) (length v.items) (listed_pairs v.items) c) same h in
      let those = subst (λ (x : TypeTree). AreCounted l at (types_by (λ y. y) (b.value ∷ x ∷ [])) (length v.items) (listed_pairs v.items) c) other these in
      subst (λ (x : TypeTree). ReadsContent l at x c (Ok (MapValue v))) (sym is) (counted_content kind.Map (types_by (λ y. y) (b.value ∷ d.value ∷ [])) (length v.items) (listed_pairs v.items) (MapValue v) refl (map_is v) those)

  pub tuple_content : (t : TypeTree) (types : Vec TypeTree Global) (ts : List TypeTree) (v : Vec Value Global) → t ≡ TupleTree types → ts ≡ types.items → c ≢ [] → ValuesSpell (first_types (length v.items) (types_by (λ x. x) ts)) (listed_values v.items) c × AreWithin l (listed_values v.items) → ReadsContent l at t c (Ok (TupleValue v))
  tuple_content t types ts v is same some h =
      let inner : types_by (λ x. x) ts ≡ types_in (inner_of (TupleTree types)) = ap (λ (x : List TypeTree). types_by (λ y. y) x) same ∙ sym (tuple_types types) in
      let these = subst (λ (x : Types). ValuesSpell (first_types (length v.items) x) (listed_values v.items) c × AreWithin l (listed_values v.items)) inner h in
      subst (λ (x : TypeTree). ReadsContent l at x c (Ok (TupleValue v))) (sym is) (fielded_content kind.Tuple (types_in (inner_of (TupleTree types))) v.items (TupleValue v) refl some (tuple_is v) these)

  pub udt_content : (t : TypeTree) (keyspace name : String Global) (fields : Vec (String Global × TypeTree) Global) (xs : List (String Global × TypeTree)) (v : Vec Value Global) → t ≡ UdtTree keyspace name fields → xs ≡ fields.items → c ≢ [] → ValuesSpell (first_types (length v.items) (types_by (λ x. x.1) xs)) (listed_values v.items) c × AreWithin l (listed_values v.items) → ReadsContent l at t c (Ok (UdtValue v))
  udt_content t keyspace name fields xs v is same some h =
      let inner : types_by (λ x. x.1) xs ≡ types_in (inner_of (UdtTree keyspace name fields)) = ap (λ (x : List (String Global × TypeTree)). types_by (λ y. y.1) x) same ∙ sym (udt_types keyspace name fields) in
      let these = subst (λ (x : Types). ValuesSpell (first_types (length v.items) x) (listed_values v.items) c × AreWithin l (listed_values v.items)) inner h in
      subst (λ (x : TypeTree). ReadsContent l at x c (Ok (UdtValue v))) (sym is) (fielded_content kind.Udt (types_in (inner_of (UdtTree keyspace name fields))) v.items (UdtValue v) refl some (udt_is v) these)

  pub tuple_fails : (t : TypeTree) (types : Vec TypeTree Global) (ts : List TypeTree) (e : ReadError) → t ≡ TupleTree types → ts ≡ types.items → Fails (λ r. (k : Kind) → has_fields k ≡ true → ContentStops l at k (types_by (λ x. x) ts) c r) e → ReadsContent l at t c (Err e)
  tuple_fails t types ts e is same h =
      let inner : types_by (λ x. x) ts ≡ types_in (inner_of (TupleTree types)) = ap (λ (x : List TypeTree). types_by (λ y. y) x) same ∙ sym (tuple_types types) in
      subst (λ (x : TypeTree). ReadsContent l at x c (Err e)) (sym is)
      (fails_as (λ r. (k : Kind) → has_fields k ≡ true → ContentStops l at k (types_by (λ x. x) ts) c r) (ContentStops l at kind.Tuple (types_in (inner_of (TupleTree types))) c) (λ r g. subst (λ (x : Types). ContentStops l at kind.Tuple x c r) inner (g kind.Tuple refl)) e h)

  pub udt_fails : (t : TypeTree) (keyspace name : String Global) (fields : Vec (String Global × TypeTree) Global) (xs : List (String Global × TypeTree)) (e : ReadError) → t ≡ UdtTree keyspace name fields → xs ≡ fields.items → Fails (λ r. (k : Kind) → has_fields k ≡ true → ContentStops l at k (types_by (λ x. x.1) xs) c r) e → ReadsContent l at t c (Err e)
  udt_fails t keyspace name fields xs e is same h =
      let inner : types_by (λ x. x.1) xs ≡ types_in (inner_of (UdtTree keyspace name fields)) = ap (λ (x : List (String Global × TypeTree)). types_by (λ y. y.1) x) same ∙ sym (udt_types keyspace name fields) in
      subst (λ (x : TypeTree). ReadsContent l at x c (Err e)) (sym is)
      (fails_as (λ r. (k : Kind) → has_fields k ≡ true → ContentStops l at k (types_by (λ x. x.1) xs) c r) (ContentStops l at kind.Udt (types_in (inner_of (UdtTree keyspace name fields))) c) (λ r g. subst (λ (x : Types). ContentStops l at kind.Udt x c r) inner (g kind.Udt refl)) e h)

-- ---- a value at the front

pub null_value : (l : Rules) (at : ℕ) (k : Kind) (inner : Types) (b : List ℕ) (o : Option (Bor (List ℕ))) → ((c : Bor (List ℕ)) → o ≡ Some c → ⊥) → Holds l at b (Ok o) → (4 ≤ length b) × ValueSpells k inner (Null_and NoValue) (take 4 b) × AreWithin l (Null_and NoValue)
null_value l at k inner b None never h = (h.0, alone (IsBytes None) (take 4 b) h.1, tt)
null_value l at k inner b (Some c) never h = absurd (never c refl)

pub no_bytes : (c : List ℕ) → eqb (length c) 0 ≡ true → c ≡ []
no_bytes [] e = refl
no_bytes (x ∷ c) e = absurd (omega (arith, eqb-true _ _ e))

pub some_bytes : (c : List ℕ) → eqb (length c) 0 ≡ false → c ≢ []
some_bytes c e none = let zero : length c ≡ 0 = ap length none in absurd (eqb-false _ _ e zero)

pub empty_value : (l : Rules) (k : Kind) (inner : Types) (b c : List ℕ) → eqb (length c) 0 ≡ true → (4 + length c ≤ length b) × IsBytes (Some c) (take (4 + length c) b) → (4 + length c ≤ length b) × ValueSpells k inner (Empty_and NoValue) (take (4 + length c) b) × AreWithin l (Empty_and NoValue)
empty_value l k inner b c e h = (h.0, alone (IsBytes (Some [])) (take (4 + length c) b) (subst (λ (x : List ℕ). IsBytes (Some x) (take (4 + length c) b)) (no_bytes c e) h.1), tt)

longer : (c : List ℕ) → c ≢ [] → 0 < length c
longer [] ne = absurd (ne refl)
longer (x ∷ c) ne = omega arith

pub value_refused : (l : Rules) (at : ℕ) (k : Kind) (inner : Types) (b c : List ℕ) (e : ReadError) → eqb (length c) 0 ≡ false → (4 + length c ≤ length b) × IsBytes (Some c) (take (4 + length c) b) → Fails (ContentStops l at k inner c) e → Fails (FrontStops l at k inner b) e
value_refused l at k inner b c e some h f = fails_as (ContentStops l at k inner c) (FrontStops l at k inner b) (λ r g.
    let long : 0 < length c = longer c (some_bytes c some) in
    subst (λ (x : List ℕ). FrontStops l at k inner x r) (take-append-drop (4 + length c) b) (g (take (4 + length c) b) (drop (4 + length c) b) long h.1)) e f

-- ---- items

pub body_short : (at used : ℕ) (c body rest : List ℕ) → body ≡ drop 4 c → rest ≡ drop used body → used ≤ length (drop 4 c) → 4 ≤ length c → at + 4 + length c < 2 ^ 64 → at + 8 + used + length rest < 2 ^ 64
body_short at used c body rest e f le four short = omega (arith, ap length e, ap length f, length-drop 4 c, length-drop used body)

pub content_short : (at used : ℕ) (c rest : List ℕ) → rest ≡ drop used c → used ≤ length c → at + 4 + length c < 2 ^ 64 → at + 4 + used + length rest < 2 ^ 64
content_short at used c rest f le short = omega (arith, ap length f, length-drop used c)

module _ (l : Rules) (ts : Types) (count : ℕ) (c body : List ℕ) (cut : body ≡ drop 4 c) where
  pub item_read : (k : Kind) (inner : Types) (one : Type_and k inner NoMore ≡ ts) (xs new : List Value) (v : Value) (used m : ℕ) (rest : List ℕ) → new ≡ xs ++ v ∷ [] → AreRead l ts count (drop 4 c) (length xs) (listed_values xs) used → length xs < count → rest ≡ drop used body
      → (m ≤ length rest) × ValueSpells k inner (value_of v) (take m rest) × AreWithin l (value_of v) → AreRead l ts count (drop 4 c) (length new) (listed_values new) (used + m)
  item_read k inner one xs new v used m rest more read lt is h =
      let here : rest ≡ drop used (drop 4 c) = is ∙ ap (drop used) cut in
      let front = subst (λ (x : List ℕ). (m ≤ length x) × ValueSpells k inner (value_of v) (take m x) × AreWithin l (value_of v)) here h in
      let spelled = subst (λ (t : Types). ValuesSpell t (value_of v) (take m (drop used (drop 4 c)))) one front.1 in
      let long : length new ≡ length xs + 1 = ap length more ∙ length-append xs (v ∷ []) in
      let listed : listed_values new ≡ with_others (listed_values xs) (value_of v) = ap listed_values more ∙ values_snoc xs v in
      subst (λ (n : ℕ). AreRead l ts count (drop 4 c) n (listed_values new) (used + m)) (sym long)
      (subst (λ (w : Values). AreRead l ts count (drop 4 c) (length xs + 1) w (used + m)) (sym listed)
      (one_more_read l ts count (drop 4 c) (length xs) (listed_values xs) (value_of v) used m read lt front.0 spelled front.2))

module _ (l : Rules) (k j : Kind) (inner others : Types) (count : ℕ) (c body : List ℕ) (cut : body ≡ drop 4 c) where
  abbrev pair : Types
  pair = Type_and k inner (Type_and j others NoMore)

  pub pair_read : (xs new : List (Value × Value)) (v w : Value) (used m n : ℕ) (rest next : List ℕ) → new ≡ xs ++ (v, w) ∷ [] → AreRead l pair count (drop 4 c) (length xs) (listed_pairs xs) used → length xs < count → rest ≡ drop used body → next ≡ drop (used + m) body
      → (m ≤ length rest) × ValueSpells k inner (value_of v) (take m rest) × AreWithin l (value_of v) → (n ≤ length next) × ValueSpells j others (value_of w) (take n next) × AreWithin l (value_of w) → AreRead l pair count (drop 4 c) (length new) (listed_pairs new) (used + m + n)
  pair_read xs new v w used m n rest next more read lt is also h g =
      let b = drop used (drop 4 c) in
      let here : rest ≡ b = is ∙ ap (drop used) cut in
      let there : next ≡ drop m b = also ∙ ap (drop (used + m)) cut ∙ sym (dropped used m (drop 4 c)) in
      let key = subst (λ (x : List ℕ). (m ≤ length x) × ValueSpells k inner (value_of v) (take m x) × AreWithin l (value_of v)) here h in
      let value = subst (λ (x : List ℕ). (n ≤ length x) × ValueSpells j others (value_of w) (take n x) × AreWithin l (value_of w)) there g in
      let both = with_others (value_of v) (value_of w) in
      let spelled = pair_spells k j inner others (value_of v) (value_of w) m n b key.0 key.1 value.1 in
      let long : length new ≡ length xs + 1 = ap length more ∙ length-append xs ((v, w) ∷ []) in
      let listed : listed_pairs new ≡ with_others (listed_pairs xs) both = ap listed_pairs more ∙ pairs_snoc xs (v, w) in
      let sum : used + (m + n) ≡ used + m + n = omega arith in
      subst (λ (u : ℕ). AreRead l pair count (drop 4 c) (length new) (listed_pairs new) u) sum
      (subst (λ (x : ℕ). AreRead l pair count (drop 4 c) x (listed_pairs new) (used + (m + n))) (sym long)
      (subst (λ (x : Values). AreRead l pair count (drop 4 c) (length xs + 1) x (used + (m + n))) (sym listed)
      (one_more_read l pair count (drop 4 c) (length xs) (listed_pairs xs) both used (m + n) read lt (omega (arith, key.0, value.0, length-drop m b)) spelled (within_both l (value_of v) (value_of w) key.2 value.2))))

module _ {X : Type 0} (f : X → TypeTree) (l : Rules) (at : ℕ) (xs : List X) (c : List ℕ) where
  -- the fields that are read, and how many they are
  pub record FieldsSoFar (i : ℕ) (items : List Value) (used : ℕ) : Type 0 where
    pub fields : AfterFields f l at xs c i (listed_values items) used
    pub many : length items ≡ i

  pub field_read : (i : ℕ) (x : X) (items new : List Value) (v : Value) (used m : ℕ) (rest : List ℕ) → x ≡ get_or xs i x → i < length xs → new ≡ items ++ v ∷ [] → AfterFields f l at xs c i (listed_values items) used → used < length c → rest ≡ drop used c
      → (m ≤ length rest) × ValueSpells (kind_in (head_of (f x))) (types_in (inner_of (f x))) (value_of v) (take m rest) × AreWithin l (value_of v) → AfterFields f l at xs c (i + 1) (listed_values new) (used + m)
  field_read i x items new v used m rest here lt more read le is h =
      let front = subst (λ (y : List ℕ). (m ≤ length y) × ValueSpells (kind_in (head_of (f x))) (types_in (inner_of (f x))) (value_of v) (take m y) × AreWithin l (value_of v)) is h in
      let listed : listed_values new ≡ with_others (listed_values items) (value_of v) = ap listed_values more ∙ values_snoc items v in
      subst (λ (w : Values). AfterFields f l at xs c (i + 1) w (used + m)) (sym listed)
      (next_field f l at xs c i x here lt (listed_values items) used read (value_of v) m le front.0 front.1 front.2)
