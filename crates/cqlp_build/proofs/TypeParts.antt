-- Types, as the trees that are made of what their options have.
use Rattle.std.proofs.Common.{◌≡◌, ℕ, suc, ◌++◌, ◌&&◌, ◌⊎◌, List, [], ◌∷◌, length, map, Bool, true, false, Some, None, refl, sym, ap, ◌∙◌, subst, append_assoc, append-nil, arith, inl, inr}
use Rattle.std.specs.Prelude.{◌||◌, ◌==◌}
use Rattle.std.specs.List.{flat_map, list_all}
use Rattle.std.proofs.lemmas.Bool.{eqb-true, eq-eqb}
use Rattle.std.proofs.lemmas.List.{map-append}
use Rattle.cqlp_note.specs.declared.field.Field.TheVariants as field
use Rattle.cqlp_note.specs.Field as note
use Rattle.cqlp_kind.specs.declared.kind.Kind.{Kind}
use Rattle.cqlp_kind.specs.declared.kind.Kind.TheVariants as kind
use Rattle.cqlp_kind.specs.Types.{is_plain}
use Rattle.cqlp_kind.specs.TypeStep.{TypeEvent, IsNode}
use Rattle.std.specs.Prelude.{string_bytes}
use Rattle.std.specs.declared.vec.Vec.{Vec}
use Rattle.std.specs.declared.string.String.{String}
use Rattle.std.specs.declared.alloc.Global.{Global}
use Rattle.cqlp_type.specs.declared.tree.TypeTree.{TypeTree, Tuple, Udt}
use Rattle.cqlp_type.specs.TypeLists.{listed_fields, listed_types}
use Rattle.cqlp_type.specs.TypeTrees.{head_of, inner_of, tree_of}
use Rattle.cqlp_type.proofs.TreeLengths.{inner_tuple, inner_udt}
use Rattle.cqlp_type.specs.Trees.{Head, Plain, Custom, ListOf, SetOf, MapOf, TupleOf, UdtOf, Trees, NoTree, Tree_and, trees_in, kind_in, has_names, is_head, are_trees, is_tree, head_items, trees_items, name_items}
use Rattle.cqlp_grammar.specs.Events.{Event, Holds, Node_of, type_event}
use Rattle.cqlp_message.specs.FrameValues.{Octets}
use Rattle.cqlp_build.specs.declared.held.FrameEvents.{FrameEvents}
use Rattle.cqlp_build.specs.declared.held.Fault.TheVariants as fault
use Rattle.cqlp_build.specs.FrameEvents.{Builds, HoldsNoMore, IsRefused, IsSound, Many, TakesKind, any, first_fault, left}
use Rattle.cqlp_build.specs.Types.{IsOfKind, Wraps, beside, field_events, is_built_field, is_built_type, list_of, map_of, names_count, set_of, events_after_kind, type_events}
use Rattle.cqlp_build.proofs.Several.{both, join}
use Rattle.cqlp_build.proofs.Steps.{AreNone, as_builds, no_memory, pair_builds, ◌then◌}

-- ---- one type

-- what one type is
pub record One (name : List ℕ) (h : Head) (inner others : Trees) : Type 0 where
  pub no_name : name ≡ []
  pub no_others : others ≡ NoTree
  pub fits : is_head h (trees_in inner) ≡ true
  pub trees : are_trees inner ≡ true
  pub names : names_count (has_names h) inner ≡ true

none_in : (ts : Trees) → trees_in ts ≡ 0 → ts ≡ NoTree
none_in NoTree e = refl
none_in (Tree_and name h inner others) e = absurd (omega (arith, e))

empty_is : (name : List ℕ) → (false || (length name == 0)) ≡ true → name ≡ []
empty_is [] e = refl
empty_is (x ∷ xs) e = absurd (omega (arith, eqb-true (length (x ∷ xs)) 0 e))

pub one_of : (name : List ℕ) (h : Head) (inner others : Trees) → is_built_type (Tree_and name h inner others) ≡ true → One name h inner others
one_of name h inner others e =
    let t = Tree_and name h inner others in
    let p = both (is_tree t) (names_count false t) e in
    let q = both (trees_in t == 1) (are_trees t) p.0 in
    let r = both (is_head h (trees_in inner) && are_trees inner) (are_trees others) q.1 in
    let s = both (is_head h (trees_in inner)) (are_trees inner) r.0 in
    let n = both ((false || (length name == 0)) && names_count (has_names h) inner) (names_count false others) p.1 in
    let m = both (false || (length name == 0)) (names_count (has_names h) inner) n.0 in
    record {
      no_name = empty_is name m.0;
      no_others = none_in others (omega (arith, eqb-true (trees_in t) 1 q.0));
      fits = s.0;
      trees = s.1;
      names = m.1;
    }

pub of_one : (h : Head) (inner : Trees) → is_head h (trees_in inner) ≡ true → are_trees inner ≡ true → names_count (has_names h) inner ≡ true → is_built_type (Tree_and [] h inner NoTree) ≡ true
of_one h inner fits trees names =
    let t = Tree_and [] h inner NoTree in
    join (is_tree t) (names_count false t)
    (join (trees_in t == 1) (are_trees t) refl (join (is_head h (trees_in inner) && are_trees inner) true (join (is_head h (trees_in inner)) (are_trees inner) fits trees) refl))
    (join ((false || true) && names_count (has_names h) inner) true (join true (names_count (has_names h) inner) refl names) refl)

alone : (name : List ℕ) (h : Head) (inner others : Trees) → One name h inner others → Tree_and name h inner others ≡ Tree_and [] h inner NoTree
alone name h inner others o = ap (λ (n : List ℕ). Tree_and n h inner others) o.no_name ∙ ap (λ (r : Trees). Tree_and [] h inner r) o.no_others

-- ---- types side by side, each with a name

abbrev pub row : List (Octets × Trees) → Trees
row [] = NoTree
row ((name, NoTree) ∷ fs) = row fs
row ((name, Tree_and n h inner others) ∷ fs) = Tree_and name h inner (row fs)

abbrev item_events : Bool → Octets × Trees → List Event
item_events named f = map type_event (name_items named f.0) ++ type_events f.1

abbrev good : Bool → Octets × Trees → Bool
good named f = (named || (length f.0 == 0)) && is_built_type f.1

own_then : (k : TypeEvent) (hs is rs : List TypeEvent) → k ∷ (hs ++ (is ++ rs)) ≡ (k ∷ (hs ++ (is ++ []))) ++ rs
own_then k hs is rs = ap (λ es. k ∷ es) (ap (λ es. hs ++ es) (sym (append_assoc is [] rs)) ∙ sym (append_assoc hs (is ++ []) rs))

-- the events of a type before others
first_said : (named : Bool) (name n : List ℕ) (h : Head) (inner others more : Trees) → others ≡ NoTree
    → map type_event (trees_items named (Tree_and name h inner more)) ≡ item_events named (name, Tree_and n h inner others) ++ map type_event (trees_items named more)
first_said named name n h inner others more none =
    let front = name_items named name in
    let own = IsNode (kind_in h) ∷ (head_items h (trees_in inner) ++ (trees_items (has_names h) inner ++ [])) in
    let rest = trees_items named more in
    map-append type_event front (IsNode (kind_in h) ∷ (head_items h (trees_in inner) ++ (trees_items (has_names h) inner ++ rest)))
    ∙ ap (λ es. map type_event front ++ es) (ap (λ es. map type_event es) (own_then (IsNode (kind_in h)) (head_items h (trees_in inner)) (trees_items (has_names h) inner) rest) ∙ map-append type_event own rest)
    ∙ sym (append_assoc (map type_event front) (map type_event own) (map type_event rest))
    ∙ ap (λ (r : Trees). item_events named (name, Tree_and n h inner r) ++ map type_event rest) (sym none)

-- what types side by side are
pub record IsRow (named : Bool) (fs : List (Octets × Trees)) : Type 0 where
  pub said : map type_event (trees_items named (row fs)) ≡ flat_map (item_events named) fs
  pub many : trees_in (row fs) ≡ length fs
  pub trees : are_trees (row fs) ≡ true
  pub names : names_count named (row fs) ≡ true

pub is_row : (named : Bool) (fs : List (Octets × Trees)) → list_all (good named) fs ≡ true → IsRow named fs
is_row named [] g = record { said = refl; many = refl; trees = refl; names = refl }
is_row named ((name, NoTree) ∷ fs) g =
    let p = both (good named (name, NoTree)) (list_all (good named) fs) g in
    let q = both (named || (length name == 0)) (is_built_type NoTree) p.0 in
    let never : false ≡ true = q.1 in
    absurd cc
is_row named ((name, Tree_and n h inner others) ∷ fs) g =
    let p = both (good named (name, Tree_and n h inner others)) (list_all (good named) fs) g in
    let q = both (named || (length name == 0)) (is_built_type (Tree_and n h inner others)) p.0 in
    let o = one_of n h inner others q.1 in
    let more = is_row named fs p.1 in
    record {
      said = first_said named name n h inner others (row fs) o.no_others ∙ ap (λ es. item_events named (name, Tree_and n h inner others) ++ es) more.said;
      many = ap suc more.many;
      trees = join (is_head h (trees_in inner) && are_trees inner) (are_trees (row fs)) (join (is_head h (trees_in inner)) (are_trees inner) o.fits o.trees) more.trees;
      names = join ((named || (length name == 0)) && names_count (has_names h) inner) (names_count named (row fs)) (join (named || (length name == 0)) (names_count (has_names h) inner) q.0 o.names) more.names;
    }

row_view : (named : Bool) (ts : Trees) → are_trees ts ≡ true → names_count named ts ≡ true → (fs : List (Octets × Trees)) × (list_all (good named) fs ≡ true) × (ts ≡ row fs)
row_view named NoTree a n = ([], refl, refl)
row_view named (Tree_and name h inner others) a n =
    let q = both (is_head h (trees_in inner) && are_trees inner) (are_trees others) a in
    let r = both (is_head h (trees_in inner)) (are_trees inner) q.0 in
    let m = both ((named || (length name == 0)) && names_count (has_names h) inner) (names_count named others) n in
    let k = both (named || (length name == 0)) (names_count (has_names h) inner) m.0 in
    let v = row_view named others q.1 m.1 in
    let t = Tree_and [] h inner NoTree in
    ((name, t) ∷ v.0, join (good named (name, t)) (list_all (good named) v.0) (join (named || (length name == 0)) (is_built_type t) k.0 (of_one h inner r.0 r.1 k.1)) v.1, ap (λ (r : Trees). Tree_and name h inner r) v.2)

-- ---- types side by side, without names

abbrev bare : List Trees → List (Octets × Trees)
bare [] = []
bare (t ∷ ts) = ([], t) ∷ bare ts

abbrev pub types_all : List Trees → Trees
types_all ts = row (bare ts)

bare_good : (ts : List Trees) → list_all is_built_type ts ≡ true → list_all (good false) (bare ts) ≡ true
bare_good [] g = refl
bare_good (t ∷ ts) g =
    let p = both (is_built_type t) (list_all is_built_type ts) g in
    join (is_built_type t) (list_all (good false) (bare ts)) p.0 (bare_good ts p.1)

bare_said : (ts : List Trees) → flat_map (item_events false) (bare ts) ≡ flat_map type_events ts
bare_said [] = refl
bare_said (t ∷ ts) = ap (λ es. type_events t ++ es) (bare_said ts)

bare_many : (ts : List Trees) → length (bare ts) ≡ length ts
bare_many [] = refl
bare_many (t ∷ ts) = ap suc (bare_many ts)

bare_view : (fs : List (Octets × Trees)) → list_all (good false) fs ≡ true → (ts : List Trees) × (list_all is_built_type ts ≡ true) × (fs ≡ bare ts)
bare_view [] g = ([], refl, refl)
bare_view ((name, t) ∷ fs) g =
    let p = both (good false (name, t)) (list_all (good false) fs) g in
    let q = both (false || (length name == 0)) (is_built_type t) p.0 in
    let v = bare_view fs p.1 in
    (t ∷ v.0, join (is_built_type t) (list_all is_built_type v.0) q.1 v.1, λ i. (empty_is name q.0 i, t) ∷ v.2 i)

-- what types without names are
pub record AreTypes (ts : List Trees) : Type 0 where
  pub said : type_events (types_all ts) ≡ flat_map type_events ts
  pub many : trees_in (types_all ts) ≡ length ts
  pub trees : are_trees (types_all ts) ≡ true
  pub names : names_count false (types_all ts) ≡ true

pub are_types : (ts : List Trees) → list_all is_built_type ts ≡ true → AreTypes ts
are_types ts g =
    let r = is_row false (bare ts) (bare_good ts g) in
    record { said = r.said ∙ bare_said ts; many = r.many ∙ bare_many ts; trees = r.trees; names = r.names }

types_view : (n : ℕ) (inner : Trees) → trees_in inner ≡ n → are_trees inner ≡ true → names_count false inner ≡ true → (ts : List Trees) × (Many is_built_type n ts) × (inner ≡ types_all ts)
types_view n inner many trees names =
    let v = row_view false inner trees names in
    let w = bare_view v.0 v.1 in
    let is : inner ≡ types_all w.0 = v.2 ∙ ap row w.2 in
    let long : length w.0 ≡ n = sym (are_types w.0 w.1).many ∙ (ap trees_in (sym is) ∙ many) in
    (w.0, (long, w.1), is)

-- ---- heads of kinds

plain_never : (j k : Kind) (n : ℕ) → is_plain k ≡ false → j ≡ k → (is_plain j && (n == 0)) ≡ true → ⊥
plain_never j k n off same e =
    let p = both (is_plain j) (n == 0) e in
    let d : true ≡ false = sym p.0 ∙ (ap is_plain same ∙ off) in
    absurd cc

list_head : (h : Head) (n : ℕ) → kind_in h ≡ kind.List → is_head h n ≡ true → (h ≡ ListOf) × (n ≡ 1)
list_head ListOf n k e = (refl, eqb-true n 1 e)
list_head (Plain j) n k e = absurd (plain_never j kind.List n refl k e)
list_head h n k e = absurd cc

set_head : (h : Head) (n : ℕ) → kind_in h ≡ kind.Set → is_head h n ≡ true → (h ≡ SetOf) × (n ≡ 1)
set_head SetOf n k e = (refl, eqb-true n 1 e)
set_head (Plain j) n k e = absurd (plain_never j kind.Set n refl k e)
set_head h n k e = absurd cc

map_head : (h : Head) (n : ℕ) → kind_in h ≡ kind.Map → is_head h n ≡ true → (h ≡ MapOf) × (n ≡ 2)
map_head MapOf n k e = (refl, eqb-true n 2 e)
map_head (Plain j) n k e = absurd (plain_never j kind.Map n refl k e)
map_head h n k e = absurd cc

tuple_head : (h : Head) (n : ℕ) → kind_in h ≡ kind.Tuple → is_head h n ≡ true → h ≡ TupleOf
tuple_head TupleOf n k e = refl
tuple_head (Plain j) n k e = absurd (plain_never j kind.Tuple n refl k e)
tuple_head h n k e = absurd cc

udt_head : (h : Head) (n : ℕ) → kind_in h ≡ kind.Udt → is_head h n ≡ true → (keyspace : Octets) × (name : Octets) × (h ≡ UdtOf keyspace name)
udt_head (UdtOf keyspace name) n k e = (keyspace, name, refl)
udt_head (Plain j) n k e = absurd (plain_never j kind.Udt n refl k e)
udt_head h n k e = absurd cc

custom_head : (h : Head) (n : ℕ) → kind_in h ≡ kind.Custom → is_head h n ≡ true → (class : Octets) × (h ≡ Custom class) × (n ≡ 0)
custom_head (Custom class) n k e = (class, refl, eqb-true n 0 e)
custom_head (Plain j) n k e = absurd (plain_never j kind.Custom n refl k e)
custom_head h n k e = absurd cc

-- ---- what comes after a kind

is_one : (t : Trees) → is_built_type t ≡ true → (trees_in t ≡ 1) × (are_trees t ≡ true) × (names_count false t ≡ true)
is_one t e =
    let p = both (is_tree t) (names_count false t) e in
    let q = both (trees_in t == 1) (are_trees t) p.0 in
    (eqb-true (trees_in t) 1 q.0, q.1, p.1)

to_one : (t : Trees) → trees_in t ≡ 1 → are_trees t ≡ true → names_count false t ≡ true → is_built_type t ≡ true
to_one t many trees names = join (is_tree t) (names_count false t) (join (trees_in t == 1) (are_trees t) (eq-eqb (trees_in t) 1 many) trees) names

list_view : (t : Trees) → IsOfKind kind.List t → (a : Trees) × (is_built_type a ≡ true) × (t ≡ list_of a)
list_view NoTree i = absurd i
list_view (Tree_and name h inner others) i =
    let o = one_of name h inner others i.1 in
    let k = list_head h (trees_in inner) i.0 o.fits in
    (inner, to_one inner k.1 o.trees (ap (λ g. names_count (has_names g) inner) (sym k.0) ∙ o.names), alone name h inner others o ∙ ap (λ (g : Head). Tree_and [] g inner NoTree) k.0)

pub list_builds : {a : Trees} {old new : FrameEvents} → Builds type_events (λ t. is_built_type t ≡ true) a old new → Builds events_after_kind (IsOfKind kind.List) (list_of a) old new
list_builds one =
    as_builds events_after_kind (IsOfKind kind.List) list_of (λ a p. refl)
    (λ a p. let q = is_one a p in (refl, of_one ListOf a (eq-eqb (trees_in a) 1 q.0) q.1 q.2)) list_view one

set_view : (t : Trees) → IsOfKind kind.Set t → (a : Trees) × (is_built_type a ≡ true) × (t ≡ set_of a)
set_view NoTree i = absurd i
set_view (Tree_and name h inner others) i =
    let o = one_of name h inner others i.1 in
    let k = set_head h (trees_in inner) i.0 o.fits in
    (inner, to_one inner k.1 o.trees (ap (λ g. names_count (has_names g) inner) (sym k.0) ∙ o.names), alone name h inner others o ∙ ap (λ (g : Head). Tree_and [] g inner NoTree) k.0)

pub set_builds : {a : Trees} {old new : FrameEvents} → Builds type_events (λ t. is_built_type t ≡ true) a old new → Builds events_after_kind (IsOfKind kind.Set) (set_of a) old new
set_builds one =
    as_builds events_after_kind (IsOfKind kind.Set) set_of (λ a p. refl)
    (λ a p. let q = is_one a p in (refl, of_one SetOf a (eq-eqb (trees_in a) 1 q.0) q.1 q.2)) set_view one

-- ---- maps

two_row : (a b : Trees) → is_built_type a ≡ true → is_built_type b ≡ true → beside a b ≡ types_all (a ∷ b ∷ [])
two_row NoTree b p q = absurd cc
two_row (Tree_and n h i r) NoTree p q = absurd cc
two_row (Tree_and n h i r) (Tree_and m g j s) p q =
    let o = one_of n h i r p in
    let u = one_of m g j s q in
    ap (λ (x : Trees). beside x (Tree_and m g j s)) (alone n h i r o) ∙ ap (λ (x : Trees). Tree_and [] h i x) (alone m g j s u)

two_good : (a b : Trees) → is_built_type a ≡ true → is_built_type b ≡ true → list_all is_built_type (a ∷ b ∷ []) ≡ true
two_good a b p q = join (is_built_type a) (is_built_type b && true) p (join (is_built_type b) true q refl)

map_said : (a b : Trees) → is_built_type a ≡ true → is_built_type b ≡ true → events_after_kind (map_of a b) ≡ type_events a ++ type_events b
map_said a b p q =
    ap type_events (two_row a b p q) ∙ (are_types (a ∷ b ∷ []) (two_good a b p q)).said ∙ ap (λ es. type_events a ++ es) (append-nil (type_events b))

map_on : (a b : Trees) → is_built_type a ≡ true → is_built_type b ≡ true → IsOfKind kind.Map (map_of a b)
map_on a b p q =
    let r = are_types (a ∷ b ∷ []) (two_good a b p q) in
    let is = two_row a b p q in
    (refl, of_one MapOf (beside a b) (eq-eqb (trees_in (beside a b)) 2 (ap trees_in is ∙ r.many)) (ap are_trees is ∙ r.trees) (ap (names_count false) is ∙ r.names))

two_of : (ts : List Trees) → Many is_built_type 2 ts → (p : Trees × Trees) × ((is_built_type p.0 ≡ true) × (is_built_type p.1 ≡ true)) × (ts ≡ p.0 ∷ p.1 ∷ [])
two_of [] m = absurd (omega (arith, m.0))
two_of (a ∷ []) m = absurd (omega (arith, m.0))
two_of (a ∷ b ∷ c ∷ ts) m = absurd (omega (arith, m.0))
two_of (a ∷ b ∷ []) m =
    let p = both (is_built_type a) (is_built_type b && true) m.1 in
    let q = both (is_built_type b) true p.1 in
    ((a, b), (p.0, q.0), refl)

map_view : (t : Trees) → IsOfKind kind.Map t → (p : Trees × Trees) × ((is_built_type p.0 ≡ true) × (is_built_type p.1 ≡ true)) × (t ≡ map_of p.0 p.1)
map_view NoTree i = absurd i
map_view (Tree_and name h inner others) i =
    let o = one_of name h inner others i.1 in
    let k = map_head h (trees_in inner) i.0 o.fits in
    let v = types_view 2 inner k.1 o.trees (ap (λ g. names_count (has_names g) inner) (sym k.0) ∙ o.names) in
    let w = two_of v.0 v.1 in
    let is : inner ≡ beside w.0.0 w.0.1 = v.2 ∙ ap types_all w.2 ∙ sym (two_row w.0.0 w.0.1 w.1.0 w.1.1) in
    (w.0, w.1, alone name h inner others o ∙ ap (λ (g : Head). Tree_and [] g inner NoTree) k.0 ∙ ap (λ (x : Trees). Tree_and [] MapOf x NoTree) is)

pub map_builds : {a b : Trees} {old mid new : FrameEvents} → Builds type_events (λ t. is_built_type t ≡ true) a old mid → Builds type_events (λ t. is_built_type t ≡ true) b mid new
    → Builds events_after_kind (IsOfKind kind.Map) (map_of a b) old new
map_builds one two =
    as_builds events_after_kind (IsOfKind kind.Map) (λ p. map_of p.0 p.1) (λ p q. map_said p.0 p.1 q.0 q.1) (λ p q. map_on p.0 p.1 q.0 q.1) map_view (one then two)

-- ---- tuples and user-defined types

abbrev pub tuple_of : ℕ × List Trees → Trees
tuple_of p = Tree_and [] TupleOf (types_all p.1) NoTree

tuple_said : (n : ℕ) (ts : List Trees) → Many is_built_type n ts → events_after_kind (tuple_of (n, ts)) ≡ Holds field.Fields (note.Count n) ∷ flat_map type_events ts
tuple_said n ts m =
    let r = are_types ts m.1 in
    ap (λ k. Holds field.Fields (note.Count k) ∷ type_events (types_all ts)) (r.many ∙ m.0) ∙ ap (λ es. Holds field.Fields (note.Count n) ∷ es) r.said

tuple_view : (t : Trees) → IsOfKind kind.Tuple t → (p : ℕ × List Trees) × ((true ≡ true) × Many is_built_type p.0 p.1) × (t ≡ tuple_of p)
tuple_view NoTree i = absurd i
tuple_view (Tree_and name h inner others) i =
    let o = one_of name h inner others i.1 in
    let k = tuple_head h (trees_in inner) i.0 o.fits in
    let v = types_view (trees_in inner) inner refl o.trees (ap (λ g. names_count (has_names g) inner) (sym k) ∙ o.names) in
    ((trees_in inner, v.0), (refl, v.1), alone name h inner others o ∙ ap (λ (g : Head). Tree_and [] g inner NoTree) k ∙ ap (λ (x : Trees). Tree_and [] TupleOf x NoTree) v.2)

pub tuple_builds : {n : ℕ} {ts : List Trees} {old mid new : FrameEvents} → Builds (λ k. Holds field.Fields (note.Count k) ∷ []) any n old mid → Builds (flat_map type_events) (Many is_built_type n) ts mid new
    → Builds events_after_kind (IsOfKind kind.Tuple) (tuple_of (n, ts)) old new
tuple_builds one two =
    as_builds events_after_kind (IsOfKind kind.Tuple) tuple_of (λ p q. tuple_said p.0 p.1 q.1)
    (λ p q. let r = are_types p.1 q.1.1 in (refl, of_one TupleOf (types_all p.1) refl r.trees r.names))
    tuple_view (pair_builds (λ k. Many is_built_type k) one two)

abbrev pub udt_of : (Octets × Octets) × (ℕ × List (Octets × Trees)) → Trees
udt_of p = Tree_and [] (UdtOf p.0.0 p.0.1) (row p.1.1) NoTree

udt_said : (keyspace name : Octets) (n : ℕ) (fs : List (Octets × Trees)) → Many is_built_field n fs
    → events_after_kind (udt_of ((keyspace, name), (n, fs))) ≡ Holds field.Keyspace (note.Text keyspace) ∷ Holds field.TypeName (note.Text name) ∷ Holds field.Fields (note.Count n) ∷ flat_map field_events fs
udt_said keyspace name n fs m =
    let r = is_row true fs m.1 in
    let head : ℕ → List Event → List Event = λ k es. Holds field.Keyspace (note.Text keyspace) ∷ Holds field.TypeName (note.Text name) ∷ Holds field.Fields (note.Count k) ∷ es in
    ap (λ k. head k (map type_event (trees_items true (row fs)))) (r.many ∙ m.0) ∙ ap (λ es. head n es) r.said

abbrev AreUdt : (Octets × Octets) × (ℕ × List (Octets × Trees)) → Type 0
AreUdt p = ((true ≡ true) × (true ≡ true)) × ((true ≡ true) × Many is_built_field p.1.0 p.1.1)

udt_view : (t : Trees) → IsOfKind kind.Udt t → (p : (Octets × Octets) × (ℕ × List (Octets × Trees))) × (AreUdt p) × (t ≡ udt_of p)
udt_view NoTree i = absurd i
udt_view (Tree_and name h inner others) i =
    let o = one_of name h inner others i.1 in
    let k = udt_head h (trees_in inner) i.0 o.fits in
    let v = row_view true inner o.trees (ap (λ g. names_count (has_names g) inner) (sym k.2) ∙ o.names) in
    let r = is_row true v.0 v.1 in
    let long : length v.0 ≡ trees_in inner = sym r.many ∙ ap trees_in (sym v.2) in
    (((k.0, k.1), (trees_in inner, v.0)), ((refl, refl), (refl, (long, v.1))), alone name h inner others o ∙ ap (λ (g : Head). Tree_and [] g inner NoTree) k.2 ∙ ap (λ (x : Trees). Tree_and [] (UdtOf k.0 k.1) x NoTree) v.2)

pub udt_builds : {keyspace name : Octets} {n : ℕ} {fs : List (Octets × Trees)} {a b c d e : FrameEvents}
    → Builds (λ t. Holds field.Keyspace (note.Text t) ∷ []) any keyspace a b → Builds (λ t. Holds field.TypeName (note.Text t) ∷ []) any name b c
    → Builds (λ k. Holds field.Fields (note.Count k) ∷ []) any n c d → Builds (flat_map field_events) (Many is_built_field n) fs d e
    → Builds events_after_kind (IsOfKind kind.Udt) (udt_of ((keyspace, name), (n, fs))) a e
udt_builds one two three four =
    as_builds events_after_kind (IsOfKind kind.Udt) udt_of (λ p q. udt_said p.0.0 p.0.1 p.1.0 p.1.1 q.1.1)
    (λ p q. let r = is_row true p.1.1 q.1.1.1 in (refl, of_one (UdtOf p.0.0 p.0.1) (row p.1.1) refl r.trees r.names))
    udt_view ((one then two) then pair_builds (λ k. Many is_built_field k) three four)

-- ---- types without inner types

abbrev pub custom_of : Octets → Trees
custom_of class = Tree_and [] (Custom class) NoTree NoTree

custom_view : (t : Trees) → IsOfKind kind.Custom t → (class : Octets) × (true ≡ true) × (t ≡ custom_of class)
custom_view NoTree i = absurd i
custom_view (Tree_and name h inner others) i =
    let o = one_of name h inner others i.1 in
    let k = custom_head h (trees_in inner) i.0 o.fits in
    (k.0, refl, alone name h inner others o ∙ ap (λ (g : Head). Tree_and [] g inner NoTree) k.1 ∙ ap (λ (x : Trees). Tree_and [] (Custom k.0) x NoTree) (none_in inner k.2))

pub custom_builds : {class : Octets} {old new : FrameEvents} → Builds (λ t. Holds field.Class (note.Text t) ∷ []) any class old new → Builds events_after_kind (IsOfKind kind.Custom) (custom_of class) old new
custom_builds one =
    as_builds events_after_kind (IsOfKind kind.Custom) custom_of (λ a p. refl) (λ a p. (refl, of_one (Custom a) NoTree refl refl refl)) custom_view one

-- a kind with parameters
abbrev pub has_parameters : Kind → Bool
has_parameters kind.Custom = true
has_parameters kind.List = true
has_parameters kind.Set = true
has_parameters kind.Map = true
has_parameters kind.Udt = true
has_parameters kind.Tuple = true
has_parameters k = false

abbrev pub plain_of : Kind → Trees
plain_of k = Tree_and [] (Plain k) NoTree NoTree

plain_head : (k : Kind) (h : Head) (n : ℕ) → has_parameters k ≡ false → kind_in h ≡ k → is_head h n ≡ true → (h ≡ Plain k) × (is_plain k ≡ true) × (n ≡ 0)
plain_head k (Plain j) n off same e =
    let p = both (is_plain j) (n == 0) e in
    (ap Plain same, ap is_plain (sym same) ∙ p.0, eqb-true n 0 p.1)
plain_head k (Custom class) n off same e = let d : true ≡ false = ap has_parameters same ∙ off in absurd cc
plain_head k ListOf n off same e = let d : true ≡ false = ap has_parameters same ∙ off in absurd cc
plain_head k SetOf n off same e = let d : true ≡ false = ap has_parameters same ∙ off in absurd cc
plain_head k MapOf n off same e = let d : true ≡ false = ap has_parameters same ∙ off in absurd cc
plain_head k TupleOf n off same e = let d : true ≡ false = ap has_parameters same ∙ off in absurd cc
plain_head k (UdtOf keyspace name) n off same e = let d : true ≡ false = ap has_parameters same ∙ off in absurd cc

plain_view : (k : Kind) → has_parameters k ≡ false → (t : Trees) → IsOfKind k t → (u : Unit {0}) × (is_plain k ≡ true) × (t ≡ plain_of k)
plain_view k off NoTree i = absurd i
plain_view k off (Tree_and name h inner others) i =
    let o = one_of name h inner others i.1 in
    let p = plain_head k h (trees_in inner) off i.0 o.fits in
    (tt, p.1, alone name h inner others o ∙ ap (λ (g : Head). Tree_and [] g inner NoTree) p.0 ∙ ap (λ (x : Trees). Tree_and [] (Plain k) x NoTree) (none_in inner p.2))

pub plain_builds : (k : Kind) → has_parameters k ≡ false → {old new : FrameEvents} → Builds {A = Unit {0}} (λ _. []) (λ _. is_plain k ≡ true) tt old new → Builds events_after_kind (IsOfKind k) (plain_of k) old new
plain_builds k off one =
    as_builds events_after_kind (IsOfKind k) (λ _. plain_of k) (λ a p. refl) (λ a p. (refl, of_one (Plain k) NoTree (join (is_plain k) true p refl) refl refl)) (plain_view k off) one

-- ---- a type after its kind

pub kind_builds : {k : Kind} {old new : FrameEvents} → TakesKind (Some k) old new → Builds (λ j. Node_of j ∷ []) any k old new
kind_builds {k} {old} {new} t = record {
  made = λ s. (t.0, t.1, refl);
  only = λ s j rest p e. let d : Node_of j ∷ rest ≡ Node_of k ∷ left new = sym e ∙ t.1 in (cc, cc);
  none = λ r. let d : None ≡ Some fault.NoFrame = sym t.2 ∙ r in absurd cc;
}

after_said : (k : Kind) (t : Trees) → IsOfKind k t → type_events t ≡ Node_of k ∷ events_after_kind t
after_said k NoTree i = absurd i
after_said k (Tree_and name h inner others) i =
    let o = one_of name h inner others i.1 in
    let H = head_items h (trees_in inner) in
    let I = trees_items (has_names h) inner in
    ap (λ (r : Trees). Node_of (kind_in h) ∷ map type_event (H ++ (I ++ trees_items false r))) o.no_others
    ∙ ap (λ es. Node_of (kind_in h) ∷ map type_event (H ++ es)) (append-nil I)
    ∙ ap (λ (j : Kind). Node_of j ∷ map type_event (H ++ I)) i.0

tree_view : (t : Trees) → is_built_type t ≡ true → (p : Kind × Trees) × ((true ≡ true) × IsOfKind p.0 p.1) × (t ≡ p.1)
tree_view NoTree e = absurd cc
tree_view (Tree_and name h inner others) e = ((kind_in h, Tree_and name h inner others), (refl, (refl, e)), refl)

of_kind_built : (k : Kind) (t : Trees) → IsOfKind k t → is_built_type t ≡ true
of_kind_built k NoTree i = absurd i
of_kind_built k (Tree_and name h inner others) i = i.1

pub tree_builds : {k : Kind} {t : Trees} {old mid new : FrameEvents} → TakesKind (Some k) old mid → Builds events_after_kind (IsOfKind k) t mid new → Builds type_events (λ t. is_built_type t ≡ true) t old new
tree_builds one two =
    as_builds type_events (λ t. is_built_type t ≡ true) (λ (p : Kind × Trees). p.1) (λ p q. after_said p.0 p.1 q.1) (λ p q. of_kind_built p.0 p.1 q.1) tree_view (pair_builds (λ k. IsOfKind k) (kind_builds one) two)

-- no type begins where no kind does
pub no_tree : (t : Trees) (old mid new : FrameEvents) → TakesKind None old mid → new.fault ≡ first_fault mid.fault fault.NoFrame → Builds type_events (λ t. is_built_type t ≡ true) t old new
no_tree t old mid new k f = record { made = λ s. absurd (never mid.fault (sym f ∙ s)); only = λ s. absurd (never mid.fault (sym f ∙ s)); none = λ r. refused old.fault refl r }
  where
    never : (o : _) → first_fault o fault.NoFrame ≡ None → ⊥
    never None e = absurd cc
    never (Some g) e = absurd cc

    no_kind : (s : IsSound old) (b : Trees) (rest : List Event) → is_built_type b ≡ true → left old ≡ type_events b ++ rest → ⊥
    no_kind s NoTree rest p e = absurd cc
    no_kind s (Tree_and name h inner others) rest p e = k.1 s (kind_in h) _ e

    refused : (o : _) → old.fault ≡ o → new.fault ≡ Some fault.NoFrame → IsRefused old ⊎ AreNone type_events (λ t. is_built_type t ≡ true) old
    refused None is r = inr (is, no_kind is)
    refused (Some g) is r = inl (is ∙ (sym (ap (λ o. first_fault o fault.NoFrame) (k.0 ∙ is)) ∙ (sym f ∙ r)))

-- ---- types that are wrapped

pub wrapped : (k : Kind) (t r : Trees) {old mid new : FrameEvents} → Builds events_after_kind (IsOfKind k) t old mid → Wraps t r mid new → Builds events_after_kind (IsOfKind k) r old new
wrapped k t r {old} {mid} {new} one (inl w) =
    subst (λ (h : FrameEvents). Builds events_after_kind (IsOfKind k) r old h) (sym w.1) (subst (λ (x : Trees). Builds events_after_kind (IsOfKind k) x old mid) (sym w.0) one)
wrapped k t r one (inr w) = no_memory r w.0

pub wrapped_fewer : (t r : Trees) (old mid new : FrameEvents) → HoldsNoMore old mid → Wraps t r mid new → HoldsNoMore old new
wrapped_fewer t r old mid new l (inl w) = subst (λ (h : FrameEvents). HoldsNoMore old h) (sym w.1) l
wrapped_fewer t r old mid new l (inr w) = omega (arith, l, ap (λ (q : _). length q.items) w.1)

-- ---- fields

pub field_builds : {name : Octets} {t : Trees} {old mid new : FrameEvents} → Builds (λ t. Holds field.FieldName (note.Text t) ∷ []) any name old mid → Builds type_events (λ t. is_built_type t ≡ true) t mid new
    → Builds field_events (λ f. is_built_field f ≡ true) (name, t) old new
field_builds one two = as_builds field_events (λ f. is_built_field f ≡ true) (λ (f : Octets × Trees). f) (λ a p. refl) (λ a p. p.1) (λ b q. (b, (refl, q), refl)) (one then two)

-- ---- as a caller owns them

listed_all : (ts : List TypeTree) → listed_types ts ≡ types_all (map tree_of ts)
listed_all [] = refl
listed_all (t ∷ ts) = ap (Tree_and [] (head_of t) (inner_of t)) (listed_all ts)

pub tuple_tree : (v : Vec TypeTree Global) (n : ℕ) → tree_of (Tuple v) ≡ tuple_of (n, map tree_of v.items)
tuple_tree v n = ap (λ (x : Trees). Tree_and [] TupleOf x NoTree) (inner_tuple v ∙ listed_all v.items)

abbrev pub field_of : String Global × TypeTree → Octets × Trees
field_of f = (string_bytes f.0, tree_of f.1)

listed_row : (fs : List (String Global × TypeTree)) → listed_fields fs ≡ row (map field_of fs)
listed_row [] = refl
listed_row (f ∷ fs) = ap (Tree_and (string_bytes f.0) (head_of f.1) (inner_of f.1)) (listed_row fs)

pub udt_tree : (keyspace name : String Global) (v : Vec (String Global × TypeTree) Global) (n : ℕ) → tree_of (Udt keyspace name v) ≡ udt_of ((string_bytes keyspace, string_bytes name), (n, map field_of v.items))
udt_tree keyspace name v n = ap (λ (x : Trees). Tree_and [] (UdtOf (string_bytes keyspace) (string_bytes name)) x NoTree) (inner_udt keyspace name v ∙ listed_row v.items)

-- ---- kinds

pub of_kind : {k j : Kind} {t : Trees} {old new : FrameEvents} → k ≡ j → Builds events_after_kind (IsOfKind j) t old new → Builds events_after_kind (IsOfKind k) t old new
of_kind {k} {j} {t} {old} {new} e one = subst (λ (x : Kind). Builds events_after_kind (IsOfKind x) t old new) (sym e) one

pub without_parameters : (k : Kind) → (k ≡ kind.Custom → ⊥) → (k ≡ kind.List → ⊥) → (k ≡ kind.Set → ⊥) → (k ≡ kind.Map → ⊥) → (k ≡ kind.Udt → ⊥) → (k ≡ kind.Tuple → ⊥) → has_parameters k ≡ false
without_parameters kind.Custom a b c d e f = absurd (a refl)
without_parameters kind.List a b c d e f = absurd (b refl)
without_parameters kind.Set a b c d e f = absurd (c refl)
without_parameters kind.Map a b c d e f = absurd (d refl)
without_parameters kind.Udt a b c d e f = absurd (e refl)
without_parameters kind.Tuple a b c d e f = absurd (f refl)
without_parameters k a b c d e f = refl
