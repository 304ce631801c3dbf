-- A type has a length just where some bytes spell its option.
use Rattle.std.proofs.Common.{◌≡◌, ℕ, ◌≤◌, ◌^◌, Bool, true, false, ◌&&◌, List, [], ◌∷◌, ◌++◌, length, ltb, Option, Some, None, refl, ◌∙◌, arith}
use Rattle.std.specs.Prelude.{string_bytes, nat_le}
use Rattle.std.specs.Str.{is_utf8}
use Rattle.std.specs.declared.string.String.{String}
use Rattle.std.specs.declared.alloc.Global.{Global}
use Rattle.std.proofs.lemmas.Bool.{le-leb, leb-true, lt-ltb, ltb-true}
use Rattle.std.proofs.lemmas.Str.{IsUtf8-string_bytes, is_utf8-from_IsUtf8}
use Rattle.cqlp_note.specs.declared.field.Field.{Field}
use Rattle.cqlp_note.specs.declared.field.Field.TheVariants as field
use Rattle.cqlp_note.specs.Field.{Text, Count}
use Rattle.cqlp_kind.specs.declared.kind.Kind.{Kind}
use Rattle.cqlp_kind.specs.declared.kind.Kind.TheVariants as kind
use Rattle.cqlp_type.specs.declared.tree.TypeTree.{TypeTree, List', Set', Map', Udt', Tuple', Row_of-TypeTree, end_of-TypeTree, more_of-TypeTree, Row_of-TypeTree-Udt-2-2, end_of-TypeTree-Udt-2-2, more_of-TypeTree-Udt-2-2}
use Rattle.cqlp_type.specs.declared.tree.TypeTree as type
use Rattle.cqlp_kind.specs.Types.{has_id}
use Rattle.cqlp_kind.specs.TypeStep.{TypeEvent, IsNode, IsField}
use Rattle.cqlp_type.specs.Trees.{Head, Plain, Custom, ListOf, SetOf, MapOf, TupleOf, UdtOf, Trees, NoTree, Tree_and, kind_in, trees_in, has_names, IsHead, AreTrees, head_items, name_items, trees_items, ItemSpells, ItemsSpell}
use Rattle.cqlp_kind.specs.Types.{is_plain}
use Rattle.cqlp_type.specs.TypeTrees.{head_of, inner_of, types_in_row, fields_in_row, tree_of, is_counted, name_fits, head_fits, trees_fit, trees_size, len_if}
use Rattle.cqlp_type.specs.Laws.{HasLenOfOption}
use Rattle.cqlp_type.proofs.Lengths.{spelled_long}
use Rattle.cqlp_type.proofs.TreeLengths.{own_fit}
use Rattle.cqlp_note.proofs.Small.{Small, small_front, small_back}
use Rattle.cqlp_type.proofs.WrittenTrees.{both, and_of, plain_id, item_written, item_fits}

-- ---- what can be spelled

abbrev CanSpell : TypeEvent → Type 0
CanSpell e = (b : List ℕ) × ItemSpells e b

abbrev AllCan : List TypeEvent → Type 0
AllCan [] = Unit {0}
AllCan (e ∷ es) = CanSpell e × AllCan es

can_spell : (es : List TypeEvent) → AllCan es → (b : List ℕ) × ItemsSpell es b
can_spell [] c = ([], refl)
can_spell (e ∷ es) c =
    let more = can_spell es c.1 in
    (c.0.0 ++ more.0, record { front = c.0.0; back = more.0; whole = refl; this = c.0.1; that = more.1 })

can_append : (es fs : List TypeEvent) → AllCan es → AllCan fs → AllCan (es ++ fs)
can_append [] fs a b = b
can_append (e ∷ es) fs a b = (a.0, can_append es fs a.1 b)

below : (n : ℕ) → is_counted n ≡ true → ltb n (2 ^ 16) ≡ true
below n c = lt-ltb n (2 ^ 16) (omega (arith, leb-true n 65535 c))

counts : (n : ℕ) → ltb n (2 ^ 16) ≡ true → is_counted n ≡ true
counts n t = le-leb n 65535 (omega (arith, ltb-true n (2 ^ 16) t))

can_text : (f : Field) (s : List ℕ) → is_utf8 s ≡ true → is_counted (length s) ≡ true → CanSpell (IsField f (Text s))
can_text f s utf8 short = (_, item_written (IsField f (Text s)) tt utf8 refl (below (length s) short))

can_count : (n : ℕ) → is_counted n ≡ true → CanSpell (IsField field.Fields (Count n))
can_count n short = (_, item_written (IsField field.Fields (Count n)) tt tt (below n short) refl)

can_node : (k : Kind) → has_id k ≡ true → CanSpell (IsNode k)
can_node k h = (_, item_written (IsNode k) h tt refl refl)

-- the texts of types are UTF-8
abbrev IsTextual : Head → Type 0
IsTextual (Custom class) = is_utf8 class ≡ true
IsTextual (UdtOf keyspace name) = (is_utf8 keyspace ≡ true) × (is_utf8 name ≡ true)
IsTextual h = Unit {0}

abbrev IsNamed : Bool → List ℕ → Type 0
IsNamed true name = is_utf8 name ≡ true
IsNamed false name = Unit {0}

abbrev AreTextual : (named : Bool) → Trees → Type 0
AreTextual named NoTree = Unit {0}
AreTextual named (Tree_and name h inner others) = IsNamed named name × IsTextual h × AreTextual (has_names h) inner × AreTextual named others

can_name : (named : Bool) (name : List ℕ) → IsNamed named name → name_fits named name ≡ true → AllCan (name_items named name)
can_name true name utf8 fits = (can_text field.FieldName name utf8 fits, tt)
can_name false name utf8 fits = tt

can_kind : (h : Head) (n : ℕ) → head_fits h n ≡ true → CanSpell (IsNode (kind_in h))
can_kind (Plain k) n fits = can_node k (plain_id k fits)
can_kind (Custom class) n fits = can_node kind.Custom refl
can_kind ListOf n fits = can_node kind.List refl
can_kind SetOf n fits = can_node kind.Set refl
can_kind MapOf n fits = can_node kind.Map refl
can_kind TupleOf n fits = can_node kind.Tuple refl
can_kind (UdtOf keyspace name) n fits = can_node kind.Udt refl

can_head : (h : Head) (n : ℕ) → IsTextual h → head_fits h n ≡ true → AllCan (head_items h n)
can_head (Plain k) n utf8 fits = tt
can_head (Custom class) n utf8 fits = (can_text field.Class class utf8 fits, tt)
can_head ListOf n utf8 fits = tt
can_head SetOf n utf8 fits = tt
can_head MapOf n utf8 fits = tt
can_head TupleOf n utf8 fits = (can_count n fits, tt)
can_head (UdtOf keyspace name) n utf8 fits =
    let texts = both (is_counted (length keyspace) && is_counted (length name)) (is_counted n) fits in
    let each = both (is_counted (length keyspace)) (is_counted (length name)) texts.0 in
    (can_text field.Keyspace keyspace utf8.0 each.0, (can_text field.TypeName name utf8.1 each.1, (can_count n texts.1, tt)))

can_trees : (named : Bool) (ts : Trees) → AreTextual named ts → trees_fit named ts ≡ true → AllCan (trees_items named ts)
can_trees named NoTree utf8 fits = tt
can_trees named (Tree_and name h inner others) utf8 fits =
    let a = both (name_fits named name && (head_fits h (trees_in inner) && trees_fit (has_names h) inner)) (trees_fit named others) fits in
    let b = both (name_fits named name) (head_fits h (trees_in inner) && trees_fit (has_names h) inner) a.0 in
    let c = both (head_fits h (trees_in inner)) (trees_fit (has_names h) inner) b.1 in
    can_append (name_items named name) (IsNode (kind_in h) ∷ (head_items h (trees_in inner) ++ (trees_items (has_names h) inner ++ trees_items named others))) (can_name named name utf8.0 b.0) (
      can_kind h (trees_in inner) c.0,
      can_append (head_items h (trees_in inner)) (trees_items (has_names h) inner ++ trees_items named others) (can_head h (trees_in inner) utf8.1 c.0)
          (can_append (trees_items (has_names h) inner) (trees_items named others) (can_trees (has_names h) inner utf8.2 c.1) (can_trees named others utf8.3 a.1)),
    )

-- ---- what bytes spell fits

abbrev Spelled : TypeEvent → Type 0
Spelled e = (b : List ℕ) × Small b × ItemSpells e b

abbrev AllSpelled : List TypeEvent → Type 0
AllSpelled [] = Unit {0}
AllSpelled (e ∷ es) = Spelled e × AllSpelled es

all_spelled : (es : List TypeEvent) (b : List ℕ) → Small b → ItemsSpell es b → AllSpelled es
all_spelled [] b small s = tt
all_spelled (e ∷ es) b small s = ((s.front, small_front b s.front s.back s.whole small, s.this), all_spelled es s.back (small_back b s.front s.back s.whole small) s.that)

spelled_front : (es fs : List TypeEvent) → AllSpelled (es ++ fs) → AllSpelled es
spelled_front [] fs a = tt
spelled_front (e ∷ es) fs a = (a.0, spelled_front es fs a.1)

spelled_back : (es fs : List TypeEvent) → AllSpelled (es ++ fs) → AllSpelled fs
spelled_back [] fs a = a
spelled_back (e ∷ es) fs a = spelled_back es fs a.1

text_counted : (f : Field) (s : List ℕ) → Spelled (IsField f (Text s)) → is_counted (length s) ≡ true
text_counted f s t = counts (length s) (item_fits (IsField f (Text s)) t.0 t.2 t.1).2

count_counted : (n : ℕ) → Spelled (IsField field.Fields (Count n)) → is_counted n ≡ true
count_counted n t = counts n (item_fits (IsField field.Fields (Count n)) t.0 t.2 t.1).1

name_fit : (named : Bool) (name : List ℕ) → AllSpelled (name_items named name) → name_fits named name ≡ true
name_fit true name a = text_counted field.FieldName name a.0
name_fit false name a = refl

head_fit : (h : Head) (n : ℕ) → IsHead h n → AllSpelled (head_items h n) → head_fits h n ≡ true
head_fit (Plain k) n is a = is.0
head_fit (Custom class) n is a = text_counted field.Class class a.0
head_fit ListOf n is a = refl
head_fit SetOf n is a = refl
head_fit MapOf n is a = refl
head_fit TupleOf n is a = count_counted n a.0
head_fit (UdtOf keyspace name) n is a =
    and_of (is_counted (length keyspace) && is_counted (length name)) (is_counted n) (and_of (is_counted (length keyspace)) (is_counted (length name)) (text_counted field.Keyspace keyspace a.0) (text_counted field.TypeName name a.1.0)) (count_counted n a.1.1.0)

trees_fit_all : (named : Bool) (ts : Trees) → AreTrees ts → AllSpelled (trees_items named ts) → trees_fit named ts ≡ true
trees_fit_all named NoTree are a = refl
trees_fit_all named (Tree_and name h inner others) are a =
    let items : List TypeEvent = head_items h (trees_in inner) ++ (trees_items (has_names h) inner ++ trees_items named others) in
    let first = spelled_front (name_items named name) (IsNode (kind_in h) ∷ items) a in
    let more = (spelled_back (name_items named name) (IsNode (kind_in h) ∷ items) a).1 in
    let head = spelled_front (head_items h (trees_in inner)) (trees_items (has_names h) inner ++ trees_items named others) more in
    let rest = spelled_back (head_items h (trees_in inner)) (trees_items (has_names h) inner ++ trees_items named others) more in
    let within = spelled_front (trees_items (has_names h) inner) (trees_items named others) rest in
    let after = spelled_back (trees_items (has_names h) inner) (trees_items named others) rest in
    and_of (name_fits named name && (head_fits h (trees_in inner) && trees_fit (has_names h) inner)) (trees_fit named others)
    (and_of (name_fits named name) (head_fits h (trees_in inner) && trees_fit (has_names h) inner) (name_fit named name first)
    (and_of (head_fits h (trees_in inner)) (trees_fit (has_names h) inner) (head_fit h (trees_in inner) are.0 head) (trees_fit_all (has_names h) inner are.1 within)))
    (trees_fit_all named others are.2 after)

-- ---- the types of a caller

string_utf8 : (s : String Global) → is_utf8 (string_bytes s) ≡ true
string_utf8 s = is_utf8-from_IsUtf8 (string_bytes s) (IsUtf8-string_bytes s)

head_textual : (t : TypeTree) → IsTextual (head_of t)
head_textual (type.Plain k) = tt
head_textual (type.Custom class) = string_utf8 class
head_textual (List' p t) = tt
head_textual (Set' p t) = tt
head_textual (Map' p t q u) = tt
head_textual (Udt' keyspace name shape fields) = (string_utf8 keyspace, string_utf8 name)
head_textual (Tuple' shape types) = tt

own_head : (t : TypeTree) → head_fits (head_of t) (trees_in (inner_of t)) ≡ true → IsHead (head_of t) (trees_in (inner_of t))
own_head (type.Plain k) fits = (fits, refl)
own_head (type.Custom class) fits = refl
own_head (List' p t) fits = refl
own_head (Set' p t) fits = refl
own_head (Map' p t q u) fits = refl
own_head (Udt' keyspace name shape fields) fits = tt
own_head (Tuple' shape types) fits = tt

mutual
  inner_textual : (t : TypeTree) → AreTextual (has_names (head_of t)) (inner_of t)
  inner_textual (type.Plain k) = tt
  inner_textual (type.Custom class) = tt
  inner_textual (List' p t) = (tt, head_textual t, inner_textual t, tt)
  inner_textual (Set' p t) = (tt, head_textual t, inner_textual t, tt)
  inner_textual (Map' p t q u) = (tt, head_textual t, inner_textual t, (tt, head_textual u, inner_textual u, tt))
  inner_textual (Udt' keyspace name shape fields) = fields_textual fields
  inner_textual (Tuple' shape types) = types_textual types

  types_textual : {m : _} (row : Row_of-TypeTree m) → AreTextual false (types_in_row row)
  types_textual end_of-TypeTree = tt
  types_textual (more_of-TypeTree t rest) = (tt, head_textual t, inner_textual t, types_textual rest)

  fields_textual : {m : _} (row : Row_of-TypeTree-Udt-2-2 m) → AreTextual true (fields_in_row row)
  fields_textual end_of-TypeTree-Udt-2-2 = tt
  fields_textual (more_of-TypeTree-Udt-2-2 name t rest) = (string_utf8 name, head_textual t, inner_textual t, fields_textual rest)

abbrev IsOwn : TypeTree → Type 0
IsOwn t = IsHead (head_of t) (trees_in (inner_of t)) × AreTrees (inner_of t)

mutual
  -- one type, which fits
  own_trees : (t : TypeTree) → (head_fits (head_of t) (trees_in (inner_of t)) && trees_fit (has_names (head_of t)) (inner_of t)) ≡ true → IsOwn t
  own_trees (type.Plain k) fits = (own_head (type.Plain k) (both (is_plain k) true fits).0, tt)
  own_trees (type.Custom class) fits = (refl, tt)
  own_trees (List' p t) fits = let a = own_trees t (both (own_fit t) true fits).0 in (refl, (a.0, a.1, tt))
  own_trees (Set' p t) fits = let a = own_trees t (both (own_fit t) true fits).0 in (refl, (a.0, a.1, tt))
  own_trees (Map' p t q u) fits =
      let f = both (own_fit t) (own_fit u && true) fits in
      let a = own_trees t f.0 in
      let b = own_trees u (both (own_fit u) true f.1).0 in
      (refl, (a.0, a.1, (b.0, b.1, tt)))
  own_trees (Udt' keyspace name shape fields) fits = (tt, fields_trees fields (both ((is_counted (length (string_bytes keyspace)) && is_counted (length (string_bytes name))) && is_counted (trees_in (fields_in_row fields))) (trees_fit true (fields_in_row fields)) fits).1)
  own_trees (Tuple' shape types) fits = (tt, types_trees types (both (is_counted (trees_in (types_in_row types))) (trees_fit false (types_in_row types)) fits).1)

  types_trees : {m : _} (row : Row_of-TypeTree m) → trees_fit false (types_in_row row) ≡ true → AreTrees (types_in_row row)
  types_trees end_of-TypeTree fits = tt
  types_trees (more_of-TypeTree t rest) fits =
      let b = both (own_fit t) (trees_fit false (types_in_row rest)) fits in
      let a = own_trees t b.0 in
      (a.0, a.1, types_trees rest b.1)

  fields_trees : {m : _} (row : Row_of-TypeTree-Udt-2-2 m) → trees_fit true (fields_in_row row) ≡ true → AreTrees (fields_in_row row)
  fields_trees end_of-TypeTree-Udt-2-2 fits = tt
  fields_trees (more_of-TypeTree-Udt-2-2 name t rest) fits =
      let b = both (is_counted (length (string_bytes name)) && own_fit t) (trees_fit true (fields_in_row rest)) fits in
      let a = own_trees t (both (is_counted (length (string_bytes name))) (own_fit t) b.0).1 in
      (a.0, a.1, fields_trees rest b.1)

-- ---- lengths

len_some : (p : Bool) (m n : ℕ) → len_if p m ≡ Some n → (p ≡ true) × (m ≡ n) × (m ≤ 268435456)
len_some true m n e = elim (nat_le m 268435456) as (λ t. nat_le m 268435456 ≡ t → (true ≡ true) × (m ≡ n) × (m ≤ 268435456)) [
  | true ↦ λ is. let f : Some m ≡ Some n = rw is at e in (refl, cc, leb-true m 268435456 is)
  | false ↦ λ is. let f : ◌≡◌ {A = Option ℕ} None (Some n) = rw is at e in absurd cc
] refl
len_some false m n e = absurd cc

len_is : (p : Bool) (m n : ℕ) → p ≡ true → n ≡ m → n ≤ 268435456 → len_if p m ≡ Some n
len_is p m n fits same le =
    let is : nat_le m 268435456 ≡ true = le-leb m 268435456 (omega arith) in
    rw (fits, is, same) refl

pub len_of_option : (t : TypeTree) → HasLenOfOption t
len_of_option t = record {
  spelled = λ n e.
      let fits = (len_some (trees_fit false (tree_of t)) (trees_size false (tree_of t)) n e).0 in
      let own = own_trees t (both (own_fit t) true fits).0 in
      let b = can_spell (trees_items false (tree_of t)) (can_trees false (tree_of t) (tt, head_textual t, inner_textual t, tt) fits) in
      (b.0, ((own.0, own.1, tt), b.1));
  long = λ n e.
      let s = len_some (trees_fit false (tree_of t)) (trees_size false (tree_of t)) n e in
      (omega (arith, s.1, s.2), λ b is. spelled_long false (tree_of t) b is.1 ∙ s.1);
  some = λ b bytes is le.
      let fits = trees_fit_all false (tree_of t) is.0 (all_spelled (trees_items false (tree_of t)) b bytes is.1) in
      len_is (trees_fit false (tree_of t)) (trees_size false (tree_of t)) (length b) fits (spelled_long false (tree_of t) b is.1) le;
}
