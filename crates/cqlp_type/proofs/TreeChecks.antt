-- What keeps a type from having an option, from what is found of its parts.
use Rattle.std.proofs.Common.{◌≡◌, ℕ, ◌+◌, ◌<◌, ◌^◌, get_or, Bool, true, false, ◌&&◌, List, [], ◌∷◌, ◌++◌, length, take, refl, sym, ap, ◌∙◌}
use Rattle.std.specs.Prelude.{string_bytes, nat_lt}
use Rattle.std.specs.List.{list_all}
use Rattle.std.proofs.lemmas.List.{take_more}
use Rattle.std.proofs.lemmas.List.Folds.{list_all-append}
use Rattle.std.specs.declared.vec.Vec.{Vec}
use Rattle.std.specs.declared.boxed.Box.{Box}
use Rattle.std.specs.declared.string.String.{String}
use Rattle.std.specs.declared.alloc.Global.{Global}
use Rattle.cqlp_type.specs.declared.check.TreeCheck.{TreeCheck}
use Rattle.cqlp_type.specs.declared.tree.TypeTree.{TypeTree, Map, Udt, Tuple}
use Rattle.cqlp_kind.specs.TypeStep.{TypeEvent, IsNode}
use Rattle.cqlp_type.specs.Trees.{Head, TupleOf, UdtOf, Trees, NoTree, Tree_and, kind_in, trees_in, has_names, is_head, head_items, name_items, trees_items, item_counts, item_is_short}
use Rattle.cqlp_type.specs.TypeTrees.{head_of, inner_of, tree_of}
use Rattle.cqlp_type.specs.TypeLists.{listed_types, listed_fields}
use Rattle.cqlp_type.specs.TreeChecks.{items_check, checks_of, both}
use Rattle.cqlp_type.proofs.TreeLengths.{inner_tuple, inner_udt, many_types, many_fields}

pub same_check : (p p' c c' t t' : Bool) → p ≡ p' → c ≡ c' → t ≡ t' → (let k : TreeCheck = record { formed = p; counts = c; texts = t } in k) ≡ record { formed = p'; counts = c'; texts = t' }
same_check p p' c c' t t' e f g = λ i. record { formed = e i; counts = f i; texts = g i }

pub and_true : (b : Bool) → (b && true) ≡ b
and_true true = refl
and_true false = refl

and_assoc : (a b c : Bool) → (a && (b && c)) ≡ ((a && b) && c)
and_assoc true b c = refl
and_assoc false b c = refl

abbrev pub all : TreeCheck
all = record { formed = true; counts = true; texts = true }

-- an option's own items, and those in it
abbrev pub own : Head → Trees → TreeCheck
own h inner = both (items_check (is_head h (trees_in inner)) (head_items h (trees_in inner))) (checks_of (has_names h) inner)

parts_all : (p : TypeEvent → Bool) (e : TypeEvent) → p e ≡ true → (ns hs is os : List TypeEvent) → list_all p (ns ++ (e ∷ (hs ++ (is ++ os)))) ≡ ((list_all p ns && (list_all p hs && list_all p is)) && list_all p os)
parts_all p e holds ns hs is os =
    let rest = list_all-append p hs (is ++ os) ∙ ap (λ b. list_all p hs && b) (list_all-append p is os) ∙ and_assoc (list_all p hs) (list_all p is) (list_all p os) in
    list_all-append p ns (e ∷ (hs ++ (is ++ os))) ∙ ap (λ b. list_all p ns && b) (ap (λ b. b && list_all p (hs ++ (is ++ os))) holds ∙ rest) ∙ and_assoc (list_all p ns) (list_all p hs && list_all p is) (list_all p os)

one_more : (named : Bool) (name : List ℕ) (h : Head) (inner others : Trees) → checks_of named (Tree_and name h inner others) ≡ both (both (items_check true (name_items named name)) (own h inner)) (checks_of named others)
one_more named name h inner others =
    let hs = head_items h (trees_in inner) in
    let is = trees_items (has_names h) inner in
    let os = trees_items named others in
    same_check _ _ _ _ _ _ refl (parts_all item_counts (IsNode (kind_in h)) refl (name_items named name) hs is os) (parts_all item_is_short (IsNode (kind_in h)) refl (name_items named name) hs is os)

both_all : (c : TreeCheck) → both c all ≡ c
both_all c = same_check _ _ _ _ _ _ (and_true c.formed) (and_true c.counts) (and_true c.texts)

pub both_assoc : (b c d : TreeCheck) → both b (both c d) ≡ both (both b c) d
both_assoc b c d = same_check _ _ _ _ _ _ (and_assoc b.formed c.formed d.formed) (and_assoc b.counts c.counts d.counts) (and_assoc b.texts c.texts d.texts)

pub own_is : (t : TypeTree) → checks_of false (tree_of t) ≡ own (head_of t) (inner_of t)
own_is t = one_more false [] (head_of t) (inner_of t) NoTree ∙ both_all (both all (own (head_of t) (inner_of t)))

-- ---- by the kinds of types

pub map_check : (b c : Box TypeTree Global) → both (checks_of false (tree_of b.value)) (checks_of false (tree_of c.value)) ≡ checks_of false (tree_of (Map b c))
map_check b c =
    ap (λ (x : TreeCheck). both x (checks_of false (tree_of c.value))) (own_is b.value)
    ∙ sym (one_more false [] (head_of b.value) (inner_of b.value) (tree_of c.value)) ∙ sym (own_is (Map b c))

abbrev pub count_check : (n : ℕ) → TreeCheck
count_check n = record { formed = true; counts = nat_lt n (2 ^ 16); texts = true }

abbrev pub text_check : (s : List ℕ) → TreeCheck
text_check s = record { formed = true; counts = true; texts = nat_lt (length s) (2 ^ 16) }

own_tuple : (ts : Trees) → both (count_check (trees_in ts)) (checks_of false ts) ≡ own TupleOf ts
own_tuple ts = ap (λ (x : Bool). both (record { formed = true; counts = x; texts = true }) (checks_of false ts)) (sym (and_true (nat_lt (trees_in ts) (2 ^ 16))))

pub tuple_check : (v : Vec TypeTree Global) → both (count_check (length v.items)) (checks_of false (listed_types v.items)) ≡ checks_of false (tree_of (Tuple v))
tuple_check v =
    ap (λ (n : ℕ). both (count_check n) (checks_of false (listed_types v.items))) (sym (many_types v.items))
    ∙ own_tuple (listed_types v.items) ∙ ap (own TupleOf) (sym (inner_tuple v)) ∙ sym (own_is (Tuple v))

abbrev pub udt_head : (n : ℕ) (k m : List ℕ) → TreeCheck
udt_head n k m = both (record { formed = true; counts = nat_lt n (2 ^ 16); texts = nat_lt (length k) (2 ^ 16) }) (text_check m)

own_udt : (k m : List ℕ) (ts : Trees) → both (udt_head (trees_in ts) k m) (checks_of true ts) ≡ own (UdtOf k m) ts
own_udt k m ts =
    let l = nat_lt (length k) (2 ^ 16) in
    let n = nat_lt (trees_in ts) (2 ^ 16) && true in
    let m' = nat_lt (length m) (2 ^ 16) in
    ap (λ (x : Bool). both (record { formed = true; counts = n; texts = l && x }) (checks_of true ts)) (sym (and_true m'))

pub udt_check : (k m : String Global) (v : Vec (String Global × TypeTree) Global) → both (udt_head (length v.items) (string_bytes k) (string_bytes m)) (checks_of true (listed_fields v.items)) ≡ checks_of false (tree_of (Udt k m v))
udt_check k m v =
    ap (λ (n : ℕ). both (udt_head n (string_bytes k) (string_bytes m)) (checks_of true (listed_fields v.items))) (sym (many_fields v.items))
    ∙ own_udt (string_bytes k) (string_bytes m) (listed_fields v.items) ∙ ap (own (UdtOf (string_bytes k) (string_bytes m))) (sym (inner_udt k m v)) ∙ sym (own_is (Udt k m v))

-- ---- one more of a list

types_more : (ts : List TypeTree) (t : TypeTree) → checks_of false (listed_types (ts ++ t ∷ [])) ≡ both (checks_of false (listed_types ts)) (checks_of false (tree_of t))
types_more [] t = refl
types_more (x ∷ ts) t =
    one_more false [] (head_of x) (inner_of x) (listed_types (ts ++ t ∷ [])) ∙ ap (both (own (head_of x) (inner_of x))) (types_more ts t)
    ∙ both_assoc (own (head_of x) (inner_of x)) (checks_of false (listed_types ts)) (checks_of false (tree_of t))
    ∙ ap (λ (c : TreeCheck). both c (checks_of false (tree_of t))) (sym (one_more false [] (head_of x) (inner_of x) (listed_types ts)))

pub types_next : (ts : List TypeTree) (i : ℕ) (t : TypeTree) → t ≡ get_or ts i t → i < length ts → both (checks_of false (listed_types (take i ts))) (checks_of false (tree_of t)) ≡ checks_of false (listed_types (take (i + 1) ts))
types_next ts i t here lt =
    let more : take (i + 1) ts ≡ take i ts ++ t ∷ [] = take_more ts i t lt ∙ ap (λ (x : TypeTree). take i ts ++ x ∷ []) (sym here) in
    rw more (sym (types_more (take i ts) t))

abbrev pub field_check : String Global × TypeTree → TreeCheck
field_check x = both (text_check (string_bytes x.0)) (checks_of false (tree_of x.1))

field_is : (x : String Global × TypeTree) → both (items_check true (name_items true (string_bytes x.0))) (own (head_of x.1) (inner_of x.1)) ≡ field_check x
field_is x = ap (λ (b : Bool). both (record { formed = true; counts = true; texts = b }) (own (head_of x.1) (inner_of x.1))) (and_true (nat_lt (length (string_bytes x.0)) (2 ^ 16))) ∙ ap (both (text_check (string_bytes x.0))) (sym (own_is x.1))

fields_more : (xs : List (String Global × TypeTree)) (x : String Global × TypeTree) → checks_of true (listed_fields (xs ++ x ∷ [])) ≡ both (checks_of true (listed_fields xs)) (field_check x)
fields_more [] x = one_more true (string_bytes x.0) (head_of x.1) (inner_of x.1) NoTree ∙ both_all _ ∙ field_is x
fields_more (y ∷ xs) x =
    one_more true (string_bytes y.0) (head_of y.1) (inner_of y.1) (listed_fields (xs ++ x ∷ []))
    ∙ ap (both (both (items_check true (name_items true (string_bytes y.0))) (own (head_of y.1) (inner_of y.1)))) (fields_more xs x)
    ∙ both_assoc (both (items_check true (name_items true (string_bytes y.0))) (own (head_of y.1) (inner_of y.1))) (checks_of true (listed_fields xs)) (field_check x)
    ∙ ap (λ (c : TreeCheck). both c (field_check x)) (sym (one_more true (string_bytes y.0) (head_of y.1) (inner_of y.1) (listed_fields xs)))

pub fields_next : (xs : List (String Global × TypeTree)) (i : ℕ) (x : String Global × TypeTree) → x ≡ get_or xs i x → i < length xs → both (checks_of true (listed_fields (take i xs))) (field_check x) ≡ checks_of true (listed_fields (take (i + 1) xs))
fields_next xs i x here lt =
    let more : take (i + 1) xs ≡ take i xs ++ x ∷ [] = take_more xs i x lt ∙ ap (λ (y : String Global × TypeTree). take i xs ++ y ∷ []) (sym here) in
    rw more (sym (fields_more (take i xs) x))

pub both_same : {a b c d : TreeCheck} → a ≡ b → c ≡ d → both a c ≡ both b d
both_same e f = λ i. both (e i) (f i)
