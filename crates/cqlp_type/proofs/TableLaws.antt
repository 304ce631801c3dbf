-- Where the types of a table begin, by the trees that they are.
use Rattle.std.proofs.Common.{◌≡◌, ◌≢◌, ℕ, suc, ◌+◌, ◌-◌, List, [], ◌∷◌, ◌++◌, length, take, drop, refl, sym, ap, ◌∙◌, append_assoc, arith}
use Rattle.std.specs.Prelude.{Some, slice_get}
use Rattle.std.proofs.lemmas.List.{append-nil, length-append, take_at, drop_at}
use Rattle.std.proofs.lemmas.Bool.{ne_eqb}
use Rattle.cqlp_kind.specs.declared.kind.Kind.{Kind}
use Rattle.cqlp_kind.specs.declared.node.Node.{Node}
use Rattle.cqlp_kind.specs.Types.{Types, NoMore, Type_and, how_many, preorder}
use Rattle.cqlp_type.specs.Table.{beginnings, inner_nodes, child}
use Rattle.cqlp_type.specs.Laws.{first_nodes}
use Rattle.cqlp_type.proofs.Beginnings.{skipped_is}

whole_step : (number : ℕ) (x : Node) (xs : List Node) → x.span ≢ 0 → beginnings number 0 (x ∷ xs) ≡ number ∷ beginnings (number + x.span) 0 (drop (x.span - 1) xs)
whole_step number x xs some =
    let e : suc number + (x.span - 1) ≡ number + x.span = omega arith in
    rw (ne_eqb x.span 0 some, skipped_is (suc number) (x.span - 1) xs, e) refl

some_span : (n : ℕ) → suc n ≢ 0
some_span n e = absurd (omega (arith, e))

pub roots_begin : (ts : Types) (number : ℕ) (ns : List Node) → beginnings number 0 (preorder ts ++ ns) ≡ first_nodes number ts ++ beginnings (number + length (preorder ts)) 0 ns
roots_begin NoMore number ns = let e : number + 0 ≡ number = omega arith in rw e refl
roots_begin (Type_and k inner others) number ns =
    let n = length (preorder inner) in
    let x : Node = record { kind = k; arity = how_many inner; span = suc n } in
    let less : suc n - 1 ≡ n = omega arith in
    let all : (preorder inner ++ preorder others) ++ ns ≡ preorder inner ++ (preorder others ++ ns) = append_assoc (preorder inner) (preorder others) ns in
    let left : drop n (preorder inner ++ (preorder others ++ ns)) ≡ preorder others ++ ns = drop_at (preorder inner) (preorder others ++ ns) n refl in
    let later = roots_begin others (number + suc n) ns in
    let end : (number + suc n) + length (preorder others) ≡ number + suc (length (preorder inner ++ preorder others)) = omega (arith, length-append (preorder inner) (preorder others)) in
    let rest = (preorder inner ++ preorder others) ++ ns in
    let tail : drop (suc n - 1) rest ≡ preorder others ++ ns = ap (λ (m : ℕ). drop m rest) less ∙ ap (λ (m : List Node). drop n m) all ∙ left in
    whole_step number x rest (some_span n) ∙ ap (λ (m : List Node). number ∷ beginnings (number + suc n) 0 m) tail ∙ ap (λ (m : List ℕ). number ∷ m) (rw end at later)

pub roots_count : (ts : Types) (number : ℕ) → length (first_nodes number ts) ≡ how_many ts
roots_count NoMore number = refl
roots_count (Type_and k inner others) number = ap suc (roots_count others (number + suc (length (preorder inner))))

-- a node after others
there : (before : List Node) (x : Node) (xs : List Node) → slice_get (before ++ x ∷ xs) (length before) ≡ Some x
there [] x xs = refl
there (y ∷ before) x xs = there before x xs

after : (before : List Node) (x : Node) (xs : List Node) → drop (length before + 1) (before ++ x ∷ xs) ≡ xs
after [] x xs = refl
after (y ∷ before) x xs = let e : suc (length before) + 1 ≡ suc (length before + 1) = omega arith in rw e (after before x xs)

child_is : (before : List Node) (x : Node) (xs : List Node) (i : ℕ) → child (before ++ x ∷ xs) (length before) i ≡ slice_get (beginnings (length before + 1) 0 (inner_nodes x xs)) i
child_is before x xs i = rw (there before x xs, after before x xs) refl

pub whole_children : (before after : List Node) (k : Kind) (inner : Types) (i : ℕ) → child (before ++ (preorder (Type_and k inner NoMore) ++ after)) (length before) i ≡ slice_get (first_nodes (length before + 1) inner) i
whole_children before after k inner i =
    let n = length (preorder inner) in
    let x : Node = record { kind = k; arity = how_many inner; span = suc n } in
    let less : suc n - 1 ≡ n = omega arith in
    let all : (preorder inner ++ []) ++ after ≡ preorder inner ++ after = ap (λ (m : List Node). m ++ after) (append-nil (preorder inner)) in
    let own : take n (preorder inner ++ after) ≡ preorder inner = take_at (preorder inner) after n refl in
    let is : inner_nodes x ((preorder inner ++ []) ++ after) ≡ preorder inner = rw (ne_eqb (suc n) 0 (some_span n), less, all) own in
    let begin : beginnings (length before + 1) 0 (preorder inner) ≡ first_nodes (length before + 1) inner = ap (beginnings (length before + 1) 0) (sym (append-nil (preorder inner))) ∙ roots_begin inner (length before + 1) [] ∙ append-nil (first_nodes (length before + 1) inner) in
    child_is before x ((preorder inner ++ []) ++ after) i ∙ ap (λ (m : List Node). slice_get (beginnings (length before + 1) 0 m) i) is ∙ ap (λ (m : List ℕ). slice_get m i) begin

pub open_children : (before : List Node) (x : Node) (inner : Types) (rest : List Node) (i : ℕ) → x.span ≡ 0
    → child (before ++ (x ∷ (preorder inner ++ rest))) (length before) i ≡ slice_get (first_nodes (length before + 1) inner ++ beginnings (length before + 1 + length (preorder inner)) 0 rest) i
open_children before x inner rest i e =
    let is : inner_nodes x (preorder inner ++ rest) ≡ preorder inner ++ rest = rw e refl in
    child_is before x (preorder inner ++ rest) i ∙ ap (λ (m : List Node). slice_get (beginnings (length before + 1) 0 m) i) is ∙ ap (λ (m : List ℕ). slice_get m i) (roots_begin inner (length before + 1) rest)
