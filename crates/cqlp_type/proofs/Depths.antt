-- How deep the types of a table are nested, from its first type and those after it.
use Rattle.std.proofs.Common.{◌≡◌, ◌≢◌, ℕ, zero, suc, ◌-◌, ◌≤◌, List, [], ◌∷◌, ◌++◌, length, take, drop, eqb, cond, refl, sym, ap, ◌∙◌, subst, append_assoc, true, false, inl, inr, arith}
use Rattle.std.specs.Prelude.{max, ◌⊎◌}
use Rattle.std.specs.Ordering.{ord_max, nat_cmp}
use Rattle.std.proofs.lemmas.Bool.{ne_eqb}
use Rattle.std.proofs.lemmas.Bool.Decides.{nat_tests}
use Rattle.std.proofs.lemmas.List.{length-take, length-drop, take_at, drop_at, drop_all, take_rest}
use Rattle.cqlp_kind.specs.declared.node.Node.{Node}
use Rattle.cqlp_kind.specs.Types.{Types, NoMore, Type_and, how_many, preorder}
use Rattle.cqlp_type.specs.Table.{inner_nodes}
use Rattle.cqlp_type.specs.Forests.{depth_of}
use Rattle.cqlp_type.specs.Depths.{later_nodes, ConformsAt, First, Inside, Later, IsDepth}

-- what it means that a type is at a depth, by the nodes
abbrev ConformsBy : (d : ℕ) → List Node → Type 0
ConformsBy d [] = ⊥
ConformsBy d (x ∷ xs) = (d ≡ 1) ⊎ (((e : ℕ) × (d ≡ suc e) × ConformsAt e (inner_nodes x xs)) ⊎ ConformsAt d (later_nodes x xs))

conforms_by : (d : ℕ) (nodes : List Node) → ConformsAt d nodes → ConformsBy d nodes
conforms_by _ _ (First x xs) = inl refl
conforms_by _ _ (Inside x xs e s) = inr (inl (e, refl, s))
conforms_by _ _ (Later x xs d s) = inr (inr s)

-- ---- no nodes, and a type with the nodes after it

pub none_deep : IsDepth [] 0
none_deep = record { conforms = λ lt. absurd (omega arith); greatest = λ d s. absurd (conforms_by d [] s) }

module _ (x : Node) (xs : List Node) where
  inside_first : (a : ℕ) → IsDepth (inner_nodes x xs) a → ConformsAt (suc a) (x ∷ xs)
  inside_first zero i = First x xs
  inside_first (suc a) i = Inside x xs (suc a) (i.conforms (omega arith))

  no_deeper : (a b d : ℕ) → IsDepth (inner_nodes x xs) a → IsDepth (later_nodes x xs) b → ConformsBy d (x ∷ xs) → d ≤ max (suc a) b
  no_deeper a b d i l (inl e) = omega arith
  no_deeper a b d i l (inr (inl s)) = omega (arith, i.greatest s.0 s.2, s.1)
  no_deeper a b d i l (inr (inr s)) = omega (arith, l.greatest d s)

  deeper : (a b : ℕ) → IsDepth (inner_nodes x xs) a → IsDepth (later_nodes x xs) b → (n : ℕ) → ((n ≡ suc a) ⊎ ((n ≡ b) × (suc a ≤ b))) → ConformsAt n (x ∷ xs)
  deeper a b i l n (inl e) = rw e (inside_first a i)
  deeper a b i l n (inr e) = rw e.0 (Later x xs b (l.conforms (omega (arith, e.1))))

  pub first_deep : (a b : ℕ) → IsDepth (inner_nodes x xs) a → IsDepth (later_nodes x xs) b → IsDepth (x ∷ xs) (max (suc a) b)
  first_deep a b i l = record {
    conforms = λ lt. deeper a b i l (max (suc a) b) (grind arith);
    greatest = λ d s. no_deeper a b d i l (conforms_by d (x ∷ xs) s);
  }

-- ---- one depth

no_more : (nodes : List Node) (a b : ℕ) → IsDepth nodes a → IsDepth nodes b → a ≤ b
no_more nodes zero b i j = omega arith
no_more nodes (suc a) b i j = j.greatest (suc a) (i.conforms (omega arith))

pub one_depth : (nodes : List Node) (a b : ℕ) → IsDepth nodes a → IsDepth nodes b → a ≡ b
one_depth nodes a b i j = omega (arith, no_more nodes a b i j, no_more nodes b a j i)

-- ---- no deeper than there are nodes

pub inner_few : (x : Node) (xs : List Node) → length (inner_nodes x xs) ≤ length xs
inner_few x xs = elim (eqb x.span 0) as (λ t. length (cond t xs (take (x.span - 1) xs)) ≤ length xs) [
  | true ↦ omega arith
  | false ↦ omega (arith, length-take (x.span - 1) xs)
]

conforms_few : (d : ℕ) (nodes : List Node) → ConformsAt d nodes → d ≤ length nodes
conforms_few _ _ (First x xs) = omega arith
conforms_few _ _ (Inside x xs e s) = omega (arith, conforms_few e (inner_nodes x xs) s, inner_few x xs)
conforms_few _ _ (Later x xs d s) = omega (arith, conforms_few d (later_nodes x xs) s, length-drop (length (inner_nodes x xs)) xs)

pub depth_few : (nodes : List Node) (d : ℕ) → IsDepth nodes d → d ≤ length nodes
depth_few nodes zero i = omega arith
depth_few nodes (suc d) i = conforms_few (suc d) nodes (i.conforms (omega arith))

-- ---- of whole types

pub depth_whole : (ts : Types) → IsDepth (preorder ts) (depth_of ts)
depth_whole NoMore = none_deep
depth_whole (Type_and k inner others) =
    let n = length (preorder inner) in
    let x : Node = record { kind = k; arity = how_many inner; span = suc n } in
    let xs = preorder inner ++ preorder others in
    let less : suc n - 1 ≡ n = omega arith in
    let some : suc n ≢ 0 = λ e. absurd (omega arith) in
    let own : inner_nodes x xs ≡ preorder inner = rw (ne_eqb (suc n) 0 some, less) (take_at (preorder inner) (preorder others) n refl) in
    let past : later_nodes x xs ≡ preorder others = rw own (drop_at (preorder inner) (preorder others) n refl) in
    first_deep x xs (depth_of inner) (depth_of others) (rw own (depth_whole inner)) (rw past (depth_whole others))

-- types, and nodes after them
pub depth_followed : (ts : Types) (ns : List Node) (d : ℕ) → IsDepth ns d → IsDepth (preorder ts ++ ns) (max (depth_of ts) d)
depth_followed NoMore ns d i = let same : d ≡ max 0 d = omega arith in subst (λ (m : ℕ). IsDepth ns m) same i
depth_followed (Type_and k inner others) ns d i =
    let n = length (preorder inner) in
    let x : Node = record { kind = k; arity = how_many inner; span = suc n } in
    let xs = (preorder inner ++ preorder others) ++ ns in
    let less : suc n - 1 ≡ n = omega arith in
    let some : suc n ≢ 0 = λ e. absurd (omega arith) in
    let all : xs ≡ preorder inner ++ (preorder others ++ ns) = append_assoc (preorder inner) (preorder others) ns in
    let own : inner_nodes x xs ≡ preorder inner = rw (ne_eqb (suc n) 0 some, less, all) (take_at (preorder inner) (preorder others ++ ns) n refl) in
    let past : later_nodes x xs ≡ preorder others ++ ns = rw (own, all) (drop_at (preorder inner) (preorder others ++ ns) n refl) in
    let deep = first_deep x xs (depth_of inner) (max (depth_of others) d) (rw own (depth_whole inner)) (rw past (depth_followed others ns d i)) in
    let same : max (suc (depth_of inner)) (max (depth_of others) d) ≡ max (max (suc (depth_of inner)) (depth_of others)) d = omega arith in
    subst (λ (m : ℕ). IsDepth (x ∷ xs) m) same deep

-- a type that is under way, and the nodes after it
pub open_deeper : (x : Node) (rest : List Node) (d : ℕ) → x.span ≡ 0 → IsDepth rest d → IsDepth (x ∷ rest) (suc d)
open_deeper x rest d e i =
    let own : inner_nodes x rest ≡ rest = rw e refl in
    let past : later_nodes x rest ≡ [] = rw own (drop_all (length rest) rest (omega arith)) in
    let same : max (suc d) 0 ≡ suc d = omega arith in
    subst (λ (m : ℕ). IsDepth (x ∷ rest) m) same (first_deep x rest d 0 (rw own i) (rw past none_deep))

pub depth_of_types : (nodes : List Node) (d : ℕ) (ts : Types) → IsDepth nodes d → nodes ≡ preorder ts → d ≡ depth_of ts
depth_of_types nodes d ts i e = one_depth (preorder ts) d (depth_of ts) (subst (λ (m : List Node). IsDepth m d) e i) (depth_whole ts)

-- ---- one more type of those side by side

pub greater : (a b : ℕ) → ord_max nat_cmp a b ≡ max a b
greater a b = grind (arith, nat_tests)

module _ (nodes rest : List Node) (so_far : ℕ) (so : (b : ℕ) → IsDepth rest b → IsDepth nodes (max so_far b)) where
  pub one_more : (x : Node) (xs own : List Node) (a more : ℕ) → rest ≡ x ∷ xs → own ≡ inner_nodes x xs → IsDepth own a → more ≡ max so_far (suc a)
      → (b : ℕ) → IsDepth (take (length xs - length own) (drop (length own) xs)) b → IsDepth nodes (max more b)
  one_more x xs own a more are is i most b l =
      let inner : IsDepth (inner_nodes x xs) a = subst (λ (m : List Node). IsDepth m a) is i in
      let left : take (length xs - length own) (drop (length own) xs) ≡ later_nodes x xs = take_rest xs (length own) ∙ ap (λ (m : List Node). drop (length m) xs) is in
      let first = first_deep x xs a b inner (subst (λ (m : List Node). IsDepth m b) left l) in
      let all = so (max (suc a) b) (subst (λ (m : List Node). IsDepth m (max (suc a) b)) (sym are) first) in
      let same : max so_far (max (suc a) b) ≡ max more b = omega arith in
      subst (λ (n : ℕ). IsDepth nodes n) same all

-- no more type
pub no_nodes : (nodes rest : List Node) (so_far : ℕ) → length rest ≡ 0 → ((b : ℕ) → IsDepth rest b → IsDepth nodes (max so_far b)) → IsDepth nodes so_far
no_nodes nodes [] so_far none is = let same : max so_far 0 ≡ so_far = omega arith in subst (λ (n : ℕ). IsDepth nodes n) same (is 0 none_deep)
no_nodes nodes (x ∷ xs) so_far none is = absurd (omega arith)
