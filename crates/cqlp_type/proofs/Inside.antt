-- The types in a table are those of the nodes.
use Rattle.std.proofs.Common.{◌≡◌, ℕ, zero, suc, ◌+◌, ◌-◌, ◌<◌, ◌≤◌, List, [], ◌∷◌, ◌++◌, length, drop, Some, refl, sym, ap, ◌∙◌, append_assoc, arith}
use Rattle.std.specs.Prelude.{slice_get}
use Rattle.std.proofs.lemmas.List.{append-nil, drop-drop, length-append, length-drop, drop_at}
use Rattle.cqlp_kind.specs.declared.kind.Kind.{Kind}
use Rattle.cqlp_kind.specs.declared.node.Node.{Node}
use Rattle.cqlp_kind.specs.Types.{Types, NoMore, Type_and, how_many, first_types, other_types, types_of, preorder, followed_by, HasInner, AreFormed}
use Rattle.cqlp_type.specs.Forests.{types_at, node_at, depth_of, Conform, IsAfter}

first-followed : (ts us : Types) → first_types (how_many ts) (followed_by ts us) ≡ ts
first-followed NoMore us = refl
first-followed (Type_and k inner others) us = ap (Type_and k inner) (first-followed others us)

other-followed : (ts us : Types) → other_types (how_many ts) (followed_by ts us) ≡ us
other-followed NoMore us = refl
other-followed (Type_and k inner others) us = other-followed others us

types_of-preorder : (ts : Types) (ns : List Node) → types_of (preorder ts ++ ns) ≡ followed_by ts (types_of ns)
types_of-preorder NoMore ns = refl
types_of-preorder (Type_and k inner others) ns =
    rw (append_assoc (preorder inner) (preorder others) ns, types_of-preorder inner (preorder others ++ ns), types_of-preorder others ns, first-followed inner (followed_by others (types_of ns)), other-followed inner (followed_by others (types_of ns)))

-- types that are from node i on are those at node i
module _ (nodes : List Node) (i : ℕ) (ts : Types) (others : List Node) (are : drop i nodes ≡ preorder ts ++ others) where
  pub types_there : (n : ℕ) → how_many ts ≡ n → types_at nodes i n ≡ ts
  unfolding types_at
  types_there n many = rw (are, types_of-preorder ts others, ← many) (first-followed ts (types_of others))

  pub conform_there : (n depth : ℕ) → how_many ts ≡ n → AreFormed ts → depth_of ts ≤ depth → Conform nodes i n depth
  conform_there n depth many formed shallow =
      let same = types_there n many in
      record { others = others; are = rw same are; many = rw same many; formed = rw same formed; shallow = rw same shallow }

-- the first of some nodes
pub first_read : (nodes : List Node) (i : ℕ) (x : Node) (xs : List Node) → drop i nodes ≡ x ∷ xs → (slice_get nodes i ≡ Some x) × (drop (suc i) nodes ≡ xs) × (suc i + length xs ≡ length nodes)
first_read [] zero x xs e = absurd cc
first_read [] (suc i) x xs e = absurd cc
first_read (y ∷ ys) zero x xs e = let a : y ≡ x = cc in let b : ys ≡ xs = cc in (ap Some a, b, rw b (omega arith))
first_read (y ∷ ys) (suc i) x xs e = let r = first_read ys i x xs e in (r.0, r.1, omega (arith, r.2))

-- What comes first: a node, the types in it, and those after it.
pub record First (nodes : List Node) (i n depth : ℕ) (x : Node) : Type 0 where
  pub get : slice_get nodes i ≡ Some x
  pub here : node_at nodes i ≡ x
  pub is : types_at nodes i (suc n) ≡ Type_and x.kind (types_at nodes (i + 1) x.arity) (types_at nodes (i + x.span) n)
  pub formed : HasInner x.kind x.arity
  pub deep : 0 < depth
  pub inner : Conform nodes (i + 1) x.arity (depth - 1)
  pub after : Conform nodes (i + x.span) n depth
  pub within : i + x.span ≤ length nodes
  pub some : 0 < x.span
  pub alone : Conform nodes i 1 depth

module _ (nodes : List Node) (i n depth : ℕ) where
  first_types_are : (k : Kind) (inner others : Types) (more : List Node) → drop i nodes ≡ preorder (Type_and k inner others) ++ more → suc (how_many others) ≡ suc n
      → AreFormed (Type_and k inner others) → depth_of (Type_and k inner others) ≤ depth → (x : Node) × First nodes i n depth x
  unfolding node_at
  first_types_are k inner others more are many formed shallow =
      let x : Node = record { kind = k; arity = how_many inner; span = suc (length (preorder inner)) } in
      let r = first_read nodes i x ((preorder inner ++ preorder others) ++ more) are in
      let next : suc i ≡ i + 1 = omega arith in
      let all = append_assoc (preorder inner) (preorder others) more in
      let behind : drop (i + 1) nodes ≡ preorder inner ++ (preorder others ++ more) = rw (← next) (r.1 ∙ all) in
      let past : drop (i + x.span) nodes ≡ preorder others ++ more =
      let e : i + x.span ≡ (i + 1) + length (preorder inner) = omega arith in
      rw (e, ← (drop-drop (length (preorder inner)) (i + 1) nodes), behind) (drop_at (preorder inner) (preorder others ++ more) _ refl) in
      let size = rw (all, length-append (preorder inner) (preorder others ++ more)) at r.2 in (
        x,
        record {
          get = r.0;
          here = rw r.0 refl;
          is = types_there nodes i (Type_and k inner others) more are (suc n) many ∙ sym (rw (types_there nodes (i + 1) inner (preorder others ++ more) behind (how_many inner) refl, types_there nodes (i + x.span) others more past n (omega (arith, many))) refl);
          formed = formed.0;
          deep = omega arith;
          inner = conform_there nodes (i + 1) inner (preorder others ++ more) behind (how_many inner) (depth - 1) refl formed.1 (omega arith);
          after = conform_there nodes (i + x.span) others more past n depth (omega (arith, many)) formed.2 (omega arith);
          within = omega (arith, size);
          some = omega arith;
          alone =
              let one : Types = Type_and k inner NoMore in
              let first : drop i nodes ≡ preorder one ++ (preorder others ++ more) = are ∙ ap (λ (m : List Node). x ∷ m) (all ∙ sym (ap (λ (m : List Node). m ++ (preorder others ++ more)) (append-nil (preorder inner)))) in
              conform_there nodes i one (preorder others ++ more) first 1 depth refl (formed.0, formed.1, tt) (omega arith);
        },
      )

  first_of : (ts : Types) (more : List Node) → drop i nodes ≡ preorder ts ++ more → how_many ts ≡ suc n → AreFormed ts → depth_of ts ≤ depth → (x : Node) × First nodes i n depth x
  first_of NoMore more are many formed shallow = absurd (omega (arith, many))
  first_of (Type_and k inner others) more are many formed shallow = first_types_are k inner others more are many formed shallow

  pub first_conforms : Conform nodes i (suc n) depth → (x : Node) × First nodes i n depth x
  first_conforms s = first_of (types_at nodes i (suc n)) s.others s.are s.many s.formed s.shallow

-- ---- types that end before a node

pub conform_none : (nodes : List Node) (i depth : ℕ) → i ≤ length nodes → IsAfter nodes i i 0 depth
conform_none nodes i depth le = record { types = NoMore; are = refl; many = refl; formed = tt; shallow = omega arith; within = (omega arith, le) }

pub preorder-followed : (ts us : Types) → preorder (followed_by ts us) ≡ preorder ts ++ preorder us
preorder-followed NoMore us = refl
preorder-followed (Type_and k inner others) us = rw (preorder-followed others us) (ap (λ (m : List Node). record { kind = k; arity = how_many inner; span = suc (length (preorder inner)) } ∷ m) (sym (append_assoc (preorder inner) (preorder others) (preorder us))))

many-followed : (ts us : Types) → how_many (followed_by ts us) ≡ how_many ts + how_many us
many-followed NoMore us = omega arith
many-followed (Type_and k inner others) us = omega (arith, many-followed others us)

pub formed-followed : (ts us : Types) → AreFormed ts → AreFormed us → AreFormed (followed_by ts us)
formed-followed NoMore us a b = b
formed-followed (Type_and k inner others) us a b = (a.0, a.1, formed-followed others us a.2 b)

pub depth-followed : (ts us : Types) (depth : ℕ) → depth_of ts ≤ depth → depth_of us ≤ depth → depth_of (followed_by ts us) ≤ depth
depth-followed NoMore us depth a b = b
depth-followed (Type_and k inner others) us depth a b = omega (arith, depth-followed others us depth (omega arith) b)

pub conform_more : (nodes : List Node) (i m e n depth : ℕ) → IsAfter nodes i m n depth → IsAfter nodes m e 1 depth → IsAfter nodes i e (n + 1) depth
conform_more nodes i m e n depth a b = record {
  types = followed_by a.types b.types;
  are = a.are ∙ rw (b.are, preorder-followed a.types b.types) (sym (append_assoc (preorder a.types) (preorder b.types) (drop e nodes)));
  many = omega (arith, many-followed a.types b.types, a.many, b.many);
  formed = formed-followed a.types b.types a.formed b.formed;
  shallow = depth-followed a.types b.types depth a.shallow b.shallow;
  within = (omega (arith, a.within, b.within), b.within.1);
}

here_is : (nodes : List Node) (i : ℕ) (x : Node) → slice_get nodes i ≡ Some x → drop i nodes ≡ x ∷ drop (suc i) nodes
here_is [] zero x e = absurd cc
here_is [] (suc i) x e = absurd cc
here_is (y ∷ ys) zero x e = let a : y ≡ x = cc in rw a refl
here_is (y ∷ ys) (suc i) x e = here_is ys i x e

pub conform_whole : (nodes : List Node) (i e depth : ℕ) (x : Node) → slice_get nodes i ≡ Some x → HasInner x.kind x.arity → 0 < depth → IsAfter nodes (i + 1) e x.arity (depth - 1) → i + x.span ≡ e → IsAfter nodes i e 1 depth
conform_whole nodes i e depth x get formed deep s ends =
    let next : suc i ≡ i + 1 = omega arith in
    let long : length (drop (i + 1) nodes) ≡ length (preorder s.types) + length (drop e nodes) = rw s.are (length-append (preorder s.types) (drop e nodes)) in
    let span : x.span ≡ suc (length (preorder s.types)) = omega (arith, long, length-drop (i + 1) nodes, length-drop e nodes, s.within) in
    let first : drop i nodes ≡ x ∷ (preorder s.types ++ drop e nodes) = here_is nodes i x get ∙ rw next (ap (λ (m : List Node). x ∷ m) s.are) in
    let same : x ≡ record { kind = x.kind; arity = how_many s.types; span = suc (length (preorder s.types)) } = rw (s.many, ← span) refl in
    record {
      types = Type_and x.kind s.types NoMore;
      are = first ∙ rw (append-nil (preorder s.types)) (ap (λ (y : Node). y ∷ (preorder s.types ++ drop e nodes)) same);
      many = refl;
      formed = (rw s.many formed, s.formed, tt);
      shallow = omega (arith, s.shallow);
      within = (omega (arith, s.within), s.within.1);
    }

pub conforms_to : (nodes : List Node) (i e n depth : ℕ) → IsAfter nodes i e n depth → Conform nodes i n depth
conforms_to nodes i e n depth s = conform_there nodes i s.types (drop e nodes) s.are n depth s.many s.formed s.shallow
